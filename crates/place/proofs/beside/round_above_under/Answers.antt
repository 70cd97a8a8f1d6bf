-- `place::beside::round_above_under` is right since less than half of the last digit lies below it: only a way away from zero adds the last unit.
-- Assumes nothing.
use mathlib.Core.Path.{sym, ◌∙◌, subst}
use Prim.Native.Nat.{ℕ, ◌+◌, ◌/◌, ◌^◌}
use native.Mathlib.Omega.{arith}
use mir.Facts.{to_z-of_z}
use mir.Syntax.{w8}
use Rattle.limb.specs.Carry.{bit}
use Rattle.limb.specs.Value.{value_of}
use Rattle.limb.proofs.Carry.{byte_le}
use Rattle.numbers.specs.Limits.{most_exponent, bias}
use Rattle.kept.specs.Walk.{RoundedUp}
use Rattle.place.proofs.Around.{spare_is, fits, some_limbs, spare_few, clean, above_placed}
use Rattle.place.proofs.beside.round_above_under.Goals as goal

pub overflow_sub-spare : goal.overflow_sub-spare
overflow_sub-spare c = fits _ _ _ c.requires.0

pub round_up-over-requires : goal.round_up-over-requires
round_up-over-requires c =
    let h = c.requires.0 in
    (some_limbs _ _ _ h, spare_few _ _ _ h, clean _ _ _ h)

pub overflow_add-raised : goal.overflow_add-raised
unfolding most_exponent bias
overflow_add-raised c = omega (arith, c.requires.1, byte_le c.round_up-over.result)

pub returns : goal.returns
returns c =
    let g = c.args in
    let told = above_placed g.precision g.exponent g.target.now c.requires.0 g.mode g.negative c.requires.1 c.rounds_up-up.result c.round_up-over.result c.round_up-over.new.target _
    c.rounds_up-up.ensures
    (subst (λ (n : ℕ). RoundedUp n (value_of g.target.now / 2 ^ n + bit c.rounds_up-up.result) g.target.now c.round_up-over.result c.round_up-over.new.target) (sym (spare_is g.precision g.exponent g.target.now c.requires.0)) c.round_up-over.ensures)
    (λ i. (c.type_inv.target i).fits) (to_z-of_z {w = w8} (record { sfits = c.ternary.type_inv }) ∙ c.ternary.ensures) in
    record {
      value = told.0;
      target_after = told.1;
    }
