-- `place::round_fit_under` is right since the location is that of what truncation drops, the last unit is added where the location asks for it, and
-- the exponent counts the digits of the run and a digit more where all were ones. Assumes nothing.
use mathlib.Core.Path.{◌≡◌, refl, sym, ap, ◌∙◌}
use Prim.Native.Nat.{ℕ, ◌-◌, ◌*◌, ◌%◌}
use native.Mathlib.Nat.{lt_of_lt_of_le, le_of_eq, mul-mod_left}
use native.Mathlib.Omega.{arith}
use lib.ListN.{length}
use mir.Facts.{to_z-of_z}
use mir.Syntax.{w8}
use Rattle.limb.proofs.Carry.{byte_le}
use Rattle.place.proofs.Answer.{placed}
use Rattle.place.proofs.Rules.{passed}
use Rattle.place.proofs.round_fit_under.Goals as goal

-- what was truncated has no spare bit
clean : (v n P : ℕ) → v ≡ n * P → v % P ≡ 0
clean v n P e = ap (λ (m : ℕ). m % P) e ∙ mul-mod_left n P

pub overflow_mul-spare : goal.overflow_mul-spare
overflow_mul-spare c = let ok = passed _ _ _ _ c.requires in omega arith

pub overflow_sub-spare : goal.overflow_sub-spare
overflow_sub-spare c = (passed _ _ _ _ c.requires).digits_fit

pub reach-offset-requires : goal.reach-offset-requires
reach-offset-requires c = let ok = passed _ _ _ _ c.requires in (ok.some_limbs, ok.first)

pub bounds-target-0 : goal.bounds-target-0
bounds-target-0 c = (passed _ _ _ _ c.requires).some_limbs

pub overflow_add-offset : goal.overflow_add-offset
overflow_add-offset c = let ok = passed _ _ _ _ c.requires in omega arith

pub locate-at-requires : goal.locate-at-requires
locate-at-requires c = let ok = passed _ _ _ _ c.requires in (omega arith, omega arith)

pub truncate-requires : goal.truncate-requires
truncate-requires c = let ok = passed _ _ _ _ c.requires in (c.reach-offset.ensures, ok.some_limbs, ok.spare_few)

pub is_odd-requires : goal.is_odd-requires
is_odd-requires c =
    let ok = passed _ _ _ _ c.requires in
    (lt_of_lt_of_le ok.some_limbs (le_of_eq (sym c.truncate.ensures.size)), ok.spare_few)

pub round_up-over-requires : goal.round_up-over-requires
round_up-over-requires c =
    let ok = passed _ _ _ _ c.requires in
    let cut = c.truncate.ensures in
    (lt_of_lt_of_le ok.some_limbs (le_of_eq (sym cut.size)), ok.spare_few, clean _ _ _ cut.value)

pub overflow_add-unit : goal.overflow_add-unit
overflow_add-unit c = let ok = passed _ _ _ _ c.requires in omega arith

pub overflow_add-unit-2 : goal.overflow_add-unit-2
overflow_add-unit-2 c = let ok = passed _ _ _ _ c.requires in omega arith

pub overflow_add-unit-3 : goal.overflow_add-unit-3
overflow_add-unit-3 c = let ok = passed _ _ _ _ c.requires in omega arith

pub overflow_add-unit-4 : goal.overflow_add-unit-4
overflow_add-unit-4 c = let ok = passed _ _ _ _ c.requires in omega (arith, byte_le c.round_up-over.result)

pub returns : goal.returns
returns c =
    let g = c.args in
    let d = c.reach-offset in
    let t = c.ternary in
    let told = placed g.mode g.precision g.negative g.unit g.carry g.target.now g.guard g.more d.result (64 * length g.target.now - g.precision)
    c.requires refl c.ranges.guard.fits d.ensures c.locate-at.result c.truncate.new.target c.is_odd.result c.rounds_up-up.result c.round_up-over.new.target
    c.round_up-over.result _ _ _ _ c.locate-at.ensures c.truncate.ensures c.is_odd.ensures c.rounds_up-up.ensures c.round_up-over.ensures
    (λ i. (c.slice_known-4-1.given i).fits) refl (to_z-of_z {w = w8} (record { sfits = t.type_inv }) ∙ t.ensures) c.settle.ensures in
    record {
      value = told.0;
      target_after = told.1;
    }
