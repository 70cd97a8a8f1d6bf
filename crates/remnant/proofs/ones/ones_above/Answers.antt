-- `remnant::ones::ones_above` is right since the lowest limb has 64 - skip of the digits, or all that there are. Assumes nothing.
use mathlib.Core.Path.{◌≡◌, sym, ap, ◌∙◌}
use mathlib.Core.Bool.{true, false}
use Prim.Native.Nat.{ℕ, suc, ◌-◌, ◌/◌, ◌^◌}
use native.Mathlib.Omega.{arith}
use lib.Dec.{eqb}
use lib.ListN.{get_or}
use Rattle.remnant.proofs.Leading.{last_limb, ones_above, ones_not}
use Rattle.remnant.proofs.ones.ones_above.Goals as goal

pub returns-then-count-le64 : goal.returns-then-count-le64
returns-then-count-le64 c =
    let g = c.args in
    c.limb_ones.ensures
    ∙ ap (λ (n : ℕ). eqb (suc (n / 2 ^ g.skip)) (2 ^ (g.count - g.skip))) (c.limb_at-limb.ensures ∙ sym (last_limb g.target.now g.from (omega arith)))

pub returns-then-not-limb_ones : goal.returns-then-not-limb_ones
returns-then-not-limb_ones c =
    let g = c.args in
    let low : eqb (suc (get_or g.target.now g.from 0 / 2 ^ g.skip)) (2 ^ (64 - g.skip)) ≡ false =
    ap (λ (n : ℕ). eqb (suc (n / 2 ^ g.skip)) (2 ^ (64 - g.skip))) (sym c.limb_at-limb.ensures) ∙ sym c.limb_ones-2.ensures ∙ c.if-not-limb_ones.true in
    ones_not g.target.now g.from (λ i. (c.type_inv.target i).fits) g.skip g.count (omega arith) (omega arith) low

pub returns : goal.returns
returns c =
    let g = c.args in
    let low : eqb (suc (get_or g.target.now g.from 0 / 2 ^ g.skip)) (2 ^ (64 - g.skip)) ≡ true =
    ap (λ (n : ℕ). eqb (suc (n / 2 ^ g.skip)) (2 ^ (64 - g.skip))) (sym c.limb_at-limb.ensures) ∙ sym c.limb_ones-2.ensures ∙ c.if-not-limb_ones.false in
    c.ones_from.ensures ∙ ones_above g.target.now g.from (λ i. (c.type_inv.target i).fits) g.skip g.count (omega arith) (omega arith) low
