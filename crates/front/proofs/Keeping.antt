-- Laws of the rest below the last digit kept, where columns below go on as the last digit read does: its tests stay as they are. Assumes nothing.
use mathlib.Core.Path.{◌≡◌, refl, sym, ap, ◌∙◌, subst}
use mathlib.Core.Bool.{Bool, true, false, not, ◌&&◌, ◌||◌, and-true, and-false, or-false}
use Prim.Native.Nat.{ℕ, suc, ◌+◌, ◌-◌, ◌*◌, ◌/◌, ◌%◌, ◌^◌, ◌≤◌, ◌<◌}
use native.Mathlib.Decide.{dec_le}
use native.Mathlib.Nat.{mul-mod_left, add-mul-mod_self_left, div-add-mod'}
use native.Mathlib.Omega.{arith}
use lib.Dec.{eqb}
use lib.Pow.{pow-add, pow_pos, mod-mod-pow}
use borrow.Author.Tests.{eq-eqb, ne_eqb}
use Rattle.limb.specs.Carry.{bit}
use Rattle.remnant.specs.declared.rest.Rest.{Rest}
use Rattle.remnant.specs.Rest.{RestAt}
use Rattle.remnant.proofs.Resting.{longer_is}
use Rattle.front.specs.declared.showing.Front.{Front}
use Rattle.front.specs.Front.{first_of, Kept}

-- ---- tests that do not change

-- one that fails, with another
and_failed : (p q : Bool) → p ≡ false → p ≡ p && q
and_failed p q e = rw e refl

-- or one beside it that fails
or_failed : (p q : Bool) → q ≡ false → p ≡ p || q
or_failed p q e = sym (ap (λ (b : Bool). p || b) e ∙ or-false p)

-- ---- the rest of two digits or more below n is even where n is, and so is half its weight

even_next : (r : ℕ) → r % 2 ≡ 0 → suc r % 2 ≡ 1
even_next r e = let double : suc r ≡ 1 + 2 * (r / 2) = omega (arith, div-add-mod' r 2) in ap (λ (y : ℕ). y % 2) double ∙ add-mul-mod_self_left 1 2 (r / 2)

odd_double : (r Q : ℕ) → r % 2 ≡ 1 → r * 2 ≡ 4 * Q → ⊥
odd_double r Q o q = let double : r ≡ Q * 2 = omega arith in omega (arith, sym o ∙ ap (λ (y : ℕ). y % 2) double ∙ mul-mod_left Q 2)

weight_fourfold : (d : ℕ) → 2 ≤ d → 2 ^ d ≡ 4 * 2 ^ (d - 2)
weight_fourfold d h = ap (λ (x : ℕ). 2 ^ x) (omega arith) ∙ pow-add 2 2 (d - 2)

rest_parity : (n d : ℕ) → 2 ≤ d → n % 2 ^ d % 2 ≡ n % 2
rest_parity n d h = ap (λ (x : ℕ). n % 2 ^ x % 2) (omega arith) ∙ mod-mod-pow n (d - 1) 1

module _ (n d : ℕ) (x : Rest) (two : 2 ≤ d) (at : RestAt n d x) where
  -- an even rest is not one less than its weight or than half of it
  even_ones : n % 2 ≡ 0 → (x.ones ≡ false) × (x.almost ≡ false)
  even_ones e =
      let r : ℕ = n % 2 ^ d in
      let even : r % 2 ≡ 0 = rest_parity n d two ∙ e in
      let u = weight_fourfold d two in
      (at.marks.ones ∙ ne_eqb (suc r) (2 ^ d) (λ q. omega arith), at.marks.almost ∙ ne_eqb (suc r * 2) (2 ^ d) (λ q. odd_double (suc r) (2 ^ (d - 2)) (even_next r even) (q ∙ u)))

  -- an odd one is not 0 and not half its weight
  odd_zeros : n % 2 ≡ 1 → (x.zero ≡ false) × (x.half ≡ false)
  odd_zeros e =
      let r : ℕ = n % 2 ^ d in
      let odd : r % 2 ≡ 1 = rest_parity n d two ∙ e in
      let u = weight_fourfold d two in
      (at.marks.zero ∙ ne_eqb r 0 (λ q. omega arith), at.marks.half ∙ ne_eqb (r * 2) (2 ^ d) (λ q. odd_double r (2 ^ (d - 2)) odd (q ∙ u)))

  -- e digits below that leave each test as it is
  same_tests : (z o : Bool) (e s : ℕ) → s < 2 ^ e → eqb s 0 ≡ z → eqb (suc s) (2 ^ e) ≡ o → x.zero ≡ x.zero && z → x.ones ≡ x.ones && o → x.almost ≡ x.almost && o
      → x.half ≡ x.half && z → x.above ≡ x.above || (x.half && not z) → RestAt (n * 2 ^ e + s) (d + e) x
  same_tests z o e s l ez eo zero ones almost half above =
      let r = longer_is x z o n d e s (omega arith) at l ez eo in
      record {
        enough = at.enough;
        empty = at.empty;
        marks = record {
          zero = zero ∙ r.marks.zero;
          ones = ones ∙ r.marks.ones;
          almost = almost ∙ r.marks.almost;
          half = half ∙ r.marks.half;
          above = above ∙ r.marks.above;
        };
        odd = r.odd;
      }

  -- zeros below an even number
  zeros_below : (e : ℕ) → n % 2 ≡ 0 → RestAt (n * 2 ^ e + 0) (d + e) x
  zeros_below e even =
      let o = even_ones even in
      same_tests true (eqb 1 (2 ^ e)) e 0 (pow_pos e) refl refl (sym (and-true x.zero)) (and_failed x.ones (eqb 1 (2 ^ e)) o.0) (and_failed x.almost (eqb 1 (2 ^ e)) o.1) (sym (and-true x.half))
      (or_failed x.above (x.half && not true) (and-false x.half))

  -- ones below an odd one
  ones_below : (e s : ℕ) → n % 2 ≡ 1 → suc s ≡ 2 ^ e → RestAt (n * 2 ^ e + s) (d + e) x
  ones_below e s odd full =
      let z = odd_zeros odd in
      same_tests (eqb s 0) true e s (omega arith) refl (eq-eqb (suc s) (2 ^ e) full) (and_failed x.zero (eqb s 0) z.0) (sym (and-true x.ones)) (sym (and-true x.almost)) (and_failed x.half (eqb s 0) z.1)
      (or_failed x.above (x.half && not (eqb s 0)) (sym (and_failed x.half (not (eqb s 0)) z.1) ∙ z.1))

  pub kept_rest : (t D : ℕ) → Kept n t D → RestAt D (d + 64 * t) x
  kept_rest t D k =
      elim (dec_le 1 (n % 2)) [
        | yes h ↦ odd_rest (omega arith)
        | no h ↦ even_rest (omega (arith, h))
      ]
    where
      even_rest : n % 2 ≡ 0 → RestAt D (d + 64 * t) x
      even_rest e = let v : n * 2 ^ (64 * t) + 0 ≡ D = omega (arith, k.zeros e) in subst (λ (y : ℕ). RestAt y (d + 64 * t) x) v (zeros_below (64 * t) e)

      odd_rest : n % 2 ≡ 1 → RestAt D (d + 64 * t) x
      odd_rest e =
          let s : ℕ = 2 ^ (64 * t) - 1 in
          let full : suc s ≡ 2 ^ (64 * t) = omega (arith, pow_pos (64 * t)) in
          let v : n * 2 ^ (64 * t) + s ≡ D = omega (arith, k.ones e) in
          subst (λ (y : ℕ). RestAt y (d + 64 * t) x) v (ones_below (64 * t) s e full)

-- ---- of a first column

-- its carry is the digit above its limb
pub front_rest : (f : Front) (d : ℕ) (x : Rest) → ((h : ℕ) → f.carry ≡ eqb (h % 2) 1 → RestAt (h * 2 ^ 64 + f.limb) d x) → RestAt (first_of f) d x
unfolding first_of bit
front_rest f d x rest = rest (bit f.carry) (odd f.carry)
  where
    odd : (p : Bool) → p ≡ eqb (bit p % 2) 1
    odd true = refl
    odd false = refl
