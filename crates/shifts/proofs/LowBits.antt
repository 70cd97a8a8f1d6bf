-- Laws of the low k bits of a run: a limb below the cut that is not 0 decides, and else the limb at the cut. Assumes nothing.
use mathlib.Core.Bool.{true, false}
use mathlib.Core.Path.{◌≡◌, refl, sym, ap, ◌∙◌}
use Prim.Native.Nat.{ℕ, zero, suc, ◌+◌, ◌-◌, ◌*◌, ◌/◌, ◌%◌, ◌^◌, ◌≤◌, ◌<◌}
use native.Mathlib.Nat.{zero-mod, zero-mul, mul-pos, add-mul-mod_self_left, mul_assoc, ne_of_gt, add-zero}
use native.Mathlib.Decide.{dec_le}
use native.Mathlib.Omega.{arith}
use mathlib.Core.List.{List, [], ◌∷◌}
use lib.Dec.{eqb}
use lib.ListN.{length, get_or, take, drop}
use lib.Pow.{pow_pos, pow-add, mod-pow-add, mod-mod-pow}
use lib.Seq.{take_all}
use borrow.Author.Tests.{eq-eqb, ne_eqb, eqb-true, false-eqb}
use Rattle.std.specs.List.{list_all}
use Rattle.limb.proofs.Tests.{zero_times}
use Rattle.limb.specs.Value.{value_in, Below}
use Rattle.limb.proofs.Value.{value_drop, value_low, value_shr, base_pow}

-- m is 0 exactly where m times a power is
scaled : (m j : ℕ) → eqb m 0 ≡ eqb (m * 2 ^ j) 0
scaled m j =
    elim (dec_le m 0) [
      | yes h ↦ let e : m ≡ 0 = omega arith in eq-eqb m 0 e ∙ sym (eq-eqb (m * 2 ^ j) 0 (ap (λ (x : ℕ). x * 2 ^ j) e ∙ zero-mul (2 ^ j)))
      | no h ↦ ne_eqb m 0 (λ e. h (omega arith)) ∙ sym (ne_eqb (m * 2 ^ j) 0 (ne_of_gt (mul-pos (omega arith) (pow_pos j))))
    ]

-- limbs are worth nothing exactly where each of them is 0
value_zero : (B : ℕ) → 0 < B → (l : List ℕ) → eqb (value_in B l) 0 ≡ list_all (λ x. eqb x 0) l
unfolding value_in
value_zero B h [] = refl
value_zero B h (zero ∷ xs) = ap (λ (m : ℕ). eqb m 0) (omega arith) ∙ zero_times (value_in B xs) B h ∙ value_zero B h xs
value_zero B h (suc x ∷ xs) = rw (ne_eqb (suc x) 0 (λ e. omega arith)) (ne_eqb (suc x + B * value_in B xs) 0 (λ e. omega arith))

module _ (l : List ℕ) (k : ℕ) (h : Below (2 ^ 64) l) where
  x : ℕ
  x = value_in (2 ^ 64) l

  low : (i : ℕ) → x % 2 ^ (64 * i) ≡ value_in (2 ^ 64) (take i l)
  unfolding x
  low i = ap (λ (m : ℕ). x % m) (sym (base_pow i)) ∙ value_low (2 ^ 64) i l h

  -- limbs below the cut that are worth something
  pub not_zero : (value_in (2 ^ 64) (take (k / 64) l) ≡ 0 → ⊥) → value_in (2 ^ 64) l % 2 ^ k ≡ 0 → ⊥
  unfolding x
  not_zero ne e =
      let q : ℕ = k / 64 in
      let ek : k % 64 + 64 * q ≡ k = omega arith in
      ne (sym (low q) ∙ sym (mod-mod-pow x (k % 64) (64 * q)) ∙ ap (λ (m : ℕ). m % 2 ^ (64 * q)) (ap (λ (m : ℕ). x % 2 ^ m) ek ∙ e) ∙ zero-mod _)

  -- every limb below the cut is 0, and the list ends there
  pub all_zero : (i : ℕ) → length l ≤ i → value_in (2 ^ 64) (take i l) ≡ 0 → value_in (2 ^ 64) l % 2 ^ k ≡ 0
  all_zero i hl e = ap (λ (m : ℕ). m % 2 ^ k) ((rw (take_all i l hl) at e)) ∙ zero-mod _

  -- every limb below the cut's is 0: what is left is the low part of the cut's limb
  pub rest_decides : value_in (2 ^ 64) (take (k / 64) l) ≡ 0 → eqb (get_or l (k / 64) 0 % 2 ^ (k % 64)) 0 ≡ eqb (value_in (2 ^ 64) l % 2 ^ k) 0
  unfolding x
  rest_decides e =
      let q : ℕ = k / 64 in
      let t : ℕ = k % 64 in
      let r : ℕ = value_in (2 ^ 64) (drop (suc q) l) in
      let ek : t + 64 * q ≡ k = omega arith in
      let width : 64 ≡ t + (64 - t) = omega arith in
      let base : 2 ^ 64 ≡ 2 ^ t * 2 ^ (64 - t) = ap (λ (m : ℕ). 2 ^ m) width ∙ pow-add 2 t (64 - t) in
      let high : x / 2 ^ (64 * q) ≡ get_or l q 0 + 2 ^ t * (2 ^ (64 - t) * r) =
      ap (λ (m : ℕ). x / m) (sym (base_pow q)) ∙ value_shr (2 ^ 64) q l h ∙ value_drop (2 ^ 64) q l
      ∙ ap (λ (m : ℕ). get_or l q 0 + m) (ap (λ (m : ℕ). m * r) base ∙ mul_assoc (2 ^ t) (2 ^ (64 - t)) r) in
      let all : x % 2 ^ k ≡ get_or l q 0 % 2 ^ t * 2 ^ (64 * q) =
      ap (λ (m : ℕ). x % 2 ^ m) (sym ek) ∙ mod-pow-add x t (64 * q) ∙ ap (λ (m : ℕ). x / 2 ^ (64 * q) % 2 ^ t * 2 ^ (64 * q) + m) (low q ∙ e) ∙ add-zero _
      ∙ ap (λ (m : ℕ). m % 2 ^ t * 2 ^ (64 * q)) high ∙ ap (λ (m : ℕ). m * 2 ^ (64 * q)) (add-mul-mod_self_left (get_or l q 0) (2 ^ t) (2 ^ (64 - t) * r)) in
      scaled (get_or l q 0 % 2 ^ t) (64 * q) ∙ ap (λ (m : ℕ). eqb m 0) (sym all)

  -- whether the limbs below the cut's are 0
  zeros : list_all (λ limb. eqb limb 0) (take (k / 64) l) ≡ eqb (value_in (2 ^ 64) (take (k / 64) l)) 0
  zeros = sym (value_zero (2 ^ 64) (omega arith) (take (k / 64) l))

  pub zeros_decide : list_all (λ limb. eqb limb 0) (take (k / 64) l) ≡ true → eqb (get_or l (k / 64) 0 % 2 ^ (k % 64)) 0 ≡ eqb (value_in (2 ^ 64) l % 2 ^ k) 0
  zeros_decide e = rest_decides (eqb-true (value_in (2 ^ 64) (take (k / 64) l)) 0 (sym zeros ∙ e))

  pub nonzero_decides : list_all (λ limb. eqb limb 0) (take (k / 64) l) ≡ false → false ≡ eqb (value_in (2 ^ 64) l % 2 ^ k) 0
  nonzero_decides e = sym (ne_eqb _ 0 (not_zero (false-eqb (value_in (2 ^ 64) (take (k / 64) l)) 0 (sym (sym zeros ∙ e)))))
