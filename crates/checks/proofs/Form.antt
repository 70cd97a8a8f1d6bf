-- Good form, read off the top and the lowest limb. Assumes nothing.
use mathlib.Core.Path.{◌≡◌, refl, sym, ap, ◌∙◌}
use mathlib.Core.List.{List, [], ◌∷◌}
use Prim.Native.Nat.{ℕ, zero, suc, ◌+◌, ◌-◌, ◌*◌, ◌%◌, ◌^◌, ◌≤◌, ◌<◌}
use native.Mathlib.Nat.{le_trans, le_of_eq, mul-le-mul_left, add-mul-mod_self_left, mul_assoc}
use native.Mathlib.Decide.{dec_le}
use native.Mathlib.Omega.{arith}
use lib.ListN.{length, get_or, take}
use lib.Seq.{take_all}
use lib.Pow.{pow-add}
use Rattle.limb.specs.Value.{value_in, value_of, Below}
use Rattle.limb.proofs.Value.{value_take, value_take_lt, base_pow}

module _ (B : ℕ) (k : ℕ) (l : List ℕ) (below : Below B l) (count : length l ≡ suc k) where
  -- the limbs below the top, and the top limb
  top_split : value_in B l ≡ value_in B (take k l) + B ^ k * get_or l k 0
  top_split = ap (value_in B) (sym (take_all (suc k) l (le_of_eq count))) ∙ value_take B k l

  top_le : (h : ℕ) → h ≤ get_or l k 0 → B ^ k * h ≤ value_in B l
  top_le h g = omega (arith, top_split, mul-le-mul_left (B ^ k) g)

  le_top : (h : ℕ) → B ^ k * h ≤ value_in B l → h ≤ get_or l k 0
  le_top h g =
      elim (dec_le h (get_or l k 0)) [
        | yes d ↦ d
        | no d ↦
            let more : suc (get_or l k 0) ≤ h = omega arith in
            absurd (omega (arith, top_split, value_take_lt B k l below, mul-le-mul_left (B ^ k) more))
      ]

last : (k : ℕ) → suc k - 1 ≡ k
last k = omega arith

lead_weight : (k : ℕ) → (2 ^ 64) ^ k * 2 ^ 63 ≡ 2 ^ (64 * suc k - 1)
lead_weight k = ap (λ (n : ℕ). n * 2 ^ 63) (base_pow k) ∙ sym (pow-add 2 (64 * k) 63) ∙ ap (λ (n : ℕ). 2 ^ n) (width k)
  where
    width : (k : ℕ) → 64 * k + 63 ≡ 64 * suc k - 1
    width k = omega arith

-- "b1 is the top bit of the top limb"
module _ (l : List ℕ) (below : Below (2 ^ 64) l) where
  pub top_bit_lead : (n : ℕ) → 0 < n → length l ≡ n → 2 ^ 63 ≤ get_or l (n - 1) 0 → 2 ^ (64 * n - 1) ≤ value_of l
  top_bit_lead zero s c h = absurd (omega arith)
  top_bit_lead (suc k) s c h = le_trans (le_of_eq (sym (lead_weight k))) (top_le (2 ^ 64) k l below c (2 ^ 63) (rw (last k) at h))

  pub lead_top_bit : (n : ℕ) → 0 < n → length l ≡ n → 2 ^ (64 * n - 1) ≤ value_of l → 2 ^ 63 ≤ get_or l (n - 1) 0
  lead_top_bit zero s c h = absurd (omega arith)
  lead_top_bit (suc k) s c h = rw (last k) (le_top (2 ^ 64) k l below c (2 ^ 63) (le_trans (le_of_eq (lead_weight k)) h))

-- "the spare bits at the bottom of the lowest limb" are those at the bottom of the whole number
pub spare_low : (s : ℕ) (l : List ℕ) → s ≤ 64 → value_of l % 2 ^ s ≡ get_or l 0 0 % 2 ^ s
unfolding value_in
spare_low s [] h = refl
spare_low s (x ∷ xs) h =
    ap (λ (n : ℕ). (x + n) % 2 ^ s) (ap (λ (n : ℕ). n * value_of xs) (ap (λ (n : ℕ). 2 ^ n) (sym (room s h)) ∙ pow-add 2 s (64 - s)) ∙ mul_assoc (2 ^ s) (2 ^ (64 - s)) (value_of xs))
    ∙ add-mul-mod_self_left x (2 ^ s) (2 ^ (64 - s) * value_of xs)
  where
    room : (s : ℕ) → s ≤ 64 → s + (64 - s) ≡ 64
    room s h = omega arith
