-- A limb of which nothing lies below the digits kept, brought to its top: it is what the run of one limb is rounded to. Assumes nothing.
use mathlib.Core.Path.{◌≡◌, refl, sym, ap, ◌∙◌}
use mathlib.Core.Bool.{Bool, false}
use mathlib.Core.List.{[], ◌∷◌}
use Prim.Native.Nat.{ℕ, ◌+◌, ◌-◌, ◌*◌, ◌/◌, ◌%◌, ◌^◌, ◌≤◌, ◌<◌}
use native.Mathlib.Nat.{add-zero, mul-div_cancel, div-add-mod', mod-eq_of_lt, mod-lt}
use native.Mathlib.Omega.{arith}
use lib.IntN.{pos}
use lib.Pow.{pow_pos, pow-add}
use Rattle.limb.proofs.Value.{one_below}
use Rattle.rounding.specs.declared.Mode.{Mode}
use Rattle.kept.specs.Walk.{whole, Reaches, Holds}
use Rattle.kept.proofs.OneLimb.{one_value}
use Rattle.kept.proofs.Reaching.{headed_false, reach_plain}
use Rattle.place.specs.declared.Placed.{Placed}
use Rattle.place.specs.Placed.{run_rule}
use Rattle.place.specs.Rounded.{rounded_placed, rounded_limbs}
use Rattle.place.specs.InRange.{Settled}
use Rattle.place.proofs.Exact.{exact}
use Rattle.place.proofs.Normalized.{ToTop}
use Rattle.place.proofs.Rules.{passed}

-- a limb whose last s digits are 0 loses none of its digits where it comes up by z and only those above s are kept
kept_all : (x s z : ℕ) → z < 64 → x % 2 ^ s ≡ 0 → x * 2 ^ 64 / 2 ^ (64 - z + s) * 2 ^ s ≡ x * 2 ^ z
kept_all x s z h clean =
    let k = x / 2 ^ s in
    let v : x ≡ k * 2 ^ s = sym (div-add-mod' x (2 ^ s)) ∙ ap (λ (m : ℕ). k * 2 ^ s + m) clean ∙ add-zero _ in
    let places : 2 ^ s * 2 ^ 64 ≡ 2 ^ z * 2 ^ (64 - z + s) = sym (pow-add 2 s 64) ∙ ap (λ (m : ℕ). 2 ^ m) moved ∙ pow-add 2 z (64 - z + s) in
    ap (λ (m : ℕ). m / 2 ^ (64 - z + s) * 2 ^ s) (ap (λ (m : ℕ). m * 2 ^ 64) v ∙ regroup k (2 ^ s) (2 ^ 64) (2 ^ z) (2 ^ (64 - z + s)) places)
    ∙ ap (λ (m : ℕ). m * 2 ^ s) (mul-div_cancel (k * 2 ^ z) (pow_pos (64 - z + s)))
    ∙ swap k (2 ^ z) (2 ^ s) ∙ ap (λ (m : ℕ). m * 2 ^ z) (sym v)
  where
    moved : s + 64 ≡ z + (64 - z + s)
    moved = omega arith

    regroup : (k S B Z E : ℕ) → S * B ≡ Z * E → k * S * B ≡ k * Z * E
    regroup k S B Z E e = omega (arith, ap (λ (m : ℕ). k * m) e)

    swap : (a b c : ℕ) → a * b * c ≡ a * c * b
    swap a b c = omega arith

-- ---- a limb with z zeros before its first digit

module _ (p unit x z : ℕ) (pass : run_rule p false (x ∷ []) unit ≡ 0) (lt : x < 2 ^ 64) (top : ToTop x z) (clean : x % 2 ^ (64 - p) ≡ 0) where
  reaches : Reaches false (x ∷ []) (64 - z)
  reaches = reach_plain false (x ∷ []) z (one_below x lt) (omega arith) top.few refl top.first top.fits

  whole_is : whole false (x ∷ []) 0 ≡ x * 2 ^ 64
  unfolding whole
  whole_is = add-zero _ ∙ ap (λ (m : ℕ). m * 2 ^ 64) (headed_false false (x ∷ []) refl ∙ one_value x)

  -- what is left is what the run has of the digits kept
  kept : Holds 1 (whole false (x ∷ []) 0 / 2 ^ (64 - z + (64 - p)) * 2 ^ (64 - p)) (x * 2 ^ z % 2 ^ 64 ∷ [])
  kept =
      record {
        size = refl;
        value =
            one_value _ ∙ mod-eq_of_lt top.fits ∙ sym (kept_all x (64 - p) z top.few clean)
            ∙ ap (λ (m : ℕ). m / 2 ^ (64 - z + (64 - p)) * 2 ^ (64 - p)) (sym whole_is);
      }

  -- no mode adds a unit
  pub exact_one : (r : Placed) (limb : ℕ) → Settled (unit + 128 - z) (pos 0) (x * 2 ^ z % 2 ^ 64 ∷ []) r (limb ∷ []) → (mode : Mode) (negative : Bool)
      → (r ≡ rounded_placed mode p negative unit false (x ∷ []) 0 false) × (limb ∷ [] ≡ rounded_limbs mode p negative unit false (x ∷ []) 0 false)
  exact_one r limb end mode negative =
      exact p unit (x ∷ []) (64 - z) (64 - p) pass refl reaches (ap (λ (m : ℕ). m % 2 ^ (64 - p)) (one_value x) ∙ clean)
      (x * 2 ^ z % 2 ^ 64 ∷ []) (unit + 128 - z) r (limb ∷ []) kept (one_below _ (mod-lt _ (pow_pos 64))) (count top.few (passed p false (x ∷ []) unit pass).digits_fit) end mode negative
    where
      count : z < 64 → p ≤ 64 → unit + 128 - z ≡ unit + p + (64 - z) + (64 - p)
      count h k = omega arith
