-- The good form of a given regular operand, by tests that compute.
use Prim.Native.Nat.{ℕ, zero, suc, ◌-◌, ◌*◌, ◌%◌, ◌^◌}
use mathlib.Core.Path.{◌≡◌, sym}
use mathlib.Core.Bool.{Bool, true, false, not, ◌&&◌, true≢false}
use mathlib.Core.List.{List, [], ◌∷◌}
use lib.Dec.{T, leb, ltb, eqb, leb→le, ltb→lt, eqb→eq}
use lib.ListN.{length, get_or}
use lib.Pow.{pow_pos}
use lib.Ieee.Fits.{and_l, and_r}
use Rattle.limb.specs.Value.{value_of, Below}
use Rattle.numbers.specs.Limits.{least_precision, most_precision, least_exponent, most_exponent, limbs_for}
use Rattle.numbers.specs.Operand.{Operand, spare_bits, WellFormed}

unfoldable pub all : List Bool → Bool
all [] = true
all (b ∷ l) = b && all l

each : (l : List Bool) → T (all l) → (i : ℕ) → T (get_or l i true)
unfolding all
each [] t i = tt
each (b ∷ l) t zero = and_l b (all l) t
each (b ∷ l) t (suc i) = each l (and_r b (all l) t) i

unfoldable pub are_limbs : List ℕ → Bool
are_limbs [] = true
are_limbs (v ∷ l) = ltb v (2 ^ 64) && are_limbs l

limbs_below : (l : List ℕ) → T (are_limbs l) → Below (2 ^ 64) l
unfolding are_limbs
limbs_below [] t i = pow_pos 64
limbs_below (v ∷ l) t zero = ltb→lt v (2 ^ 64) (and_l (ltb v (2 ^ 64)) (are_limbs l) t)
limbs_below (v ∷ l) t (suc i) = limbs_below l (and_r (ltb v (2 ^ 64)) (are_limbs l) t) i

unfoldable pub tests : Operand → List Bool
tests x =
    not x.is_zero
    ∷ leb least_precision x.precision
    ∷ leb x.precision most_precision
    ∷ eqb (length x.limbs) (limbs_for x.precision)
    ∷ are_limbs x.limbs
    ∷ leb least_exponent x.exponent
    ∷ leb x.exponent most_exponent
    ∷ leb (2 ^ (64 * limbs_for x.precision - 1)) (value_of x.limbs)
    ∷ eqb (value_of x.limbs % 2 ^ spare_bits x.precision) 0
    ∷ []

pub formed : (x : Operand) → T (all (tests x)) → WellFormed x
unfolding tests
formed x t =
    let passed = each (tests x) t in
    record {
      least = leb→le _ _ (passed 1);
      most = leb→le _ _ (passed 2);
      count = eqb→eq _ _ (passed 3);
      limb = limbs_below x.limbs (passed 4);
      zero = λ z. absurd (nonzero x.is_zero z (passed 0));
      regular = λ z. record { least = leb→le _ _ (passed 5); most = leb→le _ _ (passed 6); lead = leb→le _ _ (passed 7); spare = eqb→eq _ _ (passed 8) };
    }
  where
    nonzero : (z : Bool) → z ≡ true → T (not z) → ⊥
    nonzero true e t = t
    nonzero false e t = true≢false (sym e)
