-- A run of one limb without a guard, lowered by its carry: the digit that leaves the limb counts only as something, and its answer is the same. Assumes nothing.
use mathlib.Core.Path.{◌≡◌, refl, sym, ap, ◌∙◌}
use mathlib.Core.Bool.{Bool, true, false, not, ◌||◌}
use mathlib.Core.List.{List, [], ◌∷◌}
use Prim.Native.Nat.{ℕ, zero, suc, ◌+◌, ◌-◌, ◌*◌, ◌/◌, ◌%◌, ◌^◌, ◌≤◌, ◌<◌}
use native.Mathlib.Omega.{arith}
use lib.Bits.{bit_or}
use lib.Dec.{eqb}
use lib.Pow.{pow_pos}
use borrow.Author.Tests.{ne_eqb}
use Rattle.limb.specs.Carry.{bit}
use Rattle.numbers.specs.Limits.{most_exponent}
use Rattle.rounding.specs.Mode.{Way, way}
use Rattle.rounding.specs.Answer.{rounded}
use Rattle.rounding.specs.declared.Mode.{Mode}
use Rattle.place.specs.declared.Placed.{Placed}
use Rattle.place.specs.declared.one.Normal.{Normal}
use Rattle.place.specs.Placed.{run_number, run_answer, run_rule}
use Rattle.place.specs.Rounded.{rounded_placed, rounded_limbs}
use Rattle.kept.specs.Walk.{headed, whole}
use Rattle.kept.proofs.Moves.{limb_lowered}
use Rattle.place.proofs.Answer.{same_rounds}
use Rattle.place.proofs.Finer.{finer}
use Rattle.place.proofs.Normalized.{whole_carried, whole_plain, also_passes}
use Rattle.place.proofs.Rules.{Passed, passed}

-- the carry enters at the top
pub carry_enters : (x : ℕ) → x < 2 ^ 64 → bit_or (x / 2) 9223372036854775808 ≡ 2 ^ 63 + x / 2
carry_enters x lt = let a : 2 * bit_or (x / 2) 9223372036854775808 + x % 2 ≡ x + 2 ^ 64 = limb_lowered x 1 lt (omega arith) in omega arith

-- a digit is 0 wherever it stands
digit_none : (o : ℕ) → eqb (o * 2 ^ 64) 0 ≡ eqb o 0
digit_none zero = refl
digit_none (suc o) = ne_eqb (suc o * 2 ^ 64) 0 (λ e. omega arith) ∙ sym (ne_eqb (suc o) 0 (λ e. omega arith))

-- ---- the answer is the same: l are the first 64 digits of the run, o is the one below them

module _ (w : Way) (p u : ℕ) (negative : Bool) (l o : ℕ) (more tail : Bool) (some : 0 < p) (short : p < 64) (over : 0 < u) (first : 2 ^ 63 ≤ l) (lt : l < 2 ^ 64) (digit : o < 2)
    (is : tail ≡ (not (eqb o 0) || more)) where
  abbrev below : ℕ
  below = 64 - p

  width : p + below ≡ 64
  width = omega arith

  lo : 2 ^ (p + below) ≤ 2 * l
  lo = rw width (omega arith)

  hi : l < 2 ^ (p + below)
  hi = rw width lt

  pub digit_leaves : rounded w p (u - 1) negative (2 * (l * 2 ^ 65 + o * 2 ^ 64) + bit more) ≡ rounded w p (u + 1 - 1) negative (2 * (l * 2 ^ 64 + 0) + bit tail)
  digit_leaves =
      let B : 0 < below = omega arith in
      let e : 65 + (u - 1) ≡ 64 + (u + 1 - 1) = omega arith in
      finer w p below l 65 (o * 2 ^ 64) tail more some B lo hi (omega arith) (is ∙ ap (λ (c : Bool). not c || more) (sym (digit_none o))) (u - 1) negative
      ∙ ap (λ (n : ℕ). rounded w p n negative (2 * l + bit tail)) e
      ∙ sym (finer w p below l 64 0 tail tail some B lo hi (pow_pos 64) refl (u + 1 - 1) negative)

-- ---- the run and the lowered run

module _ (mode : Mode) (p : ℕ) (negative : Bool) (u : ℕ) (b : Bool) (x : ℕ) (more : Bool) (r : Normal) (pass : run_rule p b (x ∷ []) u ≡ 0) (under : u < 2 * most_exponent)
    (top : b ≡ false → 2 ^ 63 ≤ x) (short : p ≤ 62) (lt : r.limb < 2 ^ 64) (empty : r.guard ≡ 0)
    (carried : b ≡ true → (r.limb ≡ 2 ^ 63 + x / 2) × (r.more ≡ (not (eqb (x % 2) 0) || more)) × (r.unit ≡ u + 1)) (plain : b ≡ false → (r.limb ≡ x) × (r.more ≡ more) × (r.unit ≡ u)) where
  ok : Passed p b (x ∷ []) u
  ok = passed p b (x ∷ []) u pass

  first : 2 ^ 63 ≤ r.limb
  first = go b refl
    where
      go : (c : Bool) → b ≡ c → 2 ^ 63 ≤ r.limb
      go true e = let f = (carried e).0 in omega arith
      go false e = let f = (plain e).0 in let h = top e in omega arith

  unit_fits : (0 < r.unit) × (r.unit ≤ 2 * most_exponent)
  unit_fits = go b refl
    where
      go : (c : Bool) → b ≡ c → (0 < r.unit) × (r.unit ≤ 2 * most_exponent)
      go true e = let f = (carried e).2 in (omega arith, omega arith)
      go false e = let f = (plain e).2 in let h = ok.some in (omega arith, omega arith)

  pub lowered_passes : (run_rule p false (r.limb ∷ []) r.unit ≡ 0) × (2 ^ 63 ≤ r.limb)
  lowered_passes = (also_passes p b x u pass r.limb r.unit first unit_fits.0 unit_fits.1, first)

  abbrev w : Way
  w = way mode negative

  abbrev run : Bool → ℕ → ℕ → Bool → ℕ
  run c l g m = 2 * whole c (l ∷ []) g + bit m

  from_carried : b ≡ true → rounded w p (u - 1) negative (run b x 0 more) ≡ rounded w p (r.unit - 1) negative (run false r.limb r.guard r.more)
  from_carried e =
      let f = carried e in
      ap (λ (m : ℕ). rounded w p (u - 1) negative (2 * m + bit more)) (whole_carried b x 0 e ∙ parts (2 ^ 64) (x + 2 ^ 64) r.limb (x % 2) (halves r.limb f.0))
      ∙ digit_leaves w p u negative r.limb (x % 2) more r.more (omega (arith, ok.least)) (omega arith) ok.some first lt (omega arith) f.1
      ∙ ap (λ (m : ℕ). rounded w p (m - 1) negative (2 * (r.limb * 2 ^ 64 + 0) + bit r.more)) (sym f.2)
      ∙ ap (λ (m : ℕ). rounded w p (r.unit - 1) negative (2 * (r.limb * 2 ^ 64 + m) + bit r.more)) (sym empty)
      ∙ ap (λ (m : ℕ). rounded w p (r.unit - 1) negative (2 * m + bit r.more)) (sym (whole_plain false r.limb r.guard refl))
    where
      halves : (l : ℕ) → l ≡ 2 ^ 63 + x / 2 → x + 2 ^ 64 ≡ 2 * l + x % 2
      halves l e = omega arith

      parts : (B y l o : ℕ) → y ≡ 2 * l + o → y * B + 0 ≡ l * (2 * B) + o * B
      parts B y l o e = let f = ap (λ (n : ℕ). n * B) e in omega arith

  from_plain : b ≡ false → rounded w p (u - 1) negative (run b x 0 more) ≡ rounded w p (r.unit - 1) negative (run false r.limb r.guard r.more)
  from_plain e = let f = plain e in rw (e, f.0, f.1, f.2, empty) refl

  same_answer : run_answer mode p negative r.unit (run_number false (r.limb ∷ []) r.guard r.more) ≡ run_answer mode p negative u (run_number b (x ∷ []) 0 more)
  unfolding run_answer run_number whole headed
  same_answer = sym (go b refl)
    where
      go : (c : Bool) → b ≡ c → rounded w p (u - 1) negative (run b x 0 more) ≡ rounded w p (r.unit - 1) negative (run false r.limb r.guard r.more)
      go true e = from_carried e
      go false e = from_plain e

  -- what the lowered run is rounded to, the run is rounded to
  pub lowered_rounds : (q : Placed) (k : List ℕ) → q ≡ rounded_placed mode p negative r.unit false (r.limb ∷ []) r.guard r.more → k ≡ rounded_limbs mode p negative r.unit false (r.limb ∷ []) r.guard r.more
      → (q ≡ rounded_placed mode p negative u b (x ∷ []) 0 more) × (k ≡ rounded_limbs mode p negative u b (x ∷ []) 0 more)
  lowered_rounds = same_rounds mode p negative u b (x ∷ []) 0 more r.unit false (r.limb ∷ []) r.guard r.more pass lowered_passes.0 same_answer
