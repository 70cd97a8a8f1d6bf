-- The run that is rounded, two limbs and whether anything stands below, answers as the whole number does. Assumes nothing.
use mathlib.Core.Path.{◌≡◌, refl, sym, ap, ◌∙◌}
use mathlib.Core.Bool.{Bool, true, false, not}
use mathlib.Core.List.{List, [], ◌∷◌}
use Prim.Native.Nat.{ℕ, suc, ◌+◌, ◌-◌, ◌*◌, ◌/◌, ◌%◌, ◌^◌, ◌≤◌, ◌<◌, compare}
use native.Mathlib.Nat.{lt_of_lt_of_le, div-add-mod', pow-succ'}
use native.Mathlib.Omega.{arith}
use lib.Dec.{eqb}
use lib.ListN.{length, get_or}
use lib.Pow.{pow_pos}
use borrow.Author.Tests.{eqb-true, eqb-false, lt-ltb, le-leb}
use Rattle.limb.proofs.Tests.{and_both}
use Rattle.limb.specs.Carry.{bit}
use Rattle.limb.specs.Value.{value_in, value_of}
use Rattle.numbers.specs.Limits.{least_precision, most_precision, bias, least_exponent, most_exponent, limbs_for}
use Rattle.numbers.specs.Limbs.{limbs_of}
use Rattle.numbers.specs.Operand.{Operand, mantissa, last_weight, spare_bits, WellFormed}
use Rattle.numbers.proofs.Digits.{mantissa_ge, digits_and_spare}
use Rattle.numbers.proofs.Limits.{two_digits, limbs_hold, limbs_fewest}
use Rattle.rounding.specs.Mode.{Way, way}
use Rattle.rounding.specs.Select.{chosen}
use Rattle.rounding.specs.Answer.{Answer, zero_of, number, too_large, too_small, rounded}
use Rattle.rounding.proofs.Scale.{rounded_shift}
use Rattle.rounding.specs.declared.Mode.{Mode}
use Rattle.place.specs.declared.Placed.{Placed}
use Rattle.place.specs.Placed.{run_number, run_answer, run_rule, placed_of, limbs_after}
use Rattle.place.specs.Rounded.{rounded_placed, rounded_limbs}
use Rattle.place.proofs.Rules.{rule_none}
use Rattle.place.proofs.Answer.{placed_passed, limbs_passed}
use Rattle.checks.proofs.Form.{lead_top_bit}
use Rattle.select.specs.declared.Head.{Head}
use Rattle.unpack.specs.Double.{double_precision}
use Rattle.select.specs.Steps.{Leads, shortened, Selects}
use Rattle.select.proofs.Cell.{cell_one, cell_side}

-- ---- what stands below counts only as something

module _ (w : Way) (p s : ℕ) (n : Bool) where
  same_rounded : (a b : ℕ) → chosen w p a ≡ chosen w p b → compare (chosen w p a) a ≡ compare (chosen w p b) b → rounded w p s n a ≡ rounded w p s n b
  unfolding rounded
  same_rounded a b e f = cc

  -- T units of 2 ^ (k + 1) and twice a rest below 2 ^ k, or a half for it
  pub half_for_rest : (T k rest : ℕ) (more : Bool) → 2 ^ p ≤ T → rest < 2 ^ k → more ≡ not (eqb rest 0)
      → rounded w p s n ((T * 2 ^ k + rest) * 2) ≡ rounded w p s n ((2 * T + bit more) * 2 ^ k)
  unfolding bit
  half_for_rest T k rest more full few m = go (eqb rest 0) refl
    where
      left : (K G : ℕ) → G ≡ 2 * K → (T * K + rest) * 2 ≡ T * G + 2 * rest
      left K G e = omega (arith, ap (λ (x : ℕ). T * x) e)

      right : (K G : ℕ) → G ≡ 2 * K → (2 * T + 1) * K ≡ T * G + K
      right K G e = omega (arith, ap (λ (x : ℕ). T * x) e)

      twice : 2 ^ suc k ≡ 2 * 2 ^ k
      twice = pow-succ' 2 k

      none : (K : ℕ) → rest ≡ 0 → (T * K + rest) * 2 ≡ (2 * T + 0) * K
      none K e = omega arith

      go : (b : Bool) → eqb rest 0 ≡ b → rounded w p s n ((T * 2 ^ k + rest) * 2) ≡ rounded w p s n ((2 * T + bit more) * 2 ^ k)
      go true e = rw (m, e) (ap (rounded w p s n) (none (2 ^ k) (eqb-true rest 0 e)))
      go false e =
          let z : rest ≡ 0 → ⊥ = eqb-false rest 0 e in
          let some : 0 < 2 * rest = omega arith in
          let lt : 2 * rest < 2 ^ suc k = omega (arith, twice) in
          let half : 2 ^ k < 2 ^ suc k = omega (arith, twice, pow_pos k) in
          rw (m, e)
          (ap (rounded w p s n) (left (2 ^ k) (2 ^ suc k) twice)
          ∙ same_rounded (T * 2 ^ suc k + 2 * rest) (T * 2 ^ suc k + 2 ^ k) (cell_one p T (suc k) full w (2 * rest) (2 ^ k) some lt (pow_pos k) half) (cell_side p T (suc k) full w (2 * rest) (2 ^ k) some lt (pow_pos k) half)
          ∙ ap (rounded w p s n) (sym (right (2 ^ k) (2 ^ suc k) twice)))

-- 53 digits stand in one limb
one_after : (a : Answer) → length (limbs_after 53 a) ≡ 1
unfolding limbs_after limbs_of limbs_for
one_after (zero_of n) = refl
one_after (number n e m t) = refl
one_after too_large = refl
one_after too_small = refl

-- ---- a regular number of good form

module _ (x : Operand) (g : WellFormed x) (r : x.is_zero ≡ false) where
  abbrev L : ℕ
  L = limbs_for x.precision

  abbrev N : ℕ
  N = value_of x.limbs

  abbrev b : ℕ
  b = spare_bits x.precision

  some_limbs : 0 < L
  some_limbs = omega (arith, two_digits, g.least, limbs_hold x.precision)

  few_limbs : L ≤ 64
  unfolding most_precision
  few_limbs = omega (arith, g.most, limbs_fewest x.precision)

  pub limb_count : (0 < length x.limbs) × (length x.limbs ≤ 64)
  limb_count = rw g.count (some_limbs, few_limbs)

  pub low_exponent : least_exponent ≤ x.exponent
  low_exponent = (g.regular r).least

  pub wide_exponent : 8192 ≤ x.exponent
  unfolding least_exponent bias
  wide_exponent = omega (arith, low_exponent)

  -- the spare bits are 0
  digits_are : mantissa x * 2 ^ b ≡ N
  unfolding mantissa
  digits_are = go (g.regular r).spare (div-add-mod' N (2 ^ b))
    where
      go : N % 2 ^ b ≡ 0 → N / 2 ^ b * 2 ^ b + N % 2 ^ b ≡ N → N / 2 ^ b * 2 ^ b ≡ N
      go e f = omega arith

  some_digits : 0 < mantissa x
  some_digits = lt_of_lt_of_le (pow_pos (x.precision - 1)) (mantissa_ge x g r)

  some_value : 0 < N
  some_value = lt_of_lt_of_le (pow_pos (64 * L - 1)) (g.regular r).lead

  weight_is : last_weight x ≡ b + (65 + (x.exponent - 64 * L - 65))
  unfolding last_weight
  weight_is = omega (arith, digits_and_spare x.precision, few_limbs, wide_exponent)

  module _ (mode : Mode) (h : Head) (l : Leads x.limbs h) where
    abbrev w : Way
    w = way mode x.negative

    abbrev T : ℕ
    T = h.top * 2 ^ 64 + h.guard

    abbrev k : ℕ
    k = 64 * (length x.limbs - 1)

    abbrev s : ℕ
    s = x.exponent - 64 * L - 65

    k_is : k ≡ 64 * L - 64
    k_is = ap (λ (n : ℕ). 64 * (n - 1)) g.count ∙ omega arith

    unit_is : k + s ≡ x.exponent - 128 - 1
    unit_is = omega (arith, k_is, some_limbs, few_limbs, wide_exponent)

    -- its first bit is 1
    pub top_large : 2 ^ 63 ≤ h.top
    top_large = rw (l.top_is, g.count) (lead_top_bit x.limbs g.limb L some_limbs g.count (g.regular r).lead)

    full : 2 ^ 53 ≤ T
    full = omega (arith, top_large)

    pub run_answer_lem : run_answer mode 53 x.negative (x.exponent - 128) (run_number false (h.top ∷ []) h.guard h.more) ≡ shortened mode x
    unfolding run_answer run_number shortened double_precision bit value_in
    run_answer_lem =
        ap (λ (u : ℕ). rounded w 53 (x.exponent - 128 - 1) x.negative (2 * u + bit h.more)) (one h.top h.guard)
        ∙ ap (λ (u : ℕ). rounded w 53 u x.negative (2 * T + bit h.more)) (sym unit_is)
        ∙ sym (rounded_shift w 53 s x.negative (2 * T + bit h.more) k (omega arith) (omega (arith, full)))
        ∙ sym (half_for_rest w 53 s x.negative T k l.rest h.more full l.few l.more)
        ∙ ap (rounded w 53 s x.negative) (scaled (2 ^ k) l.value)
        ∙ rounded_shift w 53 s x.negative N 65 (omega arith) some_value
        ∙ ap (rounded w 53 (65 + s) x.negative) (sym digits_are)
        ∙ rounded_shift w 53 (65 + s) x.negative (mantissa x) b (omega arith) some_digits
        ∙ ap (λ (u : ℕ). rounded w 53 u x.negative (mantissa x)) (sym weight_is)
      where
        one : (t u : ℕ) → (0 * 2 ^ (64 * 1) + (t + 2 ^ 64 * 0)) * 2 ^ 64 + u ≡ t * 2 ^ 64 + u
        one t u = omega arith

        scaled : (K : ℕ) → N * 2 ^ 64 ≡ T * K + l.rest → (T * K + l.rest) * 2 ≡ N * 2 ^ 65
        scaled K e = omega arith

    unit_fits : (0 < x.exponent - 128) × (x.exponent - 128 ≤ 2 * most_exponent)
    unit_fits = (omega (arith, wide_exponent), omega (arith, (g.regular r).most))

    pub passes : 0 ≡ run_rule 53 false (h.top ∷ []) (x.exponent - 128)
    unfolding least_precision most_precision limbs_for
    passes =
        rule_none 53 false (h.top ∷ []) (x.exponent - 128) refl refl
        (and_both (lt-ltb 0 (x.exponent - 128) unit_fits.0) (le-leb (x.exponent - 128) (2 * most_exponent) unit_fits.1)) (lt-ltb 0 h.top (omega (arith, top_large)))

    -- what is placed and what is left in the limb are those of the number re-rounded to 53 digits
    pub selects : (p : Placed) (t : List ℕ) (u : ℕ) → u ≡ x.exponent → p ≡ rounded_placed mode 53 x.negative (u - 128) false (h.top ∷ []) h.guard h.more
        → t ≡ rounded_limbs mode 53 x.negative (u - 128) false (h.top ∷ []) h.guard h.more → Selects mode x (record { placed = p; limb = get_or t 0 0 })
    unfolding double_precision
    selects p t u q e' f' =
        let e = rw q at e' in
        let f = rw q at f' in
        let g' = f ∙ limbs_passed mode 53 x.negative (x.exponent - 128) false (h.top ∷ []) h.guard h.more (sym passes) ∙ ap (limbs_after 53) run_answer_lem in
        record {
          placed = e ∙ placed_passed mode 53 x.negative (x.exponent - 128) false (h.top ∷ []) h.guard h.more (sym passes) ∙ ap placed_of run_answer_lem;
          limb = single t (ap length g' ∙ one_after (shortened mode x)) ∙ g';
        }
      where
        single : (t : List ℕ) → length t ≡ 1 → get_or t 0 0 ∷ [] ≡ t
        single [] c = absurd (omega arith)
        single (a ∷ []) c = refl
        single (a ∷ d ∷ t) c = absurd (omega arith)
