-- Each return of a conversion is a case of the definitions. Assumes nothing.
use mathlib.Core.Path.{◌≡◌, refl, sym, ap, ◌∙◌}
use mathlib.Core.Logic.{◌⊎◌, inl, inr}
use mathlib.Core.Bool.{Bool, true, false, true≢false}
use mathlib.Core.List.{[], ◌∷◌}
use Prim.Native.Nat.{ℕ, zero, suc, ◌+◌, ◌-◌, ◌*◌, ◌/◌, ◌%◌, ◌^◌, ◌≤◌, ◌<◌, compare, Ordering}
use native.Mathlib.Nat.{mod-eq_of_lt, lt_of_lt_of_le}
use native.Mathlib.Omega.{arith}
use lib.Dec.{ltb}
use lib.IntN.{ℤ, pos, negsuc}
use lib.ListN.{get_or}
use lib.Signed.{lt_z}
use lib.Pow.{pow_pos, shl_lt, shl-shr}
use lib.Ieee.{Float, binary64, to_bits, size}
use borrow.Author.Tests.{lt-ltb, le-ltb, ltb-true, ltb-false}
use Rattle.numbers.specs.Limits.{bias, least_exponent, most_exponent, limbs_for}
use Rattle.numbers.specs.Limbs.{limbs_of}
use Rattle.numbers.specs.Operand.{Operand, mantissa, last_weight, spare_bits, WellFormed}
use Rattle.numbers.proofs.Digits.{mantissa_ge}
use Rattle.rounding.specs.Mode.{mode_of, way}
use Rattle.rounding.specs.declared.Mode.{Mode}
use Rattle.rounding.specs.declared.Mode.TheVariants.{Upward, Downward}
use Rattle.rounding.specs.Select.{chosen}
use Rattle.rounding.specs.Answer.{Answer, zero_of, number, too_large, too_small, ranged, digits, signed, rounded}
use Rattle.rounding.proofs.Order.{le_or_lt}
use Rattle.rounding.proofs.Between.{is_large, is_small, is_in}
use Rattle.rounding.proofs.Scale.{chosen_pos}
use Rattle.rounding.proofs.Range.{digits_few, digits_first}
use Rattle.place.specs.declared.Placed.{Placed}
use Rattle.place.specs.Placed.{placed_of, limbs_after}
use Rattle.location.specs.Ternary.{ternary_of}
use Rattle.std.specs.Prelude.{Result, Ok, Err}
use Rattle.checks.specs.declared.Refusal.{Refusal}
use Rattle.checks.specs.declared.Rule.TheVariants.{DoubleTooLarge, DoubleTooSmall}
use Rattle.checks.specs.Refusal.{rule_number, place_number}
use Rattle.checks.specs.Check.{converted_refusal, alone_refusal}
use Rattle.checks.proofs.Accepted.{accepted_converted, converted_unrefused, accepted_alone, alone_unrefused}
use Rattle.doubles.specs.declared.Converted.{Converted}
use Rattle.doubles.specs.declared.Converted.TheVariants.{Exact, Below, Above}
use Rattle.doubles.specs.declared.Enclosing.{Enclosing}
use Rattle.place.specs.declared.PlacedLimb.{PlacedLimb}
use Rattle.unpack.specs.Double.{double_precision, double_least, double_most, sign_bit, packed, double}
use Rattle.doubles.specs.Convert.{ranged_in, selected_in, converted_in, in_doubles, outside, case_of, double_case, converted_of, told, told_case, told_refusal, told_answer, told_call, told_of}
use Rattle.doubles.specs.Enclose.{end_of, pair_of, enclosed_of}
use Rattle.select.specs.Steps.{shortened, Selects}
use Rattle.unpack.proofs.Bits.{bits_back, zero_no_nan, zero_lt, packed_lt, packed_no_nan}

-- ---- the case of a ternary value

none_below : (n : ℕ) → ltb n 0 ≡ true → ⊥
none_below n h = let l = ltb-true n 0 h in omega arith

pub case_below : (z : ℤ) (d : Float) → lt_z z (pos 0) ≡ true → Below d ≡ case_of z d
unfolding case_of
case_below (pos n) d h = absurd (none_below n h)
case_below (negsuc n) d h = refl

pub case_above : (z : ℤ) (d : Float) → lt_z (pos 0) z ≡ true → Above d ≡ case_of z d
unfolding case_of
case_above (pos zero) d h = absurd (true≢false (sym h))
case_above (pos (suc n)) d h = refl
case_above (negsuc n) d h = absurd (true≢false (sym h))

pub case_exact : (z : ℤ) (d : Float) → lt_z z (pos 0) ≡ false → lt_z (pos 0) z ≡ false → Exact d ≡ case_of z d
unfolding case_of
case_exact (pos zero) d h k = refl
case_exact (pos (suc n)) d h k = absurd (let l = ltb-false 0 (suc n) k in omega arith)
case_exact (negsuc n) d h k = absurd (true≢false h)

-- ---- the range of doubles lies inside the kernel's

inner_most : double_most ≤ most_exponent
unfolding double_most most_exponent bias
inner_most = omega arith

inner_least : least_exponent ≤ double_least
unfolding double_least least_exponent bias
inner_least = omega arith

pub least_literal : double_least ≡ 1099511626755
unfolding double_least bias
least_literal = refl

pub most_literal : double_most ≡ 1099511628800
unfolding double_most bias
most_literal = refl

module _ (a : Answer) (E : ℕ) where
  pub is_beyond : double_most < E → ranged_in double_least double_most E a ≡ too_large
  unfolding ranged_in
  is_beyond h = rw (lt-ltb double_most E h) refl

  pub is_under : E < double_least → ranged_in double_least double_most E a ≡ too_small
  unfolding ranged_in
  is_under h = rw (le-ltb double_most E (omega (arith, least_literal, most_literal)), lt-ltb E double_least h) refl

  pub is_inside : double_least ≤ E → E ≤ double_most → ranged_in double_least double_most E a ≡ a
  unfolding ranged_in
  is_inside h k = rw (le-ltb double_most E k, le-ltb E double_least h) refl

-- ---- what is selected, judged by the kernel's range and by that of doubles

module _ (n : Bool) (E d : ℕ) (t : Ordering) (few : d < 2 ^ 53) (s : Placed) (limb : ℕ)
    (s_is : s ≡ placed_of (ranged E (number n E d t))) (limb_is : limb ∷ [] ≡ limbs_after 53 (ranged E (number n E d t))) where
  abbrev judged : Answer
  judged = ranged_in double_least double_most E (number n E d t)

  data Found : Type 0 where
    large : s.rule ≡ 6 → s.exponent ≡ 0 → most_exponent < E → Found
    small : s.rule ≡ 7 → s.exponent ≡ 0 → E < least_exponent → Found
    kept : s.rule ≡ 0 → s.exponent ≡ E → s.ternary ≡ ternary_of t → limb ≡ d * 2 ^ 11 → Found

  found : Found
  unfolding placed_of limbs_after limbs_of limbs_for spare_bits
  found = go (le_or_lt E most_exponent) (le_or_lt least_exponent E)
    where
      one : (a b : ℕ) → a ∷ [] ≡ b ∷ [] → a ≡ b
      one a b e = cc

      go : (E ≤ most_exponent) ⊎ (most_exponent < E) → (least_exponent ≤ E) ⊎ (E < least_exponent) → Found
      go (inr h) k = let e = s_is ∙ ap placed_of (is_large E (number n E d t) h) in large (ap (λ (p : Placed). p.rule) e) (ap (λ (p : Placed). p.exponent) e) h
      go (inl h) (inr k) = let e = s_is ∙ ap placed_of (is_small E (number n E d t) k) in small (ap (λ (p : Placed). p.rule) e) (ap (λ (p : Placed). p.exponent) e) k
      go (inl h) (inl k) =
          let f = is_in E (number n E d t) k h in
          let e = s_is ∙ ap placed_of f in
          kept (ap (λ (p : Placed). p.rule) e) (ap (λ (p : Placed). p.exponent) e) (ap (λ (p : Placed). p.ternary) e)
          (one limb (d * 2 ^ 11 % 2 ^ 64) (limb_is ∙ ap (limbs_after 53) f) ∙ mod-eq_of_lt (shl_lt 53 11 few))

  pub beyond_kernel : (r : Result Converted Refusal) → r ≡ outside DoubleTooLarge → s.rule ≡ 6 → r ≡ double_case judged
  unfolding double_case
  beyond_kernel r e h = e ∙ elim found [
    | large a b c ↦ sym (ap double_case (is_beyond (number n E d t) E (omega (arith, inner_most))))
    | small a b c ↦ absurd (omega arith)
    | kept a b c i ↦ absurd (omega arith)
  ]

  pub beyond_doubles : (r : Result Converted Refusal) → r ≡ outside DoubleTooLarge → 1099511628800 < s.exponent → r ≡ double_case judged
  unfolding double_case
  beyond_doubles r e h = e ∙ elim found [
    | large a b c ↦ absurd (omega arith)
    | small a b c ↦ absurd (omega arith)
    | kept a b c i ↦ sym (ap double_case (is_beyond (number n E d t) E (omega (arith, most_literal))))
  ]

  pub under_doubles : (r : Result Converted Refusal) → r ≡ outside DoubleTooSmall → (s.rule ≡ 6 → ⊥) → s.exponent < 1099511626755 → r ≡ double_case judged
  unfolding double_case
  under_doubles r e g h = e ∙ elim found [
    | large a b c ↦ absurd (g a)
    | small a b c ↦ sym (ap double_case (is_under (number n E d t) E (omega (arith, inner_least))))
    | kept a b c i ↦ sym (ap double_case (is_under (number n E d t) E (omega (arith, least_literal))))
  ]

  module _ (lo : 1099511626755 ≤ s.exponent) (hi : s.exponent ≤ 1099511628800) where
    pub limb_inside : 2 ^ 52 ≤ d → 2 ^ 63 ≤ limb
    limb_inside f = elim found [
      | large a b c ↦ absurd (omega arith)
      | small a b c ↦ absurd (omega arith)
      | kept a b c i ↦ omega arith
    ]

    pub case_inside : (r : Converted) (v : Float) → v ≡ double (packed n s.exponent (limb / 2 ^ 11)) → r ≡ case_of s.ternary v → Ok r ≡ double_case judged
    unfolding double_case
    case_inside r v f e = ap Ok e ∙ elim found [
      | large a b c ↦ absurd (omega arith)
      | small a b c ↦ absurd (omega arith)
      | kept a b c i ↦
          ap Ok
          (ap (case_of s.ternary) f ∙ ap (λ (z : ℤ). case_of z (double (packed n s.exponent (limb / 2 ^ 11)))) c ∙ ap (λ (x : ℕ). case_of (ternary_of t) (double (packed n x (limb / 2 ^ 11)))) b
          ∙ ap (λ (x : ℕ). case_of (ternary_of t) (double (packed n E x))) (ap (λ (x : ℕ). x / 2 ^ 11) i ∙ shl-shr d 11))
          ∙ sym (ap double_case (is_inside (number n E d t) E (omega (arith, least_literal)) (omega (arith, most_literal))))
    ]

-- ---- what each case tells

told_large : told (double_case too_large) ≡ told_answer too_large
unfolding told told_refusal double_case told_answer outside rule_number place_number
told_large = refl

told_small : told (double_case too_small) ≡ told_answer too_small
unfolding told told_refusal double_case told_answer outside rule_number place_number
told_small = refl

told_number : (n : Bool) (e d : ℕ) (t : Ordering) → to_bits binary64 (double (packed n e d)) ≡ packed n e d → told (double_case (number n e d t)) ≡ told_answer (number n e d t)
unfolding told told_case double_case told_answer case_of ternary_of
told_number n e d Ordering.lt h = rw h refl
told_number n e d Ordering.eq h = rw h refl
told_number n e d Ordering.gt h = rw h refl

told_zero : (mode : Mode) (x : Operand) → x.is_zero ≡ true → told (double_case (in_doubles mode x)) ≡ told_answer (in_doubles mode x)
unfolding in_doubles converted_in told told_case double_case told_answer
told_zero mode x z = rw (z, bits_back (sign_bit x.negative) (zero_lt x.negative) (zero_no_nan x.negative)) refl

-- ---- a number to a double

pub zero_case : (mode : Mode) (x : Operand) (r : Result Converted Refusal) → x.is_zero ≡ true → r ≡ double_case (zero_of x.negative) → r ≡ double_case (in_doubles mode x)
unfolding in_doubles converted_in
zero_case mode x r z e = rw z e

module _ (mode : Mode) (x : Operand) (g : WellFormed x) (z : x.is_zero ≡ false) where
  abbrev c : ℕ
  c = chosen (way mode x.negative) 53 (mantissa x)

  abbrev pub E : ℕ
  E = size c + last_weight x

  abbrev pub d : ℕ
  d = digits 53 c

  abbrev pub t : Ordering
  t = signed x.negative (compare c (mantissa x))

  abbrev pub result : Answer
  result = number x.negative E d t

  pub in_doubles_lem : in_doubles mode x ≡ ranged_in double_least double_most E result
  unfolding in_doubles converted_in selected_in double_precision
  in_doubles_lem = rw z refl

  shortened_is : shortened mode x ≡ ranged E result
  unfolding shortened rounded double_precision
  shortened_is = refl

  pub few_digits : d < 2 ^ 53
  few_digits = digits_few 53 c

  pub first_digit : 2 ^ 52 ≤ d
  first_digit = digits_first 53 c (omega arith) (chosen_pos (way mode x.negative) 53 (mantissa x) (omega arith) (lt_of_lt_of_le (pow_pos (x.precision - 1)) (mantissa_ge x g z)))

  module _ (s : PlacedLimb) (h : Selects mode x s) (r : Result Converted Refusal) where
    placed_is : s.placed ≡ placed_of (ranged E result)
    placed_is = h.placed ∙ ap placed_of shortened_is

    limb_is : s.limb ∷ [] ≡ limbs_after 53 (ranged E result)
    unfolding double_precision
    limb_is = h.limb ∙ ap (limbs_after 53) shortened_is

    back : r ≡ double_case (ranged_in double_least double_most E result) → r ≡ double_case (in_doubles mode x)
    back e = e ∙ ap double_case (sym in_doubles_lem)

    pub large_case : r ≡ outside DoubleTooLarge → s.placed.rule ≡ 6 → r ≡ double_case (in_doubles mode x)
    large_case e f = back (beyond_kernel x.negative E d t few_digits s.placed s.limb placed_is limb_is r e f)

    pub beyond_case : r ≡ outside DoubleTooLarge → 1099511628800 < s.placed.exponent → r ≡ double_case (in_doubles mode x)
    beyond_case e f = back (beyond_doubles x.negative E d t few_digits s.placed s.limb placed_is limb_is r e f)

    pub under_case : r ≡ outside DoubleTooSmall → (s.placed.rule ≡ 6 → ⊥) → s.placed.exponent < 1099511626755 → r ≡ double_case (in_doubles mode x)
    under_case e f k = back (under_doubles x.negative E d t few_digits s.placed s.limb placed_is limb_is r e f k)

    pub limb_large : 1099511626755 ≤ s.placed.exponent → s.placed.exponent ≤ 1099511628800 → 2 ^ 63 ≤ s.limb
    limb_large lo hi = limb_inside x.negative E d t few_digits s.placed s.limb placed_is limb_is lo hi first_digit

    pub inside_case : 1099511626755 ≤ s.placed.exponent → s.placed.exponent ≤ 1099511628800 → (v : Float) (a : Converted) → v ≡ double (packed x.negative s.placed.exponent (s.limb / 2 ^ 11))
        → a ≡ case_of s.placed.ternary v → r ≡ Ok a → r ≡ double_case (in_doubles mode x)
    inside_case lo hi v a f e i = back (i ∙ case_inside x.negative E d t few_digits s.placed s.limb placed_is limb_is lo hi a v f e)

  -- ---- what the answer tells

  pub told_regular : told (double_case (in_doubles mode x)) ≡ told_answer (in_doubles mode x)
  told_regular = ap (λ (a : Answer). told (double_case a)) in_doubles_lem ∙ go (le_or_lt E double_most) (le_or_lt double_least E) ∙ ap told_answer (sym in_doubles_lem)
    where
      go : (E ≤ double_most) ⊎ (double_most < E) → (double_least ≤ E) ⊎ (E < double_least) → told (double_case (ranged_in double_least double_most E result)) ≡ told_answer (ranged_in double_least double_most E result)
      go (inr h) k = rw (is_beyond result E h) told_large
      go (inl h) (inr k) = rw (is_under result E k) told_small
      go (inl h) (inl k) =
          rw (is_inside result E k h) (told_number x.negative E d t (bits_back (packed x.negative E d) (packed_lt x.negative E d k h first_digit few_digits) (packed_no_nan x.negative E d k h first_digit few_digits)))

pub told_is : (mode : Mode) (x : Operand) → WellFormed x → told (double_case (in_doubles mode x)) ≡ told_answer (in_doubles mode x)
told_is mode x g = go x.is_zero refl
  where
    go : (b : Bool) → x.is_zero ≡ b → told (double_case (in_doubles mode x)) ≡ told_answer (in_doubles mode x)
    go true z = told_zero mode x z
    go false z = told_regular mode x g z

-- ---- with the checks

module _ (mode : ℕ) (x : Operand) where
  pub refused_case : (r : Refusal) → converted_refusal mode x ≡ Err r → (Err r ≡ converted_of mode x) × (told (Err r) ≡ told_of mode x)
  unfolding converted_of told_of told_call told
  refused_case r e = rw e (refl, refl)

  module _ (u : Unit {0}) (passed : converted_refusal mode x ≡ Ok u) where
    pub accepted_mode : ((i : ℕ) → get_or x.limbs i 0 < 2 ^ 64) → mode ≤ 3
    accepted_mode b = (accepted_converted mode x b (converted_unrefused mode x u passed)).0

    pub accepted_formed : ((i : ℕ) → get_or x.limbs i 0 < 2 ^ 64) → WellFormed x
    accepted_formed b = (accepted_converted mode x b (converted_unrefused mode x u passed)).1

    pub accepted_case : (a : Result Converted Refusal) → WellFormed x → a ≡ double_case (in_doubles (mode_of mode) x) → (a ≡ converted_of mode x) × (told a ≡ told_of mode x)
    unfolding converted_of told_of told_call
    accepted_case a g e = rw passed (e, ap told e ∙ told_is (mode_of mode) x g)

-- ---- the enclosing pair

module _ (down up : Result Converted Refusal) where
  pub lower_refused : (r : Refusal) → down ≡ Err r → Err r ≡ pair_of down up
  unfolding pair_of
  lower_refused r e = rw e refl

  pub upper_refused : (a : Converted) (r : Refusal) → down ≡ Ok a → up ≡ Err r → Err r ≡ pair_of down up
  unfolding pair_of
  upper_refused a r e f = rw (e, f) refl

  pub both_ends : (a b : Converted) (v w : Float) → down ≡ Ok a → up ≡ Ok b → v ≡ end_of a → w ≡ end_of b → Ok (record { lower = v; upper = w }) ≡ pair_of down up
  unfolding pair_of
  both_ends a b v w e f k l = rw (e, f, k, l) refl

-- the down answer and the up answer are those of the two modes
pub paired_ends : (x : Operand) (down up : Result Converted Refusal) (e : Result Enclosing Refusal) → down ≡ double_case (in_doubles Downward x) → up ≡ double_case (in_doubles Upward x) → e ≡ pair_of down up
    → e ≡ pair_of (double_case (in_doubles Downward x)) (double_case (in_doubles Upward x))
paired_ends x down up e i j k = rw (← i, ← j) k

module _ (x : Operand) where
  pub refused_pair : (r : Refusal) → alone_refusal x ≡ Err r → Err r ≡ enclosed_of x
  unfolding enclosed_of
  refused_pair r e = rw e refl

  module _ (u : Unit {0}) (passed : alone_refusal x ≡ Ok u) where
    pub alone_formed : ((i : ℕ) → get_or x.limbs i 0 < 2 ^ 64) → WellFormed x
    alone_formed b = accepted_alone x b (alone_unrefused x u passed)

    pub accepted_pair : (e : Result Enclosing Refusal) → e ≡ pair_of (double_case (in_doubles Downward x)) (double_case (in_doubles Upward x)) → e ≡ enclosed_of x
    unfolding enclosed_of
    accepted_pair e k = rw passed k
