-- The pair encloses the number, and its ends are equal exactly when the number is a double. Assumes nothing.
use mathlib.Core.Path.{◌≡◌, refl, sym, ap, ◌∙◌, subst}
use mathlib.Core.Logic.{◌⊎◌, inl, inr}
use mathlib.Core.Bool.{Bool, true, false, cond}
use Prim.Native.Nat.{ℕ, ◌+◌, ◌-◌, ◌*◌, ◌%◌, ◌^◌, ◌≤◌, ◌<◌, compare, Ordering}
use native.Mathlib.Nat.{mul_assoc, le_antisymm, zero-mul}
use native.Mathlib.Omega.{arith}
use lib.Pow.{pow_pos, pow-add}
use lib.Ieee.{binary64, to_bits, size}
use Rattle.std.specs.Prelude.{eqb, Result, Ok, Err}
use Rattle.checks.specs.declared.Refusal.{Refusal}
use Rattle.numbers.specs.Operand.{Operand, mantissa, last_weight, WellFormed}
use Rattle.rounding.specs.Mode.{Way, way}
use Rattle.rounding.specs.declared.Mode.{Mode}
use Rattle.rounding.specs.declared.Mode.TheVariants.{Upward, Downward}
use Rattle.rounding.specs.Select.{chosen}
use Rattle.rounding.specs.Answer.{zero_of, too_large, too_small, digits, signed}
use Rattle.rounding.specs.Sum.{amount}
use Rattle.rounding.specs.Paper.{Le}
use Rattle.rounding.proofs.Order.{le_or_lt, mul_one_one}
use Rattle.rounding.proofs.Scale.{exact, chosen_shift}
use Rattle.rounding.proofs.Paper.{selected, selected_is_down, selected_is_up}
use Rattle.location.specs.Ternary.{ternary_of}
use Rattle.checks.specs.Check.{accepted}
use Rattle.checks.proofs.Accepted.{alone_accepted}
use Rattle.doubles.specs.declared.Converted.{Converted}
use Rattle.doubles.specs.declared.Converted.TheVariants.{Exact}
use Rattle.doubles.specs.declared.Enclosing.{Enclosing}
use Rattle.unpack.specs.Double.{double_least, double_most, double_sign, is_finite, double_digits, double_scale, exponent_field, fraction, double_worth, double_unit, sign_bit, packed, double}
use Rattle.doubles.specs.Convert.{in_doubles, converted_in, outside, case_of, double_case}
use Rattle.doubles.specs.Enclose.{end_of, pair_of, enclosed_of, IsDouble, Encloses}
use Rattle.unpack.proofs.Bits.{bits_back, zero_no_nan, zero_lt, zero_sign, zero_finite, zero_worth, packed_lt, packed_no_nan, packed_finite, packed_sign}
use Rattle.doubles.proofs.Cases.{in_doubles_lem, is_beyond, is_under, is_inside, few_digits, first_digit}
use Rattle.doubles.proofs.Worth.{regular_amount, some, inside_worth}

-- ---- what is not refused

pub unrefused : (a b : Result Converted Refusal) (e : Enclosing) → pair_of a b ≡ Ok e → (c : Converted) × ((d : Converted) × ((a ≡ Ok c) × (b ≡ Ok d)))
unfolding pair_of
unrefused (Ok c) (Ok d) e h = (c, (d, (refl, refl)))
unrefused (Ok c) (Err r) e h = cc h
unrefused (Err r) b e h = cc h

pub pair_is : (a b : Result Converted Refusal) (c d : Converted) → a ≡ Ok c → b ≡ Ok d → pair_of a b ≡ Ok (record { lower = end_of c; upper = end_of d })
unfolding pair_of
pair_is a b c d e f = rw (e, f) refl

pub enclosed_is : (x : Operand) → WellFormed x → enclosed_of x ≡ pair_of (double_case (in_doubles Downward x)) (double_case (in_doubles Upward x))
unfolding enclosed_of accepted
enclosed_is x g = rw (alone_accepted x g) refl

end_is : (n : Bool) (e d : ℕ) (t : Ordering) → end_of (case_of (ternary_of t) (double (packed n e d))) ≡ double (packed n e d)
unfolding end_of case_of ternary_of
end_is n e d Ordering.lt = refl
end_is n e d Ordering.eq = refl
end_is n e d Ordering.gt = refl

refused_large : (a : Converted) → double_case too_large ≡ Ok a → ⊥
unfolding double_case outside
refused_large a h = cc h

refused_small : (a : Converted) → double_case too_small ≡ Ok a → ⊥
unfolding double_case outside
refused_small a h = cc h

-- ---- the digits of a double

pub digits_lt : (b : ℕ) → double_digits b < 2 ^ 53
unfolding double_digits fraction
digits_lt b = go (eqb (exponent_field b) 0) (omega arith)
  where
    go : (t : Bool) → b % 2 ^ 52 < 2 ^ 52 → cond t (b % 2 ^ 52) (2 ^ 52 + b % 2 ^ 52) < 2 ^ 53
    go true h = omega arith
    go false h = omega arith

-- ---- a regular number

module _ (x : Operand) (g : WellFormed x) (z : x.is_zero ≡ false) where
  abbrev n : Bool
  n = x.negative

  abbrev m : ℕ
  m = mantissa x

  abbrev s : ℕ
  s = last_weight x

  abbrev c : Mode → ℕ
  c mode = chosen (way mode n) 53 m

  abbrev E : Mode → ℕ
  E mode = size (c mode) + s

  abbrev bits : Mode → ℕ
  bits mode = packed n (E mode) (digits 53 (c mode))

  inside : (mode : Mode) (v : Converted) → double_case (in_doubles mode x) ≡ Ok v → (double_least ≤ E mode) × (E mode ≤ double_most)
  inside mode v h = go (le_or_lt (E mode) double_most) (le_or_lt double_least (E mode))
    where
      go : (E mode ≤ double_most) ⊎ (double_most < E mode) → (double_least ≤ E mode) ⊎ (E mode < double_least) → (double_least ≤ E mode) × (E mode ≤ double_most)
      go (inr a) b = absurd (refused_large v (rw (in_doubles_lem mode x g z, is_beyond _ (E mode) a) at h))
      go (inl a) (inr b) = absurd (refused_small v (rw (in_doubles_lem mode x g z, is_under _ (E mode) b) at h))
      go (inl a) (inl b) = (b, a)

  module _ (mode : Mode) (lo : double_least ≤ E mode) (hi : E mode ≤ double_most) where
    case_at : double_case (in_doubles mode x) ≡ Ok (case_of (ternary_of (signed n (compare (c mode) m))) (double (bits mode)))
    unfolding double_case
    case_at = ap double_case (in_doubles_lem mode x g z ∙ is_inside _ (E mode) lo hi)

    pub end_at : (v : Converted) → double_case (in_doubles mode x) ≡ Ok v → end_of v ≡ double (bits mode)
    end_at v e =
        let both : Ok v ≡ Ok (case_of (ternary_of (signed n (compare (c mode) m))) (double (bits mode))) = sym e ∙ case_at in
        let same : v ≡ case_of (ternary_of (signed n (compare (c mode) m))) (double (bits mode)) = cc both in
        ap end_of same ∙ end_is n (E mode) (digits 53 (c mode)) (signed n (compare (c mode) m))

    pub bits_at : to_bits binary64 (double (bits mode)) ≡ bits mode
    bits_at = bits_back (bits mode) (packed_lt n (E mode) (digits 53 (c mode)) lo hi (first_digit mode x g z) (few_digits mode x g z)) (packed_no_nan n (E mode) (digits 53 (c mode)) lo hi (first_digit mode x g z) (few_digits mode x g z))

    sign_of : double_sign (bits mode) ≡ n
    sign_of = packed_sign n (E mode) (digits 53 (c mode)) lo hi (first_digit mode x g z) (few_digits mode x g z)

    finite_of : is_finite (bits mode) ≡ true
    finite_of = packed_finite n (E mode) (digits 53 (c mode)) lo hi (first_digit mode x g z) (few_digits mode x g z)

    worth_of : double_worth (bits mode) * 2 ^ double_unit ≡ c mode * 2 ^ s
    worth_of = inside_worth mode x g z lo hi

  -- a number of 53 digits is selected in every mode
  pub double_chosen : IsDouble x → (w : Way) → chosen w 53 m ≡ m
  unfolding double_worth
  double_chosen i w =
      let b = i.bits in
      let e : m * 2 ^ s ≡ double_digits b * 2 ^ (double_scale b - 1 + double_unit) =
      sym (regular_amount x z) ∙ sym i.worth ∙ mul_assoc (double_digits b) (2 ^ (double_scale b - 1)) (2 ^ double_unit) ∙ ap (λ (k : ℕ). double_digits b * k) (sym (pow-add 2 (double_scale b - 1) double_unit)) in
      mul_one_one (chosen w 53 m) m (2 ^ s) (pow_pos s)
      (sym (chosen_shift w 53 m s (omega arith)) ∙ exact w 53 (m * 2 ^ s) (omega arith) (record { digits = double_digits b; shift = double_scale b - 1 + double_unit; few = digits_lt b; is = e }))

  module _ (lo3 : double_least ≤ E Downward) (hi3 : E Downward ≤ double_most) (lo2 : double_least ≤ E Upward) (hi2 : E Upward ≤ double_most) where
    below : Le n (c Downward * 2 ^ s) n (m * 2 ^ s)
    unfolding selected
    below = (selected_is_down 53 n m s (omega arith) (some Downward x g z)).not_above

    above : Le n (m * 2 ^ s) n (c Upward * 2 ^ s)
    unfolding selected
    above = (selected_is_up 53 n m s (omega arith) (some Upward x g z)).not_below

    squeezed : (n : Bool) (a b : ℕ) → Le n a n b → Le n b n a → a ≡ b
    squeezed false a b h k = le_antisymm h k
    squeezed true a b h k = le_antisymm k h

    one_bits : double (bits Downward) ≡ double (bits Upward) → bits Downward ≡ bits Upward
    one_bits e = sym (bits_at Downward lo3 hi3) ∙ ap (to_bits binary64) e ∙ bits_at Upward lo2 hi2

    is_double : double (bits Downward) ≡ double (bits Upward) → IsDouble x
    is_double e =
        let same : c Downward * 2 ^ s ≡ c Upward * 2 ^ s = sym (worth_of Downward lo3 hi3) ∙ ap (λ (b : ℕ). double_worth b * 2 ^ double_unit) (one_bits e) ∙ worth_of Upward lo2 hi2 in
        record {
          bits = bits Downward;
          finite = finite_of Downward lo3 hi3;
          sign = sign_of Downward lo3 hi3;
          worth = worth_of Downward lo3 hi3 ∙ squeezed n (c Downward * 2 ^ s) (m * 2 ^ s) below (subst (Le n (m * 2 ^ s) n) (sym same) above) ∙ sym (regular_amount x z);
        }

    double_is : IsDouble x → double (bits Downward) ≡ double (bits Upward)
    double_is i =
        ap (λ (k : ℕ). double (packed n (size k + s) (digits 53 k))) (double_chosen i (way Downward n) ∙ sym (double_chosen i (way Upward n)))

    pub regular_encloses : Encloses x (record { lower = double (bits Downward); upper = double (bits Upward) })
    regular_encloses =
        record {
          below = rw (bits_at Downward lo3 hi3, sign_of Downward lo3 hi3, worth_of Downward lo3 hi3, regular_amount x z) below;
          above = rw (bits_at Upward lo2 hi2, sign_of Upward lo2 hi2, worth_of Upward lo2 hi2, regular_amount x z) above;
          equal = is_double;
          double = double_is;
        }

  pub regular_pair : (e : Enclosing) → enclosed_of x ≡ Ok e → Encloses x e
  regular_pair e h =
      let k : pair_of (double_case (in_doubles Downward x)) (double_case (in_doubles Upward x)) ≡ Ok e = sym (enclosed_is x g) ∙ h in
      let u = unrefused (double_case (in_doubles Downward x)) (double_case (in_doubles Upward x)) e k in
      let a = inside Downward u.0 u.1.1.0 in
      let b = inside Upward u.1.0 u.1.1.1 in
      let both : Ok e ≡ Ok (record { lower = end_of u.0; upper = end_of u.1.0 }) = sym k ∙ pair_is _ _ u.0 u.1.0 u.1.1.0 u.1.1.1 in
      let same : e ≡ record { lower = end_of u.0; upper = end_of u.1.0 } = cc both in
      rw (same, end_at Downward a.0 a.1 u.0 u.1.1.0, end_at Upward b.0 b.1 u.1.0 u.1.1.1) (regular_encloses a.0 a.1 b.0 b.1)

-- ---- a zero

module _ (x : Operand) (g : WellFormed x) (z : x.is_zero ≡ true) where
  zero_in : (mode : Mode) → in_doubles mode x ≡ zero_of x.negative
  unfolding in_doubles converted_in
  zero_in mode = rw z refl

  zero_at : (mode : Mode) → double_case (in_doubles mode x) ≡ Ok (Exact (double (sign_bit x.negative)))
  unfolding double_case
  zero_at mode = ap double_case (zero_in mode)

  zero_amount : amount 0 x ≡ 0
  unfolding amount
  zero_amount = rw z refl

  zero_size : double_worth (sign_bit x.negative) * 2 ^ double_unit ≡ 0
  zero_size = ap (λ (k : ℕ). k * 2 ^ double_unit) (zero_worth x.negative) ∙ zero-mul (2 ^ double_unit)

  level : (n : Bool) → Le n 0 n 0
  level false = omega arith
  level true = omega arith

  zero_bits : to_bits binary64 (double (sign_bit x.negative)) ≡ sign_bit x.negative
  zero_bits = bits_back (sign_bit x.negative) (zero_lt x.negative) (zero_no_nan x.negative)

  zero_encloses : Encloses x (record { lower = double (sign_bit x.negative); upper = double (sign_bit x.negative) })
  zero_encloses =
      record {
        below = rw (zero_bits, zero_sign x.negative, zero_size, zero_amount) (level x.negative);
        above = rw (zero_bits, zero_sign x.negative, zero_size, zero_amount) (level x.negative);
        equal = λ e. record { bits = sign_bit x.negative; finite = zero_finite x.negative; sign = zero_sign x.negative; worth = zero_size ∙ sym zero_amount };
        double = λ i. refl;
      }

  -- it is told, and encloses the zero
  pub zero_pair : (e : Enclosing) × ((enclosed_of x ≡ Ok e) × Encloses x e)
  unfolding end_of
  zero_pair =
      let zero : Converted = Exact (double (sign_bit x.negative)) in
      (record { lower = end_of zero; upper = end_of zero }, (enclosed_is x g ∙ pair_is _ _ zero zero (zero_at Downward) (zero_at Upward), zero_encloses))

  pub zero_pair_told : (e : Enclosing) → enclosed_of x ≡ Ok e → Encloses x e
  zero_pair_told e h =
      let z = zero_pair in
      let both : Ok e ≡ Ok z.0 = sym h ∙ z.1.0 in
      let same : e ≡ z.0 = cc both in
      rw same z.1.1

-- "where neither is refused, they are equal exactly when the number is a double", and the number lies between them
pub pair_encloses : (x : Operand) → WellFormed x → (e : Enclosing) → enclosed_of x ≡ Ok e → Encloses x e
pair_encloses x g e h = go x.is_zero refl
  where
    go : (b : Bool) → x.is_zero ≡ b → Encloses x e
    go true z = zero_pair_told x g z e h
    go false z = regular_pair x g z e h
