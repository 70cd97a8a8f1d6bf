-- Zero and a regular number is the regular number re-rounded; and a number re-rounded to its own precision, or a larger one, is itself.
use mathlib.Core.Path.{◌≡◌, refl, sym, ap, ◌∙◌}
use mathlib.Core.Bool.{Bool, true, false, cond, true≢false}
use Prim.Native.Nat.{Ordering}
use Prim.Native.Nat.{ℕ, zero, suc, ◌+◌, ◌-◌, ◌*◌, ◌/◌, ◌^◌, ◌≤◌, ◌<◌, compare, min}
use native.Mathlib.Nat.{le_refl, sub_self, mul-one, lt_of_lt_of_le, mul-div_cancel}
use native.Mathlib.Omega.{arith}
use lib.Pow.{pow_pos, pow_mono}
use lib.Ieee.{size}
use Rattle.numbers.specs.Limits.{least_exponent, most_precision}
use Rattle.numbers.specs.Operand.{Operand, mantissa, last_weight, WellFormed, turned, zero_like}
use Rattle.numbers.proofs.Limits.{weights_counted}
use Rattle.numbers.proofs.Digits.{precision_two, mantissa_lt, mantissa_ge, turned_well_formed}
use Rattle.rounding.specs.Mode.{way}
use Rattle.rounding.specs.declared.Mode.{Mode}
use Rattle.rounding.specs.Select.{chosen}
use Rattle.rounding.specs.Answer.{zero_of, number, digits, signed, rounded, answer}
use Rattle.rounding.specs.Sum.{scale, amount, share, zero_sign, sum_at, add, subtract, reround}
use Rattle.rounding.specs.Paper.{kept}
use Rattle.rounding.proofs.Order.{compare_at}
use Rattle.rounding.proofs.Ends.{plus, minus, regular}
use Rattle.rounding.proofs.Selection.{multiple}
use Rattle.limb.proofs.Sizes.{size_is}
use Rattle.rounding.proofs.Scale.{exact}
use Rattle.rounding.proofs.Range.{accepted}
use Rattle.rounding.proofs.Zeros.{share_as, share_other, share_zero, add_commutes}

-- ---- a regular number and a zero

mantissa_some : (x : Operand) → WellFormed x → x.is_zero ≡ false → 0 < mantissa x
mantissa_some x g r = lt_of_lt_of_le (pow_pos (x.precision - 1)) (mantissa_ge x g r)

unit_is : (x y : Operand) → x.is_zero ≡ false → y.is_zero ≡ true → scale x y ≡ last_weight x
unfolding scale
unit_is x y r u = go x.is_zero y.is_zero r u
  where
    go : (a b : Bool) → a ≡ false → b ≡ true → cond a (last_weight y) (cond b (last_weight x) (min (last_weight x) (last_weight y))) ≡ last_weight x
    go true b r u = absurd (true≢false r)
    go false true r u = refl
    go false false r u = absurd (true≢false (sym u))

amount_own : (x : Operand) → x.is_zero ≡ false → amount (last_weight x) x ≡ mantissa x
unfolding amount
amount_own x r = go x.is_zero r
  where
    go : (a : Bool) → a ≡ false → cond a 0 (mantissa x * 2 ^ (last_weight x - last_weight x)) ≡ mantissa x
    go true r = absurd (true≢false r)
    go false r = ap (λ (e : ℕ). mantissa x * 2 ^ e) (sub_self (last_weight x)) ∙ mul-one (mantissa x)

-- whatever the zero's sign, precision and limbs: the regular number's digits, rounded
pub regular_and_zero : (o : Mode) (p : ℕ) (x y : Operand) → 0 < p → WellFormed x → x.is_zero ≡ false → y.is_zero ≡ true
    → add o p x y ≡ rounded (way o x.negative) p (last_weight x) x.negative (mantissa x)
unfolding add sum_at
regular_and_zero o p x y P g r u = rw (unit_is x y r u) (go x.negative refl)
  where
    s : ℕ
    s = last_weight x

    z : Bool
    z = zero_sign o x.negative y.negative

    M : ℕ
    M = mantissa x

    more : (m : ℕ) → 0 < m → 0 + 0 < m + 0
    more m h = omega arith

    rest : (m : ℕ) → m + 0 - (0 + 0) ≡ m
    rest m = omega arith

    go : (n : Bool) → x.negative ≡ n → answer z o p s (share false s x + share false s y) (share true s x + share true s y) ≡ rounded (way o n) p s n M
    go false e =
        rw (share_as false s x e, share_other true s x e, share_zero false s y u, share_zero true s y u, amount_own x r)
        (plus z o p s P (M + 0) (0 + 0) (more M (mantissa_some x g r)) ∙ ap (rounded (way o false) p s false) (rest M))
    go true e =
        rw (share_as true s x e, share_other false s x e, share_zero false s y u, share_zero true s y u, amount_own x r)
        (minus z o p s P (0 + 0) (M + 0) (more M (mantissa_some x g r)) ∙ ap (rounded (way o true) p s true) (rest M))

pub reround_is : (o : Mode) (p : ℕ) (x : Operand) → 0 < p → WellFormed x → x.is_zero ≡ false → reround o p x ≡ rounded (way o x.negative) p (last_weight x) x.negative (mantissa x)
unfolding reround zero_like
reround_is o p x P g r = regular_and_zero o p x (zero_like x) P g r refl

-- "Zero and a regular number: the regular number re-rounded."
pub regular_plus_zero : (o : Mode) (p : ℕ) (x y : Operand) → 0 < p → WellFormed x → x.is_zero ≡ false → y.is_zero ≡ true → add o p x y ≡ reround o p x
regular_plus_zero o p x y P g r u = regular_and_zero o p x y P g r u ∙ sym (reround_is o p x P g r)

pub zero_plus_regular : (o : Mode) (p : ℕ) (x y : Operand) → 0 < p → WellFormed y → x.is_zero ≡ true → y.is_zero ≡ false → add o p x y ≡ reround o p y
zero_plus_regular o p x y P g u r = add_commutes o p x y P ∙ regular_plus_zero o p y x P g r u

pub regular_minus_zero : (o : Mode) (p : ℕ) (x y : Operand) → 0 < p → WellFormed x → x.is_zero ≡ false → y.is_zero ≡ true → subtract o p x y ≡ reround o p x
unfolding subtract turned
regular_minus_zero o p x y P g r u = regular_plus_zero o p x (turned y) P g r u

pub zero_minus_regular : (o : Mode) (p : ℕ) (x y : Operand) → 0 < p → WellFormed y → x.is_zero ≡ true → y.is_zero ≡ false → subtract o p x y ≡ reround o p (turned y)
unfolding subtract turned
zero_minus_regular o p x y P g u r = zero_plus_regular o p x (turned y) P (turned_well_formed y g) u r

-- a regular number is never re-rounded to a zero
pub reround_never_zero : (o : Mode) (p : ℕ) (x : Operand) (t : Bool) → 0 < p → WellFormed x → x.is_zero ≡ false → reround o p x ≡ zero_of t → ⊥
reround_never_zero o p x t P g r e = regular (way o x.negative) p (last_weight x) x.negative t (mantissa x) (sym (reround_is o p x P g r) ∙ e)

-- ---- to its own precision or a larger one

-- a regular number has as many digits as its precision says, and its exponent is that of the first
width : (x : Operand) → WellFormed x → x.is_zero ≡ false → size (mantissa x) ≡ x.precision
width x g r = go x.precision (precision_two x g) (mantissa_ge x g r) (mantissa_lt x g)
  where
    less : (q : ℕ) → suc q - 1 ≡ q
    less q = omega arith

    go : (q : ℕ) → 2 ≤ q → 2 ^ (q - 1) ≤ mantissa x → mantissa x < 2 ^ q → size (mantissa x) ≡ q
    go zero h l k = absurd (omega arith)
    go (suc q) h l k = size_is (mantissa x) q (rw less at l) k

first_weight : (x : Operand) → WellFormed x → x.is_zero ≡ false → size (mantissa x) + last_weight x ≡ x.exponent
unfolding last_weight
first_weight x g r = ap (λ (q : ℕ). q + (x.exponent - x.precision)) (width x g r) ∙ back x.precision x.exponent g.most (g.regular r).least
  where
    back : (q e : ℕ) → q ≤ most_precision → least_exponent ≤ e → q + (e - q) ≡ e
    back q e h k = omega (arith, weights_counted)

digits_longer : (p m : ℕ) → size m ≤ p → digits p m ≡ m * 2 ^ (p - size m)
unfolding digits
digits_longer p m h = ap (λ (a : ℕ). a / 2 ^ size m) (multiple m p (size m) h) ∙ mul-div_cancel (m * 2 ^ (p - size m)) (pow_pos (size m))

level_sign : (n : Bool) → signed n Ordering.eq ≡ Ordering.eq
unfolding signed
level_sign true = refl
level_sign false = refl

-- re-rounded to its own precision or a larger one, a number is itself, and exact
pub reround_longer : (o : Mode) (p : ℕ) (x : Operand) → WellFormed x → x.is_zero ≡ false → x.precision ≤ p
    → reround o p x ≡ number x.negative x.exponent (mantissa x * 2 ^ (p - x.precision)) Ordering.eq
reround_longer o p x g r l =
    let n = x.negative in
    let c : chosen (way o n) p M ≡ M = exact (way o n) p M some (record { digits = M; shift = 0; few = lt_of_lt_of_le (mantissa_lt x g) (pow_mono l); is = sym (mul-one M) }) in
    let e = first_weight x g r in
    let z = width x g r in
    let d : digits p M ≡ M * 2 ^ (p - q) = digits_longer p M (rw z l) ∙ ap (λ (i : ℕ). M * 2 ^ (p - i)) z in
    let t : signed n (compare M M) ≡ Ordering.eq = ap (signed n) (compare_at Ordering.eq M M refl) ∙ level_sign n in
    reround_is o p x some g r
    ∙ accepted (way o n) p (last_weight x) n M (rw (c, e) (g.regular r).least) (rw (c, e) (g.regular r).most)
    ∙ ap (kept p (last_weight x) n M) c ∙ cc
  where
    q : ℕ
    q = x.precision

    M : ℕ
    M = mantissa x

    some : 0 < p
    some = let t = precision_two x g in omega arith

pub reround_own : (o : Mode) (x : Operand) → WellFormed x → x.is_zero ≡ false → reround o x.precision x ≡ number x.negative x.exponent (mantissa x) Ordering.eq
reround_own o x g r =
    reround_longer o x.precision x g r (le_refl x.precision)
    ∙ ap (λ (d : ℕ). number x.negative x.exponent d Ordering.eq) (ap (λ (i : ℕ). mantissa x * 2 ^ i) (sub_self x.precision) ∙ mul-one (mantissa x))
