-- Where a column is fixed, the answer is that of its run. Assumes nothing.
use mathlib.Core.Path.{◌≡◌, refl, sym, ap, ◌∙◌, subst}
use mathlib.Core.Bool.{Bool, true, false, ◌||◌, true≢false}
use mathlib.Core.List.{[], ◌∷◌}
use Prim.Native.Nat.{ℕ, suc, ◌+◌, ◌-◌, ◌*◌, ◌/◌, ◌%◌, ◌^◌, ◌≤◌, ◌<◌}
use native.Mathlib.Nat.{div-eq_of_lt, lt_of_lt_of_le}
use native.Mathlib.Omega.{arith}
use borrow.Author.Tests.{leb-true}
use mir.Val.{bool_byte}
use lib.Dec.{leb}
use lib.Count.{count_leading_zeros, leading_top}
use lib.Ieee.{size}
use lib.Pow.{pow_mono}
use Rattle.descent.proofs.Inside.{inside_by}
use Rattle.remnant.proofs.Resting.{word_low}
use Rattle.limb.proofs.Tests.{both_true, second_true}
use Rattle.limb.specs.Value.{value_in}
use Rattle.limb.specs.Carry.{bit}
use Rattle.limb.proofs.Carry.{bit_byte}
use Rattle.numbers.specs.Limits.{bias, most_precision, most_exponent}
use Rattle.numbers.proofs.Limits.{two_digits}
use Rattle.numbers.specs.Operand.{Operand}
use Rattle.rounding.specs.Mode.{way}
use Rattle.rounding.specs.declared.Mode.{Mode}
use Rattle.rounding.specs.Answer.{rounded}
use Rattle.rounding.specs.Sum.{add}
use Rattle.decide.specs.Decide.{decide_at}
use Rattle.limb.proofs.Sizes.{size_is}
use Rattle.place.specs.Placed.{run_number}
use Rattle.settle.specs.Rows.{row_of}
use Rattle.settle.specs.declared.rows.Pair.{Pair}
use Rattle.settle.specs.declared.rows.Row.{Row}
use Rattle.bridge.specs.Verdict.{pair_of, Ordered, Leads, read_sum}
use Rattle.descent.specs.Course.{Inside}
use Rattle.narrow.specs.declared.column.Column.{Column}
use Rattle.narrow.specs.Sighting.{Facing}
use Rattle.narrow.specs.Column.{is_whole, is_hole, has_more, Settles, first_read, Found}
use Rattle.narrow.proofs.Answered.{exact_says, plus_says, minus_says, hole_sum_says, hole_difference_says}
use Rattle.narrow.proofs.Rows.{SumCase, DifferenceCase, hole_row, sum_case, difference_case, read, apart, inner, short, less}

-- ---- what is asked

pub sums_fit : (p : ℕ) (pair : Pair) (u : ℕ) → Facing p pair u → pair.gap + pair.second < 2 ^ 64
unfolding most_precision most_exponent bias
sums_fit p pair u f = omega (arith, f.gap, f.high, f.second_few)

-- a limb that begins a column lower has no digit there
pub part_none : (v gap : ℕ) → v < 2 ^ 64 → 64 ≤ gap → v / 2 ^ gap ≡ 0
part_none v gap h l = div-eq_of_lt (lt_of_lt_of_le h (pow_mono {i = 64} l))

pub read_sum_lem : (s : Pair) (u v : ℕ) → s.same ≡ true → first_read s u v ≡ u + v / 2 ^ s.gap
unfolding first_read
read_sum_lem s u v e = rw e refl

pub read_difference : (s : Pair) (u v : ℕ) → s.same ≡ false → first_read s u v ≡ u - v / 2 ^ s.gap
unfolding first_read
read_difference s u v e = rw e refl

-- ---- the number of a run

pub run_plain : (carry : Bool) (limb : ℕ) (more : Bool) (D : ℕ) → limb + 2 ^ 64 * bit carry ≡ D → run_number carry (limb ∷ []) 0 more ≡ 2 * (D * 2 ^ 64) + bit more
unfolding run_number value_in
run_plain carry limb more D e = go (bit carry) limb (bit more) (2 ^ 64) D e
  where
    go : (c l m B D : ℕ) → l + B * c ≡ D → 2 * ((c * B + (l + B * 0)) * B + 0) + m ≡ 2 * (D * B) + m
    go c l m B D e =
        let h : c * B + (l + B * 0) ≡ D = omega arith in
        ap (λ (n : ℕ). 2 * (n * B + 0) + m) h ∙ (let z : 2 * (D * B + 0) + m ≡ 2 * (D * B) + m = omega arith in z)

run_less : (u : ℕ) → 0 < u → run_number false ((u - 1) ∷ []) 18446744073709551615 true ≡ 2 * (u * 2 ^ 64) - 1
unfolding run_number value_in bit
run_less u h = omega arith

-- ---- the answer of a run

-- what is said of all operands of a pair whose first column comes to D
abbrev All : ℕ → Pair → ℕ → ℕ → Type 0
All p pair D N =
    (o : Mode) (x y : Operand) → Ordered x y → y.is_zero ≡ false → pair ≡ pair_of x y → Leads x y 1 → read_sum x y 1 ≡ D
    → (decide_at o p x y 1 ≡ true) × (add o p x y ≡ rounded (way o x.negative) p (x.exponent - 128 - 1) x.negative N)

plain : (p : ℕ) (pair : Pair) (D : ℕ) (carry : Bool) (limb : ℕ) (more : Bool) → limb + 2 ^ 64 * bit carry ≡ D → 0 < D → All p pair D (2 * (D * 2 ^ 64) + bit more)
    → Settles p pair D (record { carry = carry; limb = limb; guard = 0; more = more })
plain p pair D carry limb more e pos h = record { led = led carry e; answers = rw (run_plain carry limb more D e) h }
  where
    led : (c : Bool) → limb + 2 ^ 64 * bit c ≡ D → c ≡ false → 0 < limb
    led true e f = absurd (true≢false f)
    led false e f = unfold bit in omega arith

-- ---- the digits of a column

low_digits : (sum c D e : ℕ) → e ≤ 64 → sum + 2 ^ 64 * c ≡ D → D % 2 ^ e ≡ sum % 2 ^ e
low_digits sum c D e h is = ap (λ (n : ℕ). n % 2 ^ e) (let z : D ≡ c * 2 ^ 64 + sum = omega arith in z) ∙ word_low c sum e h

-- what the test on the last digits says of D, which has n digits
inside_of : (p n sum c D : ℕ) → sum + 2 ^ 64 * c ≡ D → size D ≡ n → p < n → n - p ≤ 64 → (1 ≤ sum % 2 ^ (n - p - 1)) × (sum % 2 ^ (n - p - 1) + 1 < 2 ^ (n - p - 1)) → Inside p D
inside_of p n sum c D is size_D long few t = inside_by p n D sum size_D long (low_digits sum c D (n - p - 1) (omega arith) is) t

pub digits_are : (limb : ℕ) → 0 < limb → limb < 2 ^ 64 → size limb ≡ 64 - count_leading_zeros 64 limb
digits_are limb h l = let t = leading_top 64 limb h l in size_is limb t.0 t.2 t.3 ∙ (let z : suc t.0 ≡ 64 - count_leading_zeros 64 limb = omega (arith, t.1) in z)

pub limb_inside : (p n limb : ℕ) → size limb ≡ n → p < n → n ≤ 64 → (1 ≤ limb % 2 ^ (n - p - 1)) × (limb % 2 ^ (n - p - 1) + 1 < 2 ^ (n - p - 1)) → Inside p limb
limb_inside p n limb e long few t = inside_of p n limb 0 limb (omega arith) e long (omega arith) t

sum_size : (u low sum : ℕ) (carry : Bool) → 2 ^ 63 ≤ u → sum < 2 ^ 64 → sum + 2 ^ 64 * bit carry ≡ u + low → size (u + low) ≡ 64 + bit carry
unfolding bit
sum_size u low sum true h l e = size_is (u + low) 64 (omega arith) (omega arith)
sum_size u low sum false h l e = size_is (u + low) 63 (omega arith) (omega arith)

-- the row of a pair is that of its operands
pub here : (pair : Pair) (x y : Operand) → pair ≡ pair_of x y → {row : Row} → row_of pair 1 ≡ row → row_of (pair_of x y) 1 ≡ row
here pair x y is e = ap (λ (s : Pair). row_of s 1) (sym is) ∙ e

module _ (p : ℕ) (pair : Pair) (u : ℕ) (f : Facing p pair u) where
  P : 0 < p
  P = omega (arith, two_digits, f.least)

  -- ---- a sum

  module _ (same : pair.same ≡ true) (low sum : ℕ) (carry : Bool) (is : sum + 2 ^ 64 * bit carry ≡ u + low + bit false) (lt : sum < 2 ^ 64) where
    e : sum + 2 ^ 64 * bit carry ≡ u + low
    unfolding bit
    e = is ∙ flat (u + low)
      where
        flat : (n : ℕ) → n + 0 ≡ n
        flat n = omega arith

    sum_pos : 0 < u + low
    sum_pos = omega (arith, f.led)

    -- without a carry, the first digit is still the first operand's
    pub sum_led : carry ≡ false → 2 ^ 63 ≤ sum
    sum_led none = go carry none e
      where
        go : (c : Bool) → c ≡ false → sum + 2 ^ 64 * bit c ≡ u + low → 2 ^ 63 ≤ sum
        go true i is = absurd (true≢false i)
        go false i is = unfold bit in omega (arith, f.led)

    sum_inside : (1 ≤ sum % 2 ^ (64 + bit carry - p - 1)) × (sum % 2 ^ (64 + bit carry - p - 1) + 1 < 2 ^ (64 + bit carry - p - 1)) → Inside p (u + low)
    sum_inside t = inside_of p (64 + bit carry) sum (bit carry) (u + low) e (sum_size u low sum carry f.led lt e) (long carry) (few carry) t
      where
        long : (c : Bool) → p < 64 + bit c
        long true = unfold bit in omega (arith, f.most)
        long false = unfold bit in omega (arith, f.most)

        few : (c : Bool) → 64 + bit c - p ≤ 64
        few true = unfold bit in omega (arith, P)
        few false = unfold bit in omega (arith, P)

    pub sum_settles : (is_whole pair ≡ false → is_hole pair ≡ false → (1 ≤ sum % 2 ^ (64 + bool_byte carry - p - 1)) × (sum % 2 ^ (64 + bool_byte carry - p - 1) + 1 < 2 ^ (64 + bool_byte carry - p - 1)))
        → Settles p pair (u + low) (record { carry = carry; limb = sum; guard = 0; more = leb 64 pair.gap })
    sum_settles i = plain p pair (u + low) carry sum (leb 64 pair.gap) e sum_pos (all (sum_case pair f.second_some same))
      where
        all : SumCase pair → All p pair (u + low) (2 * ((u + low) * 2 ^ 64) + bit (leb 64 pair.gap))
        all (read row g) o x y d reg is lead D = rw (g, ← D) (exact_says p P o x y d lead (here pair x y is row))
        all (apart row g) o x y d reg is lead D = rw (g, ← D) (unfold bit in hole_sum_says p P o x y d lead f.most (here pair x y is row) (ap (λ (s : Pair). s.same) (sym is) ∙ same))
        all (inner next most row a b) o x y d reg is lead D = rw (← D) (plus_says p P o x y d lead (rw D (sum_inside (rw (bit_byte carry) (i a b)))) _ next most (here pair x y is row))

  -- ---- a difference

  module _ (same : pair.same ≡ false) where
    pub difference_settles : is_hole pair ≡ false → (D : ℕ) (whole inside more : Bool) → whole ≡ is_whole pair → more ≡ has_more pair → 0 < D → (inside ≡ true → Inside p D) → (whole || inside) ≡ true
        → Settles p pair D (record { carry = false; limb = D; guard = 0; more = more })
    difference_settles none D whole inside more ew em pos i t = plain p pair D false D more (unfold bit in omega arith) pos (rw em (all (difference_case pair f.second_some same none)))
      where
        all : DifferenceCase pair → All p pair D (2 * (D * 2 ^ 64) + bit (has_more pair))
        all (read row g) o x y d reg is lead e = rw (g, ← e) (exact_says p P o x y d lead (here pair x y is row))
        all (short row g a) o x y d reg is lead e = rw (g, ← e) (plus_says p P o x y d lead (rw e (i (second_true whole inside t (ew ∙ a)))) false false true (here pair x y is row))
        all (less row a) o x y d reg is lead e = rw (← e) (minus_says p P o x y d lead (rw e (i (second_true whole inside t (ew ∙ a)))) _ (here pair x y is row))

    pub hole_found : is_hole pair ≡ true → (v : ℕ) → v < 2 ^ 64 → (r : Column) → r ≡ record { carry = false; limb = u - 1; guard = 18446744073709551615; more = true } → Found p pair u v r
    hole_found hole v lt r is = record { ahead = λ e. rw none (omega (arith, f.led)); settles = subst (λ (n : ℕ). Settles p pair n r) (sym (read_difference pair u v same ∙ ap (λ (n : ℕ). u - n) none ∙ flat u)) (rw is settles) }
      where
        none : v / 2 ^ pair.gap ≡ 0
        none = part_none v pair.gap lt (leb-true 64 pair.gap (both_true (leb pair.first 64) (leb 64 pair.gap) hole).1)

        flat : (n : ℕ) → n - 0 ≡ n
        flat n = omega arith

        all : All p pair u (2 * (u * 2 ^ 64) - 1)
        all o x y d reg is lead e = rw (← e) (hole_difference_says p P o x y d lead f.most (here pair x y is (hole_row pair f.second_some hole)) (ap (λ (s : Pair). s.same) (sym is) ∙ same))

        settles : Settles p pair u (record { carry = false; limb = u - 1; guard = 18446744073709551615; more = true })
        settles = record { led = λ e. omega (arith, f.led); answers = rw (run_less u (omega (arith, f.led))) all }

    pub difference_found : (v low : ℕ) → low ≡ v / 2 ^ pair.gap → low < u → (r : Column) → Settles p pair (u - low) r → Found p pair u v r
    difference_found v low e lt r h = record { ahead = λ g. rw (← e) lt; settles = subst (λ (n : ℕ). Settles p pair n r) (sym (read_difference pair u v same ∙ ap (λ (n : ℕ). u - n) (sym e))) h }

  pub sum_found : pair.same ≡ true → (v low : ℕ) → low ≡ v / 2 ^ pair.gap → (r : Column) → Settles p pair (u + low) r → Found p pair u v r
  sum_found same v low e r h = record { ahead = λ g. absurd (true≢false (sym same ∙ g)); settles = subst (λ (n : ℕ). Settles p pair n r) (sym (read_sum_lem pair u v same ∙ ap (λ (n : ℕ). u + n) (sym e))) h }
