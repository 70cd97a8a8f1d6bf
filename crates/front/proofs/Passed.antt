-- Laws of columns passed over: none, one more, and those below the first column. Assumes nothing.
use mathlib.Core.Path.{◌≡◌, sym, ap, ◌∙◌}
use mathlib.Core.Bool.{Bool, true, false}
use mathlib.Core.List.{List}
use Prim.Native.Nat.{ℕ, zero, suc, ◌+◌, ◌-◌, ◌*◌, ◌^◌, ◌≤◌, ◌<◌}
use native.Mathlib.Nat.{mul-one, pow-zero}
use native.Mathlib.Numerals.{add-one}
use native.Mathlib.Omega.{arith}
use lib.Bits.{bit_or, or_add_and, and_le_l, and_le_r}
use Rattle.columns.specs.Column.{read_to, column_of}
use Rattle.columns.proofs.Reading.{read_more, column_lt}
use Rattle.walk.proofs.Tails.{column_weight}
use Rattle.settle.specs.declared.rows.Pair.{Pair}
use Rattle.front.specs.Passing.{NotPast, PassedZeros, PassedOnes, PassedAlike, PassedBelow}

-- no digit of either is 1: both are 0
both_zero : (a b : ℕ) → bit_or a b ≡ 0 → a + b ≡ 0
both_zero a b h = omega (arith, or_add_and a b, and_le_l a b, and_le_r a b)

-- ---- a column more, over plain numbers: of the operands A and C is read, then B times as much and a, c; W is the weight of the columns passed before

module _ (B W A C a c : ℕ) where
  zeros_more : (X : ℕ) → A + C ≡ X * W → a + c ≡ 0 → A * B + a + (C * B + c) ≡ X * (B * W)
  zeros_more X e none = omega (arith, ap (λ (n : ℕ). n * B) e)

  ones_more : (X : ℕ) → suc (A + C) ≡ X * W → suc (a + c) ≡ B → suc (A * B + a + (C * B + c)) ≡ X * (B * W)
  ones_more X e full = omega (arith, ap (λ (n : ℕ). n * B) e)

  alike_more : (X Y : ℕ) → A + Y * W ≡ C + X * W → a ≡ c → A * B + a + Y * (B * W) ≡ C * B + c + X * (B * W)
  alike_more X Y e same = omega (arith, ap (λ (n : ℕ). n * B) e)

-- ---- no column passed

pub within_none : (k stop : ℕ) → NotPast k stop k
within_none k stop = record { on = omega arith; within = λ h. h }

weight_none : (x k : ℕ) → x ≡ x * 2 ^ (64 * (k - k))
weight_none x k = let none : 64 * (k - k) ≡ 0 = omega arith in sym (ap (λ (n : ℕ). x * 2 ^ n) none ∙ ap (λ (n : ℕ). x * n) (pow-zero 2) ∙ mul-one x)

module _ (gap : ℕ) (first second : List ℕ) (k : ℕ) where
  pub zeros_none : PassedZeros gap first second k k
  zeros_none = weight_none (read_to k 0 first + read_to k gap second) k

  pub ones_none : PassedOnes gap first second k k
  ones_none = weight_none (suc (read_to k 0 first + read_to k gap second)) k

  pub alike_none : PassedAlike gap first second k k
  alike_none = omega (arith, weight_none (read_to k 0 first) k, weight_none (read_to k gap second) k)

-- ---- column k passed, after those from `from` on

pub within_on : (from stop k : ℕ) → NotPast from stop k → k < stop → NotPast from stop (k + 1)
within_on from stop k w more = record { on = omega (arith, w.on); within = λ h. omega arith }

module _ (gap : ℕ) (first second : List ℕ) (from k : ℕ) (on : from ≤ k) where
  weight_on : 2 ^ (64 * (suc k - from)) ≡ 2 ^ 64 * 2 ^ (64 * (k - from))
  weight_on = let one : suc k - from ≡ suc (k - from) = omega arith in ap (λ (n : ℕ). 2 ^ (64 * n)) one ∙ column_weight (k - from)

  pub zeros_on : PassedZeros gap first second from k → bit_or (column_of k 0 first) (column_of k gap second) ≡ 0 → PassedZeros gap first second from (k + 1)
  zeros_on e none =
      rw (add-one k, read_more 0 first k, read_more gap second k, weight_on)
      (zeros_more _ _ _ _ _ _ _ e (both_zero _ _ none))

  pub ones_on : PassedOnes gap first second from k → column_of k 0 first ≡ 18446744073709551615 - column_of k gap second → PassedOnes gap first second from (k + 1)
  ones_on e full =
      let all : suc (column_of k 0 first + column_of k gap second) ≡ 2 ^ 64 = omega (arith, column_lt gap second k) in
      rw (add-one k, read_more 0 first k, read_more gap second k, weight_on)
      (ones_more _ _ _ _ _ _ _ e all)

  pub alike_on : PassedAlike gap first second from k → column_of k 0 first ≡ column_of k gap second → PassedAlike gap first second from (k + 1)
  alike_on e same =
      rw (add-one k, read_more 0 first k, read_more gap second k, weight_on)
      (alike_more _ _ _ _ _ _ _ _ e same)

-- ---- all columns from the second to column r

module _ (Q : ℕ → Type 0) (start : Q 1) where
  pub each_on : (P : ℕ → Type 0) → ((k : ℕ) → 1 ≤ k → P k → Q k → Q (k + 1)) → (r : ℕ) → 1 ≤ r → ((k : ℕ) → 1 ≤ k → k < r → P k) → Q r
  each_on P on zero some all = absurd (omega arith)
  each_on P on (suc zero) some all = start
  each_on P on (suc (suc r)) some all =
      let upper : 1 ≤ suc r = omega arith in
      let last : suc r < suc (suc r) = omega arith in
      rw (← add-one (suc r)) (on (suc r) upper (all (suc r) upper last) (each_on P on (suc r) upper (λ k l m. all k l (omega arith))))

module _ (gap : ℕ) (first second : List ℕ) (r : ℕ) (some : 1 ≤ r) where
  pub zeros_all : ((k : ℕ) → 1 ≤ k → k < r → bit_or (column_of k 0 first) (column_of k gap second) ≡ 0) → PassedZeros gap first second 1 r
  zeros_all = each_on (PassedZeros gap first second 1) (zeros_none gap first second 1) (λ k. bit_or (column_of k 0 first) (column_of k gap second) ≡ 0) (λ k l p e. zeros_on gap first second 1 k l e p) r some

  pub ones_all : ((k : ℕ) → 1 ≤ k → k < r → column_of k 0 first ≡ 18446744073709551615 - column_of k gap second) → PassedOnes gap first second 1 r
  ones_all = each_on (PassedOnes gap first second 1) (ones_none gap first second 1) (λ k. column_of k 0 first ≡ 18446744073709551615 - column_of k gap second) (λ k l p e. ones_on gap first second 1 k l e p) r some

  pub alike_all : ((k : ℕ) → 1 ≤ k → k < r → column_of k 0 first ≡ column_of k gap second) → PassedAlike gap first second 1 r
  alike_all = each_on (PassedAlike gap first second 1) (alike_none gap first second 1) (λ k. column_of k 0 first ≡ column_of k gap second) (λ k l p e. alike_on gap first second 1 k l e p) r some

-- ---- the columns after the first, by what the first and the signs are

module _ (pair : Pair) (odd : Bool) (first second : List ℕ) (r : ℕ) where
  pub below_zeros : pair.same ≡ true → odd ≡ false → PassedZeros pair.gap first second 1 r → PassedBelow pair odd first second r
  below_zeros s o e = record { zeros = λ x y. e; ones = λ x y. cc; alike = λ x y. cc; none = λ x y. cc }

  pub below_ones : pair.same ≡ true → odd ≡ true → PassedOnes pair.gap first second 1 r → PassedBelow pair odd first second r
  below_ones s o e = record { zeros = λ x y. cc; ones = λ x y. e; alike = λ x y. cc; none = λ x y. cc }

  pub below_alike : pair.same ≡ false → odd ≡ false → PassedAlike pair.gap first second 1 r → PassedBelow pair odd first second r
  below_alike s o e = record { zeros = λ x y. cc; ones = λ x y. cc; alike = λ x y. e; none = λ x y. cc }
