-- Two operands of one exponent and unlike signs that are alike in every column: their sum is a zero, and the columns of the longer one are its depth. Assumes nothing.
use mathlib.Core.Path.{◌≡◌, refl, sym, ap, ◌∙◌}
use mathlib.Core.Logic.{inl, inr}
use mathlib.Core.Bool.{Bool, true, false, not, cond, ◌&&◌, true≢false}
use Prim.Native.Nat.{ℕ, ◌+◌, ◌-◌, ◌*◌, ◌/◌, ◌^◌, ◌≤◌, ◌<◌, max}
use native.Mathlib.Nat.{zero-add}
use native.Mathlib.Omega.{arith}
use borrow.Author.Tests.{le-leb, lt-leb, ne_eqb}
use lib.Dec.{ltb, leb, eqb}
use lib.ListN.{length}
use Rattle.numbers.specs.Limits.{most_precision, limbs_for}
use Rattle.numbers.specs.Operand.{Operand, WellFormed}
use Rattle.numbers.proofs.Limits.{two_digits, limbs_hold, limbs_fewest}
use Rattle.rounding.specs.declared.Mode.{Mode}
use Rattle.rounding.specs.Answer.{zero_of}
use Rattle.rounding.specs.Sum.{add, zero_sign}
use Rattle.rounding.proofs.Order.{le_or_lt}
use Rattle.depth.specs.Bound.{deepest}
use Rattle.depth.specs.Columns.{top_exponent, limbs_used}
use Rattle.depth.specs.Depth.{plus, Depth}
use Rattle.decide.specs.Decide.{decide_at}
use Rattle.decide.proofs.Decision.{depth_decided}
use Rattle.reports.specs.Counts.{used_of}
use Rattle.reports.proofs.Counts.{used_is}
use Rattle.columns.specs.Column.{read_to}
use Rattle.columns.proofs.Reading.{read_fewer}
use Rattle.settle.specs.declared.rows.Pair.{Pair}
use Rattle.settle.specs.declared.rows.Row.{Row}
use Rattle.settle.specs.declared.rows.Row.TheVariants.{Exact, Plus, Minus, Hole}
use Rattle.settle.specs.Rows.{row_of, seen_row, far_row}
use Rattle.bridge.specs.Verdict.{pair_of, Ordered, exact?}
use Rattle.bridge.proofs.Told.{pair_same, pair_gap, pair_second, pair_first}
use Rattle.bridge.proofs.Decision.{equal_decision}
use Rattle.bridge.proofs.Answers.{cancelled_sum}
use Rattle.bridge.proofs.Covered.{columns_above}
use Rattle.checks.specs.Room.{Room}
use Rattle.descent.proofs.JudgingRange.{digits_some}
use Rattle.descent.specs.Level.{Level}
use Rattle.descent.proofs.RegularEnd.{deep_enough}

-- the limbs of an operand are few
pub limbs_few : (x : Operand) → WellFormed x → length x.limbs ≤ 64
unfolding most_precision limbs_for
limbs_few x g = let a : x.precision ≤ 4096 = g.most in let b : length x.limbs ≡ (x.precision + 63) / 64 = g.count in omega arith

-- both begin in the first column
pub no_gap : (x y : Operand) → Level x y → (pair_of x y).gap ≡ 0
no_gap x y l = pair_gap x y l.second_regular ∙ rw l.even (go x.exponent)
  where
    go : (n : ℕ) → n - n ≡ 0
    go n = omega arith

-- ---- the last column that leaves something unread

module _ (s : Pair) (k : ℕ) (some : s.second ≡ 0 → ⊥) where
  row_exact : s.first ≤ 64 * k → s.gap + s.second ≤ 64 * k → row_of s k ≡ Exact
  unfolding row_of
  row_exact a b = rw (ne_eqb s.second 0 some, le-leb s.first (64 * k) a, le-leb (s.gap + s.second) (64 * k) b) refl

  far_open : (a b : Bool) (row : Row) → exact? row ≡ false → exact? (cond a Hole (cond b (Plus true (ltb s.gap s.first) true) row)) ≡ false
  unfolding exact?
  far_open true b row e = refl
  far_open false true row e = refl
  far_open false false row e = e

  seen_open : (a b c : Bool) (u : Bool) → exact? (cond a (cond b (Plus false true u) (Plus false false true)) (cond c (Minus (ltb (64 * k) s.first)) (Plus false false true))) ≡ false
  unfolding exact?
  seen_open true true c u = refl
  seen_open true false c u = refl
  seen_open false b true u = refl
  seen_open false b false u = refl

  row_open : (leb s.first (64 * k) && leb (s.gap + s.second) (64 * k)) ≡ false → exact? (row_of s k) ≡ false
  unfolding row_of exact?
  row_open h = rw (ne_eqb s.second 0 some, h) (go (leb (64 * k) s.gap))
    where
      go : (c : Bool) → exact? (cond c (far_row s (64 * k)) (seen_row s (64 * k))) ≡ false
      go true = far_open (leb s.first (64 * k)) s.same (Minus (not (eqb s.first (64 * k + 1) && eqb s.gap (64 * k)))) refl
      go false = seen_open s.same (ltb (64 * k) s.first && ltb (64 * k) (s.gap + s.second)) (ltb (64 * k) (s.gap + s.second)) (not (eqb s.first (64 * k + 1) && eqb (s.gap + s.second) (64 * k + 1)))

-- ---- all columns are alike

module _ (o : Mode) (p n : ℕ) (room : Room p n) (x y : Operand) (l : Level x y) (k : ℕ) (ke : k ≡ max (length x.limbs) (length y.limbs)) (e : read_to k 0 y.limbs ≡ read_to k 0 x.limbs) where
  d : Ordered x y
  d = record { first = l.first; second = l.second; regular = l.first_regular; order = λ f. rw l.even (go x.exponent) }
    where
      go : (n : ℕ) → n ≤ n
      go n = omega arith

  P_pos : 0 < p
  P_pos = digits_some p n room

  apart : (pair_of x y).same ≡ false
  apart = pair_same x y l.second_regular ∙ l.unlike

  first_fits : x.precision ≤ 64 * k
  first_fits = let a : x.precision ≤ 64 * length x.limbs = rw l.first.count (limbs_hold x.precision) in go (length x.limbs) (length y.limbs) a ke
    where
      go : (m n : ℕ) → x.precision ≤ 64 * m → k ≡ max m n → x.precision ≤ 64 * k
      go m n a b = omega arith

  second_fits : y.precision ≤ 64 * k
  second_fits = let a : y.precision ≤ 64 * length y.limbs = rw l.second.count (limbs_hold y.precision) in go (length x.limbs) (length y.limbs) a ke
    where
      go : (m n : ℕ) → y.precision ≤ 64 * n → k ≡ max m n → y.precision ≤ 64 * k
      go m n a b = omega arith

  two : 2 ≤ y.precision
  two = omega (arith, two_digits, l.second.least)

  K : 1 ≤ k
  K = let a = two in let b = second_fits in omega arith

  pub few : k ≤ 64
  few = omega (arith, limbs_few x l.first, limbs_few y l.second)

  pub near : k ≤ deepest
  near = omega (arith, deep_enough, few)

  -- one column fewer leaves a digit of one of them
  longest : 1 < k → (leb x.precision (64 * (k - 1)) && leb y.precision (64 * (k - 1))) ≡ false
  longest h = elim (le_or_lt x.precision (64 * (k - 1))) [ inl a ↦ rw (le-leb x.precision (64 * (k - 1)) a, lt-leb y.precision (64 * (k - 1)) (other a)) refl | inr a ↦ rw (lt-leb x.precision (64 * (k - 1)) a) refl ]
    where
      go : (m n u v : ℕ) → k ≡ max m n → 64 * m < u + 64 → 64 * n < v + 64 → u ≤ 64 * (k - 1) → 64 * (k - 1) < v
      go m n u v a b c f = omega arith

      other : x.precision ≤ 64 * (k - 1) → 64 * (k - 1) < y.precision
      other a = go (length x.limbs) (length y.limbs) x.precision y.precision ke (rw l.first.count (limbs_fewest x.precision)) (rw l.second.count (limbs_fewest y.precision)) a

  level : read_to k (pair_of x y).gap y.limbs ≡ read_to k 0 x.limbs
  level = rw (no_gap x y l) e

  fewer_level : 1 < k → read_to (k - 1) (pair_of x y).gap y.limbs ≡ read_to (k - 1) 0 x.limbs
  fewer_level h =
      let b : k - 1 + 1 ≡ k = omega arith in
      sym (read_fewer (k - 1) 1 (pair_of x y).gap y.limbs) ∙ ap (λ (m : ℕ). m / 2 ^ (64 * 1)) (rw b level) ∙ read_fewer (k - 1) 1 0 x.limbs

  some : (pair_of x y).second ≡ 0 → ⊥
  some f = let a : y.precision ≡ 0 = sym (pair_second x y l.second_regular) ∙ f in let b = two in omega arith

  reach_is : (pair_of x y).gap + (pair_of x y).second ≡ y.precision
  reach_is = rw (no_gap x y l, pair_second x y l.second_regular) (zero-add y.precision)

  row : row_of (pair_of x y) k ≡ Exact
  row = row_exact (pair_of x y) k some (rw (pair_first x y) first_fits) (rw reach_is second_fits)

  fixed : decide_at o p x y k ≡ true
  unfolding exact?
  fixed = equal_decision o p P_pos x y k d K apart level ∙ ap exact? row

  fewer : 1 < k → decide_at o p x y (k - 1) ≡ false
  fewer h = equal_decision o p P_pos x y (k - 1) d (omega arith) apart (fewer_level h) ∙ row_open (pair_of x y) (k - 1) some (rw (pair_first x y, reach_is) (longest h))

  -- these columns fix the answer, and one fewer does not
  pub depth_told : Depth plus o p x y k
  depth_told = record { zeros = λ z. absurd (true≢false (sym z ∙ rw l.first_regular refl)); deciding = λ z. depth_decided o p P_pos x y l.first l.second k K fixed fewer }

  -- which is a zero
  pub sum : add o p x y ≡ zero_of (zero_sign o x.negative y.negative)
  sum = cancelled_sum o p P_pos x y k d K (omega (arith, columns_above x l.first l.first_regular k (omega (arith, near)))) apart level row

  top_level : (m : ℕ) → m ≡ x.exponent → 0 ≡ top_exponent x y - m
  unfolding top_exponent
  top_level m f = rw (l.first_regular, l.second_regular, l.even, f) (go x.exponent)
    where
      go : (n : ℕ) → 0 ≡ max n n - n
      go n = omega arith

  -- the limbs used, as they are counted
  pub first_used : used_of k 0 (length x.limbs) ≡ limbs_used (top_exponent x y) k x
  first_used = used_is x (top_exponent x y) k 0 l.first l.first_regular (top_level x.exponent refl)

  pub second_used : used_of k 0 (length y.limbs) ≡ limbs_used (top_exponent x y) k y
  second_used = used_is y (top_exponent x y) k 0 l.second l.second_regular (top_level y.exponent l.even)
