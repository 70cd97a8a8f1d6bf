-- The bounds of document 01: how deep a sum can be at most.
use mathlib.Core.Path.{◌≡◌, refl, sym, ◌∙◌}
use mathlib.Core.Bool.{Bool, true, false, cond, true≢false}
use Prim.Native.Nat.{ℕ, ◌+◌, ◌-◌, ◌*◌, ◌≤◌, ◌<◌, max}
use native.Mathlib.Nat.{le_trans, le_of_lt}
use native.Mathlib.Omega.{arith}
use borrow.Author.Tests.{leb-true, leb-false}
use lib.Dec.{leb}
use Rattle.depth.proofs.Place.{top_ordered}
use Rattle.depth.proofs.Exchange.{fixed_exchange, first_some}
use Rattle.numbers.specs.Limits.{most_precision}
use Rattle.numbers.specs.Operand.{Operand, WellFormed}
use Rattle.numbers.proofs.Limits.{two_digits, precisions_some}
use Rattle.numbers.proofs.Digits.{precision_two}
use Rattle.rounding.specs.declared.Mode.{Mode}
use Rattle.depth.specs.Columns.{top_exponent}
use Rattle.depth.specs.Depth.{plus, Fixed}
use Rattle.depth.specs.Bound.{columns_for, far_columns, bound_of, bound, deepest}
use Rattle.depth.proofs.AllRead.{all_read, read_fixed}
use Rattle.depth.proofs.Far.{far_fixed}

-- ---- the columns that hold n digits

holds : (n : ℕ) → n ≤ 64 * columns_for n
unfolding columns_for
holds n = omega arith

columns_mono : (m n : ℕ) → m ≤ n → columns_for m ≤ columns_for n
unfolding columns_for
columns_mono m n h = omega arith

columns_some : (n : ℕ) → 1 ≤ n → 1 ≤ columns_for n
unfolding columns_for
columns_some n h = omega arith

-- ---- and those that hold m digits and p + 2

far_first : (p m : ℕ) → m ≤ 64 * far_columns p m
unfolding far_columns columns_for
far_first p m = omega arith

far_target : (p m : ℕ) → p + 2 ≤ 64 * far_columns p m
unfolding far_columns columns_for
far_target p m = omega arith

far_some : (p m : ℕ) → 1 ≤ far_columns p m
far_some p m = some (far_columns p m) (far_target p m)
  where
    some : (k : ℕ) → p + 2 ≤ 64 * k → 1 ≤ k
    some k h = omega arith

far_mono : (p m q n : ℕ) → p ≤ q → m ≤ n → far_columns p m ≤ far_columns q n
unfolding far_columns
far_mono p m q n h k = columns_mono (max m (p + 2)) (max n (q + 2)) (both h k)
  where
    both : p ≤ q → m ≤ n → max m (p + 2) ≤ max n (q + 2)
    both h k = omega arith

bound_of_some : (p m n d : ℕ) → 1 ≤ m → 1 ≤ bound_of p m n d
unfolding bound_of
bound_of_some p m n d M = go (leb (64 * far_columns p m) d)
  where
    one : (v : ℕ) → 1 ≤ max m v
    one v = omega arith

    go : (b : Bool) → 1 ≤ cond b (far_columns p m) (columns_for (max m (d + n)))
    go true = far_some p m
    go false = columns_some (max m (d + n)) (one (d + n))

bound_of_most : (p m n d : ℕ) → p ≤ most_precision → m ≤ most_precision → n ≤ most_precision → bound_of p m n d ≤ deepest
unfolding bound_of deepest
bound_of_most p m n d P M N = go (leb (64 * far_columns p m) d) refl
  where
    top : ℕ
    top = far_columns most_precision most_precision

    within : far_columns p m ≤ top
    within = far_mono p m most_precision most_precision P M

    go : (b : Bool) → leb (64 * far_columns p m) d ≡ b → cond b (far_columns p m) (columns_for (max m (d + n))) ≤ columns_for (64 * top - 1 + most_precision)
    go true e = le_trans within (le_trans (self top) (columns_mono (64 * top) (64 * top - 1 + most_precision) (more top (far_target most_precision most_precision))))
      where
        self : (k : ℕ) → k ≤ columns_for (64 * k)
        self k = unfold columns_for in omega arith

        more : (t : ℕ) → most_precision + 2 ≤ 64 * t → 64 * t ≤ 64 * t - 1 + most_precision
        more t h = omega (arith, some)
          where
            some : 1 ≤ most_precision
            some = le_trans (omega arith) (le_trans two_digits precisions_some)
    go false e = columns_mono (max m (d + n)) (64 * top - 1 + most_precision) (less (far_columns p m) top within (leb-false _ _ e) M N)
      where
        less : (c t : ℕ) → c ≤ t → d < 64 * c → m ≤ most_precision → n ≤ most_precision → max m (d + n) ≤ 64 * t - 1 + most_precision
        less c t h l a b = omega arith

-- ---- x has the larger exponent

module _ (o : Mode) (p : ℕ) (P : 0 < p) (x y : Operand) (g : WellFormed x) (h : WellFormed y) (r : x.is_zero ≡ false) (q : y.is_zero ≡ false) (larger : y.exponent ≤ x.exponent) where
  abbrev m : ℕ
  m = x.precision

  abbrev n : ℕ
  n = y.precision

  abbrev d : ℕ
  d = x.exponent - y.exponent

  top : top_exponent x y ≡ x.exponent
  top = top_ordered x y r q larger

  far : 64 * far_columns p m ≤ d → Fixed plus o p x y (far_columns p m)
  far u = far_fixed o p P x y g h r q (far_columns p m) (far_some p m) (gap (far_columns p m) x.exponent y.exponent larger u) (far_first p m) (far_target p m)
    where
      gap : (k a b : ℕ) → b ≤ a → 64 * k ≤ a - b → 64 * k + b ≤ a
      gap k a b h u = omega arith

  near : Fixed plus o p x y (columns_for (max m (d + n)))
  near = read_fixed o p x y g h k (λ e. all_read x (top_exponent x y) k (rw top (first x.exponent m (d + n) (holds (max m (d + n)))))) (λ e. all_read y (top_exponent x y) k (rw top (second m d n (holds (max m (d + n))))))
    where
      k : ℕ
      k = columns_for (max m (d + n))

      first : (e a b : ℕ) {c : ℕ} → max a b ≤ c → a + (e - e) ≤ c
      first e a b h = omega arith

      second : (a b i : ℕ) {c : ℕ} → max a (b + i) ≤ c → i + b ≤ c
      second a b i h = omega arith

  larger_fixed : Fixed plus o p x y (bound_of p m n d)
  unfolding bound_of
  larger_fixed = go (leb (64 * far_columns p m) d) refl
    where
      go : (b : Bool) → leb (64 * far_columns p m) d ≡ b → Fixed plus o p x y (cond b (far_columns p m) (columns_for (max m (d + n))))
      go true e = far (leb-true _ _ e)
      go false e = near

-- ---- any two operands

module _ (p : ℕ) (x y : Operand) (g : WellFormed x) (h : WellFormed y) where
  one_first : 1 ≤ x.precision
  one_first = omega (arith, precision_two x g)

  one_second : 1 ≤ y.precision
  one_second = omega (arith, precision_two y h)

  pub bound_some : 1 ≤ bound p x y
  unfolding bound
  bound_some = go x.is_zero y.is_zero (leb y.exponent x.exponent)
    where
      go : (a b c : Bool)
          → 1 ≤ cond a (columns_for y.precision) (cond b (columns_for x.precision) (cond c (bound_of p x.precision y.precision (x.exponent - y.exponent)) (bound_of p y.precision x.precision (y.exponent - x.exponent))))
      go true b c = columns_some y.precision one_second
      go false true c = columns_some x.precision one_first
      go false false true = bound_of_some p x.precision y.precision (x.exponent - y.exponent) one_first
      go false false false = bound_of_some p y.precision x.precision (y.exponent - x.exponent) one_second

  pub bound_most : p ≤ most_precision → bound p x y ≤ deepest
  unfolding bound
  bound_most P = go x.is_zero y.is_zero (leb y.exponent x.exponent)
    where
      alone : (m : ℕ) → m ≤ most_precision → columns_for m ≤ deepest
      alone m M = unfold deepest in columns_mono m (64 * far_columns most_precision most_precision - 1 + most_precision) (more (far_columns most_precision most_precision) M)
        where
          more : (c : ℕ) → m ≤ most_precision → m ≤ 64 * c - 1 + most_precision
          more c M = omega arith

      go : (a b c : Bool)
          → cond a (columns_for y.precision) (cond b (columns_for x.precision) (cond c (bound_of p x.precision y.precision (x.exponent - y.exponent)) (bound_of p y.precision x.precision (y.exponent - x.exponent)))) ≤ deepest
      go true b c = alone y.precision h.most
      go false true c = alone x.precision g.most
      go false false true = bound_of_most p x.precision y.precision (x.exponent - y.exponent) P g.most h.most
      go false false false = bound_of_most p y.precision x.precision (y.exponent - x.exponent) P h.most g.most

  pub bound_fixed : (o : Mode) → 0 < p → Fixed plus o p x y (bound p x y)
  unfolding bound
  bound_fixed o P = go x.is_zero y.is_zero refl refl
    where
      ended : (e m : ℕ) → m + (e - e) ≤ 64 * columns_for m
      ended e m = plain e m (holds m)
        where
          plain : (e m : ℕ) {c : ℕ} → m ≤ c → m + (e - e) ≤ c
          plain e m h = omega arith

      top_second : x.is_zero ≡ true → top_exponent x y ≡ y.exponent
      top_second r = unfold top_exponent in rw r

      top_first : x.is_zero ≡ false → y.is_zero ≡ true → top_exponent x y ≡ x.exponent
      top_first r q = unfold top_exponent in rw (r, q)

      both : x.is_zero ≡ false → y.is_zero ≡ false → (c : Bool) → leb y.exponent x.exponent ≡ c
          → Fixed plus o p x y (cond c (bound_of p x.precision y.precision (x.exponent - y.exponent)) (bound_of p y.precision x.precision (y.exponent - x.exponent)))
      both r q true e = larger_fixed o p P x y g h r q (leb-true _ _ e)
      both r q false e = fixed_exchange o p P x y (first_some x y r) (bound_of p y.precision x.precision (y.exponent - x.exponent)) (larger_fixed o p P y x h g q r (le_of_lt (leb-false _ _ e)))

      go : (a b : Bool) → x.is_zero ≡ a → y.is_zero ≡ b
          → Fixed plus o p x y (cond a (columns_for y.precision) (cond b (columns_for x.precision) (cond (leb y.exponent x.exponent) (bound_of p x.precision y.precision (x.exponent - y.exponent)) (bound_of p y.precision x.precision (y.exponent - x.exponent)))))
      go true b r q = read_fixed o p x y g h (columns_for y.precision) (λ e. absurd (true≢false (sym r ∙ e))) (λ e. all_read y (top_exponent x y) (columns_for y.precision) (rw (top_second r) (ended y.exponent y.precision)))
      go false true r q = read_fixed o p x y g h (columns_for x.precision) (λ e. all_read x (top_exponent x y) (columns_for x.precision) (rw (top_first r q) (ended x.exponent x.precision))) (λ e. absurd (true≢false (sym q ∙ e)))
      go false false r q = both r q (leb y.exponent x.exponent) refl

-- with today's limits
pub deepest_today : deepest ≡ 129
unfolding deepest far_columns columns_for most_precision
deepest_today = refl
