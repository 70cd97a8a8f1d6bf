-- What is known of columns and depth, over all well-formed operands, for sums and differences, gathered for a reader; the proofs stand in the files that are cited.
-- Besides: today's `deepest` is 129 (Bounds), and the limbs used (Used). The decision on what is read, and document 01's depths, stand in the crate decide.
use mathlib.Core.Path.{◌≡◌, refl, sym, ap, ◌∙◌, subst}
use mathlib.Core.Logic.{◌⊎◌, inl, inr}
use mathlib.Core.Bool.{Bool, true, false, ◌&&◌, true≢false}
use Prim.Native.Nat.{ℕ, ◌+◌, ◌/◌, ◌^◌, ◌≤◌, ◌<◌}
use native.Mathlib.Nat.{le_trans, le_of_eq}
use native.Mathlib.Omega.{arith}
use Rattle.numbers.specs.Limits.{most_precision}
use Rattle.numbers.specs.Operand.{Operand, mantissa, WellFormed}
use Rattle.rounding.specs.declared.Mode.{Mode}
use Rattle.rounding.specs.Sum.{share, scale, add}
use Rattle.depth.specs.Columns.{top_exponent, Agree, Like}
use Rattle.depth.specs.Read.{unread}
use Rattle.depth.specs.Depth.{Operation, plus, result, Fixed, Open, Deciding, Depth}
use Rattle.depth.specs.Bound.{bound, deepest}
use Rattle.depth.proofs.Columns.{quotients_of_columns, columns_of_quotients}
use Rattle.depth.proofs.Amounts.{like_self}
use Rattle.depth.proofs.EndsDecide.{Monotone, between, lx, ly, hx, hy, up, down, like_first, like_second, Cancelling, crosses, Same, FixedBy, OpenBy, same_fixes, same_or_open, Alike, fixed_if, fixed_or}
use Rattle.depth.proofs.Least.{fixed_more, not_both, deciding_unique, find}
use Rattle.depth.proofs.Subtract.{addend, addend_well_formed, addend_precision, addend_exponent, addend_zero, result_is, top_is, fixed_result, fixed_sum, open_result}
use Rattle.depth.proofs.Bounds.{bound_some, bound_most, bound_fixed}
use Rattle.depth.proofs.Another.{another}
use Rattle.depth.proofs.ExactRead.{Exact, first_read, second_read}

-- ---- the exact sums of agreeing pairs lie between a least and a greatest, both attained. (Each is up - down, in units of 2 ^ scale.)

pub record Enclosed (x y : Operand) (k : ℕ) : Type 0 where
  pub least_first : Operand
  pub least_second : Operand
  pub most_first : Operand
  pub most_second : Operand
  pub least_first_like : Like (top_exponent x y) k x least_first
  pub least_second_like : Like (top_exponent x y) k y least_second
  pub most_first_like : Like (top_exponent x y) k x most_first
  pub most_second_like : Like (top_exponent x y) k y most_second
  pub above : (z w : Operand) → Like (top_exponent x y) k x z → Like (top_exponent x y) k y w
      → (share false (scale x y) least_first + share false (scale x y) least_second ≤ share false (scale x y) z + share false (scale x y) w)
      × (share false (scale x y) z + share false (scale x y) w ≤ share false (scale x y) most_first + share false (scale x y) most_second)
  pub below : (z w : Operand) → Like (top_exponent x y) k x z → Like (top_exponent x y) k y w
      → (share true (scale x y) most_first + share true (scale x y) most_second ≤ share true (scale x y) z + share true (scale x y) w)
      × (share true (scale x y) z + share true (scale x y) w ≤ share true (scale x y) least_first + share true (scale x y) least_second)

module _ (x y : Operand) (g : WellFormed x) (h : WellFormed y) (k : ℕ) (K : 1 ≤ k) where
  pub enclosed : Enclosed x y k
  enclosed = record {
    least_first = lx x y g h k K;
    least_second = ly x y g h k K;
    most_first = hx x y g h k K;
    most_second = hy x y g h k K;
    least_first_like = like_first x y g h k K _;
    least_second_like = like_second x y g h k K _;
    most_first_like = like_first x y g h k K _;
    most_second_like = like_second x y g h k K _;
    above = λ z w l m. let b = between x y g h k K z w l m in (b.up_least, b.up_most);
    below = λ z w l m. let b = between x y g h k K z w l m in (b.down_least, b.down_most);
  }

  -- where the least lies below zero and the greatest above it, a pair with the exact sum zero agrees
  pub zero_between : up x y g h k K (lx x y g h k K) (ly x y g h k K) < down x y g h k K (lx x y g h k K) (ly x y g h k K)
      → down x y g h k K (hx x y g h k K) (hy x y g h k K) < up x y g h k K (hx x y g h k K) (hy x y g h k K) → Cancelling x y g h k K
  zero_between = crosses x y g h k K

  -- ---- k columns fix the answer exactly when the two ends have one sign and one answer: over any answer that is monotone in the exact value

  pub ends_decide : {A : Type 0} (ans : ℕ → ℕ → A) → Monotone ans → (Same x y g h k K ans → FixedBy x y g h k K ans) × (FixedBy x y g h k K ans → Same x y g h k K ans)
  ends_decide ans a = (same_fixes x y g h k K ans a, λ f. back f (same_or_open x y g h k K ans a))
    where
      back : FixedBy x y g h k K ans → Same x y g h k K ans ⊎ OpenBy x y g h k K ans → Same x y g h k K ans
      back f (inl e) = e
      back f (inr u) = absurd (u.4 (f u.0 u.1 u.2 u.3))

  -- and so for the answer of demand 2
  pub ends_decide_sum : (o : Mode) (p : ℕ) (P : 0 < p) → (Alike o p x y P g h k K → Fixed plus o p x y k) × (Fixed plus o p x y k → Alike o p x y P g h k K)
  ends_decide_sum o p P = (fixed_if o p x y P g h k K, λ f. back f (fixed_or o p x y P g h k K))
    where
      back : Fixed plus o p x y k → Alike o p x y P g h k K ⊎ Open plus o p x y k → Alike o p x y P g h k K
      back f (inl e) = e
      back f (inr u) = absurd (not_both plus o p x y k f u)

-- ---- every number agrees with itself; where a digit is unread, another agrees too

pub agrees_with_itself : (t k : ℕ) (x : Operand) → WellFormed x → Like t k x x
agrees_with_itself = like_self

pub another_agrees : (t k : ℕ) (x : Operand) → WellFormed x → x.is_zero ≡ false → x.exponent ≤ t → 0 < unread t k x → (z : Operand) × Like t k x z × (z ≡ x → ⊥)
another_agrees t k x g r top h = let a = another t k x g r top h in (a.0, a.1, λ e. a.2 (ap mantissa e))

-- ---- to agree in k columns, bit by bit, is to have the same digits above the unread ones

pub columns_are_digits : (t k : ℕ) (x z : Operand) → WellFormed x → WellFormed z → z.is_zero ≡ x.is_zero → z.precision ≡ x.precision → z.exponent ≡ x.exponent → x.exponent ≤ t → x.is_zero ≡ false
    → (Agree t k x z → mantissa z / 2 ^ unread t k x ≡ mantissa x / 2 ^ unread t k x) × (mantissa z / 2 ^ unread t k x ≡ mantissa x / 2 ^ unread t k x → Agree t k x z)
columns_are_digits t k x z g h s p e top r = (λ a. quotients_of_columns t k x z g h s p e (λ v. top) a r, λ q. columns_of_quotients t k x z g h s p e (λ v. top) (λ v. q))

-- ---- both operations

-- what is read and unread of y is so of what is added
pub unread_addend : (f : Operation) (t k : ℕ) (y : Operand) → unread t k (addend f y) ≡ unread t k y
unfolding unread
unread_addend f t k y = let b = addend_precision f y in let c = addend_exponent f y in cc

module _ (f : Operation) (o : Mode) (p : ℕ) (P : 0 < p) (x y : Operand) (g : WellFormed x) (h : WellFormed y) where
  second : WellFormed (addend f y)
  second = addend_well_formed f y h

  -- each number of columns fixes the answer, or some pair gets another
  pub fixed_or_open : (k : ℕ) → 1 ≤ k → Fixed f o p x y k ⊎ Open f o p x y k
  fixed_or_open k K = elim (fixed_or o p x (addend f y) P g second k K) [
    | inl e ↦ inl (fixed_result f o p x y k (fixed_if o p x (addend f y) P g second k K e))
    | inr u ↦ inr (open_result f o p x y k u)
  ]

  -- once fixed, fixed for more columns
  pub fixed_by_more : (j k : ℕ) → j ≤ k → Fixed f o p x y j → Fixed f o p x y k
  fixed_by_more = fixed_more f o p x y

  -- ---- the depth: there is one, and only one, and it keeps the bounds of document 01

  bound_is : bound p x (addend f y) ≡ bound p x y
  unfolding bound
  bound_is = let a = addend_zero f y in let b = addend_precision f y in let c = addend_exponent f y in cc

  within : Fixed f o p x y (bound p x y)
  within = fixed_result f o p x y (bound p x y) (subst (λ (k : ℕ). Fixed plus o p x (addend f y) k) bound_is (bound_fixed p x (addend f y) g second o P))

  pub depth_exists : (k : ℕ) × (k ≤ bound p x y) × Depth f o p x y k
  depth_exists = go (x.is_zero && y.is_zero) refl
    where
      found : (k : ℕ) × (k ≤ bound p x y) × Deciding f o p x y k
      found = find f o p x y fixed_or_open (bound p x y) (bound_some p x y g h) within

      none : (n : ℕ) → 0 ≤ n
      none n = omega arith

      go : (b : Bool) → (x.is_zero && y.is_zero) ≡ b → (k : ℕ) × (k ≤ bound p x y) × Depth f o p x y k
      go true e = (0, none (bound p x y), record { zeros = λ a. refl; deciding = λ a. absurd (true≢false (sym e ∙ a)) })
      go false e = (found.0, found.1, record { zeros = λ a. absurd (true≢false (sym a ∙ e)); deciding = λ a. found.2 })

  pub depth_unique : (j k : ℕ) → Depth f o p x y j → Depth f o p x y k → j ≡ k
  depth_unique j k a b = go (x.is_zero && y.is_zero) refl
    where
      go : (c : Bool) → (x.is_zero && y.is_zero) ≡ c → j ≡ k
      go true e = a.zeros e ∙ sym (b.zeros e)
      go false e = deciding_unique f o p x y j k (a.deciding e) (b.deciding e)

  pub depth_bounded : (k : ℕ) → Depth f o p x y k → k ≤ bound p x y
  depth_bounded k d = le_trans (le_of_eq (depth_unique k depth_exists.0 d depth_exists.2)) depth_exists.1

  pub depth_never_deeper : p ≤ most_precision → (k : ℕ) → Depth f o p x y k → k ≤ deepest
  depth_never_deeper M k d = le_trans (depth_bounded k d) (bound_most p x y g h M)

  -- ---- "An accepted sum with a regular operand therefore never has ternary 0 while a bit within a regular operand's precision is unread."

  pub exact_is_read : (k : ℕ) → Fixed f o p x y k → Exact (result f o p x y) → (x.is_zero ≡ false → unread (top_exponent x y) k x ≡ 0) × (y.is_zero ≡ false → unread (top_exponent x y) k y ≡ 0)
  exact_is_read k u e = (λ r. first r, λ r. other r)
    where
      sum : Exact (add o p x (addend f y))
      sum = subst Exact (result_is f o p x y) e

      first : x.is_zero ≡ false → unread (top_exponent x y) k x ≡ 0
      first r = subst (λ (t : ℕ). unread t k x ≡ 0) (top_is f x y) (first_read o p P x (addend f y) g second k (fixed_sum f o p x y k u) sum r)

      other : y.is_zero ≡ false → unread (top_exponent x y) k y ≡ 0
      other r = sym (unread_addend f (top_exponent x y) k y) ∙ subst (λ (t : ℕ). unread t k (addend f y) ≡ 0) (top_is f x y) (second_read o p P x (addend f y) g second k (fixed_sum f o p x y k u) sum (addend_zero f y ∙ r))
