-- Limbs compared from the top: the first difference decides the order of the whole lists. Assumes nothing.
use mathlib.Core.Path.{◌≡◌, refl, sym, ap, ◌∙◌, subst}
use mathlib.Core.List.{List}
use mathlib.Core.Bool.{Bool, true, false, cond}
use Prim.Native.Nat.{Ordering}
use Prim.Native.Nat.{ℕ, zero, suc, ◌+◌, ◌-◌, ◌*◌, ◌^◌, ◌≤◌, ◌<◌, zero-le, compare}
use native.Mathlib.Nat.{le_trans, le_of_eq, lt_of_le_of_lt, le-add_right, add_comm, mul-le-mul_left, pow-succ', pow-zero, add-zero, mul-one}
use native.Mathlib.Omega.{arith}
use native.Mathlib.Numerals.{add-one}
use lib.Dec.{ltb}
use lib.ListN.{length, get_or, drop}
use lib.Seq.{drop-length}
use borrow.Author.Tests.{lt-ltb, le-ltb}
use Rattle.limb.specs.Value.{value_in, value_of, Below}
use Rattle.limb.proofs.Value.{value_drop, value_nil}
use Rattle.rounding.proofs.Order.{compare_at}
use Rattle.order.specs.Steps.{from_top, aligned_order}

pub from_top_within : (l : List ℕ) (i : ℕ) → i < length l → from_top l i ≡ get_or l (length l - 1 - i) 0
unfolding from_top
from_top_within l i h = rw (lt-ltb i (length l) h)

pub from_top_past : (l : List ℕ) (i : ℕ) → length l ≤ i → from_top l i ≡ 0
unfolding from_top
from_top_past l i h = rw (le-ltb i (length l) h)

module _ (B : ℕ) where
  -- the i limbs at the top as a whole number; below the lowest stand zeros
  unfoldable pub head : ℕ → List ℕ → ℕ
  head zero l = 0
  head (suc i) l = B * head i l + from_top l i

  head_within : (l : List ℕ) (i : ℕ) → i ≤ length l → head i l ≡ value_in B (drop (length l - i) l)
  unfolding head
  head_within l zero h = sym (ap (value_in B) (ap (λ (n : ℕ). drop n l) (none (length l)) ∙ drop-length l) ∙ value_nil B)
    where
      none : (n : ℕ) → n - 0 ≡ n
      none n = omega arith
  head_within l (suc i) h =
      ap (λ (n : ℕ). B * n + from_top l i) (head_within l i (below i (length l) h)) ∙ ap (λ (n : ℕ). B * value_in B (drop (length l - i) l) + n) (from_top_within l i h)
      ∙ swap (value_in B (drop (length l - i) l)) (get_or l (length l - 1 - i) 0)
      ∙ ap (λ (n : ℕ). get_or l (length l - 1 - i) 0 + B * value_in B (drop n l)) (up i (length l) h)
      ∙ sym (value_drop B (length l - 1 - i) l) ∙ ap (λ (n : ℕ). value_in B (drop n l)) (down i (length l))
    where
      below : (i n : ℕ) → suc i ≤ n → i ≤ n
      below i n h = omega arith

      swap : (a b : ℕ) → B * a + b ≡ b + B * a
      swap a b = omega arith

      up : (i n : ℕ) → suc i ≤ n → n - i ≡ suc (n - 1 - i)
      up i n h = omega arith

      down : (i n : ℕ) → n - 1 - i ≡ n - suc i
      down i n = omega arith

  pub head_whole : (l : List ℕ) → head (length l) l ≡ value_in B l
  head_whole l = head_within l (length l) (le_of_eq refl) ∙ ap (λ (n : ℕ). value_in B (drop n l)) (none (length l))
    where
      none : (n : ℕ) → n - n ≡ 0
      none n = omega arith

  -- past the end every limb is 0
  pub head_past : (l : List ℕ) (i k : ℕ) → length l ≤ i → head (i + k) l ≡ head i l * B ^ k
  unfolding head
  head_past l i zero h = ap (λ (n : ℕ). head n l) (add-zero i) ∙ sym (ap (λ (n : ℕ). head i l * n) (pow-zero B) ∙ mul-one (head i l))
  head_past l i (suc k) h =
      ap (λ (n : ℕ). head n l) (one_more i k)
      ∙ ap (λ (n : ℕ). B * head (i + k) l + n) (from_top_past l (i + k) (le_trans h (le-add_right i k)))
      ∙ ap (λ (n : ℕ). B * n + 0) (head_past l i k h)
      ∙ move (head i l) (B ^ k) ∙ ap (λ (n : ℕ). head i l * n) (sym (pow-succ' B k))
    where
      one_more : (i k : ℕ) → i + suc k ≡ suc (i + k)
      one_more i k = omega arith

      move : (a b : ℕ) → B * (a * b) + 0 ≡ a * (B * b)
      move a b = omega arith

  -- a difference stays
  pub head_lt : (x y : List ℕ) → ((i : ℕ) → from_top x i < B) → (i k : ℕ) → head i x < head i y → head (i + k) x < head (i + k) y
  unfolding head
  head_lt x y below i zero h = subst (λ (n : ℕ). head n x < head n y) (sym (add-zero i)) h
  head_lt x y below i (suc k) h =
      subst (λ (n : ℕ). head n x < head n y) (one_more i k) (step (head (i + k) x) (head (i + k) y) (from_top x (i + k)) (from_top y (i + k)) (below (i + k)) (head_lt x y below i k h))
    where
      one_more : (i k : ℕ) → suc (i + k) ≡ i + suc k
      one_more i k = omega arith

      step : (a b c d : ℕ) → c < B → a < b → B * a + c < B * b + d
      step a b c d g h = omega (arith, mul-le-mul_left B h)

from_top_below : (B : ℕ) (l : List ℕ) → Below B l → (i : ℕ) → from_top l i < B
unfolding from_top
from_top_below B l h i = go (ltb i (length l))
  where
    go : (b : Bool) → cond b (get_or l (length l - 1 - i) 0) 0 < B
    go true = h (length l - 1 - i)
    go false = lt_of_le_of_lt zero-le (h 0)

-- ---- the order of two lists, from the limbs at the top of each

module _ (x y : List ℕ) where
  aligned_at : aligned_order x y ≡ compare (head (2 ^ 64) (length x + length y) x) (head (2 ^ 64) (length x + length y) y)
  unfolding aligned_order
  aligned_at =
      ap (λ (n : ℕ). compare n (value_of y * (2 ^ 64) ^ length x)) (sym (padded x (length y)))
      ∙ ap (compare (head (2 ^ 64) (length x + length y) x)) (sym (ap (λ (n : ℕ). head (2 ^ 64) n y) (add_comm (length x) (length y)) ∙ padded y (length x)))
    where
      padded : (l : List ℕ) (k : ℕ) → head (2 ^ 64) (length l + k) l ≡ value_of l * (2 ^ 64) ^ k
      padded l k = head_past (2 ^ 64) l (length l) k (le_of_eq refl) ∙ ap (λ (n : ℕ). n * (2 ^ 64) ^ k) (head_whole (2 ^ 64) l)

  -- all equal, down to the lowest limb of each
  pub aligned_eq : (i : ℕ) → length x ≤ i → length y ≤ i → i ≤ length x + length y → head (2 ^ 64) i x ≡ head (2 ^ 64) i y → aligned_order x y ≡ Ordering.eq
  aligned_eq i hx hy h e =
      let k = length x + length y - i in
      let n : i + k ≡ length x + length y = omega arith in
      aligned_at
      ∙ compare_at Ordering.eq _ _ (subst (λ (m : ℕ). head (2 ^ 64) m x ≡ head (2 ^ 64) m y) n (head_past (2 ^ 64) x i k hx ∙ ap (λ (m : ℕ). m * (2 ^ 64) ^ k) e ∙ sym (head_past (2 ^ 64) y i k hy)))

module _ (x y : List ℕ) (i : ℕ) (h : i < length x + length y) where
  lower_later : Below (2 ^ 64) x → head (2 ^ 64) i x ≡ head (2 ^ 64) i y → from_top x i < from_top y i → head (2 ^ 64) (length x + length y) x < head (2 ^ 64) (length x + length y) y
  unfolding head
  lower_later b e l =
      let k = length x + length y - suc i in
      let n : suc i + k ≡ length x + length y = omega arith in
      subst (λ (m : ℕ). head (2 ^ 64) m x < head (2 ^ 64) m y) n
      (head_lt (2 ^ 64) x y (from_top_below (2 ^ 64) x b) (suc i) k (first (2 ^ 64) (head (2 ^ 64) i x) (head (2 ^ 64) i y) (from_top x i) (from_top y i) e l))
    where
      first : (B a b c d : ℕ) → a ≡ b → c < d → B * a + c < B * b + d
      first B a b c d e l = omega (arith, ap (λ (n : ℕ). B * n) e)

-- the first difference decides
pub aligned_lt : (x y : List ℕ) (i : ℕ) → i < length x + length y → Below (2 ^ 64) x → head (2 ^ 64) i x ≡ head (2 ^ 64) i y → from_top x i < from_top y i → aligned_order x y ≡ Ordering.lt
aligned_lt x y i h b e l = aligned_at x y ∙ compare_at Ordering.lt _ _ (lower_later x y i h b e l)

pub aligned_gt : (x y : List ℕ) (i : ℕ) → i < length x + length y → Below (2 ^ 64) y → head (2 ^ 64) i x ≡ head (2 ^ 64) i y → from_top y i < from_top x i → aligned_order x y ≡ Ordering.gt
aligned_gt x y i h b e l =
    aligned_at x y
    ∙ compare_at Ordering.gt _ _ (subst (λ (n : ℕ). head (2 ^ 64) n y < head (2 ^ 64) n x) (add_comm (length y) (length x)) (lower_later y x i (subst (λ (n : ℕ). i < n) (add_comm (length x) (length y)) h) b (sym e) l))

-- one limb more
pub head_next : (x y : List ℕ) (i : ℕ) → head (2 ^ 64) i x ≡ head (2 ^ 64) i y → from_top x i ≡ from_top y i → head (2 ^ 64) (i + 1) x ≡ head (2 ^ 64) (i + 1) y
unfolding head
head_next x y i e f = rw add-one (ap (λ (n : ℕ). 2 ^ 64 * n + from_top x i) e ∙ ap (λ (n : ℕ). 2 ^ 64 * head (2 ^ 64) i y + n) f)

pub head_none : (x y : List ℕ) → head (2 ^ 64) 0 x ≡ head (2 ^ 64) 0 y
unfolding head
head_none x y = refl

-- two lists of as many limbs, of which i are left
module _ (x y : List ℕ) (same : length x ≡ length y) (i : ℕ) (some : 0 < i) (left : i ≤ length x) (e : head (2 ^ 64) (length x - i) x ≡ head (2 ^ 64) (length x - i) y) where
  next_x : from_top x (length x - i) ≡ get_or x (i - 1) 0
  next_x = from_top_within x (length x - i) (omega arith) ∙ ap (λ (n : ℕ). get_or x n 0) (omega arith)

  next_y : from_top y (length x - i) ≡ get_or y (i - 1) 0
  next_y = from_top_within y (length x - i) (omega arith) ∙ ap (λ (n : ℕ). get_or y n 0) (omega arith)

  pub alike_lt : Below (2 ^ 64) x → get_or x (i - 1) 0 < get_or y (i - 1) 0 → aligned_order x y ≡ Ordering.lt
  alike_lt b l = aligned_lt x y (length x - i) (omega arith) b e (omega (arith, next_x, next_y))

  pub alike_gt : Below (2 ^ 64) y → get_or y (i - 1) 0 < get_or x (i - 1) 0 → aligned_order x y ≡ Ordering.gt
  alike_gt b l = aligned_gt x y (length x - i) (omega arith) b e (omega (arith, next_x, next_y))

  pub alike_next : get_or x (i - 1) 0 ≡ get_or y (i - 1) 0 → head (2 ^ 64) (length x - (i - 1)) x ≡ head (2 ^ 64) (length x - (i - 1)) y
  alike_next f = subst (λ (n : ℕ). head (2 ^ 64) n x ≡ head (2 ^ 64) n y) further (head_next x y (length x - i) e (next_x ∙ f ∙ sym next_y))
    where
      further : length x - i + 1 ≡ length x - (i - 1)
      further = omega arith

pub alike_none : (x y : List ℕ) → head (2 ^ 64) (length x - length x) x ≡ head (2 ^ 64) (length x - length x) y
alike_none x y = subst (λ (n : ℕ). head (2 ^ 64) n x ≡ head (2 ^ 64) n y) (none (length x)) (head_none x y)
  where
    none : (n : ℕ) → 0 ≡ n - n
    none n = omega arith
