-- Where two runs of one length part: the limbs above are alike, so that the limbs below have their difference. Assumes nothing.
use mathlib.Core.Path.{◌≡◌, refl, sym, ap, ◌∙◌}
use mathlib.Core.Logic.{inl, inr}
use mathlib.Core.Bool.{true, false, beq, true≢false}
use mathlib.Core.List.{List, [], ◌∷◌}
use Prim.Native.Nat.{ℕ, suc, ◌+◌, ◌-◌, ◌*◌, ◌/◌, ◌^◌, ◌≤◌, ◌<◌}
use native.Mathlib.Nat.{mul-le-mul_left}
use native.Mathlib.Omega.{arith}
use lib.ListN.{length, take, drop, get_or, drop_of_length-le}
use Rattle.limb.specs.Value.{value_of, value_in, Below}
use Rattle.limb.proofs.Value.{value_split, value_take, value_drop, value_take_lt, value_shr, base_pow}
use Rattle.numbers.specs.Operand.{Operand}
use Rattle.rounding.proofs.Order.{le_or_lt}
use Rattle.columns.specs.Column.{read_to}
use Rattle.leap.proofs.Leaping.{read_down}
use Rattle.bridge.specs.Verdict.{pair_of, Ordered, read_sum}
use Rattle.bridge.proofs.Told.{pair_same}
use Rattle.descent.specs.Course.{Course}
use Rattle.descent.proofs.GoingOn.{second_read, sum_is, difference_is}
use Rattle.descent.proofs.Handed.{course_first}
use Rattle.descent.proofs.RegularEnd.{deep_enough}
use Rattle.aligned.specs.Aligned.{Aligned}
use Rattle.aligned.proofs.AllRead.{no_gap}

-- ---- the loop

-- one limb more that is alike
pub alike_more : (n i : ℕ) (a b : List ℕ) → i < n → get_or a (n - 1 - i) 0 ≡ get_or b (n - 1 - i) 0 → value_of (drop (n - i) b) ≡ value_of (drop (n - i) a) → value_of (drop (n - (i + 1)) b) ≡ value_of (drop (n - (i + 1)) a)
alike_more n i a b h e l =
    let j : n - (i + 1) ≡ n - 1 - i = omega arith in
    let k : suc (n - 1 - i) ≡ n - i = omega arith in
    rw (j, value_drop (2 ^ 64) (n - 1 - i) a, value_drop (2 ^ 64) (n - 1 - i) b, k, l, e) refl

pub alike_none : (a b : List ℕ) → length b ≡ length a → value_of (drop (length a - 0) b) ≡ value_of (drop (length a - 0) a)
alike_none a b e =
    let none_a : drop (length a - 0) a ≡ [] = drop_of_length-le a {i = length a - 0} (omega arith) in
    let none_b : drop (length a - 0) b ≡ [] = drop_of_length-le b {i = length a - 0} (omega arith) in
    rw (none_a, none_b) refl

-- ---- columns and limbs

-- the first k columns of a run of no fewer limbs are its top k limbs
read_top : (l : List ℕ) → Below (2 ^ 64) l → (k : ℕ) → k ≤ length l → read_to k 0 l ≡ value_of (drop (length l - k) l)
read_top l below k h =
    sym (read_down k 0 l (omega arith)) ∙ ap (λ (m : ℕ). value_of l / 2 ^ m) (places (length l) h) ∙ ap (λ (m : ℕ). value_of l / m) (sym (base_pow (length l - k))) ∙ value_shr (2 ^ 64) (length l - k) l below
  where
    places : (n : ℕ) → k ≤ n → 64 * n + 0 - 64 * k ≡ 64 * (n - k)
    places n h = omega arith

read_all : (l : List ℕ) → Below (2 ^ 64) l → (n : ℕ) → length l ≡ n → read_to n 0 l ≡ value_of l
read_all l below n e = rw (← e) (read_top l below (length l) (omega arith) ∙ ap (λ (m : ℕ). value_of (drop m l)) none)
  where
    none : length l - length l ≡ 0
    none = omega arith

-- ---- the sum of two operands that are aligned

module _ (x y : Operand) (n : ℕ) (a : Aligned x y n) where
  abbrev X : ℕ
  X = value_of x.limbs

  abbrev Y : ℕ
  Y = value_of y.limbs

  pub ordered : Ordered x y
  ordered = record { first = a.first; second = a.second; regular = a.first_regular; order = λ e. omega (arith, a.even) }

  first_all : read_to n 0 x.limbs ≡ X
  first_all = read_all x.limbs a.first.limb n a.first_limbs

  second_all : read_to n (pair_of x y).gap y.limbs ≡ Y
  second_all = rw (no_gap x y n a) (read_all y.limbs a.second.limb n a.second_limbs)

  -- limbs of one value are alike in every column
  pub read_level : Y ≡ X → read_to n 0 y.limbs ≡ read_to n 0 x.limbs
  read_level e = read_all y.limbs a.second.limb n a.second_limbs ∙ e ∙ sym first_all

  pub same_told : beq x.negative y.negative ≡ true → (pair_of x y).same ≡ true
  same_told e = pair_same x y a.second_regular ∙ e

  pub unlike_told : beq x.negative y.negative ≡ false → (pair_of x y).same ≡ false
  unlike_told e = pair_same x y a.second_regular ∙ e

  pub sum_all : (pair_of x y).same ≡ true → read_sum x y n ≡ X + Y
  unfolding second_read
  sum_all e = sum_is x y n ordered n e ∙ rw (first_all, second_all, a.second_regular) refl

  pub difference_all : (pair_of x y).same ≡ false → read_sum x y n ≡ X - Y
  difference_all e = difference_is x y n ordered n e ∙ rw (first_all, second_all) refl

  pub course_sum : (pair_of x y).same ≡ true → Course x y 0
  course_sum e = course_first x y ordered (λ f. absurd (true≢false (sym e ∙ f)))

-- ---- their difference

-- two such operands whose signs are unlike: z limbs at the top are alike, and the next one of the first is larger
pub record Parted (x y : Operand) (n z : ℕ) : Type 0 where
  pub aligned : Aligned x y n
  pub unlike : beq x.negative y.negative ≡ false
  pub within : z < n
  pub level : value_of (drop (n - z) y.limbs) ≡ value_of (drop (n - z) x.limbs)
  pub larger : get_or y.limbs (n - 1 - z) 0 < get_or x.limbs (n - 1 - z) 0

-- alike above limb i, the first has the larger limb there
module _ (B i : ℕ) (a b : List ℕ) (below : Below B b) (larger : get_or b i 0 < get_or a i 0) where
  pub part_less : value_in B (take (suc i) b) < value_in B (take (suc i) a)
  part_less = omega (arith, value_take B i a, value_take B i b, value_take_lt B i b below, mul-le-mul_left (B ^ i) larger)

module _ (x y : Operand) (n z : ℕ) (t : Parted x y n z) (few : n ≤ 64) where
  abbrev a : Aligned x y n
  a = t.aligned

  pub apart : (pair_of x y).same ≡ false
  apart = unlike_told x y n a t.unlike

  abbrev m : ℕ
  m = n - z

  last : suc (n - 1 - z) ≡ m
  last = omega (arith, t.within)

  -- the limbs below those that are alike
  pub lower_less : value_of (take m y.limbs) < value_of (take m x.limbs)
  lower_less = rw (← last) (part_less (2 ^ 64) (n - 1 - z) x.limbs y.limbs a.second.limb t.larger)

  top_read : (k : ℕ) → k ≤ n → (read_to k 0 x.limbs ≡ value_of (drop (n - k) x.limbs)) × (read_to k (pair_of x y).gap y.limbs ≡ value_of (drop (n - k) y.limbs))
  top_read k h = (rw a.first_limbs at (read_top x.limbs a.first.limb k (omega (arith, a.first_limbs))), rw (no_gap x y n a) (rw a.second_limbs at (read_top y.limbs a.second.limb k (omega (arith, a.second_limbs)))))

  next_larger : value_of (drop (n - suc z) y.limbs) < value_of (drop (n - suc z) x.limbs)
  next_larger =
      let j : n - suc z ≡ n - 1 - z = omega arith in
      rw (j, value_drop (2 ^ 64) (n - 1 - z) x.limbs, value_drop (2 ^ 64) (n - 1 - z) y.limbs, last, t.level) (more (value_of (drop m x.limbs)) t.larger)
    where
      more : (v : ℕ) {i j : ℕ} → i < j → i + 2 ^ 64 * v < j + 2 ^ 64 * v
      more v h = omega arith

  pub course_parted : Course x y z
  course_parted =
      let here = top_read z (omega (arith, t.within)) in
      let next = top_read (suc z) t.within in
      record {
        ordered = ordered x y n a;
        sum = λ e. absurd (true≢false (sym e ∙ apart));
        level = λ e. here.1 ∙ t.level ∙ sym here.0;
        larger = λ e. rw (next.0, next.1) next_larger;
        near = omega (arith, deep_enough, t.within, few);
      }

  -- what is read is the difference of the limbs below
  pub difference_below : read_sum x y n ≡ value_of (take m x.limbs) - value_of (take m y.limbs)
  difference_below =
      difference_all x y n a apart
      ∙ go (value_of (take m x.limbs)) (value_of (take m y.limbs)) (value_of (drop m x.limbs)) (value_of (drop m y.limbs)) ((2 ^ 64) ^ m) (value_split (2 ^ 64) m x.limbs) (value_split (2 ^ 64) m y.limbs) t.level
    where
      go : (u v q r P : ℕ) {X Y : ℕ} → X ≡ u + P * q → Y ≡ v + P * r → r ≡ q → X - Y ≡ u - v
      go u v q r P e f g = let h : P * r ≡ P * q = ap (λ (i : ℕ). P * i) g in omega arith

-- ---- runs of which one is worth more

-- of two runs of one length the place where they part: alike above, and the first larger there
pub record Parts (B : ℕ) (a b : List ℕ) : Type 0 where
  pub place : ℕ
  pub within : place < length a
  pub level : value_in B (drop (length a - place) b) ≡ value_in B (drop (length a - place) a)
  pub larger : get_or b (length a - 1 - place) 0 < get_or a (length a - 1 - place) 0

module _ (B : ℕ) where
  -- in their lowest limb
  parts_last : (h k : ℕ) (t u : List ℕ) → h < B → value_in B t ≤ value_in B u → k + B * value_in B u < h + B * value_in B t → Parts B (h ∷ t) (k ∷ u)
  parts_last h k t u lim le less =
      let same : value_in B u ≡ value_in B t = level (value_in B u) (value_in B t) le less in
      let first : length (h ∷ t) - length t ≡ 1 = omega arith in
      let last : length (h ∷ t) - 1 - length t ≡ 0 = omega arith in
      record { place = length t; within = omega arith; level = rw first same; larger = rw last (omega (arith, ap (λ (m : ℕ). B * m) same)) }
    where
      level : (m n : ℕ) → n ≤ m → k + B * m < h + B * n → m ≡ n
      level m n i j = elim (le_or_lt m n) [ inl l ↦ omega arith | inr l ↦ absurd (omega (arith, mul-le-mul_left B l)) ]

  -- above it
  parts_above : (h k : ℕ) (t u : List ℕ) → Parts B t u → Parts B (h ∷ t) (k ∷ u)
  parts_above h k t u p =
      let first : length (h ∷ t) - p.place ≡ suc (length t - p.place) = omega (arith, p.within) in
      let here : length (h ∷ t) - 1 - p.place ≡ suc (length t - 1 - p.place) = omega (arith, p.within) in
      record { place = p.place; within = omega (arith, p.within); level = rw first p.level; larger = rw here p.larger }

  pub parts : (a b : List ℕ) → length b ≡ length a → Below B a → value_in B b < value_in B a → Parts B a b
  unfolding value_in
  parts [] b e lim less = absurd (omega arith)
  parts (h ∷ t) [] e lim less = absurd (omega arith)
  parts (h ∷ t) (k ∷ u) e lim less = elim (le_or_lt (value_in B t) (value_in B u)) [ inl l ↦ parts_last h k t u (lim 0) l less | inr l ↦ parts_above h k t u (parts t u (omega arith) (λ i. lim (suc i)) l) ]
