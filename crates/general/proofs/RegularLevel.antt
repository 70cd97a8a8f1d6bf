-- Two operands of one exponent: the first column in which they differ, and exact cancellation. Assumes nothing.
use mathlib.Core.Path.{◌≡◌, refl, sym, ap, ◌∙◌, subst}
use mathlib.Core.List.{List}
use Prim.Native.Nat.{ℕ, suc, ◌+◌, ◌-◌, ◌*◌, ◌/◌, ◌%◌, ◌^◌, ◌≤◌, ◌<◌}
use native.Mathlib.Numerals.{add-one}
use native.Mathlib.Nat.{div-add-mod'}
use native.Mathlib.Omega.{arith}
use lib.ListN.{length, get_or}
use borrow.Author.Tests.{lt-ltb, ltb-true, ltb-false}
use lib.Dec.{ltb}
use Rattle.bridge.proofs.Told.{pair_same}
use Rattle.columns.specs.Column.{read_to, column_of, limb_below}
use mathlib.Core.Bool.{Bool, true, false, beq, true≢false}
use Prim.Native.Nat.{max, zero-le}
use lib.ListN.{replicate}
use Rattle.limb.specs.Value.{Below}
use Rattle.numbers.specs.Operand.{Operand, WellFormed}
use Rattle.rounding.specs.declared.Mode.{Mode}
use Rattle.rounding.specs.Answer.{zero_of}
use Rattle.rounding.specs.Sum.{zero_sign}
use Rattle.depth.specs.Depth.{plus, result}
use Rattle.place.specs.Placed.{limbs_after}
use Rattle.bridge.specs.Verdict.{pair_of, Ordered}
use Rattle.columns.proofs.Reading.{read_fewer, read_early, column_whole}
use Rattle.bridge.proofs.Decision.{leads}
use Rattle.reports.specs.declared.report.Sum.{Sum}
use Rattle.numbers.specs.Limits.{counted}
use Rattle.rounding.specs.declared.Mode.TheVariants.{Nearest}
use Rattle.checks.specs.declared.Number.{Number}
use Rattle.checks.specs.Number.{operand_of}
use Rattle.descent.specs.Course.{Course}
use Rattle.checks.specs.Room.{Room}
use Rattle.descent.specs.Level.{Level}
use Rattle.general.specs.Differs.{Above}
use Rattle.reports.specs.Counts.{used_of}
use Rattle.reports.specs.Summed.{sum_of, Reported}
use Rattle.descent.proofs.RegularEnd.{deep_enough}
use Rattle.descent.proofs.Cancelled.{limbs_few, no_gap, few, near, depth_told, sum, first_used, second_used}

-- one column more
read_next : (k : ℕ) (l : List ℕ) → read_to (suc k) 0 l ≡ read_to k 0 l * 2 ^ 64 + column_of k 0 l
unfolding column_of
read_next k l =
    let a : read_to (suc k) 0 l / 2 ^ 64 ≡ read_to k 0 l = rw (← add-one k) (read_fewer k 1 0 l) in
    sym (div-add-mod' (read_to (suc k) 0 l) (2 ^ 64)) ∙ ap (λ (n : ℕ). n * 2 ^ 64 + read_to (suc k) 0 l % 2 ^ 64) a

pub level_start : (x y : List ℕ) → Below (2 ^ 64) x → Below (2 ^ 64) y → read_to 0 0 y ≡ read_to 0 0 x
level_start x y a b = read_early 0 y b 0 (omega arith) ∙ sym (read_early 0 x a 0 (omega arith))

module _ (k : ℕ) (x y : List ℕ) (e : read_to k 0 y ≡ read_to k 0 x) (u v : ℕ) (f : u ≡ column_of k 0 x) (g : v ≡ column_of k 0 y) where
  pub next_less : v < u → read_to (suc k) 0 y < read_to (suc k) 0 x
  next_less h = rw (read_next k x, read_next k y, e, ← f, ← g) (go (read_to k 0 x * 2 ^ 64) h)
    where
      go : (a : ℕ) → v < u → a + v < a + u
      go a h = omega arith

  pub next_told : k < max (length x) (length y) → (u ≡ v → ⊥) → (ltb u v ≡ false → Above x y k) × (ltb u v ≡ true → Above y x k)
  next_told h n = (
    (λ t. let l = ltb-false u v t in record { within = h; alike = e; larger = next_less (omega arith) }),
    (λ t. record { within = flip (length x) (length y) h; alike = sym e; larger = more (ltb-true u v t) }),
  )
    where
      flip : (a b : ℕ) → k < max a b → k < max b a
      flip a b h = omega arith

      more : u < v → read_to (suc k) 0 x < read_to (suc k) 0 y
      more h = rw (read_next k x, read_next k y, e, ← f, ← g) (go (read_to k 0 x * 2 ^ 64) h)
        where
          go : (a : ℕ) → u < v → a + u < a + v
          go a h = omega arith

  pub next_same : u ≤ v → v ≤ u → read_to (suc k) 0 y ≡ read_to (suc k) 0 x
  next_same h l = read_next k y ∙ ap (λ (n : ℕ). n * 2 ^ 64 + column_of k 0 y) e ∙ ap (λ (n : ℕ). read_to k 0 x * 2 ^ 64 + n) (sym g ∙ go h l ∙ f) ∙ sym (read_next k x)
    where
      go : u ≤ v → v ≤ u → v ≡ u
      go h l = omega arith

-- ---- two runs of as many limbs, from the top down

-- below k columns of a run at the top of column 0 stands limb i - 1, where i are left
limb_column : (l : List ℕ) → Below (2 ^ 64) l → (k i : ℕ) → 0 < i → k + i ≡ length l → get_or l (i - 1) 0 ≡ column_of k 0 l
unfolding limb_below
limb_column l h k i some left =
    let within : limb_below k l ≡ get_or l (length l - suc k) 0 = rw (lt-ltb k (length l) (omega arith)) refl in
    let at : i - 1 ≡ length l - suc k = omega arith in
    let first : k ≡ k - 0 / 64 = omega arith in
    ap (λ (n : ℕ). get_or l n 0) at ∙ sym within ∙ ap (λ (n : ℕ). limb_below n l) first ∙ column_whole l 0 k h (omega arith) (omega arith)

pub alike_start : (x y : List ℕ) → Below (2 ^ 64) x → Below (2 ^ 64) y → read_to (length x - length x) 0 y ≡ read_to (length x - length x) 0 x
alike_start x y a b = subst (λ (n : ℕ). read_to n 0 y ≡ read_to n 0 x) (none (length x)) (level_start x y a b)
  where
    none : (n : ℕ) → 0 ≡ n - n
    none n = omega arith

module _ (x y : List ℕ) (same : length x ≡ length y) (a : Below (2 ^ 64) x) (b : Below (2 ^ 64) y) (i : ℕ) (some : 0 < i) (left : i ≤ length x) (e : read_to (length x - i) 0 y ≡ read_to (length x - i) 0 x) (u v : ℕ) (f : u ≡ get_or x (i - 1) 0) (g : v ≡ get_or y (i - 1) 0) where
  -- the columns above the next limb
  abbrev passed : ℕ
  passed = length x - 1 - (i - 1)

  passed_is : length x - i ≡ passed
  passed_is = omega arith

  passed_alike : read_to passed 0 y ≡ read_to passed 0 x
  passed_alike = subst (λ (n : ℕ). read_to n 0 y ≡ read_to n 0 x) passed_is e

  next_x : u ≡ column_of passed 0 x
  next_x = f ∙ limb_column x a passed i some (omega arith)

  next_y : v ≡ column_of passed 0 y
  next_y = g ∙ limb_column y b passed i some (omega arith)

  pub alike_told : (u ≡ v → ⊥) → (ltb u v ≡ false → Above x y passed) × (ltb u v ≡ true → Above y x passed)
  alike_told n = next_told passed x y passed_alike u v next_x next_y (omega arith) n

  pub alike_next : u ≡ v → read_to (length x - (i - 1)) 0 y ≡ read_to (length x - (i - 1)) 0 x
  alike_next d = subst (λ (n : ℕ). read_to n 0 y ≡ read_to n 0 x) further (next_same passed x y passed_alike u v next_x next_y (omega arith) (omega arith))
    where
      further : suc passed ≡ length x - (i - 1)
      further = omega arith

pub alike_end : (x y : List ℕ) (i : ℕ) → length x ≡ length y → i ≤ 0 → read_to (length x - i) 0 y ≡ read_to (length x - i) 0 x → read_to (max (length x) (length y)) 0 y ≡ read_to (max (length x) (length y)) 0 x
alike_end x y i same h e = subst (λ (n : ℕ). read_to n 0 y ≡ read_to n 0 x) (all (length x) (length y) same) e
  where
    all : (n m : ℕ) → n ≡ m → n - i ≡ max n m
    all n m e = omega arith

-- ---- where a walk begins

pub course_larger : (x y : Operand) → WellFormed x → WellFormed y → x.is_zero ≡ false → y.exponent < x.exponent → Course x y 0
course_larger x y g h r l =
    let d : Ordered x y = record { first = g; second = h; regular = r; order = λ e. omega arith } in
    record {
      ordered = d;
      sum = λ f. refl;
      level = λ f. read_early (pair_of x y).gap y.limbs h.limb 0 zero-le ∙ sym (read_early 0 x.limbs g.limb 0 zero-le);
      larger = leads x y 1 d (omega arith) l;
      near = zero-le;
    }

pub course_like : (x y : Operand) → WellFormed x → WellFormed y → x.is_zero ≡ false → y.is_zero ≡ false → y.exponent ≤ x.exponent → beq x.negative y.negative ≡ true → Course x y 0
course_like x y g h r e l b = record {
  ordered = record { first = g; second = h; regular = r; order = λ f. l };
  sum = λ f. refl;
  level = λ f. absurd (true≢false (sym (pair_same x y e ∙ b) ∙ f));
  larger = λ f. absurd (true≢false (sym (pair_same x y e ∙ b) ∙ f));
  near = zero-le;
}

pub course_level : (x y : Operand) (k : ℕ) → Level x y → k < max (length x.limbs) (length y.limbs) → read_to k 0 y.limbs ≡ read_to k 0 x.limbs → read_to (suc k) 0 y.limbs < read_to (suc k) 0 x.limbs → Course x y k
course_level x y k l f e h = record {
  ordered = record { first = l.first; second = l.second; regular = l.first_regular; order = λ f. rw l.even (go x.exponent) };
  sum = λ f. absurd (true≢false (sym f ∙ (pair_same x y l.second_regular ∙ l.unlike)));
  level = λ f. rw (no_gap x y l) e;
  larger = λ f. rw (no_gap x y l) h;
  near = omega (arith, deep_enough, limbs_few x l.first, limbs_few y l.second);
}
  where
    go : (n : ℕ) → n ≤ n
    go n = omega arith

pub level_turned : (x y : Operand) → Level x y → Level y x
level_turned x y l = record { first = l.second; second = l.first; first_regular = l.second_regular; second_regular = l.first_regular; even = sym l.even; unlike = turn x.negative y.negative l.unlike }
  where
    turn : (a b : Bool) → beq a b ≡ false → beq b a ≡ false
    turn true true e = e
    turn true false e = refl
    turn false true e = refl
    turn false false e = e

-- ---- exact cancellation

module _ (mode : Mode) (p n : ℕ) (room : Room p n) (x y : Operand) (l : Level x y) (k : ℕ) (ke : k ≡ max (length x.limbs) (length y.limbs)) (e : read_to k 0 y.limbs ≡ read_to k 0 x.limbs) where
  abbrev o : Mode
  o = mode

  pub cancelled_reported : {exit : List ℕ} {s : Sum} {z : Bool} {u v : ℕ} → exit ≡ replicate n 0 → z ≡ zero_sign o x.negative y.negative → u ≡ used_of k 0 (length x.limbs) → v ≡ used_of k 0 (length y.limbs) → s ≡ sum_of (zero_of z) p k u v → Reported plus o p x y exit s
  unfolding result sum_of limbs_after
  cancelled_reported {exit} {s} {z} {u} {v} f zs us vs h =
      let ks : s.depth ≡ k = ap (λ (q : Sum). q.depth) h in
      record {
        depth = rw ks (depth_told o p n room x y l k ke e);
        bounded = rw ks (near o p n room x y l k ke e);
        answer = h ∙ rw (ks, sum o p n room x y l k ke e, zs, us, vs, first_used o p n room x y l k ke e, second_used o p n room x y l k ke e) refl;
        target = f ∙ ap (λ (m : ℕ). replicate m 0) room.count ∙ rw (sum o p n room x y l k ke e) refl;
      }

-- ---- as the code finds it

module _ (x : Number) (xl : List ℕ) (y : Number) (yl : List ℕ) where
  module _ (p n : ℕ) (room : Room p n) (l : Level (operand_of x xl) (operand_of y yl)) (k : ℕ) (ke : k ≡ max (length xl) (length yl)) (e : read_to (max (length xl) (length yl)) 0 yl ≡ read_to (max (length xl) (length yl)) 0 xl) where
    alike_at : read_to k 0 yl ≡ read_to k 0 xl
    alike_at = rw ke e

    pub alike_few : k ≤ 2 ^ 20
    unfolding operand_of
    alike_few = let a = few Nearest p n room (operand_of x xl) (operand_of y yl) l k ke alike_at in omega arith

    pub alike_reported : (mode : Mode) {exit : List ℕ} {s : Sum} {z : Bool} {u v : ℕ} → exit ≡ replicate n 0 → z ≡ zero_sign mode x.negative y.negative → u ≡ used_of k 0 (length xl) → v ≡ used_of k 0 (length yl) → s ≡ sum_of (zero_of z) p k u v
        → Reported plus mode p (operand_of x xl) (operand_of y yl) exit s
    unfolding operand_of
    alike_reported mode f zs us vs h = cancelled_reported mode p n room (operand_of x xl) (operand_of y yl) l k ke alike_at f zs us vs h

  module _ (l : Level (operand_of x xl) (operand_of y yl)) (k : ℕ) where
    pub first_ready : Above xl yl k → Course (operand_of x xl) (operand_of y yl) k
    unfolding operand_of
    first_ready d = course_level (operand_of x xl) (operand_of y yl) k l d.within d.alike d.larger

    pub second_ready : Above yl xl k → Course (operand_of y yl) (operand_of x xl) k
    unfolding operand_of
    second_ready d = course_level (operand_of y yl) (operand_of x xl) k (level_turned (operand_of x xl) (operand_of y yl) l) d.within d.alike d.larger

  module _ (g : WellFormed (operand_of x xl)) (r : (operand_of x xl).is_zero ≡ false) (h : WellFormed (operand_of y yl)) (s : (operand_of y yl).is_zero ≡ false) (a b : ℕ) (ae : a ≡ counted x.exponent) (be : b ≡ counted y.exponent) where
    pub both_first : b < a → Course (operand_of x xl) (operand_of y yl) 0
    unfolding operand_of
    both_first f = course_larger (operand_of x xl) (operand_of y yl) g h r (omega arith)

    pub both_second : a < b → Course (operand_of y yl) (operand_of x xl) 0
    unfolding operand_of
    both_second f = course_larger (operand_of y yl) (operand_of x xl) h g s (omega arith)

    pub both_like : a ≤ b → b ≤ a → beq x.negative y.negative ≡ true → Course (operand_of x xl) (operand_of y yl) 0
    unfolding operand_of
    both_like i j e = course_like (operand_of x xl) (operand_of y yl) g h r s (omega arith) e

    pub both_unlike : a ≤ b → b ≤ a → beq x.negative y.negative ≡ false → Level (operand_of x xl) (operand_of y yl)
    unfolding operand_of
    both_unlike i j e = record { first = g; second = h; first_regular = r; second_regular = s; even = omega arith; unlike = e }
