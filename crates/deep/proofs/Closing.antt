-- Why a column fixes the answer: the columns below the first lie inside a half, or nothing is unread. The first column is then rounded, and what lies below it only counts as more. Assumes nothing.
use mathlib.Core.Path.{◌≡◌, refl, sym, ap, ◌∙◌, subst}
use mathlib.Core.Logic.{inl, inr}
use mathlib.Core.Bool.{Bool, true, false, not, ◌||◌, true≢false}
use mathlib.Core.List.{List, [], ◌∷◌}
use Prim.Native.Nat.{ℕ, suc, ◌+◌, ◌-◌, ◌*◌, ◌/◌, ◌%◌, ◌^◌, ◌≤◌, ◌<◌}
use native.Mathlib.Nat.{mod-lt, mod-eq_of_lt, mul-add-mod_self_right, mul-le-mul_right, suc-mul}
use native.Mathlib.Omega.{arith}
use borrow.Author.Tests.{eq-eqb, ne_eqb}
use lib.Dec.{eqb}
use lib.ListN.{length, get_or}
use lib.Pow.{pow-add, pow_pos, mod-pow-add}
use lib.Ieee.{size}
use Rattle.limb.specs.Value.{value_in}
use Rattle.limb.specs.Carry.{bit}
use Rattle.limb.proofs.Carry.{bit_le}
use Rattle.limb.proofs.Sizes.{size_part}
use Rattle.numbers.specs.Operand.{Operand}
use Rattle.rounding.specs.Mode.{Way, way}
use Rattle.rounding.specs.declared.Mode.{Mode}
use Rattle.rounding.specs.Answer.{rounded}
use Rattle.rounding.specs.Sum.{add}
use Rattle.depth.specs.Bound.{deepest}
use Rattle.decide.specs.Decide.{decide_at}
use Rattle.decide.proofs.Carry.{size_pos}
use Rattle.place.specs.Placed.{run_number}
use Rattle.walk.specs.declared.state.Tail.{Tail}
use Rattle.walk.specs.declared.state.Tail.TheVariants.{Mixed}
use Rattle.walk.specs.Window.{TailIs}
use Rattle.walk.proofs.Walking.{tail_lt}
use Rattle.settle.specs.Rows.{row_of}
use Rattle.settle.specs.declared.rows.Pair.{Pair}
use Rattle.settle.specs.declared.rows.Row.{Row}
use Rattle.settle.specs.declared.rows.Row.TheVariants.{Exact, Plus, Minus, Hole}
use Rattle.bridge.specs.Verdict.{pair_of, Ordered, Leads, read_sum, settled_by, more_of, test_by, verdict}
use Rattle.bridge.proofs.Told.{pair_gap}
use Rattle.bridge.proofs.Decision.{decision}
use Rattle.bridge.proofs.Theorems.{leads_later, row_sum, hole_place}
use Rattle.bridge.proofs.Refine.{enough_digits, refine, scaled_up}
use Rattle.bridge.proofs.Covered.{columns_above}
use Rattle.descent.specs.Course.{Inside}
use Rattle.descent.proofs.Inside.{inside_plus, inside_minus}
use Rattle.descent.proofs.RegularEnd.{deep_enough}
use Rattle.front.specs.declared.showing.Front.{Front}
use Rattle.front.specs.Front.{first_of, ShowsFront}
use Rattle.wide.specs.declared.filling.Filled.{Filled}
use Rattle.wide.specs.Filling.{Holding, Rounds}
use Rattle.deep.specs.Reading.{inner_row, Ends, FrontFilled}

-- the answer is fixed by k columns, and it is the first of them, rounded; `more` says whether anything lies below it
abbrev pub RoundsFirst : Mode → ℕ → Operand → Operand → ℕ → Front → Bool → Type 0
RoundsFirst o p x y k front more =
    (decide_at o p x y k ≡ true) × (add o p x y ≡ rounded (way o x.negative) p (x.exponent - 64 * (1 + 1) - 1) x.negative (run_number front.carry (front.limb ∷ []) 0 more))

-- ---- the first column

-- where it carries nothing its limb has a first digit
pub led : (p : ℕ) (front : Front) → p < size (first_of front) → front.carry ≡ false → 0 < front.limb
unfolding first_of bit
led p front h e = go front.limb (rw e at h)
  where
    go : (n : ℕ) → p < size (0 * 2 ^ 64 + n) → 0 < n
    go n h = omega (arith, size_pos (0 * 2 ^ 64 + n) (omega arith))

-- it is a run above an empty guard
run_is : (front : Front) (more : Bool) → 2 * (first_of front * 2 ^ (64 * 1)) + bit more ≡ run_number front.carry (front.limb ∷ []) 0 more
unfolding first_of run_number value_in
run_is front more = go (bit front.carry) front.limb (bit more) (2 ^ 64)
  where
    go : (c n m B : ℕ) → 2 * ((c * B + n) * B) + m ≡ 2 * ((c * B + (n + B * 0)) * B + 0) + m
    go c n m B = omega arith

-- ---- a number whose last t digits are neither all 0 nor all 1

module _ (p D t n S : ℕ) (value : D ≡ S * 2 ^ t + n) (some : 0 < n) (room : suc n < 2 ^ t) where
  last_is : D % 2 ^ t ≡ n
  last_is = ap (λ (m : ℕ). m % 2 ^ t) value ∙ mul-add-mod_self_right S (2 ^ t) n ∙ mod-eq_of_lt (omega arith)

  -- so are more of them
  longer_mixed : (e : ℕ) → (1 ≤ D % 2 ^ (e + t)) × (D % 2 ^ (e + t) + 1 < 2 ^ (e + t))
  longer_mixed e = go (D / 2 ^ t % 2 ^ e) (D % 2 ^ (e + t)) (2 ^ (e + t)) (2 ^ t) (2 ^ e) (mod-lt (D / 2 ^ t) (pow_pos e)) (mod-pow-add D e t ∙ ap (λ (m : ℕ). D / 2 ^ t % 2 ^ e * 2 ^ t + m) last_is) (pow-add 2 e t) room
    where
      go : (q r u v h : ℕ) → q < h → r ≡ q * v + n → u ≡ h * v → suc n < v → (1 ≤ r) × (r + 1 < u)
      go q r u v h l a b c = (omega (arith, some), omega (arith, mul-le-mul_right v l, suc-mul q v))

  -- and what lies below p digits above them is inside a half
  mixed_inside : p + t < size D → Inside p D
  mixed_inside long =
      let e : size D - p - 1 - t + t ≡ size D - p - 1 = omega arith in
      let m = subst (λ (i : ℕ). (1 ≤ D % 2 ^ i) × (D % 2 ^ i + 1 < 2 ^ i)) e (longer_mixed (size D - p - 1 - t)) in
      record { longer = omega arith; some = m.0; below = m.1 }

-- ---- a row that is settled after k columns

module _ (o : Mode) (p : ℕ) (P : 0 < p) (x y : Operand) (pair : Pair) (first second : List ℕ) (h : Holding x y pair first second) (k : ℕ) (K : 1 ≤ k) (near : k ≤ deepest) where
  abbrev w : Way
  w = way o x.negative

  abbrev D : ℕ
  D = read_sum x y k

  abbrev d : Ordered x y
  d = h.course.ordered

  lead : Leads x y k
  lead = subst (Leads x y) (places k K) (leads_later x y 1 (k - 1) h.course.larger)
    where
      places : (k : ℕ) → 1 ≤ k → 1 + (k - 1) ≡ k
      places k h = omega arith

  above : (j : ℕ) → j ≤ k + 1 → 64 * j + 1 ≤ x.exponent
  above j l = columns_above x d.first d.regular j (let i = deep_enough in omega arith)

  row_here : (row : Row) → row_of pair k ≡ row → row_of (pair_of x y) k ≡ row
  row_here row e = ap (λ (s : Pair). row_of s k) (sym h.pair_is) ∙ e

  row_fixed : (row : Row) → settled_by w p D row ≡ true → verdict o p x y k row ≡ true
  unfolding verdict test_by settled_by
  row_fixed Exact s = refl
  row_fixed (Plus least next most) s = rw s refl
  row_fixed (Minus most) s = rw s refl
  row_fixed Hole s = absurd (true≢false (sym s))

  -- what lies below the first column is seen only as whether there is any
  module _ (front : Front) (rest : ℕ) (value : D ≡ first_of front * 2 ^ (64 * (k - 1)) + rest) (small : rest < 2 ^ (64 * (k - 1))) (long : p < size (first_of front)) where
    abbrev F : ℕ
    F = first_of front

    abbrev unit : ℕ
    unit = x.exponent - 64 * k

    moved : (m : Bool) → rounded w p (unit - 1) x.negative (2 * D + bit m)
        ≡ rounded w p (x.exponent - 64 * (1 + 1) - 1) x.negative (run_number front.carry (front.limb ∷ []) 0 (m || not (eqb rest 0)))
    moved m =
        let more : Bool = m || not (eqb rest 0) in
        let up = above k (omega arith) in
        let up_two = above (1 + 1) (omega arith) in
        ap (λ (n : ℕ). rounded w p (unit - 1) x.negative (2 * n + bit m)) value
        ∙ refine w p P x.negative unit F (k - 1) rest (some x.exponent k up) small m (enough_digits w p F long)
        ∙ ap (λ (n : ℕ). rounded w p (n - 1) x.negative (2 * F + bit more)) (top x.exponent k K up)
        ∙ sym (scaled_up w p P x.negative (x.exponent - 64) F 1 more (below x.exponent up_two) (size_pos F (omega arith)) (λ e. enough_digits w p F long))
        ∙ ap (λ (n : ℕ). rounded w p (n - 1) x.negative (2 * (F * 2 ^ (64 * 1)) + bit more)) (place x.exponent)
        ∙ ap (rounded w p (x.exponent - 64 * (1 + 1) - 1) x.negative) (run_is front more)
      where
        some : (e k : ℕ) → 64 * k + 1 ≤ e → 1 ≤ e - 64 * k
        some e k h = omega arith

        top : (e k : ℕ) → 1 ≤ k → 64 * k + 1 ≤ e → e - 64 * k + 64 * (k - 1) ≡ e - 64
        top e k h l = omega arith

        below : (e : ℕ) → 64 * (1 + 1) + 1 ≤ e → 64 * 1 + 1 ≤ e - 64
        below e h = omega arith

        place : (e : ℕ) → e - 64 - 64 * 1 ≡ e - 64 * (1 + 1)
        place e = omega arith

    settled_rounds : (row : Row) → row_of pair k ≡ row → settled_by w p D row ≡ true → (more : Bool) → (more_of row || not (eqb rest 0)) ≡ more → RoundsFirst o p x y k front more
    settled_rounds row is s more e =
        let here = row_here row is in (
          decision o p P x y k d K lead ∙ ap (verdict o p x y k) here ∙ row_fixed row s,
          row_sum o p P x y k d K lead row here (above k (omega arith)) s ∙ moved (more_of row)
              ∙ ap (λ (b : Bool). rounded w p (x.exponent - 64 * (1 + 1) - 1) x.negative (run_number front.carry (front.limb ∷ []) 0 b)) e,
        )

  -- ---- a column that ends the reading

  module _ (front : Front) (s : ShowsFront front (k - 1) (read_sum x y k)) (long : p < size (first_of front)) where
    abbrev t : ℕ
    t = 64 * (k - 1)

    small_rest : s.rest < 2 ^ t
    small_rest = tail_lt front.tail (k - 1) s.rest s.tail

    digits : p + t < size D
    digits = omega (arith, ap size s.value ∙ size_part (first_of front) t s.rest (size_pos (first_of front) (omega arith)) small_rest)

    read_rounds : row_of pair k ≡ Exact → (more : Bool) → more ≡ not (eqb s.rest 0) → RoundsFirst o p x y k front more
    unfolding settled_by more_of
    read_rounds is more e = settled_rounds front s.rest s.value small_rest long Exact is refl more (sym e)

    module _ (mixed : front.tail ≡ Mixed) (gap : pair.gap < 64) where
      tail : TailIs Mixed (k - 1) s.rest
      tail = subst (λ (z : Tail). TailIs z (k - 1) s.rest) mixed s.tail

      inside : Inside p D
      inside = mixed_inside p D t s.rest (first_of front) s.value tail.1 tail.2 digits

      mixed_settled : (row : Row) → row_of pair k ≡ row → settled_by w p D row ≡ true
      unfolding settled_by
      mixed_settled Exact is = refl
      mixed_settled (Plus least next most) is = inside_plus p D inside w least (bit next) (bit_le next) most
      mixed_settled (Minus most) is = inside_minus p D inside P w most
      mixed_settled Hole is = absurd (clash (x.exponent - y.exponent) k (hole_place o p P x y k d K (row_here Hole is)).1 (subst (λ (n : ℕ). n < 64) (ap (λ (q : Pair). q.gap) h.pair_is ∙ pair_gap x y h.regular) gap) K)
        where
          clash : (g k : ℕ) → 64 * k ≤ g → g < 64 → 1 ≤ k → ⊥
          clash g k a b c = omega arith

      mixed_more : not (eqb s.rest 0) ≡ true
      mixed_more = ap not (ne_eqb s.rest 0 (λ e. omega (arith, tail.1)))

      mixed_rounds : (more : Bool) → more ≡ not (eqb s.rest 0) → RoundsFirst o p x y k front more
      mixed_rounds more e = settled_rounds front s.rest s.value small_rest long (row_of pair k) refl (mixed_settled (row_of pair k) refl) more (either (more_of (row_of pair k)) ∙ sym e)
        where
          either : (m : Bool) → (m || not (eqb s.rest 0)) ≡ not (eqb s.rest 0)
          either true = sym mixed_more
          either false = refl

  pub ends_rounds : (front : Front) → ShowsFront front (k - 1) (read_sum x y k) → pair.gap < 64 → Ends p pair front k
      → (more : Bool) → ((t rest : ℕ) → TailIs front.tail t rest → more ≡ not (eqb rest 0)) → RoundsFirst o p x y k front more
  ends_rounds front s gap ends more told = elim ends.ends [
    | inl mixed ↦ mixed_rounds front s ends.long mixed gap more (told (k - 1) s.rest s.tail)
    | inr exact ↦ read_rounds front s ends.long exact more (told (k - 1) s.rest s.tail)
  ]

-- ---- the first column alone

-- nothing is read below it
pub none_below : (more : Bool) → (more || not (eqb 0 0)) ≡ more
none_below true = refl
none_below false = ap not (eq-eqb 0 0 refl)

-- below a sum nothing is then counted, below a difference something
inner_more : (same : Bool) → more_of (inner_row same) ≡ not same
unfolding more_of inner_row
inner_more true = refl
inner_more false = refl

pub first_rounds : (o : Mode) (p : ℕ) → 0 < p → (x y : Operand) (pair : Pair) (first second : List ℕ) → Holding x y pair first second
    → (front : Front) → first_of front ≡ read_sum x y 1 → p < size (first_of front) → row_of pair 1 ≡ inner_row pair.same → settled_by (way o x.negative) p (read_sum x y 1) (inner_row pair.same) ≡ true → RoundsFirst o p x y 1 front (not pair.same)
first_rounds o p P x y pair first second h front is long row s =
    settled_rounds o p P x y pair first second h 1 (omega arith) (let i = deep_enough in omega arith) front 0 (sym is ∙ whole (first_of front)) (pow_pos (64 * (1 - 1))) long (inner_row pair.same) row s (not pair.same) (none_below (more_of (inner_row pair.same)) ∙ inner_more pair.same)
  where
    whole : (n : ℕ) → n ≡ n * 2 ^ (64 * (1 - 1)) + 0
    whole n = omega arith

-- ---- the first column in the target

module _ (p : ℕ) (front : Front) (more : Bool) (depth : ℕ) (exit : List ℕ) (r : Filled) (s : FrontFilled front more depth exit r) (long : p < size (first_of front)) where
  pub stored_led : r.carry ≡ false → 0 < get_or exit (length exit - 1) 0
  stored_led e = rw s.limbs (led p front long (sym s.carry ∙ e))

  pub stored_rounds : (o : Mode) (x y : Operand) → 1 ≤ depth → depth ≤ deepest → (1 < depth → decide_at o p x y (depth - 1) ≡ false) → RoundsFirst o p x y depth front r.more → Rounds o p x y exit r.carry r.guard r.more r.depth
  stored_rounds o x y some near undecided rounds =
      rw (s.limbs, s.carry, s.guard, s.depth_is)
      (record {
        some = some;
        near = near;
        fixed = rounds.0;
        first = undecided;
        answer = rounds.1;
        led = led p front long;
      })
