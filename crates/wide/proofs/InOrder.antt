-- Two regular numbers in any order: exponents and top limbs tell which comes first, and what fills the target is rounded to their sum. Assumes nothing.
use mathlib.Core.Path.{◌≡◌, refl, sym, ap, ◌∙◌, subst}
use mathlib.Core.Logic.{inl, inr}
use mathlib.Core.Bool.{Bool, true, false, not, cond, ◌&&◌, ◌||◌, beq, true≢false}
use mathlib.Core.List.{List}
use Rattle.std.specs.Prelude.{Option, None, Some}
use Prim.Native.Nat.{ℕ, ◌+◌, ◌-◌, ◌*◌, ◌^◌, ◌≤◌, ◌<◌}
use native.Mathlib.Omega.{arith}
use borrow.Author.Tests.{lt-ltb, le-ltb, le-leb, eq-eqb, eqb-true, ltb-true}
use lib.Dec.{leb, ltb, eqb}
use lib.ListN.{length, get_or}
use Rattle.descent.proofs.JudgingRange.{digits_some}
use Rattle.depth.proofs.Exchange.{top_exchange, deciding_exchange}
use Rattle.limb.proofs.Tests.{both_true}
use Rattle.numbers.specs.Limits.{counted, least_precision, most_precision, most_exponent, limbs_for}
use Rattle.numbers.specs.Operand.{Operand, WellFormed}
use Rattle.rounding.specs.declared.Mode.{Mode}
use Rattle.rounding.specs.Answer.{Answer}
use Rattle.rounding.specs.Sum.{add}
use Rattle.rounding.proofs.Order.{le_or_lt}
use Rattle.rounding.proofs.Zeros.{add_commutes}
use Rattle.depth.specs.Bound.{deepest}
use Rattle.depth.specs.Columns.{top_exponent, limbs_used}
use Rattle.decide.specs.Decide.{decide_at}
use Rattle.decide.proofs.Decision.{depth_decided}
use Rattle.checks.specs.declared.Number.{Number}
use Rattle.checks.specs.Number.{operand_of}
use Rattle.place.specs.declared.Placed.{Placed}
use Rattle.place.specs.Placed.{run_number, run_answer, run_rule, placed_of, limbs_after}
use Rattle.place.specs.Rounded.{rounded_placed, rounded_limbs}
use Rattle.place.proofs.Answer.{placed_passed, limbs_passed}
use Rattle.place.proofs.Rules.{rule_none}
use Rattle.columns.specs.Column.{read_to}
use Rattle.settle.specs.declared.rows.Pair.{Pair}
use Rattle.bridge.specs.Verdict.{pair_of, Ordered}
use Rattle.bridge.proofs.Told.{pair_gap, pair_same, pair_top, top_is}
use Rattle.bridge.proofs.Decision.{leads}
use Rattle.bridge.proofs.Covered.{columns_above}
use Rattle.checks.specs.Room.{Room}
use Rattle.descent.specs.Course.{Course}
use Rattle.descent.specs.Finishing.{Left}
use Rattle.reports.specs.Signed.{Signed}
use Rattle.descent.proofs.RegularEnd.{deep_enough, not_deep, rounded_signed}
use Rattle.descent.proofs.Handed.{ordered_pair, beq_turned, top_first, course_first}
use Rattle.wide.specs.declared.filling.Filled.{Filled}
use Rattle.wide.specs.Filling.{Holding, Offered, Rounds, Fills, FillsBy}
use Rattle.reports.specs.Counts.{used_of}
use Rattle.reports.proofs.Counts.{used_is}
use Rattle.wide.specs.Sides.{larger_of, other_of}
use Rattle.wide.proofs.Offering.{sides}
use Rattle.wide.specs.declared.told.Attempt.{Attempt}
use Rattle.wide.specs.Attempted.{Attempted, Attempts, AttemptsInOrder}

-- ---- which of two operands comes first

module _ (x y : Operand) (g : WellFormed x) (h : WellFormed y) (r : x.is_zero ≡ false) (e : y.is_zero ≡ false) (order : y.exponent ≤ x.exponent)
    (tops : y.exponent ≡ x.exponent → beq x.negative y.negative ≡ false → get_or y.limbs (length y.limbs - 1) 0 < get_or x.limbs (length x.limbs - 1) 0) where
  ordered : Ordered x y
  ordered = record { first = g; second = h; regular = r; order = λ f. order }

  unlike : (pair_of x y).same ≡ false → beq x.negative y.negative ≡ false
  unlike f = sym (pair_same x y e) ∙ f

  level : y.exponent ≡ x.exponent → (pair_of x y).same ≡ false → read_to 1 (pair_of x y).gap y.limbs < read_to 1 0 x.limbs
  level q f =
      let z : (pair_of x y).gap ≡ 0 = pair_gap x y e ∙ none x.exponent y.exponent q in
      rw (z, top_first y h, top_first x g) (tops q (unlike f))
    where
      none : (m n : ℕ) → n ≡ m → m - n ≡ 0
      none m n i = omega arith

  course_told : Course x y 0
  course_told = course_first x y ordered (λ f. elim (le_or_lt x.exponent y.exponent) [ inl l ↦ level (omega arith) f | inr l ↦ leads x y 1 ordered (omega arith) l f ])

-- the tests that the code makes
module _ (a b u v : ℕ) where
  in_place : (ltb a b || (eqb a b && ltb u v)) ≡ false → (b ≤ a) × (b ≡ a → v ≤ u)
  in_place e = elim (le_or_lt b a) [ inl h ↦ (h, λ i. top h i) | inr h ↦ absurd (over h) ]
    where
      over : a < b → ⊥
      over h = let z : (ltb a b || (eqb a b && ltb u v)) ≡ true = rw (lt-ltb a b h) refl in true≢false (sym z ∙ e)

      top : b ≤ a → b ≡ a → v ≤ u
      top h i = elim (le_or_lt v u) [ inl k ↦ k | inr k ↦ absurd (no h i k) ]
        where
          no : b ≤ a → b ≡ a → u < v → ⊥
          no h i k = let z : (ltb a b || (eqb a b && ltb u v)) ≡ true = rw (le-ltb a b h, eq-eqb a b (sym i), lt-ltb u v k) refl in true≢false (sym z ∙ e)

  out_of_place : (ltb a b || (eqb a b && ltb u v)) ≡ true → (a ≤ b) × (a ≡ b → u < v)
  out_of_place e = elim (le_or_lt b a) [ inl h ↦ level h | inr h ↦ (omega arith, λ i. absurd (omega arith)) ]
    where
      level : b ≤ a → (a ≤ b) × (a ≡ b → u < v)
      level h =
          let f : (eqb a b && ltb u v) ≡ true = rw (le-ltb a b h) at e in
          let t = both_true (eqb a b) (ltb u v) f in
          let i = eqb-true a b t.0 in
          (omega arith, λ j. ltb-true u v t.1)

  not_level : (same : Bool) → (not same && (eqb a b && eqb u v)) ≡ false → same ≡ false → a ≡ b → u ≡ v → ⊥
  not_level same e s i j = let z : (not same && (eqb a b && eqb u v)) ≡ true = rw (s, eq-eqb a b i, eq-eqb u v j) refl in true≢false (sym z ∙ e)

module _ (x : Number) (xl : List ℕ) (y : Number) (yl : List ℕ) (gx : WellFormed (operand_of x xl)) (rx : (operand_of x xl).is_zero ≡ false) (gy : WellFormed (operand_of y yl)) (ry : (operand_of y yl).is_zero ≡ false)
    (a b u v : ℕ) (ae : a ≡ counted x.exponent) (be : b ≡ counted y.exponent) (ue : u ≡ get_or xl (length xl - 1) 0) (ve : v ≡ get_or yl (length yl - 1) 0)
    (swapped : Bool) (order : swapped ≡ (ltb a b || (eqb a b && ltb u v))) (even : Bool) (even_is : even ≡ (not (beq x.negative y.negative) && (eqb a b && eqb u v))) (apart : even ≡ false) where
  abbrev X : Operand
  X = operand_of x xl

  abbrev Y : Operand
  Y = operand_of y yl

  straight : swapped ≡ false → Course X Y 0
  unfolding operand_of
  straight f =
      let t = in_place a b u v (sym order ∙ f) in
      course_told X Y gx gy rx ry (rw (← ae, ← be) t.0) (λ q n. rw (← ue, ← ve) (strict (t.1 (be ∙ q ∙ sym ae)) (not_level a b u v (beq x.negative y.negative) (sym even_is ∙ apart) n (ae ∙ sym q ∙ sym be))))
    where
      strict : v ≤ u → (u ≡ v → ⊥) → v < u
      strict h n = elim (le_or_lt u v) [ inl k ↦ absurd (n (omega arith)) | inr k ↦ k ]

  turned : swapped ≡ true → Course Y X 0
  unfolding operand_of
  turned f = let t = out_of_place a b u v (sym order ∙ f) in course_told Y X gy gx ry rx (rw (← ae, ← be) t.0) (λ q n. rw (← ue, ← ve) (t.1 (ae ∙ q ∙ sym be)))

  pub sign_told : (negative : Bool) → negative ≡ cond swapped y.negative x.negative → negative ≡ (cond swapped Y X).negative
  unfolding operand_of
  sign_told negative e = e ∙ go swapped
    where
      go : (s : Bool) → cond s y.negative x.negative ≡ (cond s Y X).negative
      go true = refl
      go false = refl

  module _ (t l m n : ℕ) (te : t ≡ cond swapped b a) (le : l ≡ cond swapped a b) (me : m ≡ cond swapped y.precision x.precision) (ne : n ≡ cond swapped x.precision y.precision) where
    pub gap_some : l ≤ t
    gap_some = go swapped refl
      where
        go : (s : Bool) → swapped ≡ s → l ≤ t
        go true f = rw (te, le, f) (out_of_place a b u v (sym order ∙ f)).0
        go false f = rw (te, le, f) (in_place a b u v (sym order ∙ f)).0

    abbrev pub pair : Pair
    pair = record { same = beq x.negative y.negative; first = m; second = n; gap = t - l; top = t }

    pub holding : Holding (cond swapped Y X) (cond swapped X Y) pair (cond swapped yl xl) (cond swapped xl yl)
    unfolding operand_of
    holding = go swapped refl
      where
        go : (s : Bool) → swapped ≡ s → Holding (cond s Y X) (cond s X Y) pair (cond s yl xl) (cond s xl yl)
        go true f = record { course = turned f; regular = rx; pair_is = rw (te, le, me, ne, f, beq_turned x.negative y.negative) (ordered_pair y yl x xl b a rx be ae); first_is = refl; second_is = refl }
        go false f = record { course = straight f; regular = ry; pair_is = rw (te, le, me, ne, f) (ordered_pair x xl y yl a b ry ae be); first_is = refl; second_is = refl }

    -- the two operands as the code lays them out
    pub held_in : (negative : Bool) (first second : List ℕ) → negative ≡ cond swapped y.negative x.negative → first ≡ cond swapped yl xl → second ≡ cond swapped xl yl
        → Holding (larger_of negative pair first) (other_of negative pair second) pair first second
    held_in negative first second ne fe se =
        rw (fe, se) (sides (cond swapped Y X) (cond swapped X Y) pair (cond swapped yl xl) (cond swapped xl yl) holding negative (sign_told negative ne))

    pub offered : Offered pair (cond swapped yl xl) (cond swapped xl yl)
    offered = record { larger = cond swapped Y X; other = cond swapped X Y; holding = holding }

-- ---- what is told of them

pub attempted_turned : (o : Mode) (p : ℕ) → 0 < p → (x y : Operand) → x.is_zero ≡ false → y.is_zero ≡ false → (exit : List ℕ) (n : Bool) (placed : Placed) (k i j : ℕ)
    → Attempted o p y x exit n placed k i j → Attempted o p x y exit n placed k j i
attempted_turned o p P x y r e exit n placed k i j t =
    let some : (x.is_zero && y.is_zero) ≡ false = rw r refl in
    let others : (y.is_zero && x.is_zero) ≡ false = rw e refl in
    let same : add o p y x ≡ add o p x y = add_commutes o p y x P in
    let top : top_exponent y x ≡ top_exponent x y = sym (top_exchange x y some) in
    record {
      decides = record { zeros = λ h. absurd (true≢false (sym h ∙ some)); deciding = λ h. deciding_exchange o p P x y some k (t.decides.deciding others) };
      bounded = t.bounded;
      left = subst (λ (a : Answer). Left p a exit placed) same t.left;
      signed = subst (λ (a : Answer). Signed n a) same t.signed;
      first_used = t.second_used ∙ ap (λ (m : ℕ). limbs_used m k x) top;
      second_used = t.first_used ∙ ap (λ (m : ℕ). limbs_used m k y) top;
    }

pub attempted_told : (o : Mode) (p m : ℕ) → Room p m → (x y : Operand) → x.is_zero ≡ false → y.is_zero ≡ false → (s : Bool) (exit : List ℕ) (n : Bool) (placed : Placed) (k i j : ℕ)
    → Attempted o p (cond s y x) (cond s x y) exit n placed k (cond s j i) (cond s i j) → Attempted o p x y exit n placed k i j
attempted_told o p m room x y r e true exit n placed k i j t = attempted_turned o p (digits_some p m room) x y r e exit n placed k j i t
attempted_told o p m room x y r e false exit n placed k i j t = t

-- ---- what fills the target is rounded

-- what is told of two operands in order, by the columns that fix their sum, its answer and the limbs in those columns
pub fixed_told : (p : ℕ) → 0 < p → (pair : Pair) (first second : List ℕ) (z w : Operand) → Holding z w pair first second → (o : Mode) {exit : List ℕ} {negative : Bool} {placed : Placed} {k i j : ℕ}
    → 1 ≤ k → k ≤ deepest → decide_at o p z w k ≡ true → (1 < k → decide_at o p z w (k - 1) ≡ false) → Left p (add o p z w) exit placed → Signed negative (add o p z w)
    → (i ≡ used_of k 0 (length first)) × (j ≡ used_of k pair.gap (length second)) → Attempted o p z w exit negative placed k i j
fixed_told p P pair first second z w h o {exit} {negative} {placed} {k} {i} {j} some near fixed sooner left signed used =
    let d : Ordered z w = h.course.ordered in
    let top : top_exponent z w ≡ z.exponent = top_is o p P z w 1 d (omega arith) in
    record {
      decides = record { zeros = λ e. absurd (true≢false (sym e ∙ rw d.regular refl)); deciding = λ e. depth_decided o p P z w d.first d.second k some fixed sooner };
      bounded = near;
      left = left;
      signed = signed;
      first_used = used.0 ∙ ap (λ (l : List ℕ). used_of k 0 (length l)) h.first_is ∙ used_is z (top_exponent z w) k 0 d.first d.regular (rw top (apart z.exponent));
      second_used = used.1 ∙ ap (λ (l : List ℕ). used_of k pair.gap (length l)) h.second_is ∙ used_is w (top_exponent z w) k pair.gap d.second h.regular (rw top (ap (λ (s : Pair). s.gap) h.pair_is ∙ pair_gap z w h.regular));
    }
  where
    apart : (n : ℕ) → 0 ≡ n - n
    apart n = omega arith

-- what fills it under any mode does so under each
pub fills_by : (o : Mode) (negative : Bool) (p : ℕ) (pair : Pair) (first second exit : List ℕ) (r : Option Filled) → Fills p pair first second exit r → Offered pair first second → FillsBy o negative p pair first second exit r
fills_by o negative p pair first second exit None fills held = tt
fills_by o negative p pair first second exit (Some f) fills held =
    let rounds = fills o held.larger held.other held.holding in
    (rounds.near, rounds.led, λ z w h sign. fills o z w h)

-- what is told of operands held by some limbs is told of those held by others, where they are the same
pub attempts_held : (o : Mode) (p : ℕ) (negative : Bool) (pair : Pair) (swapped : Bool) (first second a b exit : List ℕ) → ((x y : Operand) → Holding x y pair a b → Holding x y pair first second)
    → (r : Option Attempt) → AttemptsInOrder o p negative pair swapped first second exit r → AttemptsInOrder o p negative pair swapped a b exit r
attempts_held o p negative pair swapped first second a b exit same None told = tt
attempts_held o p negative pair swapped first second a b exit same (Some r) told = λ x y h. told x y (same x y h)

-- what is told of two operands in order is told of them in the order of the caller
pub attempts_told : (o : Mode) (p m : ℕ) → Room p m → (x y : Operand) → x.is_zero ≡ false → y.is_zero ≡ false → (negative : Bool) (pair : Pair) (swapped : Bool) (first second exit : List ℕ)
    → Holding (cond swapped y x) (cond swapped x y) pair first second → negative ≡ (cond swapped y x).negative
    → (r : Option Attempt) → AttemptsInOrder o p negative pair swapped first second exit r → Attempts o p x y exit r
attempts_told o p m room x y g h negative pair swapped first second exit held sign None told = tt
attempts_told o p m room x y g h negative pair swapped first second exit held sign (Some a) told =
    attempted_told o p m room x y g h swapped exit a.negative a.placed a.depth a.first a.second (told _ _ held sign)

pub few : {depth : ℕ} → depth ≤ deepest → depth ≤ 2 ^ 20
few near = omega (arith, near, not_deep)

-- below the first operand's exponent there is a place for the columns of the target and one more
module _ (p n : ℕ) (room : Room p n) (pair : Pair) (first second : List ℕ) (z w : Operand) (h : Holding z w pair first second) where
  abbrev d : Ordered z w
  d = h.course.ordered

  top_told : pair.top ≡ z.exponent
  top_told = ap (λ (s : Pair). s.top) h.pair_is ∙ pair_top z w

  above : 64 * (n + 1) + 1 ≤ z.exponent
  unfolding limbs_for most_precision
  above = columns_above z d.first d.regular (n + 1) (omega (arith, room.count, room.most, deep_enough))

  pub unit_room : 64 * (n + 1) ≤ pair.top
  unit_room = omega (arith, above, top_told)

  unit_fits : (ltb 0 (pair.top - 64 * (n + 1)) && leb (pair.top - 64 * (n + 1)) (2 * most_exponent)) ≡ true
  unit_fits = rw (lt-ltb 0 (pair.top - 64 * (n + 1)) positive, le-leb (pair.top - 64 * (n + 1)) (2 * most_exponent) near) refl
    where
      positive : 0 < pair.top - 64 * (n + 1)
      positive = omega (arith, above, top_told)

      near : pair.top - 64 * (n + 1) ≤ 2 * most_exponent
      near = omega (arith, (d.first.regular d.regular).most, top_told)

module _ (p : ℕ) (pair : Pair) (first second t : List ℕ) (room : Room p (length t)) (z w : Operand) (h : Holding z w pair first second) where
  abbrev unit : ℕ
  unit = pair.top - 64 * (length t + 1)

  pub fit : (carry : Bool) → (carry ≡ false → 0 < get_or t (length t - 1) 0) → run_rule p carry t unit ≡ 0
  fit carry led = sym (rule_none p carry t unit (rw (le-leb least_precision p room.least, le-leb p most_precision room.most) refl) (eq-eqb (length t) (limbs_for p) room.count) (unit_fits p (length t) room pair first second z w h) (digit carry refl))
    where
      digit : (c : Bool) → carry ≡ c → (c || ltb 0 (get_or t (length t - 1) 0)) ≡ true
      digit true e = refl
      digit false e = lt-ltb 0 (get_or t (length t - 1) 0) (led e)

  module _ (mode : Mode) (f : Filled) (rounds : Rounds mode p z w t f.carry f.guard f.more f.depth) (negative : Bool) (sign : negative ≡ z.negative) where
    abbrev o : Mode
    o = mode

    fits : run_rule p f.carry t unit ≡ 0
    fits = fit f.carry rounds.led

    run_is : run_answer mode p negative unit (run_number f.carry t f.guard f.more) ≡ add o p z w
    unfolding run_answer
    run_is = rw (sign, top_told p (length t) room pair first second z w h) (sym rounds.answer)

    -- the sum is answered, and stands in the target
    pub left_told : {exit : List ℕ} {placed : Placed} → placed ≡ rounded_placed mode p negative unit f.carry t f.guard f.more → exit ≡ rounded_limbs mode p negative unit f.carry t f.guard f.more → Left p (add o p z w) exit placed
    left_told a b = record { told = a ∙ placed_passed mode p negative unit f.carry t f.guard f.more fits ∙ ap placed_of run_is; limbs = b ∙ limbs_passed mode p negative unit f.carry t f.guard f.more fits ∙ ap (limbs_after p) run_is }

    -- the same with the depth, and the limbs used
    pub depth_told : {exit : List ℕ} {placed : Placed} {i j : ℕ} → Left p (add o p z w) exit placed
        → (i ≡ used_of f.depth 0 (length first)) × (j ≡ used_of f.depth pair.gap (length second)) → Attempted o p z w exit negative placed f.depth i j
    depth_told left c =
        fixed_told p (digits_some p (length t) room) pair first second z w h o rounds.some rounds.near rounds.fixed rounds.first left (rw (sign, rounds.answer) (rounded_signed _ _ _ _ _)) c

    pub in_order_told : {exit : List ℕ} {placed : Placed} {i j : ℕ} → placed ≡ rounded_placed mode p negative unit f.carry t f.guard f.more → exit ≡ rounded_limbs mode p negative unit f.carry t f.guard f.more
        → (i ≡ used_of f.depth 0 (length first)) × (j ≡ used_of f.depth pair.gap (length second)) → Attempted o p z w exit negative placed f.depth i j
    in_order_told a b c = depth_told (left_told a b) c

-- ---- what the code asks

pub limbs_weigh : (p n : ℕ) → Room p n → 64 * (n + 1) < 2 ^ 64
unfolding limbs_for most_precision
limbs_weigh p n room = omega (arith, room.count, room.most)
