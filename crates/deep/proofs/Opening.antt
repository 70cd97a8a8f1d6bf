-- Columns that go on as the last digit of the first leave a sum open: what lies below the digits kept is of the same kind as after the first column, so the class test settles it no more than there, and no refusal is near. Assumes nothing.
use mathlib.Core.Path.{◌≡◌, refl, sym, ap, ◌∙◌, subst}
use mathlib.Core.Bool.{Bool, true, false}
use mathlib.Core.List.{List}
use Prim.Native.Nat.{ℕ, zero, suc, ◌+◌, ◌-◌, ◌*◌, ◌%◌, ◌^◌, ◌≤◌, ◌<◌}
use native.Mathlib.Omega.{arith}
use lib.Ieee.{size}
use lib.Pow.{pow_pos}
use Rattle.limb.proofs.Sizes.{size_part}
use Rattle.numbers.specs.Limits.{most_precision}
use Rattle.numbers.specs.Operand.{Operand}
use Rattle.rounding.specs.Mode.{Way, way}
use Rattle.rounding.specs.declared.Mode.{Mode}
use Rattle.depth.specs.Bound.{deepest}
use Rattle.depth.proofs.Bounds.{deepest_today}
use Rattle.decide.specs.Decide.{decide_at}
use Rattle.decide.proofs.Carry.{size_pos}
use Rattle.remnant.specs.declared.rest.Rest.{Rest}
use Rattle.remnant.specs.Rest.{RestOf, RestAt}
use Rattle.remnant.proofs.Dropping.{rest_at_of}
use Rattle.settle.specs.Ways.{theory_way}
use Rattle.settle.specs.Rows.{row_of}
use Rattle.settle.specs.declared.rows.Pair.{Pair}
use Rattle.settle.specs.declared.rows.Way as code
use Rattle.bridge.specs.Verdict.{pair_of, read_sum, settled_by, refused_by, inner?}
use Rattle.bridge.proofs.Rows.{row_seen, row_seen_lem}
use Rattle.bridge.proofs.Told.{pair_first, pair_top}
use Rattle.bridge.proofs.Answers.{tests_are}
use Rattle.bridge.proofs.Covered.{columns_above}
use Rattle.descent.specs.Course.{Inland}
use Rattle.descent.proofs.AtOnce.{inland_sooner, unrefused}
use Rattle.wide.specs.Filling.{Holding}
use Rattle.wide.proofs.GuardBelow.{leads_held}
use Rattle.front.specs.Front.{Kept}
use Rattle.deep.specs.Deep.{Inner}
use Rattle.deep.specs.Reading.{inner_row}

-- ---- the row, where both operands have more than a digit unread

unread_both : (same : Bool) (u v : ℕ) → 2 ≤ u → 2 ≤ v → row_seen same u v ≡ inner_row same
unfolding row_seen inner_row
unread_both same zero v h l = absurd (omega arith)
unread_both same (suc zero) v h l = absurd (omega arith)
unread_both same (suc (suc u)) zero h l = absurd (omega arith)
unread_both true (suc (suc u)) (suc v) h l = refl
unread_both false (suc (suc u)) (suc v) h l = refl

pub inner_row_lem : (pair : Pair) (stop k : ℕ) → Inner pair stop → 1 ≤ k → k ≤ stop → row_of pair k ≡ inner_row pair.same
inner_row_lem pair stop k i K L =
    row_seen_lem pair k (some pair.gap pair.second i.some i.gap i.second) (omega (arith, i.gap))
    ∙ unread_both pair.same (pair.first - 64 * k) (pair.gap + pair.second - 64 * k) (two pair.first i.first) (two (pair.gap + pair.second) i.second)
  where
    some : (g s : ℕ) → 1 ≤ stop → g < 64 → 64 * stop + 1 < g + s → 0 < s
    some g s h l m = omega arith

    two : (n : ℕ) → 64 * stop + 1 < n → 2 ≤ n - 64 * k
    two n h = omega arith

pub inner_unread : (same : Bool) → inner? (inner_row same) ≡ true
unfolding inner? inner_row
inner_unread true = refl
inner_unread false = refl

-- ---- columns that go on as the last digit

-- they are digits below N
pub kept_below : (N t D : ℕ) → Kept N t D → (s : ℕ) × (D ≡ N * 2 ^ (64 * t) + s) × (s < 2 ^ (64 * t))
kept_below N t D k = go (N % 2) refl
  where
    go : (b : ℕ) → N % 2 ≡ b → (s : ℕ) × (D ≡ N * 2 ^ (64 * t) + s) × (s < 2 ^ (64 * t))
    go zero e = (0, k.zeros e ∙ omega arith, pow_pos (64 * t))
    go (suc zero) e = (2 ^ (64 * t) - 1, below D (2 ^ (64 * t)) (pow_pos (64 * t)) (k.ones e), omega (arith, pow_pos (64 * t)))
      where
        below : (d m : ℕ) → 0 < m → suc d ≡ suc N * m → d ≡ N * m + (m - 1)
        below d m h f = omega arith
    go (suc (suc b)) e = absurd (omega arith)

pub kept_size : (N t D : ℕ) → Kept N t D → 0 < N → size D ≡ size N + 64 * t
kept_size N t D k h = let b = kept_below N t D k in ap size b.1 ∙ size_part N (64 * t) b.0 h b.2

-- the rest below p digits, where N has two more at least
pub kept_rest : (p N t D : ℕ) (x : Rest) → p + 2 ≤ size N → Kept N t D → RestAt D (size N - p + 64 * t) x → RestOf p D x
kept_rest p N t D x h k r =
    let all : size D ≡ size N + 64 * t = kept_size N t D k (size_pos N (omega arith)) in
    rest_at_of p D (size N - p + 64 * t) x (omega arith) (omega arith) r

-- ---- what the class test does not settle is open

-- columns that end within both operands, and one more, are no more than a walk may take
pub inner_near : (x y : Operand) (pair : Pair) (first second : List ℕ) → Holding x y pair first second → (stop : ℕ) → Inner pair stop → (k : ℕ) → k ≤ suc stop → k ≤ deepest
unfolding most_precision
inner_near x y pair first second h stop i k L = omega (arith, i.first, ap (λ (q : Pair). q.first) h.pair_is, pair_first x y, h.course.ordered.first.most, deepest_today)

module _ (o : Mode) (p : ℕ) (P : 0 < p) (x y : Operand) (pair : Pair) (first second : List ℕ) (h : Holding x y pair first second) (stop : ℕ) (i : Inner pair stop) (inland : Inland pair stop) where
  above : (k : ℕ) → k ≤ stop → 64 * k ≤ (pair_of x y).top
  above k L = omega (arith, pair_top x y, columns_above x h.course.ordered.first h.course.ordered.regular k (omega (arith, inner_near x y pair first second h stop i k (omega arith))))

  calm : (k : ℕ) → 1 ≤ k → k ≤ stop → refused_by (way o x.negative) p (pair_of x y) k (read_sum x y k) ≡ false
  calm k K L =
      unrefused o p P x y k h.course.ordered K (leads_held x y pair first second h k K) (above k L) (subst (λ (q : Pair). Inland q k) h.pair_is (inland_sooner pair stop k L inland))

  pub unsettled_open : (k : ℕ) → 1 ≤ k → k ≤ stop → settled_by (way o x.negative) p (read_sum x y k) (inner_row pair.same) ≡ false → decide_at o p x y k ≡ false
  unsettled_open k K L e =
      tests_are o p P x y k h.course.ordered K (leads_held x y pair first second h k K) (inner_row pair.same) row (inner_unread pair.same)
      ∙ rw (e, calm k K L) refl
    where
      row : row_of (pair_of x y) k ≡ inner_row pair.same
      row = subst (λ (q : Pair). row_of q k ≡ inner_row pair.same) h.pair_is (inner_row_lem pair stop k i K L)

  -- and so are the columns that go on as the last digit of the first
  module _ (toward : code.Way) (way_is : theory_way toward ≡ way o x.negative) (rest : Rest) (long : p + 2 ≤ size (read_sum x y 1))
      (told : (t D : ℕ) → Kept (read_sum x y 1) t D → RestAt D (size (read_sum x y 1) - p + 64 * t) rest)
      (unsettled : (q D : ℕ) → RestOf q D rest → 0 < q → false ≡ settled_by (theory_way toward) q D (inner_row pair.same)) where
    pub kept_open : (k : ℕ) → 1 ≤ k → k ≤ stop → Kept (read_sum x y 1) (k - 1) (read_sum x y k) → decide_at o p x y k ≡ false
    kept_open k K L kept =
        unsettled_open k K L
        (ap (λ (w : Way). settled_by w p (read_sum x y k) (inner_row pair.same)) (sym way_is)
        ∙ sym (unsettled p (read_sum x y k) (kept_rest p (read_sum x y 1) (k - 1) (read_sum x y k) rest long kept (told (k - 1) (read_sum x y k) kept)) P))
