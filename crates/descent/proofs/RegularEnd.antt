-- Where a walk stopped: the sum is no zero, the depth is the columns read, and the answer is what the verdict says. Assumes nothing.
use mathlib.Core.Path.{◌≡◌, refl, sym, ap, ◌∙◌, subst}
use mathlib.Core.Logic.{inl, inr}
use mathlib.Core.Bool.{Bool, true, false, cond, true≢false}
use mathlib.Core.List.{List}
use Prim.Native.Nat.{ℕ, suc, ◌+◌, ◌-◌, ◌*◌, ◌/◌, ◌^◌, ◌≤◌, ◌<◌, Ordering, compare}
use native.Mathlib.Numerals.{add-one}
use native.Mathlib.Nat.{le_trans}
use native.Mathlib.Omega.{arith}
use borrow.Author.Tests.{ltb-false}
use lib.Dec.{ltb}
use lib.ListN.{length, replicate}
use lib.Ieee.{size}
use Rattle.bridge.proofs.Told.{pair_top}
use Rattle.descent.proofs.JudgingRange.{digits_some}
use Rattle.limb.specs.Carry.{bit}
use Rattle.numbers.specs.Limits.{bias, most_precision, least_exponent, most_exponent, limbs_for}
use Rattle.numbers.specs.Operand.{Operand}
use Rattle.rounding.specs.Mode.{Way, way}
use Rattle.rounding.specs.declared.Mode.{Mode}
use Rattle.rounding.specs.Select.{chosen}
use Rattle.rounding.specs.Answer.{Answer, number, too_large, too_small, ranged, digits, signed, rounded}
use Rattle.rounding.specs.Sum.{add}
use Rattle.rounding.proofs.Order.{le_or_lt}
use Rattle.depth.specs.Bound.{columns_for, far_columns, deepest}
use Rattle.depth.specs.Depth.{plus, Fixed, Depth}
use Rattle.depth.proofs.Theorems.{fixed_by_more}
use Rattle.decide.specs.Class.{enough}
use Rattle.decide.specs.Decide.{decide_at}
use Rattle.decide.proofs.Decision.{decides_fixed, depth_decided}
use Rattle.place.specs.declared.Placed.{Placed}
use Rattle.place.specs.Placed.{placed_of, limbs_after}
use Rattle.place.specs.Rounded.{refused_by}
use Rattle.settle.specs.declared.rows.Pair.{Pair}
use Rattle.columns.specs.Column.{read_to}
use Rattle.walk.specs.Window.{Shows}
use Rattle.bridge.specs.Verdict.{pair_of, Ordered, Leads, read_sum, hole_way}
use Rattle.bridge.proofs.Read.{read_later}
use Rattle.bridge.proofs.Answers.{sum_pos}
use Rattle.bridge.proofs.Theorems.{level_open}
use Rattle.bridge.proofs.Covered.{columns_above}
use Rattle.descent.specs.declared.going.Verdict.{Verdict}
use Rattle.descent.specs.declared.going.Verdict.TheVariants as verdict
use Rattle.descent.specs.declared.going.Walked.{Walked}
use Rattle.checks.specs.Room.{Room}
use Rattle.descent.specs.Course.{Course, Judged, Stopped}
use Rattle.descent.specs.Finishing.{Ending, Left, HoleSays}
use Rattle.reports.specs.Signed.{Signed}

pub deep_enough : 66 ≤ deepest
unfolding deepest columns_for far_columns most_precision
deep_enough = omega arith

pub not_deep : deepest ≤ 2 ^ 20
unfolding deepest columns_for far_columns most_precision
not_deep = omega arith

room_few : (p n : ℕ) → Room p n → n ≤ 64
unfolding most_precision limbs_for
room_few p n r = let a : p ≤ 4096 = r.most in let b : n ≡ (p + 63) / 64 = r.count in omega arith

-- an exponent in range is counted, and not 0
in_range : (e : ℕ) → ltb e least_exponent ≡ false → 0 < e
unfolding least_exponent bias
in_range e h = omega (arith, ltb-false e least_exponent h)

pub rounded_signed : (w : Way) (p s : ℕ) (n : Bool) (m : ℕ) → Signed n (rounded w p s n m)
unfolding rounded ranged
rounded_signed w p s n m =
    let c = chosen w p m in
    go (ltb most_exponent (size c + s)) (ltb (size c + s) least_exponent) (size c + s) (digits p c) (signed n (compare c m)) refl
  where
    go : (a b : Bool) (e d : ℕ) (t : Ordering) → ltb e least_exponent ≡ b → Signed n (cond a too_large (cond b too_small (number n e d t)))
    go true b e d t l = tt
    go false true e d t l = tt
    go false false e d t l = (refl, in_range e l)

module _ (mode : Mode) (p n : ℕ) (room : Room p n) (x y : Operand) (from : ℕ) (course : Course x y from) (walked : Walked) (t : List ℕ) (st : Stopped mode p x y walked t) where
  abbrev o : Mode
  o = mode

  abbrev k : ℕ
  k = walked.columns

  abbrev d : Ordered x y
  d = course.ordered

  P_pos : 0 < p
  P_pos = digits_some p n room

  digits_most : p ≤ 4096
  unfolding most_precision
  digits_most = room.most

  past : (pair_of x y).same ≡ false → from < k
  past f = elim (le_or_lt k from) [ inl h ↦ absurd (no h) | inr h ↦ h ]
    where
      no : k ≤ from → ⊥
      no h =
          let one : 1 ≤ from = le_trans st.some h in
          let u : Fixed plus o p x y from = fixed_by_more plus o p P_pos x y d.first d.second k from h ((decides_fixed o p P_pos x y d.first d.second k st.some).sound st.fixed) in
          let a : decide_at o p x y from ≡ true = (decides_fixed o p P_pos x y d.first d.second from one).complete u in
          let b : decide_at o p x y from ≡ false = level_open o p P_pos x y from d one f (course.level f) (rw (add-one from) (course.larger f)) in
          true≢false (sym a ∙ b)

  lead : Leads x y k
  lead f =
      let e : suc from + (k - suc from) ≡ k = back (past f) in
      subst (λ (j : ℕ). read_to j (pair_of x y).gap y.limbs < read_to j 0 x.limbs) e (read_later (suc from) (k - suc from) (pair_of x y).gap 0 y.limbs x.limbs (course.larger f))
    where
      back : from < k → suc from + (k - suc from) ≡ k
      back h = omega arith

  positive : 0 < read_sum x y k
  positive = sum_pos o p P_pos x y k d st.some lead

  above : (j : ℕ) → j ≤ deepest → 64 * (k + j) < x.exponent
  above j h = let a = columns_above x d.first d.regular (k + j) (omega (arith, st.near)) in omega arith

  pub depth_told : Depth plus o p x y k
  depth_told = record { zeros = λ e. absurd (true≢false (sym e ∙ rw d.regular refl)); deciding = λ e. depth_decided o p P_pos x y d.first d.second k st.some st.fixed st.first }

  pub ending : Room p (length t) → Ending p (pair_of x y).top walked.window t
  ending r =
      let c = st.shows.columns in
      let l = room_few p (length t) r in
      let a = columns_above x d.first d.regular (walked.window.skipped + length t + 1) (omega (arith, deep_enough, st.near)) in
      record { room = r; fits = st.shows.fits; above = rw (pair_top x y) (omega arith); near = rw (pair_top x y) (omega (arith, (d.first.regular d.regular).most)) }

  far : p + 1 < 64 * k + 64 * 65
  far = omega (arith, digits_most)

  room_for : 64 * k + 64 * 65 + 1 ≤ x.exponent
  room_for = let a = above 65 (omega (arith, deep_enough)) in omega arith

  judged_as : (v : Verdict) → walked.verdict ≡ v → Judged o p x y k v
  judged_as v e = rw e at st.judged

  pub signed_told : Signed x.negative (add o p x y)
  signed_told = go walked.verdict st.judged
    where
      go : (v : Verdict) → Judged o p x y k v → Signed x.negative (add o p x y)
      go verdict.Open j = absurd (true≢false (sym st.fixed ∙ j))
      go (verdict.Fixed more) j = rw j.1 (rounded_signed _ _ _ _ _)
      go verdict.InHole j = rw (j.1 65 far room_for) (rounded_signed _ _ _ _ _)
      go (verdict.Refused rule) j = rw j.2 (refusal (pair_of x y).same)
        where
          refusal : (b : Bool) → Signed x.negative (cond b too_large too_small)
          refusal true = tt
          refusal false = tt

  hole_says : walked.verdict ≡ verdict.InHole → HoleSays (way o x.negative) p (pair_of x y) x.negative k (read_sum x y k) (add o p x y)
  hole_says e b a h = (judged_as verdict.InHole e).1 b a (subst (λ (m : ℕ). 64 * k + 64 * b + 1 ≤ m) (pair_top x y) h) ∙ ap (λ (m : ℕ). rounded (hole_way (way o x.negative) p (pair_of x y)) p (m - 64 * k - 64 * b - 1) x.negative (cond (pair_of x y).same (2 * (read_sum x y k * 2 ^ (64 * b)) + 1) (2 * (read_sum x y k * 2 ^ (64 * b)) - 1))) (sym (pair_top x y))

  -- ---- the verdicts

  module _ (pair : Pair) (negative : Bool) (pe : pair ≡ pair_of x y) (ne : negative ≡ x.negative) where
    pub open_never : {exit : List ℕ} {r : Placed} → walked.verdict ≡ verdict.Open → Left p (add o p x y) exit r
    open_never e = absurd (true≢false (sym st.fixed ∙ judged_as verdict.Open e))

    under : 64 * k < pair.top
    under = rw (pe, pair_top x y) (let a = above 0 (omega arith) in omega arith)

    pub fixed_told : {exit : List ℕ} {r : Placed} (more : Bool) → walked.verdict ≡ verdict.Fixed more
        → ((k D : ℕ) → Shows walked.window t k D → 0 < D → 64 * k < pair.top → (more ≡ true → enough (way o negative) p D ≡ true) → Left p (rounded (way o negative) p (pair.top - 64 * k - 1) negative (2 * D + bit more)) exit r)
        → Left p (add o p x y) exit r
    fixed_told more e f =
        let j = judged_as (verdict.Fixed more) e in
        rw j.1 (rw (pe, pair_top x y, ne) at (f k (read_sum x y k) st.shows positive under (rw ne j.2)))

    pub hole_told : {exit : List ℕ} {r : Placed} → walked.verdict ≡ verdict.InHole
        → ((a : Answer) (k D : ℕ) → Shows walked.window t k D → 0 < D → 64 * k < pair.top → HoleSays (way o negative) p pair negative k D a → Left p a exit r)
        → Left p (add o p x y) exit r
    hole_told e f = f (add o p x y) k (read_sum x y k) st.shows positive under (rw (pe, ne) (hole_says e))

    pub refused_told : {exit : List ℕ} {r : Placed} (rule : ℕ) → walked.verdict ≡ verdict.Refused rule → r ≡ refused_by rule → exit ≡ replicate n 0 → Left p (add o p x y) exit r
    unfolding refused_by placed_of limbs_after
    refused_told {exit} {r} rule e a b =
        let j = judged_as (verdict.Refused rule) e in
        rw j.2 (go (pair_of x y).same (a ∙ ap refused_by j.1) (b ∙ ap (λ (m : ℕ). replicate m 0) room.count))
      where
        go : (s : Bool) → r ≡ refused_by (cond s 6 7) → exit ≡ replicate (limbs_for p) 0 → Left p (cond s too_large too_small) exit r
        go true a b = record { told = a; limbs = b }
        go false a b = record { told = a; limbs = b }
