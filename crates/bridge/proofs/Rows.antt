-- The rows by the digits that are unread, and the decision and the answer on a row.
use mathlib.Core.Path.{◌≡◌, refl, sym, ap}
use mathlib.Core.Bool.{Bool, true, false, not, cond, ◌&&◌, ◌||◌, and-false}
use Prim.Native.Nat.{ℕ, zero, suc, ◌+◌, ◌-◌, ◌*◌, ◌≤◌, ◌<◌}
use native.Mathlib.Omega.{arith}
use borrow.Author.Tests.{ltb-true, ltb-false, eqb-true, eqb-false, lt-ltb, le-ltb, le-leb, lt-leb, eq-eqb, ne_eqb}
use lib.Dec.{ltb, leb, eqb}
use lib.Ieee.{size}
use Rattle.decide.proofs.HoleTest.{eqb_none}
use Rattle.bounds.proofs.Ranges.{carry_le, short_le}
use Rattle.limb.specs.Carry.{bit}
use Rattle.rounding.specs.Mode.{Way}
use Rattle.rounding.specs.Answer.{Answer, rounded, too_large, too_small}
use Rattle.rounding.proofs.Order.{size_mono}
use Rattle.numbers.specs.Limits.{least_exponent, most_exponent}
use Rattle.numbers.proofs.Limits.{range_some}
use Rattle.decide.specs.Class.{settled, enough}
use Rattle.decide.specs.Range.{carry, short_least, large?, small?, or_large, or_small}
use Rattle.decide.specs.Table.{some?, same_row, unlike_row, far_same_row, far_unlike_row, same_signs, unlike_signs, far_same, far_unlike}
use Rattle.decide.specs.Answer.{decided_answer, same_answer, unlike_answer}
use Rattle.settle.specs.Rows.{row_of}
use Rattle.settle.specs.declared.rows.Pair.{Pair}
use Rattle.settle.specs.declared.rows.Row.{Row}
use Rattle.settle.specs.declared.rows.Row.TheVariants.{Exact, Plus, Minus, Hole}
use Rattle.bridge.specs.Verdict.{settled_by}

-- ---- tests on sizes are tests on what is unread

pub ltb_some : (c n : ℕ) → ltb c n ≡ some? (n - c)
ltb_some c n = go (n - c) refl
  where
    none : n - c ≡ 0 → n ≤ c
    none e = omega arith

    more : (d : ℕ) → n - c ≡ suc d → c < n
    more d e = omega arith

    go : (d : ℕ) → n - c ≡ d → ltb c n ≡ some? d
    go zero e = le-ltb c n (none e)
    go (suc d) e = lt-ltb c n (more d e)

pub leb_some : (n c : ℕ) → leb n c ≡ not (some? (n - c))
leb_some n c = go (n - c) refl
  where
    none : n - c ≡ 0 → n ≤ c
    none e = omega arith

    more : (d : ℕ) → n - c ≡ suc d → c < n
    more d e = omega arith

    go : (d : ℕ) → n - c ≡ d → leb n c ≡ not (some? d)
    go zero e = le-leb n c (none e)
    go (suc d) e = lt-leb n c (more d e)

eqb_one : (n c : ℕ) → eqb n (c + 1) ≡ eqb (n - c) 1
eqb_one n c = go (eqb (n - c) 1) refl
  where
    to : n - c ≡ 1 → n ≡ c + 1
    to e = omega arith

    back : n ≡ c + 1 → n - c ≡ 1
    back e = omega arith

    go : (b : Bool) → eqb (n - c) 1 ≡ b → eqb n (c + 1) ≡ b
    go true e = eq-eqb n (c + 1) (to (eqb-true (n - c) 1 e))
    go false e = ne_eqb n (c + 1) (λ f. eqb-false (n - c) 1 e (back f))

ltb_left : (m n c : ℕ) → c ≤ m → ltb m n ≡ ltb (m - c) (n - c)
ltb_left m n c h = go (ltb m n) refl
  where
    less : m < n → m - c < n - c
    less e = omega arith

    more : n ≤ m → n - c ≤ m - c
    more e = omega arith

    go : (b : Bool) → ltb m n ≡ b → b ≡ ltb (m - c) (n - c)
    go true e = sym (lt-ltb (m - c) (n - c) (less (ltb-true m n e)))
    go false e = sym (le-ltb (m - c) (n - c) (more (ltb-false m n e)))

one_none : (u : ℕ) → eqb (suc u) 1 ≡ not (some? u)
one_none zero = refl
one_none (suc u) = ne_eqb (suc (suc u)) 1 (λ e. omega arith)

either : (a b : Bool) → not (not a && not b) ≡ (a || b)
either true b = refl
either false true = refl
either false false = refl

-- ---- the rows: u and v digits of the two are unread, and both reach into what is read; or the second begins f digits below it

unfoldable pub row_seen : Bool → ℕ → ℕ → Row
row_seen same zero zero = Exact
row_seen true (suc u) zero = Plus false false true
row_seen true zero (suc v) = Plus false false true
row_seen true (suc u) (suc v) = Plus false true (some? u || some? v)
row_seen false (suc u) zero = Plus false false true
row_seen false zero (suc v) = Minus false
row_seen false (suc u) (suc v) = Minus true

unfoldable pub row_far : Bool → ℕ → ℕ → Row
row_far same zero f = Hole
row_far true (suc u) f = Plus true (ltb f (suc u)) true
row_far false (suc u) f = Minus (some? u || some? f)

abbrev open_row : Bool → ℕ → ℕ → Row
open_row same u v =
    cond same
    (cond (some? u && some? v) (Plus false true (not (eqb u 1 && eqb v 1))) (Plus false false true))
    (cond (some? v) (Minus (some? u)) (Plus false false true))

seen_shape : (same : Bool) (u v : ℕ) → cond (not (some? u) && not (some? v)) Exact (open_row same u v) ≡ row_seen same u v
unfolding row_seen
seen_shape true zero zero = refl
seen_shape false zero zero = refl
seen_shape true (suc u) zero = refl
seen_shape true zero (suc v) = refl
seen_shape false (suc u) zero = refl
seen_shape false zero (suc v) = refl
seen_shape false (suc u) (suc v) = refl
seen_shape true (suc u) (suc v) = ap (Plus false true) (rw (one_none u, one_none v) (either (some? u) (some? v)))

far_shape : (same : Bool) (u f : ℕ) → cond (not (some? u)) Hole (cond same (Plus true (ltb f u) true) (Minus (not (eqb u 1 && not (some? f))))) ≡ row_far same u f
unfolding row_far
far_shape true zero f = refl
far_shape false zero f = refl
far_shape true (suc u) f = refl
far_shape false (suc u) f = ap Minus (rw (one_none u) (either (some? u) (some? f)))

module _ (s : Pair) (k : ℕ) where
  abbrev c : ℕ
  c = 64 * k

  pub row_seen_lem : 0 < s.second → s.gap < c → row_of s k ≡ row_seen s.same (s.first - c) (s.gap + s.second - c)
  unfolding row_of
  row_seen_lem h g =
      rw (ne_eqb s.second 0 (some h), leb_some s.first c, leb_some (s.gap + s.second) c, lt-leb c s.gap g, ltb_some c s.first, ltb_some c (s.gap + s.second), eqb_one s.first c, eqb_one (s.gap + s.second) c)
      (seen_shape s.same (s.first - c) (s.gap + s.second - c))
    where
      some : 0 < s.second → s.second ≡ 0 → ⊥
      some h e = omega arith

  pub row_alone : s.second ≡ 0 → s.gap ≡ 0 → row_of s k ≡ row_seen s.same (s.first - c) 0
  unfolding row_of
  row_alone h g =
      rw (h, g, leb_some s.first c, ltb_some c s.first, ltb_some c (0 + 0), eqb_one s.first c)
      (shape (s.first - c))
    where
      shape : (u : ℕ) → cond (not (some? u)) Exact (cond s.same (cond (some? u && some? (0 + 0 - c)) (Plus false true (not (eqb u 1 && eqb (0 + 0) (c + 1)))) (Plus false false true)) (cond (some? (0 + 0 - c)) (Minus (some? u)) (Plus false false true))) ≡ row_seen s.same u 0
      shape u = rw (none) (go s.same u)
        where
          none : 0 + 0 - c ≡ 0
          none = omega arith

          go : (b : Bool) (u : ℕ) → cond (not (some? u)) Exact (cond b (cond (some? u && false) (Plus false true (not (eqb u 1 && eqb (0 + 0) (c + 1)))) (Plus false false true)) (Plus false false true)) ≡ row_seen b u 0
          go true zero = unfold row_seen in refl
          go false zero = unfold row_seen in refl
          go true (suc u) = unfold row_seen in refl
          go false (suc u) = unfold row_seen in refl

  pub row_far_lem : 0 < s.second → c ≤ s.gap → row_of s k ≡ row_far s.same (s.first - c) (s.gap - c)
  unfolding row_of
  row_far_lem h g =
      rw (ne_eqb s.second 0 (some h), lt-leb (s.gap + s.second) c (more h g), and-false (leb s.first c), le-leb c s.gap g, leb_some s.first c, ltb_left s.gap s.first c g, eqb_one s.first c, eqb_none s.gap c g)
      (far_shape s.same (s.first - c) (s.gap - c))
    where
      some : 0 < s.second → s.second ≡ 0 → ⊥
      some h e = omega arith

      more : 0 < s.second → c ≤ s.gap → c < s.gap + s.second
      more h g = omega arith

-- ---- the decision on a row

bit_is : (b : Bool) → cond b 1 0 ≡ bit b
unfolding bit
bit_is true = refl
bit_is false = refl

module _ (w : Way) (p e X : ℕ) where
  pub same_verdict : (Y u v : ℕ) → same_signs w p e X u Y v ≡ (settled_by w p (X + Y) (row_seen true u v) || large? w p e (X + Y) false false)
  unfolding same_signs same_row settled_by row_seen or_large bit
  same_verdict Y zero zero = refl
  same_verdict Y (suc u) zero = refl
  same_verdict Y zero (suc v) = refl
  same_verdict Y (suc u) (suc v) = refl

  pub unlike_verdict : (Y u v : ℕ) → Y < X → unlike_signs w p e X u Y v ≡ (settled_by w p (X - Y) (row_seen false u v) || small? w p e (X - Y) (some? u) u)
  unfolding unlike_signs unlike_row settled_by row_seen or_small bit
  unlike_verdict Y zero zero h = refl
  unlike_verdict Y (suc u) zero h = ap (λ (n : ℕ). settled w p (X - Y) false 0 true || small? w p e n true (suc u)) (flat (X - Y))
    where
      flat : (n : ℕ) → n + 0 ≡ n
      flat n = omega arith
  unlike_verdict Y zero (suc v) h = ap (λ (n : ℕ). settled w p (X - Y - 1) true 1 false || small? w p e n false 0) (back X Y h)
    where
      back : (X Y : ℕ) → Y < X → X - Y - 1 + 1 ≡ X - Y
      back X Y h = omega arith
  unlike_verdict Y (suc u) (suc v) h = ap (λ (n : ℕ). settled w p (X - Y - 1) true 1 true || small? w p e n true (suc u)) (back X Y h)
    where
      back : (X Y : ℕ) → Y < X → X - Y - 1 + 1 ≡ X - Y
      back X Y h = omega arith

  pub far_same_verdict : (u f : ℕ) → far_same w p e X (suc u) f ≡ (settled_by w p X (row_far true (suc u) f) || large? w p e X true (not (some? f)))
  unfolding far_same far_same_row settled_by row_far or_large
  far_same_verdict u f = ap (λ (i : ℕ). settled w p X true i true || large? w p e X true (not (some? f))) (bit_is (ltb f (suc u)))

  pub far_unlike_verdict : (u f : ℕ) → far_unlike w p X (suc u) f ≡ settled_by w p X (row_far false (suc u) f)
  unfolding far_unlike far_unlike_row settled_by row_far
  far_unlike_verdict u f = ap (λ (n : ℕ). settled w p (X - 1) true 1 (some? n || some? f)) (pred u)
    where
      pred : (u : ℕ) → suc u - 1 ≡ u
      pred u = omega arith

-- ---- the answer on a row: D is what is read, `half` is as in the table

unfoldable pub answer_by : Way → ℕ → ℕ → Bool → ℕ → Bool → Row → Answer
answer_by w p e g D half Exact = rounded w p e g D
answer_by w p e g D half (Plus least next most) = decided_answer w p e g D least half (bit next) most
answer_by w p e g D half (Minus most) = decided_answer w p e g (D - 1) true false 1 most
answer_by w p e g D half Hole = rounded w p e g D

module _ (w : Way) (p e : ℕ) (g : Bool) (X : ℕ) where
  pub same_answer_lem : (Y u v : ℕ) → same_answer w p e g X u Y v ≡ answer_by w p e g (X + Y) false (row_seen true u v)
  unfolding same_answer same_row answer_by row_seen bit
  same_answer_lem Y zero zero = refl
  same_answer_lem Y (suc u) zero = refl
  same_answer_lem Y zero (suc v) = refl
  same_answer_lem Y (suc u) (suc v) = refl

  pub unlike_answer_lem : (Y u v : ℕ) → unlike_answer w p e g X u Y v ≡ answer_by w p e g (X - Y) false (row_seen false u v)
  unfolding unlike_answer unlike_row answer_by row_seen bit
  unlike_answer_lem Y zero zero = refl
  unlike_answer_lem Y (suc u) zero = refl
  unlike_answer_lem Y zero (suc v) = refl
  unlike_answer_lem Y (suc u) (suc v) = refl

  pub far_same_answer : (u f : ℕ) → decided_answer w p e g (far_same_row X (suc u) f).least (far_same_row X (suc u) f).least_more (far_same_row X (suc u) f).half (far_same_row X (suc u) f).apart (far_same_row X (suc u) f).most_more ≡ answer_by w p e g X (not (some? f)) (row_far true (suc u) f)
  unfolding far_same_row answer_by row_far
  far_same_answer u f = ap (λ (i : ℕ). decided_answer w p e g X true (not (some? f)) i true) (bit_is (ltb f (suc u)))

  pub far_unlike_answer : (u f : ℕ) → decided_answer w p e g (far_unlike_row X (suc u) f).least (far_unlike_row X (suc u) f).least_more (far_unlike_row X (suc u) f).half (far_unlike_row X (suc u) f).apart (far_unlike_row X (suc u) f).most_more ≡ answer_by w p e g X false (row_far false (suc u) f)
  unfolding far_unlike_row answer_by row_far
  far_unlike_answer u f = ap (λ (n : ℕ). decided_answer w p e g (X - 1) true false 1 (some? n || some? f)) (pred u)
    where
      pred : (u : ℕ) → suc u - 1 ≡ u
      pred u = omega arith

-- ---- refused, and not settled

-- what is too small is not too large
small_not_large : (w : Way) (p e n D : ℕ) (ml half mg : Bool) (tail : ℕ) → n ≤ D → small? w p e D mg tail ≡ true → large? w p e n ml half ≡ false
unfolding large? small?
small_not_large w p e n D ml half mg tail h s =
    le-ltb most_exponent _ (go (size n) (size D) _ _ (size_mono n D h) (one (enough w p n)) (ltb-true _ least_exponent s))
  where
    one : (b : Bool) → cond b (carry w p n ml) (short_least w p n half) ≤ 1
    one true = carry_le w p n ml
    one false = short_le w p n half

    go : (a b i j : ℕ) → a ≤ b → i ≤ 1 → b + j + e < least_exponent → a + i + e ≤ most_exponent
    go a b i j h k l = omega (arith, range_some)

module _ (w : Way) (p e : ℕ) (g : Bool) (D : ℕ) where
  large_refused : (n : ℕ) (ml half : Bool) (i : ℕ) (mg : Bool) → settled w p n ml i mg ≡ false → large? w p e n ml half ≡ true → decided_answer w p e g n ml half i mg ≡ too_large
  unfolding decided_answer
  large_refused n ml half i mg h l = rw (h, l)

  small_refused : (n : ℕ) (ml half : Bool) (i : ℕ) (mg mt : Bool) (tail : ℕ) → n ≤ D → settled w p n ml i mg ≡ false → small? w p e D mt tail ≡ true → decided_answer w p e g n ml half i mg ≡ too_small
  unfolding decided_answer
  small_refused n ml half i mg mt tail k h l = rw (h, small_not_large w p e n D ml half mt tail k l)

  pub same_refused : (u v : ℕ) → 0 < u + v → settled_by w p D (row_seen true u v) ≡ false → large? w p e D false false ≡ true → answer_by w p e g D false (row_seen true u v) ≡ too_large
  unfolding settled_by row_seen answer_by
  same_refused zero zero k h l = absurd (omega arith)
  same_refused (suc u) zero k h l = large_refused D false false (bit false) true h l
  same_refused zero (suc v) k h l = large_refused D false false (bit false) true h l
  same_refused (suc u) (suc v) k h l = large_refused D false false (bit true) (some? u || some? v) h l

  pub far_refused : (u f : ℕ) (half : Bool) → settled_by w p D (row_far true (suc u) f) ≡ false → large? w p e D true half ≡ true → answer_by w p e g D half (row_far true (suc u) f) ≡ too_large
  unfolding settled_by row_far answer_by
  far_refused u f half h l = large_refused D true half (bit (ltb f (suc u))) true h l

  pub unlike_refused : (u v : ℕ) → 0 < u + v → 0 < D → settled_by w p D (row_seen false u v) ≡ false → small? w p e D (some? u) u ≡ true → answer_by w p e g D false (row_seen false u v) ≡ too_small
  unfolding settled_by row_seen answer_by
  unlike_refused zero zero k o h l = absurd (omega arith)
  unlike_refused (suc u) zero k o h l = small_refused D false false (bit false) true true (suc u) (omega arith) h l
  unlike_refused zero (suc v) k o h l = small_refused (D - 1) true false 1 false false 0 (omega arith) h l
  unlike_refused (suc u) (suc v) k o h l = small_refused (D - 1) true false 1 true true (suc u) (omega arith) h l
