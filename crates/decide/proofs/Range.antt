-- With refusals: the two ends get one answer exactly when `decided` says so.
use mathlib.Core.Path.{◌≡◌, refl, sym, ap, ◌∙◌}
use mathlib.Core.Logic.{◌⊎◌, inl, inr}
use mathlib.Core.Bool.{Bool, true, false, cond, ◌&&◌, ◌||◌, or-false}
use Prim.Native.Nat.{Ordering}
use Prim.Native.Nat.{ℕ, suc, ◌+◌, ◌*◌, ◌^◌, ◌≤◌, ◌<◌, compare}
use native.Mathlib.Nat.{le_trans, le_of_eq, le_of_lt, lt_of_lt_of_le, lt_of_le_of_lt, le_antisymm, suc-mul, mul-le-mul_right}
use native.Mathlib.Omega.{arith}
use borrow.Author.Tests.{ltb-true, lt-ltb, le-ltb, eqb-true, eqb-false, eq-eqb, ne_eqb}
use lib.Dec.{ltb, eqb}
use lib.Pow.{pow_pos, pow-add, pow_mono}
use lib.Ieee.{size}
use lib.Ieee.Digits.{size-lt, size_reaches}
use Rattle.rounding.specs.Mode.{Way, near, under, over}
use Rattle.rounding.specs.Select.{chosen}
use Rattle.rounding.specs.Answer.{rounded, ranged, number, digits, signed, Answer, too_large, too_small}
use Rattle.numbers.specs.Limits.{least_exponent, most_exponent}
use Rattle.rounding.proofs.Order.{le_or_lt, size_mono, compare_at}
use Rattle.rounding.proofs.Selection.{chosen_rep, chosen_mono, full}
use Rattle.rounding.proofs.Between.{is_large, is_small, is_in, digits_one, turned_one}
use Rattle.rounding.proofs.Scale.{exact, size_shift}
use Rattle.decide.specs.Class.{enough, settled}
use Rattle.decide.specs.Range.{carry, short_least, short_most, large?, small?, decided, or_large, or_small}
use Rattle.decide.proofs.Settled.{Alike, Span, Enough, enough_or, enough_true, part_lt, settled_if, settled_only}
use Rattle.decide.proofs.Carry.{size_enough, size_pow}
use Rattle.decide.proofs.Short.{at_least, size_least_short, size_most_short}

-- ---- refused

pub large_answer : (w : Way) (p s : ℕ) (g : Bool) (P : 0 < p) (m : ℕ) → most_exponent < size (chosen w p m) + s → rounded w p s g m ≡ too_large
unfolding rounded
large_answer w p s g P m h = is_large (size (chosen w p m) + s) _ h

pub small_answer : (w : Way) (p s : ℕ) (g : Bool) (P : 0 < p) (m : ℕ) → size (chosen w p m) + s < least_exponent → rounded w p s g m ≡ too_small
unfolding rounded
small_answer w p s g P m h = is_small (size (chosen w p m) + s) _ h

-- ---- one answer: alike, or both too large, or both too small

module _ (w : Way) (p s : ℕ) (g : Bool) (P : 0 < p) (lo hi : ℕ) (le : lo ≤ hi) where
  abbrev at : ℕ → Answer
  at m = rounded w p s g m

  abbrev ex : ℕ → ℕ
  ex m = size (chosen w p m) + s

  reg : ℕ → Answer
  reg m = number g (ex m) (digits p (chosen w p m)) (signed g (compare (chosen w p m) m))

  at_is : (m : ℕ) → at m ≡ ranged (ex m) (reg m)
  unfolding reg rounded
  at_is m = refl

  ex_le : ex lo ≤ ex hi
  ex_le = go (size_mono (chosen w p lo) (chosen w p hi) (chosen_mono w p lo hi P le))
    where
      go : {x y : ℕ} → x ≤ y → x + s ≤ y + s
      go h = omega arith

  alike_same : Alike w p lo hi → at lo ≡ at hi
  unfolding rounded
  alike_same e = let a = e.number in let b = e.tern in cc

  large_same : most_exponent < ex lo → at lo ≡ at hi
  large_same h = at_is lo ∙ is_large (ex lo) (reg lo) h ∙ sym (at_is hi ∙ is_large (ex hi) (reg hi) (lt_of_lt_of_le h ex_le))

  small_same : ex hi < least_exponent → at lo ≡ at hi
  small_same h = at_is lo ∙ is_small (ex lo) (reg lo) (lt_of_le_of_lt ex_le h) ∙ sym (at_is hi ∙ is_small (ex hi) (reg hi) h)

  reg_same : reg lo ≡ reg hi → Alike w p lo hi
  unfolding reg
  reg_same e =
      let a : size (chosen w p lo) + s ≡ size (chosen w p hi) + s = cc in
      let d : digits p (chosen w p lo) ≡ digits p (chosen w p hi) = cc in
      let t : signed g (compare (chosen w p lo) lo) ≡ signed g (compare (chosen w p hi) hi) = cc in
      record { number = digits_one p (chosen w p lo) (chosen w p hi) (chosen_rep w p lo P) (chosen_rep w p hi P) (omega arith) d; tern = turned_one g _ _ t }

  pub same_cases : at lo ≡ at hi → Alike w p lo hi ⊎ ((most_exponent < ex lo) ⊎ (ex hi < least_exponent))
  unfolding reg
  same_cases e = go (le_or_lt (ex lo) most_exponent) (le_or_lt least_exponent (ex lo)) (le_or_lt least_exponent (ex hi)) (le_or_lt (ex hi) most_exponent)
    where
      go : (ex lo ≤ most_exponent) ⊎ (most_exponent < ex lo) → (least_exponent ≤ ex lo) ⊎ (ex lo < least_exponent) → (least_exponent ≤ ex hi) ⊎ (ex hi < least_exponent) → (ex hi ≤ most_exponent) ⊎ (most_exponent < ex hi) → Alike w p lo hi ⊎ ((most_exponent < ex lo) ⊎ (ex hi < least_exponent))
      go (inr l) b c d = inr (inl l)
      go (inl l) b (inr c) d = inr (inr c)
      go (inl l) (inl b) (inl c) (inl d) = inl (reg_same (sym (at_is lo ∙ is_in (ex lo) (reg lo) b l) ∙ e ∙ at_is hi ∙ is_in (ex hi) (reg hi) c d))
      go (inl l) (inl b) (inl c) (inr d) = absurd (let u = is_in (ex lo) (reg lo) b l in let v = is_large (ex hi) (reg hi) d in let z : ◌≡◌ {A = ℕ} 0 1 = cc (at_is lo, at_is hi) in omega arith)
      go (inl l) (inr b) (inl c) (inl d) = absurd (let u = is_small (ex lo) (reg lo) b in let v = is_in (ex hi) (reg hi) c d in let z : ◌≡◌ {A = ℕ} 0 1 = cc (at_is lo, at_is hi) in omega arith)
      go (inl l) (inr b) (inl c) (inr d) = absurd (let u = is_small (ex lo) (reg lo) b in let v = is_large (ex hi) (reg hi) d in let z : ◌≡◌ {A = ℕ} 0 1 = cc (at_is lo, at_is hi) in omega arith)

-- ---- the tests on what is read

-- what a row must say of its ends besides `Span`; s is the scale
-- `low_side`: the least lies at most half a unit above n units, and `half` says whether just that; or the top of the range is not near
-- `high_side`: the bottom of the range is not near; or below the cut the greatest has `tail` ones
pub record Sides (s j n : ℕ) (half : Bool) (i tail lo hi : ℕ) : Type 0 where
  pub pos : 0 < n + i
  pub low_side : ((0 < n) × (lo * 2 ≤ n * 2 * 2 ^ j + 2 ^ j) × (half ≡ eqb (lo * 2) (n * 2 * 2 ^ j + 2 ^ j))) ⊎ (size (suc n) + (j + s) ≤ most_exponent)
  pub high_side : (least_exponent ≤ size (n + i) + (j + s)) ⊎ ((l : ℕ) × (l + tail ≡ j) × (hi + 2 ^ l ≡ (n + i) * 2 ^ j + 2 ^ j))

short_le : (w : Way) (p n : ℕ) (half : Bool) → size n ≤ p → size n + short_least w p n half ≤ size (suc n)
unfolding short_least
short_le w p n half h = go w
  where
    grows : size n ≤ size (suc n)
    grows = size_mono n (suc n) (omega arith)

    flat : size n + 0 ≤ size (suc n)
    flat = omega (arith, grows)

    test : (a b : Bool) → eqb (suc n) (2 ^ p) ≡ b → size n + cond (a && b) 1 0 ≤ size (suc n)
    test false b e = flat
    test true false e = flat
    test true true e = le_trans (one (size n) h) (le_of_eq (sym (ap size (eqb-true (suc n) (2 ^ p) e) ∙ size_pow p)))
      where
        one : (z : ℕ) → z ≤ p → z + 1 ≤ suc p
        one z h = omega arith

    go : (w : Way) → size n + short_least w p n half ≤ size (suc n)
    go near = test half (eqb (suc n) (2 ^ p)) refl
    go under = flat
    go over = flat

module _ (w : Way) (p s : ℕ) (P : 0 < p) (j n : ℕ) (ml half : Bool) (i : ℕ) (mg : Bool) (tail lo hi : ℕ) (sp : Span j n ml i mg lo hi) (si : Sides s j n half i tail lo hi) where
  lack_le : (m : ℕ) → (Enough w p m → ⊥) → size m ≤ p
  lack_le m lack = elim (le_or_lt (size m) p) [ inl h ↦ h | inr h ↦ absurd (lack (go w h)) ]
    where
      go : (v : Way) → p < size m → Enough v p m
      go near h = h
      go under h = omega arith
      go over h = omega arith

  lack_false : (m : ℕ) → (Enough w p m → ⊥) → enough w p m ≡ false
  lack_false m lack = go (enough w p m) refl
    where
      go : (b : Bool) → enough w p m ≡ b → b ≡ false
      go true e = absurd (lack (enough_true w p m e))
      go false e = refl

  -- an exponent in two ways of adding
  sum : (z c : ℕ) {v : ℕ} → v ≡ z + c + j → z + c + (j + s) ≡ v + s
  sum z c e = omega arith

  a_lt : sp.a < 2 ^ j
  a_lt = part_lt ml (2 ^ j) sp.a (pow_pos j) sp.part_least

  -- the sides, seen from the cut
  half_low : (lo * 2 ≤ n * 2 * 2 ^ j + 2 ^ j) → sp.a * 2 ≤ 2 ^ j
  half_low h = omega (arith, sp.least)

  half_same : eqb (lo * 2) (n * 2 * 2 ^ j + 2 ^ j) ≡ eqb (sp.a * 2) (2 ^ j)
  half_same = go (eqb (sp.a * 2) (2 ^ j)) refl
    where
      go : (b : Bool) → eqb (sp.a * 2) (2 ^ j) ≡ b → eqb (lo * 2) (n * 2 * 2 ^ j + 2 ^ j) ≡ b
      go true e = eq-eqb (lo * 2) (n * 2 * 2 ^ j + 2 ^ j) (omega (arith, sp.least, eqb-true (sp.a * 2) (2 ^ j) e))
      go false e = ne_eqb (lo * 2) (n * 2 * 2 ^ j + 2 ^ j) (λ f. eqb-false (sp.a * 2) (2 ^ j) e (back f))
        where
          back : lo * 2 ≡ n * 2 * 2 ^ j + 2 ^ j → sp.a * 2 ≡ 2 ^ j
          back f = omega (arith, sp.least)

  tail_high : (l : ℕ) → hi + 2 ^ l ≡ (n + i) * 2 ^ j + 2 ^ j → sp.b + 2 ^ l ≡ 2 ^ j
  tail_high l h = omega (arith, sp.most)

  pub large_is : large? w p (j + s) n ml half ≡ ltb most_exponent (size (chosen w p lo) + s)
  unfolding large?
  large_is = go (enough_or w p n) si.low_side
    where
      by : (c : ℕ) (b : Bool) → enough w p n ≡ b → cond b (carry w p n ml) (short_least w p n half) ≡ c → size (chosen w p (n * 2 ^ j + sp.a)) ≡ size n + c + j → ltb most_exponent (size n + cond (enough w p n) (carry w p n ml) (short_least w p n half) + (j + s)) ≡ ltb most_exponent (size (chosen w p lo) + s)
      by c b e f h =
          ap (λ (z : ℕ). ltb most_exponent (size n + z + (j + s))) (ap (λ (z : Bool). cond z (carry w p n ml) (short_least w p n half)) e ∙ f)
          ∙ ap (ltb most_exponent) (sum (size n) c (ap (λ (z : ℕ). size (chosen w p z)) sp.least ∙ h))

      go : (Enough w p n × (enough w p n ≡ true)) ⊎ (Enough w p n → ⊥) → ((0 < n) × (lo * 2 ≤ n * 2 * 2 ^ j + 2 ^ j) × (half ≡ eqb (lo * 2) (n * 2 * 2 ^ j + 2 ^ j))) ⊎ (size (suc n) + (j + s) ≤ most_exponent) → ltb most_exponent (size n + cond (enough w p n) (carry w p n ml) (short_least w p n half) + (j + s)) ≡ ltb most_exponent (size (chosen w p lo) + s)
      go (inl e) l = by (carry w p n ml) true e.1 refl (size_enough w p n j sp.a ml P e.0 sp.part_least)
      go (inr lack) (inl l) = by (short_least w p n half) false (lack_false n lack) refl (size_least_short w p n j P l.0 (lack_le n lack) sp.a half (half_low l.1) (l.2 ∙ half_same) lack a_lt)
      go (inr lack) (inr l) =
          let f = lack_le n lack in
          ap (λ (z : Bool). ltb most_exponent (size n + cond z (carry w p n ml) (short_least w p n half) + (j + s))) (lack_false n lack)
          ∙ le-ltb most_exponent _ (test (size n) (short_least w p n half) (short_le w p n half f) l)
          ∙ sym (le-ltb most_exponent _ (real (size (suc n)) (size_mono (chosen w p lo) (suc n * 2 ^ j) bound) (size_shift (suc n) j (omega arith)) l))
        where
          test : (z c : ℕ) {y : ℕ} → z + c ≤ y → y + (j + s) ≤ most_exponent → z + c + (j + s) ≤ most_exponent
          test z c h k = omega arith

          real : (c : ℕ) {z y : ℕ} → z ≤ y → y ≡ c + j → c + (j + s) ≤ most_exponent → z + s ≤ most_exponent
          real c h e k = omega arith

          lo_le : lo ≤ suc n * 2 ^ j
          lo_le = le_trans (le_of_eq sp.least) (omega (arith, suc-mul n (2 ^ j), a_lt))

          bound : chosen w p lo ≤ suc n * 2 ^ j
          bound = le_trans (chosen_mono w p lo (suc n * 2 ^ j) P lo_le) (le_of_eq (exact w p (suc n * 2 ^ j) P (full p j (suc n) P (lt_of_lt_of_le (size-lt n) (pow_mono (lack_le n lack))))))

  pub small_is : small? w p (j + s) (n + i) mg tail ≡ ltb (size (chosen w p hi) + s) least_exponent
  unfolding small?
  small_is = go (enough_or w p (n + i)) si.high_side
    where
      by : (c : ℕ) (b : Bool) → enough w p (n + i) ≡ b → cond b (carry w p (n + i) mg) (short_most w p (n + i) tail) ≡ c → size (chosen w p ((n + i) * 2 ^ j + sp.b)) ≡ size (n + i) + c + j → ltb (size (n + i) + cond (enough w p (n + i)) (carry w p (n + i) mg) (short_most w p (n + i) tail) + (j + s)) least_exponent ≡ ltb (size (chosen w p hi) + s) least_exponent
      by c b e f h =
          ap (λ (z : ℕ). ltb (size (n + i) + z + (j + s)) least_exponent) (ap (λ (z : Bool). cond z (carry w p (n + i) mg) (short_most w p (n + i) tail)) e ∙ f)
          ∙ ap (λ (z : ℕ). ltb z least_exponent) (sum (size (n + i)) c (ap (λ (z : ℕ). size (chosen w p z)) sp.most ∙ h))

      go : (Enough w p (n + i) × (enough w p (n + i) ≡ true)) ⊎ (Enough w p (n + i) → ⊥) → (least_exponent ≤ size (n + i) + (j + s)) ⊎ ((l : ℕ) × (l + tail ≡ j) × (hi + 2 ^ l ≡ (n + i) * 2 ^ j + 2 ^ j)) → ltb (size (n + i) + cond (enough w p (n + i)) (carry w p (n + i) mg) (short_most w p (n + i) tail) + (j + s)) least_exponent ≡ ltb (size (chosen w p hi) + s) least_exponent
      go (inl e) l = by (carry w p (n + i) mg) true e.1 refl (size_enough w p (n + i) j sp.b mg P e.0 sp.part_most)
      go (inr lack) (inr l) = by (short_most w p (n + i) tail) false (lack_false (n + i) lack) refl (size_most_short w p (n + i) j P si.pos (lack_le (n + i) lack) l.0 tail sp.b l.1 (tail_high l.0 l.2))
      go (inr lack) (inl l) =
          ap (λ (z : Bool). ltb (size (n + i) + cond z (carry w p (n + i) mg) (short_most w p (n + i) tail) + (j + s)) least_exponent) (lack_false (n + i) lack)
          ∙ le-ltb _ least_exponent (test (size (n + i)) (short_most w p (n + i) tail) l)
          ∙ sym (le-ltb _ least_exponent (real (size (n + i)) l (le_trans (at_least w p (n + i) j P si.pos (lack_le (n + i) lack) w sp.b) (le_of_eq (ap (λ (z : ℕ). size (chosen w p z)) (sym sp.most))))))
        where
          test : (z c : ℕ) → least_exponent ≤ z + (j + s) → least_exponent ≤ z + c + (j + s)
          test z c k = omega arith

          real : (z : ℕ) {y : ℕ} → least_exponent ≤ z + (j + s) → z + j ≤ y → least_exponent ≤ y + s
          real z k h = omega arith

  or_cases : (a b c : Bool) → (a || (b || c)) ≡ true → (a ≡ true) ⊎ ((b ≡ true) ⊎ (c ≡ true))
  or_cases true b c e = inl refl
  or_cases false true c e = inr (inl refl)
  or_cases false false c e = inr (inr e)

  or_first : (a b c : Bool) → a ≡ true → (a || (b || c)) ≡ true
  or_first true b c e = refl
  or_first false b c e = absurd (let z : ◌≡◌ {A = ℕ} 0 1 = cc in omega arith)

  or_second : (a b c : Bool) → b ≡ true → (a || (b || c)) ≡ true
  or_second true b c e = refl
  or_second false true c e = refl
  or_second false false c e = absurd (let z : ◌≡◌ {A = ℕ} 0 1 = cc in omega arith)

  or_third : (a b c : Bool) → c ≡ true → (a || (b || c)) ≡ true
  or_third true b c e = refl
  or_third false true c e = refl
  or_third false false c e = e

  le : lo ≤ hi
  le = le_of_lt sp.apart

  abbrev one : Bool
  one = settled w p n ml i mg

  abbrev two : Bool
  two = large? w p (j + s) n ml half

  abbrev three : Bool
  three = small? w p (j + s) (n + i) mg tail

  pub decided_if : (g : Bool) → decided w p (j + s) n ml half i mg tail ≡ true → rounded w p s g lo ≡ rounded w p s g hi
  unfolding decided
  decided_if g e = go (or_cases one two three e)
    where
      go : (one ≡ true) ⊎ ((two ≡ true) ⊎ (three ≡ true)) → rounded w p s g lo ≡ rounded w p s g hi
      go (inl h) = alike_same w p s g P lo hi le (settled_if w p P j n ml i mg lo hi sp h)
      go (inr (inl h)) = large_same w p s g P lo hi le (ltb-true most_exponent (size (chosen w p lo) + s) (sym large_is ∙ h))
      go (inr (inr h)) = small_same w p s g P lo hi le (ltb-true (size (chosen w p hi) + s) least_exponent (sym small_is ∙ h))

  pub decided_only : (g : Bool) → rounded w p s g lo ≡ rounded w p s g hi → decided w p (j + s) n ml half i mg tail ≡ true
  unfolding decided
  decided_only g e = go (same_cases w p s g P lo hi le e)
    where
      go : Alike w p lo hi ⊎ ((most_exponent < size (chosen w p lo) + s) ⊎ (size (chosen w p hi) + s < least_exponent)) → (one || (two || three)) ≡ true
      go (inl h) = or_first one two three (settled_only w p P j n ml i mg lo hi sp h)
      go (inr (inl h)) = or_second one two three (large_is ∙ lt-ltb most_exponent (size (chosen w p lo) + s) h)
      go (inr (inr h)) = or_third one two three (small_is ∙ lt-ltb (size (chosen w p hi) + s) least_exponent h)

  -- ---- fewer tests, where one end of the range is far

  one_test : (a b c : Bool) → c ≡ false → (a || (b || c)) ≡ (a || b)
  one_test true b c e = refl
  one_test false true c e = refl
  one_test false false c e = e

  other_test : (a b c : Bool) → (b ≡ true → a ≡ true) → (a || (b || c)) ≡ (a || c)
  other_test true b c f = refl
  other_test false true c f = absurd (let e = f refl in let z : ◌≡◌ {A = ℕ} 0 1 = cc in omega arith)
  other_test false false c f = refl

  not_small : least_exponent ≤ size (n + i) + (j + s) → three ≡ false
  unfolding small?
  not_small h = le-ltb _ least_exponent (go (size (n + i)) _ h)
    where
      go : (z c : ℕ) → least_exponent ≤ z + (j + s) → least_exponent ≤ z + c + (j + s)
      go z c h = omega arith

  -- what the least is selected to lies above the greatest, so both are
  large_settled : size (n + i) + (j + s) ≤ most_exponent → two ≡ true → one ≡ true
  large_settled h e = settled_only w p P j n ml i mg lo hi sp (record { number = le_antisymm up down; tern = compare_at Ordering.gt top lo (lt_of_lt_of_le (s_lt sp.apart) (le_of_lt beyond)) ∙ sym (ap (λ (v : ℕ). compare v hi) (le_antisymm down up) ∙ compare_at Ordering.gt top hi beyond) })
    where
      top : ℕ
      top = chosen w p lo

      s_lt : lo < hi → lo < hi
      s_lt h = h

      room : size (n + i) + j < size (chosen w p lo)
      room = go (size (n + i)) (size (chosen w p lo)) h (ltb-true most_exponent (size (chosen w p lo) + s) (sym large_is ∙ e))
        where
          go : (z c : ℕ) → z + (j + s) ≤ most_exponent → most_exponent < c + s → z + j < c
          go z c h k = omega arith

      next : hi < suc (n + i) * 2 ^ j
      next = le_trans (le_of_eq (ap suc sp.most)) (omega (arith, suc-mul (n + i) (2 ^ j), part_lt mg (2 ^ j) sp.b (pow_pos j) sp.part_most))

      beyond : hi < chosen w p lo
      beyond = lt_of_lt_of_le next (le_trans (mul-le-mul_right (2 ^ j) (size-lt (n + i))) (le_trans (le_of_eq (sym (pow-add 2 (size (n + i)) j))) (size_reaches (chosen w p lo) (size (n + i) + j) room)))

      up : chosen w p lo ≤ chosen w p hi
      up = chosen_mono w p lo hi P (le_of_lt sp.apart)

      down : chosen w p hi ≤ chosen w p lo
      down = le_trans (chosen_mono w p hi (chosen w p lo) P (le_of_lt beyond)) (le_of_eq (exact w p (chosen w p lo) P (chosen_rep w p lo P)))

  pub only_large : least_exponent ≤ size (n + i) + (j + s) → decided w p (j + s) n ml half i mg tail ≡ or_large w p (j + s) n ml half i mg
  unfolding decided or_large
  only_large h = one_test one two three (not_small h)

  pub only_small : size (n + i) + (j + s) ≤ most_exponent → decided w p (j + s) n ml half i mg tail ≡ or_small w p (j + s) n ml i mg tail
  unfolding decided or_small
  only_small h = other_test one two three (large_settled h)

  pub no_refusal : least_exponent ≤ size (n + i) + (j + s) → size (n + i) + (j + s) ≤ most_exponent → decided w p (j + s) n ml half i mg tail ≡ settled w p n ml i mg
  unfolding decided
  no_refusal h k = other_test one two three (large_settled k) ∙ ap (λ (b : Bool). one || b) (not_small h) ∙ or-false one
