-- The rows of the table: for each, the two ends as so many cut units and a part. Both operands reach into what is read.
use mathlib.Core.Path.{◌≡◌, refl, sym, ap, ◌∙◌}
use mathlib.Core.Logic.{inl, inr}
use mathlib.Core.Bool.{true, false, ◌||◌}
use Prim.Native.Nat.{ℕ, zero, suc, ◌+◌, ◌-◌, ◌*◌, ◌^◌, ◌≤◌, ◌<◌}
use native.Mathlib.Nat.{le_trans, le_of_eq, pow-succ'}
use native.Mathlib.Omega.{arith}
use borrow.Author.Tests.{ne_eqb}
use lib.Dec.{eqb}
use lib.Pow.{pow_pos, pow_mono}
use lib.Ieee.{size}
use Rattle.numbers.specs.Limits.{least_exponent, most_exponent}
use Rattle.rounding.proofs.Order.{size_mono, zero_or}
use Rattle.decide.proofs.Lean.{Part}
use Rattle.decide.specs.Table.{some?}
use Rattle.decide.proofs.Settled.{Span}
use Rattle.decide.proofs.Range.{Sides}

-- x read digits above the cut 2 ^ j and u unread ones below it: x units at least, and u ones more at most; 2 ^ l is the weight of the last digit
pub record Seen (j x u least most : ℕ) : Type 0 where
  pub l : ℕ
  pub cut : l + u ≡ j
  pub low : least ≡ x * 2 ^ j
  pub high : most + 2 ^ l ≡ x * 2 ^ j + 2 ^ j

pub seen_le : (j x u xl xh : ℕ) → Seen j x u xl xh → xl ≤ xh
seen_le j x u xl xh a = omega (arith, a.low, a.high, pow_mono (go a.l a.cut))
  where
    go : (l : ℕ) → l + u ≡ j → l ≤ j
    go l e = omega arith

-- ---- the weight of the last digit against the cut

pub last_none : (l u j : ℕ) → l + u ≡ j → u ≡ 0 → 2 ^ l ≡ 2 ^ j
last_none l u j e z = ap (λ (k : ℕ). 2 ^ k) (go e z)
  where
    go : l + u ≡ j → u ≡ 0 → l ≡ j
    go e z = omega arith

pub last_one : (l j : ℕ) → l + 1 ≡ j → 2 ^ l * 2 ≡ 2 ^ j
last_one l j e = omega (arith, pow-succ' 2 l) ∙ ap (λ (k : ℕ). 2 ^ k) (go e)
  where
    go : l + 1 ≡ j → suc l ≡ j
    go e = omega arith

pub half_pow : (l j : ℕ) → l < j → 2 ^ l * 2 ≤ 2 ^ j
half_pow l j h = le_trans (le_of_eq (twice (2 ^ l) ∙ sym (pow-succ' 2 l))) (pow_mono h)
  where
    twice : (a : ℕ) → a * 2 ≡ 2 * a
    twice a = omega arith

pub last_half : (l u j : ℕ) → l + suc u ≡ j → 2 ^ l * 2 ≤ 2 ^ j
last_half l u j e = half_pow l j (omega arith)

pub last_quarter : (l u j : ℕ) → l + suc (suc u) ≡ j → 2 ^ l * 4 ≤ 2 ^ j
last_quarter l u j e = le_trans (le_of_eq (four (2 ^ l) (2 ^ suc l) (2 ^ suc (suc l)) (pow-succ' 2 l) (pow-succ' 2 (suc l)))) (pow_mono (go e))
  where
    four : (a b c : ℕ) → b ≡ 2 * a → c ≡ 2 * b → a * 4 ≡ c
    four a b c e f = omega arith

    go : l + suc (suc u) ≡ j → suc (suc l) ≤ j
    go e = omega arith

-- two last digits below the cut leave something, unless each is one below it
pub last_two : (l m j u v : ℕ) → l + suc u ≡ j → m + suc v ≡ j → Part (some? u || some? v) (2 ^ j) (2 ^ j - (2 ^ l + 2 ^ m))
last_two l m j zero zero e f = none (2 ^ j) (2 ^ l) (2 ^ m) (last_one l j e) (last_one m j f)
  where
    none : (C L M : ℕ) → L * 2 ≡ C → M * 2 ≡ C → C - (L + M) ≡ 0
    none C L M h k = omega arith
last_two l m j zero (suc v) e f = some (2 ^ j) (2 ^ l) (2 ^ m) (last_half l 0 j e) (last_quarter m v j f) (pow_pos l) (pow_pos m)
  where
    some : (C L M : ℕ) → L * 2 ≤ C → M * 4 ≤ C → 0 < L → 0 < M → (0 < C - (L + M)) × (C - (L + M) < C)
    some C L M h k l m = (omega arith, omega arith)
last_two l m j (suc u) v e f = some (2 ^ j) (2 ^ l) (2 ^ m) (last_quarter l u j e) (last_half m v j f) (pow_pos l) (pow_pos m)
  where
    some : (C L M : ℕ) → L * 4 ≤ C → M * 2 ≤ C → 0 < L → 0 < M → (0 < C - (L + M)) × (C - (L + M) < C)
    some C L M h k l m = (omega arith, omega arith)

cut_le : (l u j : ℕ) → l + u ≡ j → l ≤ j
cut_le l u j e = omega arith

-- ---- x units are y units and the gap between them

gap_units : (x y j : ℕ) → y < x → x * 2 ^ j ≡ y * 2 ^ j + (x - y) * 2 ^ j
gap_units x y j h = ap (λ (z : ℕ). z * 2 ^ j) (back x y h) ∙ go (x - y)
  where
    back : (x y : ℕ) → y < x → x ≡ y + (x - y)
    back x y h = omega arith

    go : (n : ℕ) → (y + n) * 2 ^ j ≡ y * 2 ^ j + n * 2 ^ j
    go n = omega arith

gap_less : (x y j : ℕ) → y < x → x * 2 ^ j ≡ y * 2 ^ j + (x - y - 1) * 2 ^ j + 2 ^ j
gap_less x y j h = ap (λ (z : ℕ). z * 2 ^ j) (back x y h) ∙ go (x - y - 1)
  where
    back : (x y : ℕ) → y < x → x ≡ y + (x - y - 1) + 1
    back x y h = omega arith

    go : (n : ℕ) → (y + n + 1) * 2 ^ j ≡ y * 2 ^ j + n * 2 ^ j + 2 ^ j
    go n = omega arith

-- ---- same signs

-- only x is unread
pub same_one : (j x u xl xh y yl yh : ℕ) → Seen j x (suc u) xl xh → Seen j y 0 yl yh → Span j (x + y) false 0 true (xl + yl) (xh + yh)
same_one j x u xl xh y yl yh p q =
    let h = last_half p.l u j p.cut in
    let k = pow_pos p.l in
    let f = last_none q.l 0 j q.cut refl in
    let c = p.low in let d = p.high in let e = q.low in let g = q.high in
    let L : ℕ = 2 ^ p.l in
    record {
      a = 0;
      b = 2 ^ j - 2 ^ p.l;
      least = omega arith;
      most = omega arith;
      part_least = refl;
      part_most = (omega arith, omega arith);
      carry = omega arith;
      apart = omega arith;
      wide = inl refl;
    }

-- both are unread: a carry may come, and something below it unless there is one digit each
pub same_both : (j x u xl xh y v yl yh : ℕ) → Seen j x (suc u) xl xh → Seen j y (suc v) yl yh → Span j (x + y) false 1 (some? u || some? v) (xl + yl) (xh + yh)
same_both j x u xl xh y v yl yh p q =
    let h = last_half p.l u j p.cut in
    let k = last_half q.l v j q.cut in
    let c = p.low in let d = p.high in let e = q.low in let g = q.high in
    let m = pow_pos p.l in let n = pow_pos q.l in
    record {
      a = 0;
      b = 2 ^ j - (2 ^ p.l + 2 ^ q.l);
      least = omega arith;
      most = omega arith;
      part_least = refl;
      part_most = last_two p.l q.l j u v p.cut q.cut;
      carry = omega arith;
      apart = omega arith;
      wide = inl refl;
    }

-- ---- unlike signs, and x is larger where both are read

-- y is unread: it may borrow one unit
pub unlike_unread : (j x u xl xh y v yl yh : ℕ) → Seen j x u xl xh → Seen j y (suc v) yl yh → y < x → Span j (x - y - 1) true 1 (some? u) (xl - yh) (xh - yl)
unlike_unread j x u xl xh y v yl yh p q lt =
    let k = last_half q.l v j q.cut in
    let c = p.low in let d = p.high in let e = q.low in let g = q.high in
    let m = pow_pos p.l in let n = pow_pos q.l in
    let w = gap_less x y j lt in
    let r = pow_mono (cut_le p.l u j p.cut) in
    record {
      a = 2 ^ q.l;
      b = 2 ^ j - 2 ^ p.l;
      least = omega arith;
      most = omega arith;
      part_least = (n, omega arith);
      part_most = part u p.cut;
      carry = omega arith;
      apart = omega arith;
      wide = inr (inl refl);
    }
  where
    part : (u : ℕ) → p.l + u ≡ j → Part (some? u) (2 ^ j) (2 ^ j - 2 ^ p.l)
    part zero e = let f = last_none p.l 0 j e refl in omega arith
    part (suc u) e = let f = last_half p.l u j e in let m = pow_pos p.l in (omega arith, omega arith)

pub unlike_read : (j x u xl xh y yl yh : ℕ) → Seen j x (suc u) xl xh → Seen j y 0 yl yh → y < x → Span j (x - y) false 0 true (xl - yh) (xh - yl)
unlike_read j x u xl xh y yl yh p q lt =
    let h = last_half p.l u j p.cut in
    let k = pow_pos p.l in
    let f = last_none q.l 0 j q.cut refl in
    let c = p.low in let d = p.high in let e = q.low in let g = q.high in
    let w = gap_units x y j lt in
    record {
      a = 0;
      b = 2 ^ j - 2 ^ p.l;
      least = omega arith;
      most = omega arith;
      part_least = refl;
      part_most = (omega arith, omega arith);
      carry = omega arith;
      apart = omega arith;
      wide = inl refl;
    }

-- ---- the sides of these rows

-- where x is not 0, x units are a number in range
pub record Held (s j x : ℕ) : Type 0 where
  pub from : 0 < x → least_exponent ≤ size x + (j + s)
  pub to : 0 < x → size x + (j + s) ≤ most_exponent

pub more : (j s : ℕ) {a b : ℕ} → a ≤ b → a + (j + s) ≤ b + (j + s)
more j s h = omega arith

-- the least is a whole number of units
pub whole : (j n : ℕ) {lo : ℕ} → 0 < n → lo ≡ n * 2 ^ j → (0 < n) × (lo * 2 ≤ n * 2 * 2 ^ j + 2 ^ j) × (false ≡ eqb (lo * 2) (n * 2 * 2 ^ j + 2 ^ j))
whole j n {lo} h e = let c = pow_pos j in (h, omega arith, sym (ne_eqb (lo * 2) (n * 2 * 2 ^ j + 2 ^ j) (λ f. omega arith)))

module _ (s j x u xl xh y v yl yh : ℕ) (p : Seen j x u xl xh) (q : Seen j y v yl yh) where
  pub sides_same_one : v ≡ 0 → 0 < x + y → Sides s j (x + y) false 0 u (xl + yl) (xh + yh)
  sides_same_one z h =
      let c = p.low in let d = p.high in let e = q.low in let g = q.high in
      let f = last_none q.l v j q.cut z in
      record { pos = omega arith; low_side = inl (whole j (x + y) h (omega arith)); high_side = inr (p.l, p.cut, omega arith) }

  pub sides_same_both : 0 < x + y → Held s j x → Held s j y → (tail : ℕ) → Sides s j (x + y) false 1 tail (xl + yl) (xh + yh)
  sides_same_both h r t tail =
      let c = p.low in let e = q.low in
      record { pos = omega arith; low_side = inl (whole j (x + y) (omega arith) (omega arith)); high_side = inl (elim (zero_or x) [ inl z ↦ le_trans (t.from (omega arith)) (more j s (size_mono y (x + y + 1) (omega arith))) | inr k ↦ le_trans (r.from k) (more j s (size_mono x (x + y + 1) (omega arith))) ]) }

  pub sides_unlike_unread : y < x → Held s j x → Sides s j (x - y - 1) false 1 u (xl - yh) (xh - yl)
  sides_unlike_unread lt r =
      let c = p.low in let d = p.high in let e = q.low in
      let w = gap_less x y j lt in
      let k = pow_mono (cut_le p.l u j p.cut) in
      record { pos = omega arith; low_side = inr (le_trans (more j s (size_mono (suc (x - y - 1)) x (omega arith))) (r.to (omega arith))); high_side = inr (p.l, p.cut, omega arith) }

  pub sides_unlike_read : v ≡ 0 → y < x → Sides s j (x - y) false 0 u (xl - yh) (xh - yl)
  sides_unlike_read z lt =
      let c = p.low in let d = p.high in let e = q.low in let g = q.high in
      let f = last_none q.l v j q.cut z in
      let w = gap_units x y j lt in
      let k = pow_mono (cut_le p.l u j p.cut) in
      record { pos = omega arith; low_side = inl (whole j (x - y) (omega arith) (omega arith)); high_side = inr (p.l, p.cut, omega arith) }
