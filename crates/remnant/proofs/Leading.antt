-- Laws of first digits that are all 1: of limbs, and of what a window shows. Assumes nothing.
use mathlib.Core.Path.{◌≡◌, refl, sym, ap, ◌∙◌}
use mathlib.Core.Bool.{Bool, true, false, ◌&&◌}
use mathlib.Core.List.{List, []}
use Prim.Native.Nat.{ℕ, suc, min, ◌+◌, ◌-◌, ◌*◌, ◌/◌, ◌%◌, ◌^◌, ◌≤◌, ◌<◌}
use native.Mathlib.Decide.{dec_le}
use native.Mathlib.Nat.{lt_of_not-le, div-one, add-mul-div_left, div-eq_of_lt}
use native.Mathlib.Numerals.{add-one}
use native.Mathlib.Omega.{arith}
use lib.Dec.{eqb}
use lib.Ieee.{size}
use lib.Ieee.Digits.{size-lt}
use lib.ListN.{length, take, drop, get_or, length-take, length-drop, drop_of_length-le}
use lib.Pow.{pow-add, pow_pos, pow_mono, shr-shr, shr_lt}
use lib.Seq.{drop-drop, get_or-drop, get_or-take}
use borrow.Author.Tests.{eq-eqb, ne_eqb}
use Rattle.std.specs.Option.{is_some}
use Rattle.limb.proofs.Powers.{one_moved}
use Rattle.limb.specs.Value.{value_of, Below}
use Rattle.limb.specs.Carry.{bit}
use Rattle.limb.proofs.Carry.{bit_le}
use Rattle.limb.proofs.Value.{value_nil, value_drop, value_shr, base_pow}
use Rattle.walk.specs.declared.state.Window.{Window}
use Rattle.walk.specs.Window.{guard_of, head_of, shown_of, shown_columns, Shows}
use Rattle.remnant.specs.Digits.{ShowsDigits}
use Rattle.remnant.specs.Ones.{OnesFirst}
use Rattle.walk.proofs.Showing.{shown_open, shown_guarded}
use Rattle.walk.proofs.Walking.{tail_lt}
use Rattle.remnant.proofs.Resting.{eqb_same, both_same, next_is, word_high, kept_longer}

-- ones above and ones below are ones in all
ones_joined : (a g M s : ℕ) → s < M → eqb (suc a) g && eqb (suc s) M ≡ eqb (suc (a * M + s)) (g * M)
ones_joined a g M s l = both_same (suc a) g (suc s) M (suc (a * M + s)) (g * M) (λ e f. omega (arith, ap (λ (x : ℕ). x * M) e)) (λ e. next_is a g M s l e)

pub first_holds : (p q : Bool) → q ≡ true → p && q ≡ p
first_holds true q e = e
first_holds false q e = refl

pub first_fails : (p q : Bool) → q ≡ false → p && q ≡ false
first_fails true q e = e
first_fails false q e = refl

-- ---- one limb

pub limb_full : (x count : ℕ) → count ≡ 64 → eqb x 18446744073709551615 ≡ eqb (suc x) (2 ^ count)
limb_full x count e = rw e (eqb_same x 18446744073709551615 (suc x) (2 ^ 64) (λ q. omega arith) (λ q. omega arith))

pub limb_part : (x count : ℕ) → count < 64 → eqb x (1 * 2 ^ count % 2 ^ 64 - 1) ≡ eqb (suc x) (2 ^ count)
limb_part x count h = rw (one_moved count h) (let p = pow_pos count in eqb_same x (2 ^ count - 1) (suc x) (2 ^ count) (λ q. omega arith) (λ q. omega arith))

-- ---- limbs

module _ (target : List ℕ) (i : ℕ) where
  -- the top limb, or none
  pub last_limb : length target ≤ i + 1 → value_of (drop i target) ≡ get_or target i 0
  last_limb h =
      let none : drop (suc i) target ≡ [] = drop_of_length-le target {i = suc i} (omega arith) in
      value_drop (2 ^ 64) i target ∙ rw (none, value_nil (2 ^ 64)) (omega arith)

  module _ (b : Below (2 ^ 64) target) (skip count : ℕ) (few : skip ≤ 64) (many : 64 ≤ count) where
    limbs_part : value_of (drop i target) / 2 ^ skip ≡ value_of (drop (i + 1) target) * 2 ^ (64 - skip) + get_or target i 0 / 2 ^ skip
    limbs_part =
        let u : ℕ = value_of (drop (i + 1) target) in
        let x : ℕ = get_or target i 0 in
        let e : value_of (drop i target) ≡ u * 2 ^ 64 + x = rw (add-one i) (omega (arith, value_drop (2 ^ 64) i target)) in
        ap (λ (n : ℕ). n / 2 ^ skip) e ∙ word_high u x skip few ∙ omega arith

    limb_small : get_or target i 0 / 2 ^ skip < 2 ^ (64 - skip)
    limb_small = shr_lt (64 - skip) skip (let e : 64 - skip + skip ≡ 64 = omega arith in rw e (b i))

    -- the lowest limb, and those above it
    pub ones_split : eqb (suc (value_of (drop (i + 1) target))) (2 ^ (count - 64)) && eqb (suc (get_or target i 0 / 2 ^ skip)) (2 ^ (64 - skip)) ≡ eqb (suc (value_of (drop i target) / 2 ^ skip)) (2 ^ (count - skip))
    ones_split =
        let weight : 2 ^ (count - 64) * 2 ^ (64 - skip) ≡ 2 ^ (count - skip) = sym (pow-add 2 (count - 64) (64 - skip)) ∙ ap (λ (n : ℕ). 2 ^ n) (omega arith) in
        ones_joined (value_of (drop (i + 1) target)) (2 ^ (count - 64)) (2 ^ (64 - skip)) (get_or target i 0 / 2 ^ skip) limb_small
        ∙ ap (λ (n : ℕ). eqb (suc n) (2 ^ (count - 64) * 2 ^ (64 - skip))) (sym limbs_part) ∙ ap (λ (n : ℕ). eqb (suc (value_of (drop i target) / 2 ^ skip)) n) weight

    pub ones_above : eqb (suc (get_or target i 0 / 2 ^ skip)) (2 ^ (64 - skip)) ≡ true → eqb (suc (value_of (drop (i + 1) target))) (2 ^ (count - 64)) ≡ eqb (suc (value_of (drop i target) / 2 ^ skip)) (2 ^ (count - skip))
    ones_above e = sym (first_holds _ _ e) ∙ ones_split

    pub ones_not : eqb (suc (get_or target i 0 / 2 ^ skip)) (2 ^ (64 - skip)) ≡ false → false ≡ eqb (suc (value_of (drop i target) / 2 ^ skip)) (2 ^ (count - skip))
    ones_not e = sym (first_fails (eqb (suc (value_of (drop (i + 1) target))) (2 ^ (count - 64))) _ e) ∙ ones_split

  -- whole limbs
  module _ (b : Below (2 ^ 64) target) (count : ℕ) (many : 64 ≤ count) where
    whole_limb : eqb (suc (value_of (drop i target) / 2 ^ 0)) (2 ^ (count - 0)) ≡ eqb (suc (value_of (drop i target))) (2 ^ count)
    whole_limb = let e : count - 0 ≡ count = omega arith in rw e (ap (λ (n : ℕ). eqb (suc n) (2 ^ count)) (div-one (value_of (drop i target))))

    pub ones_pass : get_or target i 0 ≡ 18446744073709551615 → eqb (suc (value_of (drop (i + 1) target))) (2 ^ (count - 64)) ≡ eqb (suc (value_of (drop i target))) (2 ^ count)
    ones_pass e = ones_above b 0 count (omega arith) many (eq-eqb (suc (get_or target i 0 / 2 ^ 0)) (2 ^ (64 - 0)) (ap suc (div-one (get_or target i 0)) ∙ omega arith)) ∙ whole_limb

    pub ones_stop : (get_or target i 0 ≡ 18446744073709551615 → ⊥) → false ≡ eqb (suc (value_of (drop i target))) (2 ^ count)
    ones_stop ne = ones_not b 0 count (omega arith) many (ne_eqb (suc (get_or target i 0 / 2 ^ 0)) (2 ^ (64 - 0)) (λ q. ne (omega (arith, q, div-one (get_or target i 0))))) ∙ whole_limb

-- ---- a part of the limbs, one limb after another

part_item : (n from i : ℕ) (target : List ℕ) → i < length (take n (drop from target)) → (i < n) × (get_or (take n (drop from target)) i 0 ≡ get_or target (from + i) 0)
part_item n from i target h =
    let l : i < n = omega (arith, length-take n (drop from target)) in
    (l, get_or-take n (drop from target) i 0 l ∙ get_or-drop from target i 0)

pub ones_begin : (target : List ℕ) (from count : ℕ) → eqb (suc (value_of (drop (from + 0) target))) (2 ^ (count - 0)) ≡ eqb (suc (value_of (drop from target))) (2 ^ count)
ones_begin target from count = let a : from + 0 ≡ from = omega arith in let b : count - 0 ≡ count = omega arith in rw (a, b) refl

module _ (target : List ℕ) (b : Below (2 ^ 64) target) (from count i : ℕ) (l : i < length (take (from + count / 64 - from) (drop from target))) where
  part_within : 64 ≤ count - 64 * i
  part_within = let h = (part_item (from + count / 64 - from) from i target l).0 in omega arith

  pub part_passes : get_or (take (from + count / 64 - from) (drop from target)) i 0 ≡ 18446744073709551615
      → eqb (suc (value_of (drop (from + (i + 1)) target))) (2 ^ (count - 64 * (i + 1))) ≡ eqb (suc (value_of (drop (from + i) target))) (2 ^ (count - 64 * i))
  part_passes e =
      let at : from + (i + 1) ≡ from + i + 1 = omega arith in
      let left : count - 64 * (i + 1) ≡ count - 64 * i - 64 = omega arith in
      rw (at, left) (ones_pass target (from + i) b (count - 64 * i) part_within (sym (part_item (from + count / 64 - from) from i target l).1 ∙ e))

  pub part_stops : (get_or (take (from + count / 64 - from) (drop from target)) i 0 ≡ 18446744073709551615 → ⊥) → false ≡ eqb (suc (value_of (drop (from + i) target))) (2 ^ (count - 64 * i))
  part_stops ne = ones_stop target (from + i) b (count - 64 * i) part_within (λ e. ne ((part_item (from + count / 64 - from) from i target l).1 ∙ e))

-- what is left is the top limb, or none
pub part_ends : (target : List ℕ) (from count i limb : ℕ) → count ≤ 64 * (length target - from) → 64 * (length target - from) < count + 64 → i ≡ length (take (from + count / 64 - from) (drop from target))
    → limb ≡ get_or target (from + count / 64) 0 → eqb (suc (limb / 2 ^ 0)) (2 ^ (count % 64)) ≡ eqb (suc (value_of (drop (from + i) target))) (2 ^ (count - 64 * i))
part_ends target from count i limb most least h e =
    let n : i ≡ count / 64 = h ∙ length-take (from + count / 64 - from) (drop from target) ∙ ap (min (from + count / 64 - from)) (length-drop from target) ∙ omega arith in
    let left : count - 64 * i ≡ count % 64 = omega arith in
    let at : from + i ≡ from + count / 64 = omega arith in
    rw (left, at) (ap (λ (m : ℕ). eqb (suc m) (2 ^ (count % 64))) (div-one limb ∙ e ∙ sym (last_limb target (from + count / 64) (omega arith))))

-- ---- what a window shows

carried_ones : (v Q R d : ℕ) → d ≡ v + Q → R ≡ 2 * Q → eqb (suc v) Q ≡ eqb (suc d) R
carried_ones v Q R d e f = eqb_same (suc v) Q (suc d) R (λ x. omega arith) (λ x. omega arith)

module _ (w : Window) (target : List ℕ) (b : Below (2 ^ 64) target) where
  -- the carry is a one above the limbs
  pub head_ones : (q inside : ℕ) → q ≤ inside → (w.carry ≡ true → inside ≡ 64 * w.filled)
      → eqb (suc (value_of (drop (length target - w.filled) target) / 2 ^ q)) (2 ^ (inside - q)) ≡ eqb (suc (head_of w target / 2 ^ q)) (2 ^ (inside + bit w.carry - q))
  unfolding head_of bit
  head_ones q inside h full = go w.carry refl
    where
      v : ℕ
      v = value_of (drop (length target - w.filled) target)

      go : (p : Bool) → w.carry ≡ p → eqb (suc (v / 2 ^ q)) (2 ^ (inside - q)) ≡ eqb (suc ((bit w.carry * 2 ^ (64 * w.filled) + v) / 2 ^ q)) (2 ^ (inside + bit w.carry - q))
      go false e = rw e (let x : 0 * 2 ^ (64 * w.filled) + v ≡ v = omega arith in let y : inside + 0 - q ≡ inside - q = omega arith in rw (x, y) refl)
      go true e =
          let f : 64 * w.filled ≡ q + (inside - q) = omega (arith, full e) in
          let split : 1 * 2 ^ (64 * w.filled) + v ≡ v + 2 ^ q * 2 ^ (inside - q) = omega (arith, ap (λ (n : ℕ). 2 ^ n) f ∙ pow-add 2 q (inside - q)) in
          let high : (1 * 2 ^ (64 * w.filled) + v) / 2 ^ q ≡ v / 2 ^ q + 2 ^ (inside - q) = ap (λ (n : ℕ). n / 2 ^ q) split ∙ add-mul-div_left v (2 ^ (inside - q)) (pow_pos q) in
          let top : 2 ^ (inside + 1 - q) ≡ 2 * 2 ^ (inside - q) = ap (λ (n : ℕ). 2 ^ n) (place inside q h) ∙ pow-add 2 1 (inside - q) in
          rw e (carried_ones (v / 2 ^ q) (2 ^ (inside - q)) (2 ^ (inside + 1 - q)) ((1 * 2 ^ (64 * w.filled) + v) / 2 ^ q) high top)
        where
          place : (a b : ℕ) → b ≤ a → a + 1 - b ≡ 1 + (a - b)
          place a b h = omega arith

  -- the limbs from a place on
  pub limbs_from : (limbs skip : ℕ) → value_of (drop (length target - w.filled) target) / 2 ^ (64 * limbs + skip) ≡ value_of (drop (length target - w.filled + limbs) target) / 2 ^ skip
  limbs_from limbs skip =
      let at : ℕ = length target - w.filled in
      let v : ℕ = value_of (drop at target) in
      sym (shr-shr v (64 * limbs) skip) ∙ ap (λ (n : ℕ). v / n / 2 ^ skip) (sym (base_pow limbs))
      ∙ ap (λ (n : ℕ). n / 2 ^ skip) (value_shr (2 ^ 64) limbs (drop at target) (λ i. rw (get_or-drop at target i 0) (b (at + i))))
      ∙ ap (λ (m : List ℕ). value_of m / 2 ^ skip) (drop-drop limbs at target)

module _ (w : Window) (target : List ℕ) (count digits : ℕ) (ds : ShowsDigits w target digits) where
  -- the first digits of D stand in what is shown
  first_shown : (k D : ℕ) (s : Shows w target k D) → count + 64 * s.below ≤ size D → (count ≤ digits) × (D / 2 ^ (size D - count) ≡ shown_of w target / 2 ^ (digits - count))
  first_shown k D s h =
      let t : ℕ = s.below in
      let all : digits + 64 * t ≡ size D = ds.exact k D s in
      let few : count ≤ digits = omega arith in (
        few,
        ap (λ (n : ℕ). D / 2 ^ n) (omega arith) ∙ ap (λ (n : ℕ). n / 2 ^ (digits - count + 64 * t)) s.value
            ∙ kept_longer (shown_of w target) (digits - count) (64 * t) s.rest (tail_lt w.tail t s.rest s.tail),
      )

  pub shown_ones : (r : Bool) → (count ≤ digits → r ≡ eqb (suc (shown_of w target / 2 ^ (digits - count))) (2 ^ count)) → OnesFirst w target count r
  shown_ones r f k D s h = let e = first_shown k D s h in f e.0 ∙ ap (λ (n : ℕ). eqb (suc n) (2 ^ count)) (sym e.1)

  pub none_asked : count ≡ 0 → OnesFirst w target count true
  none_asked z k D s h =
      let e : size D - count ≡ size D = omega arith in
      rw (e, z, div-eq_of_lt (size-lt D)) refl

  module _ (b : Below (2 ^ 64) target) (inside : ℕ) (sum : digits ≡ inside + bit w.carry + 64 * bit (is_some w.guard)) where
    full_limbs : w.carry ≡ true → inside ≡ 64 * w.filled
    unfolding bit
    full_limbs c = let e : digits ≡ inside + 1 + 64 * bit (is_some w.guard) = rw c at sum in omega (arith, ds.carried c)

    -- the last digit stands in the guard
    pub ones_guard : is_some w.guard ≡ true → guard_of w < 2 ^ 64 → count ≤ digits → digits - count < 64
        → eqb (suc (value_of (drop (length target - w.filled) target))) (2 ^ inside) && eqb (suc (guard_of w / 2 ^ (digits - count))) (2 ^ (64 - (digits - count)))
        ≡ eqb (suc (shown_of w target / 2 ^ (digits - count))) (2 ^ count)
    unfolding bit
    ones_guard g x few l =
        let q : ℕ = digits - count in
        let H : ℕ = head_of w target in
        let v : ℕ = value_of (drop (length target - w.filled) target) in
        let total : digits ≡ inside + bit w.carry + 64 * 1 = rw g at sum in
        let n0 : inside - 0 ≡ inside = omega arith in
        let n1 : inside + bit w.carry - 0 ≡ inside + bit w.carry = omega arith in
        let head : eqb (suc v) (2 ^ inside) ≡ eqb (suc H) (2 ^ (inside + bit w.carry)) =
        ap (λ (n : ℕ). eqb (suc n) (2 ^ inside)) (sym (div-one v)) ∙ ap (λ (n : ℕ). eqb (suc (v / 2 ^ 0)) (2 ^ n)) (sym n0) ∙ head_ones w target b 0 inside (omega arith) full_limbs
        ∙ ap (λ (n : ℕ). eqb (suc (H / 2 ^ 0)) (2 ^ n)) n1 ∙ ap (λ (n : ℕ). eqb (suc n) (2 ^ (inside + bit w.carry))) (div-one H) in
        let low : guard_of w / 2 ^ q < 2 ^ (64 - q) = shr_lt (64 - q) q (let e : 64 - q + q ≡ 64 = omega arith in rw e x) in
        let shown : H * 2 ^ (64 - q) + guard_of w / 2 ^ q ≡ shown_of w target / 2 ^ q = sym (ap (λ (n : ℕ). n / 2 ^ q) (shown_guarded w target g) ∙ word_high H (guard_of w) q (omega arith) ∙ omega arith) in
        let weight : 2 ^ (inside + bit w.carry) * 2 ^ (64 - q) ≡ 2 ^ count = sym (pow-add 2 (inside + bit w.carry) (64 - q)) ∙ ap (λ (n : ℕ). 2 ^ n) (omega arith) in
        ap (λ (p : Bool). p && eqb (suc (guard_of w / 2 ^ q)) (2 ^ (64 - q))) head ∙ ones_joined H (2 ^ (inside + bit w.carry)) (2 ^ (64 - q)) (guard_of w / 2 ^ q) low
        ∙ ap (λ (n : ℕ). eqb (suc n) (2 ^ (inside + bit w.carry) * 2 ^ (64 - q))) shown ∙ ap (λ (n : ℕ). eqb (suc (shown_of w target / 2 ^ q)) n) weight

    -- it stands in a limb, or in the carry: `place` digits of the limbs are below it
    pub ones_limbs : (place : ℕ) → guard_of w < 2 ^ 64 → count ≤ digits → 0 < count → digits - count ≡ place + 64 * bit (is_some w.guard)
        → eqb (suc (value_of (drop (length target - w.filled + place / 64) target) / 2 ^ (place % 64))) (2 ^ (inside - 64 * (place / 64) - place % 64))
        ≡ eqb (suc (shown_of w target / 2 ^ (digits - count))) (2 ^ count)
    unfolding bit
    ones_limbs place x few some e =
        let v : ℕ = value_of (drop (length target - w.filled) target) in
        let H : ℕ = head_of w target in
        let one = bit_le w.carry in
        let whole : 64 * (place / 64) + place % 64 ≡ place = omega arith in
        let here : value_of (drop (length target - w.filled + place / 64) target) / 2 ^ (place % 64) ≡ v / 2 ^ place =
        sym (limbs_from w target b (place / 64) (place % 64)) ∙ ap (λ (n : ℕ). v / 2 ^ n) whole in
        let n0 : inside - 64 * (place / 64) - place % 64 ≡ inside - place = omega arith in
        let n1 : inside + bit w.carry - place ≡ count = omega arith in
        ap (λ (n : ℕ). eqb (suc n) (2 ^ (inside - 64 * (place / 64) - place % 64))) here ∙ ap (λ (n : ℕ). eqb (suc (v / 2 ^ place)) (2 ^ n)) n0
        ∙ head_ones w target b place inside (omega arith) full_limbs ∙ ap (λ (n : ℕ). eqb (suc (H / 2 ^ place)) (2 ^ n)) n1
        ∙ ap (λ (n : ℕ). eqb (suc n) (2 ^ count)) (sym (go (is_some w.guard) refl))
      where
        go : (p : Bool) → is_some w.guard ≡ p → shown_of w target / 2 ^ (digits - count) ≡ head_of w target / 2 ^ place
        go false g =
            let y : digits - count ≡ place = (rw g at e) ∙ omega arith in
            rw (y, shown_open w target g) refl
        go true g =
            let y : digits - count ≡ place + 64 = (rw g at e) ∙ omega arith in
            rw (y, shown_guarded w target g) (kept_longer (head_of w target) place 64 (guard_of w) x)

-- ---- every limb filled but the first has all its digits

pub guarded_from : (p : Bool) (n : ℕ) → n < 64 * bit p → p ≡ true
unfolding bit
guarded_from true n h = refl
guarded_from false n h = absurd (omega arith)

module _ (w : Window) (target : List ℕ) (k D : ℕ) (s : Shows w target k D) where
  many_digits : 0 < w.filled → 64 * (w.filled + bit (is_some w.guard) + s.below - 1) < size D
  unfolding shown_columns
  many_digits f =
      let z : ℕ = 64 * (w.filled + bit (is_some w.guard) + s.below - 1) in
      let more : 2 ^ z < D = s.leads f in
      lt_of_not-le (λ (h : size D ≤ z). omega (arith, size-lt D, pow_mono {i = size D} {j = z} h))

  pub limbs_many : (digits inside : ℕ) → ShowsDigits w target digits → digits ≡ inside + bit w.carry + 64 * bit (is_some w.guard) → 64 * w.filled < inside + 64
  unfolding bit
  limbs_many digits inside ds sum = go w.carry refl
    where
      go : (p : Bool) → w.carry ≡ p → 64 * w.filled < inside + 64
      go true c = let e : digits ≡ inside + 1 + 64 * bit (is_some w.guard) = rw c at sum in omega (arith, ds.carried c)
      go false c = elim (dec_le 1 w.filled) [
        | yes f ↦ let e : digits ≡ inside + 0 + 64 * bit (is_some w.guard) = rw c at sum in omega (arith, many_digits f, ds.exact k D s)
        | no f ↦ omega (arith, f)
      ]

-- the limbs from a place on, of f that are filled of n
pub room_from : (n f inside limbs : ℕ) → f ≤ n → 64 * limbs ≤ inside → inside ≤ 64 * f → 64 * f < inside + 64
    → (inside - 64 * limbs ≤ 64 * (n - (n - f + limbs))) × (64 * (n - (n - f + limbs)) < inside - 64 * limbs + 64)
room_from n f inside limbs within h most many =
    let e : n - (n - f + limbs) ≡ f - limbs = omega arith in
    rw e (omega arith, omega arith)

pub place_within : (n f inside place : ℕ) → f ≤ n → place ≤ inside → inside ≤ 64 * f → n - f + place / 64 ≤ n
place_within n f inside place within h most = omega arith

pub place_rest : (inside place : ℕ) → place ≤ inside → place % 64 ≤ inside - 64 * (place / 64)
place_rest inside place h = omega arith
