-- Runs of one or two limbs by value: at the top of two limbs, which of two is the larger, and written to a target. Assumes nothing.
use mathlib.Core.Path.{◌≡◌, sym, ap, ◌∙◌}
use mathlib.Core.Logic.{◌⊎◌, inl, inr}
use mathlib.Core.Bool.{Bool, true, false, cond, ◌&&◌, ◌||◌}
use mathlib.Core.List.{List, [], ◌∷◌}
use Prim.Native.Nat.{ℕ, ◌+◌, ◌-◌, ◌*◌, ◌/◌, ◌^◌, ◌≤◌, ◌<◌}
use native.Mathlib.Nat.{le_of_lt, add-mul-div_left, div-eq_of_lt, mul-le-mul_right, le_of_mul-le-mul_right}
use native.Mathlib.Omega.{arith}
use borrow.Author.Tests.{lt-ltb, le-ltb, ltb-true, ltb-false, eq-eqb, ne_eqb}
use lib.Dec.{ltb, eqb}
use lib.ListN.{length, get_or, set}
use lib.Pow.{pow_pos}
use Rattle.limb.specs.Value.{value_of, value_in}
use Rattle.limb.specs.Carry.{bit}
use Rattle.rounding.proofs.Order.{le_or_lt, sub_mul}
use Rattle.twolimbs.specs.Two.{head_in}
use Rattle.twolimbs.specs.declared.Head.{Head}
use Rattle.aligned.specs.Few.{Few, AbsoluteDifference}

-- ---- one limb, or two

pub two_limbs : (n : ℕ) → Few n → (n ≡ 1 → ⊥) → n ≡ 2
two_limbs n f e = elim (le_or_lt n 1) [ inl l ↦ absurd (e (omega (arith, f.0))) | inr l ↦ omega (arith, f.1) ]

pub one_top : (l : List ℕ) → length l ≡ 1 → head_in (2 ^ 64) false (get_or l 0 0) 0 ≡ value_of l * 2 ^ (64 * (2 - length l))
unfolding head_in bit value_in
one_top [] e = absurd (omega arith)
one_top (x ∷ []) e = go (2 ^ 64)
  where
    go : (B : ℕ) → (0 * B + x) * B + 0 ≡ (x + B * 0) * B
    go B = omega arith
one_top (x ∷ y ∷ l) e = absurd (omega arith)

pub two_top : (l : List ℕ) → length l ≡ 2 → head_in (2 ^ 64) false (get_or l 1 0) (get_or l 0 0) ≡ value_of l * 2 ^ (64 * (2 - length l))
unfolding head_in bit value_in
two_top [] e = absurd (omega arith)
two_top (x ∷ []) e = absurd (omega arith)
two_top (x ∷ y ∷ []) e = go (2 ^ 64)
  where
    go : (B : ℕ) → (0 * B + y) * B + x ≡ (x + B * (y + B * 0)) * 1
    go B = omega arith
two_top (x ∷ y ∷ z ∷ l) e = absurd (omega arith)

-- the low limb is left out where there is no room for it
pub one_written : (l : List ℕ) (high low : ℕ) → length l ≡ 1 → low < 2 ^ 64 → value_of (set l 0 high) ≡ head_in (2 ^ 64) false high low / 2 ^ (64 * (2 - length l))
unfolding head_in bit value_in
one_written [] high low e h = absurd (omega arith)
one_written (x ∷ []) high low e h = sym (ap (λ (m : ℕ). m / 2 ^ 64) (turn (2 ^ 64)) ∙ add-mul-div_left low high (pow_pos 64) ∙ rw (div-eq_of_lt h) (flat (2 ^ 64)))
  where
    turn : (B : ℕ) → (0 * B + high) * B + low ≡ low + B * high
    turn B = omega arith

    flat : (B : ℕ) → 0 + high ≡ high + B * 0
    flat B = omega arith
one_written (x ∷ y ∷ l) high low e h = absurd (omega arith)

pub two_written : (l : List ℕ) (high low : ℕ) → length l ≡ 2 → value_of (set (set l 0 low) 1 high) ≡ head_in (2 ^ 64) false high low / 2 ^ (64 * (2 - length l))
unfolding head_in bit value_in
two_written [] high low e = absurd (omega arith)
two_written (x ∷ []) high low e = absurd (omega arith)
two_written (x ∷ y ∷ []) high low e = go (2 ^ 64)
  where
    go : (B : ℕ) → low + B * (high + B * 0) ≡ ((0 * B + high) * B + low) / 1
    go B = omega arith
two_written (x ∷ y ∷ z ∷ l) high low e = absurd (omega arith)

-- ---- which of two is the larger

module _ (B u s v t : ℕ) where
  over : u < v → s < B → head_in B false u s < head_in B false v t
  unfolding head_in bit
  over h l = omega (arith, mul-le-mul_right B h)

  level : u ≡ v → s ≤ t → head_in B false u s ≤ head_in B false v t
  unfolding head_in bit
  level e l = omega (arith, ap (λ (m : ℕ). m * B) e)

  level_over : u ≡ v → s < t → head_in B false u s < head_in B false v t
  unfolding head_in bit
  level_over e l = omega (arith, ap (λ (m : ℕ). m * B) e)

-- the test of the high limbs, and of the low ones where those are level, is the test of what they are worth
pub larger_is : (B u s v t : ℕ) → s < B → t < B → (ltb u v || (eqb u v && ltb s t)) ≡ ltb (head_in B false u s) (head_in B false v t)
larger_is B u s v t S T = elim (le_or_lt v u) [
  | inr h ↦ rw (lt-ltb u v h) (sym (lt-ltb _ _ (over B u s v t h S)))
  | inl h ↦ elim (le_or_lt u v) [
    | inr k ↦ rw (le-ltb u v h, ne_eqb u v (λ e. omega arith)) (sym (le-ltb _ _ (le_of_lt (over B v t u s k T))))
    | inl k ↦ let e : u ≡ v = omega arith in rw (le-ltb u v h, eq-eqb u v e) (low e (le_or_lt t s))
  ]
]
  where
    low : u ≡ v → (t ≤ s) ⊎ (s < t) → ltb s t ≡ ltb (head_in B false u s) (head_in B false v t)
    low e (inl l) = le-ltb s t l ∙ sym (le-ltb _ _ (level B v t u s (sym e) l))
    low e (inr l) = lt-ltb s t l ∙ sym (lt-ltb _ _ (level_over B u s v t e l))

-- ---- the larger less the other

abbrev worth : Head → ℕ
worth h = head_in (2 ^ 64) false h.high h.low

module _ (x y f g : Head) (s : Bool) (lx : x.low < 2 ^ 64) (ly : y.low < 2 ^ 64) (se : s ≡ (ltb x.high y.high || (eqb x.high y.high && ltb x.low y.low))) (fe : f ≡ cond s y x) (ge : g ≡ cond s x y) where
  told : s ≡ ltb (worth x) (worth y)
  told = se ∙ larger_is (2 ^ 64) x.high x.low y.high y.low lx ly

  pub in_order : worth g ≤ worth f
  in_order = rw (fe, ge) (go s told)
    where
      go : (b : Bool) → b ≡ ltb (worth x) (worth y) → worth (cond b x y) ≤ worth (cond b y x)
      go true e = le_of_lt (ltb-true (worth x) (worth y) (sym e))
      go false e = ltb-false (worth x) (worth y) (sym e)

  module _ (a b : List ℕ) (many : length b ≡ length a) (ex : worth x ≡ value_of a * 2 ^ (64 * (2 - length a))) (ey : worth y ≡ value_of b * 2 ^ (64 * (2 - length b))) where
    abbrev P : ℕ
    P = 2 ^ (64 * (2 - length a))

    second_top : worth y ≡ value_of b * P
    second_top = rw many at ey

    larger : (i : Bool) → worth (cond i y x) ≡ value_of (cond i b a) * P
    larger true = second_top
    larger false = ex

    other : (i : Bool) → worth (cond i x y) ≡ value_of (cond i a b) * P
    other true = ex
    other false = second_top

    pub absolute_difference : (high low : ℕ) → head_in (2 ^ 64) false high low ≡ worth f - worth g → AbsoluteDifference a b (record { swapped = s; high = high; low = low })
    absolute_difference high low d =
        let e : worth f ≡ value_of (cond s b a) * P = ap worth fe ∙ larger s in
        let h : worth g ≡ value_of (cond s a b) * P = ap worth ge ∙ other s in
        record { order = le_of_mul-le-mul_right (rw (← e, ← h) in_order) (pow_pos (64 * (2 - length a))); worth = d ∙ rw (e, h) (sym (sub_mul (value_of (cond s b a)) (value_of (cond s a b)) P)) }
