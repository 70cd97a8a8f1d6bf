-- Strictly between two neighbouring multiples of 2 ^ c, where 2 ^ c is at most half the unit of the last digit, every number has the same answer.
use mathlib.Core.Path.{◌≡◌, sym, ap, ◌∙◌}
use mathlib.Core.Logic.{◌⊎◌, inl, inr}
use mathlib.Core.Bool.{Bool}
use Prim.Native.Nat.{ℕ, suc, ◌+◌, ◌-◌, ◌*◌, ◌/◌, ◌%◌, ◌^◌, ◌≤◌, ◌<◌, compare, Ordering}
use native.Mathlib.Nat.{pow-succ', le_trans, le_of_eq, lt_of_lt_of_le, lt_of_le_of_lt, le_antisymm, suc-mul, mul_assoc, mul-le-mul_right, lt_of_mul-lt-mul_right, div-eq_of_lt-le, div-add-mod', mod-lt}
use native.Mathlib.Omega.{arith}
use lib.Pow.{pow_pos, pow-add}
use lib.Ieee.{size, nearest}
use lib.Ieee.Digits.{size-lt, size-le}
use Rattle.rounding.specs.Mode.{Way, near, under, over}
use Rattle.rounding.specs.Select.{quotient, unit, chosen, on_grid}
use Rattle.rounding.specs.Answer.{rounded}
use Rattle.rounding.proofs.Order.{le_or_lt, compare_at}
use Rattle.limb.proofs.Sizes.{size_ge}

-- ---- one quotient: g = G * 2f + h, the unit is 2f * C, and v = g * C + i with 0 < i < C

side : (h f : ℕ) → (h < f) ⊎ (f ≤ h)
side h f = elim (le_or_lt f h) [ inl a ↦ inr a | inr a ↦ inl a ]

middle : (h f : ℕ) → (h < f) ⊎ (f ≤ h) → Ordering
middle h f (inl a) = Ordering.lt
middle h f (inr a) = Ordering.gt

module _ (g f C i : ℕ) (F : 0 < f) (pos : 0 < i) (lt : i < C) where
  u : ℕ
  u = 2 * f * C

  G : ℕ
  G = g / (2 * f)

  h : ℕ
  h = g % (2 * f)

  v : ℕ
  v = g * C + i

  two : 0 < 2 * f
  two = omega arith

  at : v ≡ G * u + (h * C + i)
  unfolding v G h u
  at = ap (λ (z : ℕ). z * C + i) (sym (div-add-mod' g (2 * f))) ∙ spread (g / (2 * f)) (g % (2 * f))
    where
      spread : (a b : ℕ) → (a * (2 * f) + b) * C + i ≡ a * (2 * f * C) + (b * C + i)
      spread a b = omega arith

  within : h * C + i < u
  unfolding h u
  within = go (g % (2 * f) * C) (le_trans (le_of_eq (sym (suc-mul (g % (2 * f)) C))) (mul-le-mul_right C (mod-lt g two)))
    where
      go : (a : ℕ) → a + C ≤ 2 * f * C → a + i < 2 * f * C
      go a k = omega arith

  units : v / u ≡ G
  units = div-eq_of_lt-le u (lo at) (hi at within)
    where
      lo : v ≡ G * u + (h * C + i) → G * u ≤ v
      lo e = omega arith

      hi : v ≡ G * u + (h * C + i) → h * C + i < u → v < (G + 1) * u
      hi e l = omega arith

  remainder : v % u ≡ h * C + i
  remainder = go (v % u) (ap (λ (z : ℕ). z * u + v % u) (sym units) ∙ div-add-mod' v u) at
    where
      go : (r : ℕ) → G * u + r ≡ v → v ≡ G * u + (h * C + i) → r ≡ h * C + i
      go r a b = omega arith

  compared : compare (v % u * 2) u ≡ middle h f (side h f)
  unfolding middle u
  compared = go (side h f)
    where
      go : (d : (h < f) ⊎ (f ≤ h)) → compare (v % u * 2) u ≡ middle h f d
      go (inl a) = compare_at Ordering.lt (v % u * 2) u (less (v % u) remainder (le_trans (le_of_eq (sym (suc-mul h C))) (mul-le-mul_right C a)))
        where
          less : (r : ℕ) → r ≡ h * C + i → h * C + C ≤ f * C → r * 2 < 2 * f * C
          less r e k = omega arith
      go (inr a) = compare_at Ordering.gt (v % u * 2) u (more (v % u) remainder (mul-le-mul_right C a))
        where
          more : (r : ℕ) → r ≡ h * C + i → f * C ≤ h * C → 2 * f * C < r * 2
          more r e k = omega arith

  step : Way → ℕ
  step near = nearest G (middle h f (side h f))
  step under = G
  step over = suc G

  inside : (w : Way) → quotient w v u ≡ step w
  unfolding step quotient
  inside near = ap (λ (q : ℕ). nearest q (compare (v % u * 2) u)) units ∙ ap (nearest G) compared
  inside under = units
  inside over = div-eq_of_lt-le u (lo (h * C) at) (hi (h * C) at within)
    where
      lo : (r : ℕ) → v ≡ G * u + (r + i) → suc G * u ≤ v + (u - 1)
      lo r e = omega arith

      hi : (r : ℕ) → v ≡ G * u + (r + i) → r + i < u → v + (u - 1) < (suc G + 1) * u
      hi r e l = omega arith

one_quot : (w : Way) (g f C i j : ℕ) → 0 < f → 0 < i → i < C → 0 < j → j < C → quotient w (g * C + i) (2 * f * C) ≡ quotient w (g * C + j) (2 * f * C)
unfolding u v G h step
one_quot near g f C i j F I a H b = inside g f C i F I a near ∙ sym (inside g f C j F H b near)
one_quot under g f C i j F I a H b = inside g f C i F I a under ∙ sym (inside g f C j F H b under)
one_quot over g f C i j F I a H b = inside g f C i F I a over ∙ sym (inside g f C j F H b over)

-- a multiple of C lies on one side of all of them
one_side : (m g C i j : ℕ) → 0 < i → i < C → 0 < j → j < C → compare (m * C) (g * C + i) ≡ compare (m * C) (g * C + j)
one_side m g C i j I a H b = elim (le_or_lt m g) [
  | inl l ↦ let k = mul-le-mul_right C l in compare_at Ordering.lt (m * C) (g * C + i) (omega arith) ∙ sym (compare_at Ordering.lt (m * C) (g * C + j) (omega arith))
  | inr l ↦ let k = le_trans (le_of_eq (sym (suc-mul g C))) (mul-le-mul_right C l) in compare_at Ordering.gt (m * C) (g * C + i) (omega arith) ∙ sym (compare_at Ordering.gt (m * C) (g * C + j) (omega arith))
]

-- ---- one size, so one unit

sized : (g c p i j : ℕ) → 0 < i → i < 2 ^ c → j < 2 ^ c → c ≤ size (g * 2 ^ c + i) → size (g * 2 ^ c + j) ≤ size (g * 2 ^ c + i)
sized g c p i j I a b h =
    let z = size (g * 2 ^ c + i) in
    let e : 2 ^ z ≡ 2 ^ (z - c) * 2 ^ c = ap (λ (x : ℕ). 2 ^ x) (back z c h) ∙ pow-add 2 (z - c) c in
    let k : g < 2 ^ (z - c) = lt_of_mul-lt-mul_right (2 ^ c) (lt_of_le_of_lt (more (g * 2 ^ c) i) (lt_of_lt_of_le (size-lt (g * 2 ^ c + i)) (le_of_eq e))) in
    size-le (g * 2 ^ c + j) z (next (le_trans (le_of_eq (sym (suc-mul g (2 ^ c)))) (le_trans (mul-le-mul_right (2 ^ c) k) (le_of_eq (sym e)))))
  where
    back : (z c : ℕ) → c ≤ z → z ≡ z - c + c
    back z c h = omega arith

    more : (a b : ℕ) → a ≤ a + b
    more a b = omega arith

    next : {n : ℕ} → g * 2 ^ c + 2 ^ c ≤ n → g * 2 ^ c + j < n
    next h = omega arith

-- ---- one answer

module _ (w : Way) (p s : ℕ) (n : Bool) (g c : ℕ) (room : 2 ^ (p + c) ≤ g * 2 ^ c) where
  big : (i : ℕ) → p + c < size (g * 2 ^ c + i)
  big i = size_ge (g * 2 ^ c + i) (p + c) (le_trans room (more (g * 2 ^ c) i))
    where
      more : (a b : ℕ) → a ≤ a + b
      more a b = omega arith

  half : ℕ → ℕ
  half i = 2 ^ (size (g * 2 ^ c + i) - p - suc c)

  unit_at : (i : ℕ) → unit p (g * 2 ^ c + i) ≡ 2 * half i * 2 ^ c
  unfolding unit half
  unit_at i = ap (λ (z : ℕ). 2 ^ z) (parts (size (g * 2 ^ c + i)) (big i)) ∙ pow-add 2 (suc (size (g * 2 ^ c + i) - p - suc c)) c ∙ ap (λ (z : ℕ). z * 2 ^ c) (pow-succ' 2 (size (g * 2 ^ c + i) - p - suc c))
    where
      parts : (z : ℕ) → p + c < z → z - p ≡ suc (z - p - suc c) + c
      parts z h = omega arith

  module _ (i j : ℕ) (I : 0 < i) (H : 0 < j) (a : i < 2 ^ c) (b : j < 2 ^ c) where
    one_size : size (g * 2 ^ c + i) ≡ size (g * 2 ^ c + j)
    one_size = le_antisymm (sized g c p j i H b a (under (big j))) (sized g c p i j I a b (under (big i)))
      where
        under : {z : ℕ} → p + c < z → c ≤ z
        under h = omega arith

    one_chosen : chosen w p (g * 2 ^ c + i) ≡ chosen w p (g * 2 ^ c + j)
    unfolding chosen on_grid half
    one_chosen =
        let f = half i in
        let e : unit p (g * 2 ^ c + i) ≡ 2 * f * 2 ^ c = unit_at i in
        let d : unit p (g * 2 ^ c + j) ≡ 2 * f * 2 ^ c = unit_at j ∙ ap (λ (z : ℕ). 2 * 2 ^ (z - p - suc c) * 2 ^ c) (sym one_size) in
        let q : quotient w (g * 2 ^ c + i) (2 * f * 2 ^ c) ≡ quotient w (g * 2 ^ c + j) (2 * f * 2 ^ c) = one_quot w g f (2 ^ c) i j (pow_pos (size (g * 2 ^ c + i) - p - suc c)) I a H b in
        ap (λ (z : ℕ). quotient w (g * 2 ^ c + i) z * z) e ∙ ap (λ (z : ℕ). z * (2 * f * 2 ^ c)) q ∙ sym (ap (λ (z : ℕ). quotient w (g * 2 ^ c + j) z * z) d)

    one_ternary : compare (chosen w p (g * 2 ^ c + i)) (g * 2 ^ c + i) ≡ compare (chosen w p (g * 2 ^ c + j)) (g * 2 ^ c + j)
    one_ternary =
        let m = quotient w (g * 2 ^ c + i) (unit p (g * 2 ^ c + i)) * (2 * half i) in
        let e : chosen w p (g * 2 ^ c + i) ≡ m * 2 ^ c = multiple in
        ap (λ (z : ℕ). compare z (g * 2 ^ c + i)) e ∙ one_side m g (2 ^ c) i j I a H b ∙ ap (λ (z : ℕ). compare z (g * 2 ^ c + j)) (sym e ∙ one_chosen)
      where
        multiple : chosen w p (g * 2 ^ c + i) ≡ quotient w (g * 2 ^ c + i) (unit p (g * 2 ^ c + i)) * (2 * half i) * 2 ^ c
        multiple = unfold chosen on_grid in ap (λ (z : ℕ). quotient w (g * 2 ^ c + i) (unit p (g * 2 ^ c + i)) * z) (unit_at i) ∙ sym (mul_assoc (quotient w (g * 2 ^ c + i) (unit p (g * 2 ^ c + i))) (2 * half i) (2 ^ c))

    pub one_rounded : rounded w p s n (g * 2 ^ c + i) ≡ rounded w p s n (g * 2 ^ c + j)
    unfolding rounded
    one_rounded = let a = one_chosen in let b = one_ternary in cc
