-- Laws of locations: how the digits below the last kept one tell them, and what follows from one for the quotient and the ternary
-- value, on numbers q * u + x with x below the unit u. Assumes nothing.
use mathlib.Core.Path.{◌≡◌, refl, sym, ap, ◌∙◌}
use mathlib.Core.Logic.{◌⊎◌, inl, inr}
use mathlib.Core.Bool.{Bool, true, false, not, ◌||◌}
use Prim.Native.Nat.{ℕ, zero, suc, ◌+◌, ◌-◌, ◌*◌, ◌/◌, ◌%◌, ◌^◌, ◌≤◌, ◌<◌, compare, Ordering}
use native.Mathlib.Nat.{mul-add-mod_self_right, div-eq_of_lt-le, mul_assoc, mul-le-mul_right, suc-mul}
use native.Mathlib.Decide.{dec_le}
use native.Mathlib.Omega.{arith}
use lib.Dec.{eqb}
use lib.Ieee.{nearest}
use lib.Pow.{pow-add, mod-pow-add, high, low}
use borrow.Author.Tests.{eqb-true, eqb-false}
use Rattle.limb.specs.Carry.{bit}
use Rattle.limb.proofs.Carry.{bit_le}
use Rattle.rounding.specs.Mode.{Way, near, under, over}
use Rattle.rounding.specs.Select.{quotient}
use Rattle.rounding.proofs.Order.{Cmp, cmp, compare_at, zero_or, units, remainder}
use Rattle.location.specs.declared.Location.{Location}
use Rattle.location.specs.declared.Location.TheVariants.{Exact, Lower, Tie, Upper}
use Rattle.location.specs.Location.{from_middle, location_of, goes_up, inexact, side}

-- ---- where a rest lies

pub at_nothing : (x u : ℕ) → x ≡ 0 → location_of x u ≡ Exact
unfolding location_of
at_nothing zero u e = refl
at_nothing (suc x) u e = absurd (omega arith)

pub at_something : (o : Ordering) (x u : ℕ) → 0 < x → Cmp o (x * 2) u → location_of x u ≡ from_middle o
unfolding location_of
at_something o zero u h c = absurd (omega arith)
at_something o (suc x) u h c = ap from_middle (compare_at o (suc x * 2) u c)

-- whether something is left of a part l below, or more
pub something : (l : ℕ) (more : Bool) → (not (eqb l 0) || more) ≡ true → 0 < l + bit more
unfolding bit
something l more e = go (eqb l 0) more refl e
  where
    go : (b m : Bool) → eqb l 0 ≡ b → (not b || m) ≡ true → 0 < l + bit m
    go true true f e = omega arith
    go true false f e = absurd (let z : ◌≡◌ {A = ℕ} 0 1 = cc in omega arith)
    go false m f e = let z : l ≡ 0 → ⊥ = eqb-false l 0 f in omega arith

pub nothing : (l : ℕ) (more : Bool) → (not (eqb l 0) || more) ≡ false → l + bit more ≡ 0
unfolding bit
nothing l more e = go (eqb l 0) more refl e
  where
    go : (b m : Bool) → eqb l 0 ≡ b → (not b || m) ≡ false → l + bit m ≡ 0
    go true false f e = let z : l ≡ 0 = eqb-true l 0 f in omega arith
    go true true f e = absurd (let z : ◌≡◌ {A = ℕ} 0 1 = cc in omega arith)
    go false m f e = absurd (let z : ◌≡◌ {A = ℕ} 0 1 = cc in omega arith)

-- the first digit f of the rest tells the half h, and the others, l, only whether they are all 0
module _ (h f l m : ℕ) (lt : l < h) (one : m ≤ 1) where
  abbrev rest : ℕ
  rest = 2 * (f * h + l) + m

  pub is_exact : f ≡ 0 → l + m ≡ 0 → location_of rest (h * 4) ≡ Exact
  is_exact e n = at_nothing rest (h * 4) (rw e (omega arith))

  pub is_lower : f ≡ 0 → 0 < l + m → location_of rest (h * 4) ≡ Lower
  unfolding from_middle
  is_lower e s = at_something Ordering.lt rest (h * 4) (rw e (omega arith)) (rw e (omega arith))

  pub is_tie : f ≡ 1 → l + m ≡ 0 → location_of rest (h * 4) ≡ Tie
  unfolding from_middle
  is_tie e n = at_something Ordering.eq rest (h * 4) (rw e (omega arith)) (rw e (omega arith))

  pub is_upper : f ≡ 1 → 0 < l + m → location_of rest (h * 4) ≡ Upper
  unfolding from_middle
  is_upper e s = at_something Ordering.gt rest (h * 4) (rw e (omega arith)) (rw e (omega arith))

-- the lowest digits of a limb, with the first of them apart
module _ (limb width : ℕ) (some : 0 < width) where
  pub first_apart : limb % 2 ^ width ≡ limb / 2 ^ (width - 1) % 2 * 2 ^ (width - 1) + limb % 2 ^ (width - 1)
  first_apart = let e : width ≡ 1 + (width - 1) = omega arith in ap (λ (n : ℕ). limb % 2 ^ n) e ∙ mod-pow-add limb 1 (width - 1)

  pub four_halves : 2 ^ (width + 1) ≡ 2 ^ (width - 1) * 4
  four_halves = let e : width + 1 ≡ (width - 1) + 2 = omega arith in ap (λ (n : ℕ). 2 ^ n) e ∙ pow-add 2 (width - 1) 2

  abbrev first : ℕ
  first = limb / 2 ^ (width - 1) % 2

  abbrev others : ℕ
  others = limb % 2 ^ (width - 1)

  -- a location of the first digit and the others is one of the digits
  pub of_digits : (more : Bool) (a : Location) → location_of (2 * (first * 2 ^ (width - 1) + others) + bit more) (2 ^ (width - 1) * 4) ≡ a
      → a ≡ location_of (2 * (limb % 2 ^ width) + bit more) (2 ^ (width + 1))
  of_digits more a e = rw (first_apart, four_halves) (sym e)

-- ---- a rest of two limbs

-- what lies below r, g of B and perhaps more, counts only as something
module _ (r h B g t : ℕ) (lt : g < B) (one : t ≤ 1) where
  fine : ℕ
  fine = 2 * (r * B + g) + t

  both : (o : Ordering) (x : ℕ) → 0 < x → Cmp o (x * 2) (h * 4) → 0 < fine → Cmp o (fine * 2) (h * B * 4) → location_of x (h * 4) ≡ location_of fine (h * B * 4)
  both o x a b c d = at_something o x (h * 4) a b ∙ sym (at_something o fine (h * B * 4) c d)

  some_below : 0 < g + t → (o : Ordering) → Cmp o r h → location_of (2 * r + 1) (h * 4) ≡ location_of fine (h * B * 4)
  unfolding fine
  some_below s Ordering.lt c = let k = mul-le-mul_right B c in both Ordering.lt (2 * r + 1) (omega arith) (omega arith) (omega arith) (omega (arith, suc-mul r B))
  some_below s Ordering.eq c = let k = ap (λ (n : ℕ). n * B) c in both Ordering.gt (2 * r + 1) (omega arith) (omega arith) (omega arith) (omega arith)
  some_below s Ordering.gt c = let k = mul-le-mul_right B c in both Ordering.gt (2 * r + 1) (omega arith) (omega arith) (omega arith) (omega (arith, suc-mul h B))

  none_below : g + t ≡ 0 → (o : Ordering) → Cmp o r h → (r ≡ 0) ⊎ (0 < r) → location_of (2 * r + 0) (h * 4) ≡ location_of fine (h * B * 4)
  unfolding fine
  none_below n o c (inl z) = at_nothing (2 * r + 0) (h * 4) (omega arith) ∙ sym (at_nothing fine (h * B * 4) (rw z (omega arith)))
  none_below n Ordering.lt c (inr p) =
      let k = mul-le-mul_right B c in let l = mul-le-mul_right B p in both Ordering.lt (2 * r + 0) (omega arith) (omega arith) (omega arith) (omega (arith, suc-mul r B))
  none_below n Ordering.eq c (inr p) =
      let k = ap (λ (n : ℕ). n * B) c in let l = mul-le-mul_right B p in both Ordering.eq (2 * r + 0) (omega arith) (omega arith) (omega arith) (omega arith)
  none_below n Ordering.gt c (inr p) =
      let k = mul-le-mul_right B c in let l = mul-le-mul_right B p in both Ordering.gt (2 * r + 0) (omega arith) (omega arith) (omega arith) (omega (arith, suc-mul h B))

-- digits in a finer unit count only as something
pub finer_rest : (r h B g : ℕ) (more : Bool) → g < B → location_of (2 * r + bit (not (eqb g 0) || more)) (h * 4) ≡ location_of (2 * (r * B + g) + bit more) (h * B * 4)
unfolding bit fine
finer_rest r h B g more lt = go (not (eqb g 0) || more) (something g more) (nothing g more)
  where
    go : (s : Bool) → (s ≡ true → 0 < g + bit more) → (s ≡ false → g + bit more ≡ 0) → location_of (2 * r + bit s) (h * 4) ≡ location_of (2 * (r * B + g) + bit more) (h * B * 4)
    go true y n = some_below r h B g (bit more) lt (bit_le more) (y refl) (compare r h) (cmp r h)
    go false y n = none_below r h B g (bit more) lt (bit_le more) (n refl) (compare r h) (cmp r h) (zero_or r)

-- with width digits, more than a limb has
module _ (top guard width : ℕ) (more : Bool) (over : 64 < width) (lt : guard < 2 ^ 64) where
  abbrev k : ℕ
  k = width - 64

  abbrev rest_of : ℕ
  rest_of = (top * 2 ^ 64 + guard) % 2 ^ width

  rest_is : rest_of ≡ top % 2 ^ k * 2 ^ 64 + guard
  rest_is =
      let e : width ≡ k + 64 = omega arith in
      ap (λ (n : ℕ). (top * 2 ^ 64 + guard) % 2 ^ n) e ∙ mod-pow-add (top * 2 ^ 64 + guard) k 64
      ∙ ap (λ (n : ℕ). n % 2 ^ k * 2 ^ 64 + (top * 2 ^ 64 + guard) % 2 ^ 64) (high top 64 lt) ∙ ap (λ (n : ℕ). top % 2 ^ k * 2 ^ 64 + n) (low top 64 lt)

  unit_is : 2 ^ (width + 1) ≡ 2 ^ (k - 1) * 2 ^ 64 * 4
  unit_is =
      let e : width + 1 ≡ (k - 1) + 64 + 2 = omega arith in
      ap (λ (n : ℕ). 2 ^ n) e ∙ pow-add 2 ((k - 1) + 64) 2 ∙ ap (λ (n : ℕ). n * 4) (pow-add 2 (k - 1) 64)

  -- only whether the guard is 0 counts
  pub two_limbs : location_of (2 * (top % 2 ^ k) + bit (not (eqb guard 0) || more)) (2 ^ (k + 1)) ≡ location_of (2 * rest_of + bit more) (2 ^ (width + 1))
  two_limbs =
      let pos : 0 < k = omega arith in
      rw (four_halves top k pos, rest_is, unit_is) (finer_rest (top % 2 ^ k) (2 ^ (k - 1)) (2 ^ 64) guard more lt)

-- with no more than a limb has, only the guard's digits count
pub one_limb : (top guard width : ℕ) → width ≤ 64 → guard % 2 ^ width ≡ (top * 2 ^ 64 + guard) % 2 ^ width
one_limb top guard width le =
    let e : 64 ≡ (64 - width) + width = omega arith in
    let split : top * 2 ^ 64 ≡ top * 2 ^ (64 - width) * 2 ^ width = ap (λ (n : ℕ). top * 2 ^ n) e ∙ ap (λ (n : ℕ). top * n) (pow-add 2 (64 - width) width) ∙ sym (mul_assoc top (2 ^ (64 - width)) (2 ^ width)) in
    sym (ap (λ (n : ℕ). (n + guard) % 2 ^ width) split ∙ mul-add-mod_self_right (top * 2 ^ (64 - width)) (2 ^ width) guard)

-- ---- what is selected, and on which side of the exact size it lies

module _ (q u x : ℕ) (lt : x < u) where
  near_is : quotient near (q * u + x) u ≡ nearest q (compare (x * 2) u)
  unfolding quotient
  near_is = ap (λ (z : ℕ). nearest z (compare ((q * u + x) % u * 2) u)) (units q u x lt) ∙ ap (λ (z : ℕ). nearest q (compare (z * 2) u)) (remainder q u x lt)

  pub selected_at : (w : Way) → quotient w (q * u + x) u ≡ q + bit (goes_up w (location_of x u) (eqb (q % 2) 1))
  unfolding quotient goes_up bit from_middle
  selected_at w = elim (zero_or x) [ inl e ↦ none w e | inr h ↦ some w h (compare (x * 2) u) (cmp (x * 2) u) ]
    where
      keep : (n : ℕ) → n ≡ q → (w : Way) → x ≡ 0 → n ≡ q + bit (goes_up w (location_of x u) (eqb (q % 2) 1))
      keep n e w z = rw (at_nothing x u z) (omega arith)

      none : (w : Way) → x ≡ 0 → quotient w (q * u + x) u ≡ q + bit (goes_up w (location_of x u) (eqb (q % 2) 1))
      none near e = keep _ (near_is ∙ ap (nearest q) (compare_at Ordering.lt (x * 2) u (omega arith))) near e
      none under e = keep _ (units q u x lt) under e
      none over e = keep _ (div-eq_of_lt-le u (omega arith) (omega arith)) over e

      tie : q + q % 2 ≡ q + bit (eqb (q % 2) 1)
      tie = elim (dec_le (q % 2) 0) [
        | yes h ↦ let e : q % 2 ≡ 0 = omega arith in rw (e) refl
        | no h ↦ let e : q % 2 ≡ 1 = omega arith in rw (e) refl
      ]

      more : (q + 1) * u ≤ q * u + x + (u - 1) → q * u + x + (u - 1) < (q + 1 + 1) * u → (q * u + x + (u - 1)) / u ≡ q + 1
      more a b = div-eq_of_lt-le u a b

      some : (w : Way) → 0 < x → (o : Ordering) → Cmp o (x * 2) u → quotient w (q * u + x) u ≡ q + bit (goes_up w (location_of x u) (eqb (q % 2) 1))
      some near h o c = near_is ∙ ap (nearest q) (compare_at o (x * 2) u c) ∙ rw (at_something o x u h c) (table o)
        where
          table : (o : Ordering) → nearest q o ≡ q + bit (goes_up near (from_middle o) (eqb (q % 2) 1))
          table Ordering.lt = omega arith
          table Ordering.eq = tie
          table Ordering.gt = omega arith
      some under h o c = (units q u x lt) ∙ rw (at_something o x u h c) (table o)
        where
          table : (o : Ordering) → q ≡ q + bit (goes_up under (from_middle o) (eqb (q % 2) 1))
          table Ordering.lt = omega arith
          table Ordering.eq = omega arith
          table Ordering.gt = omega arith
      some over h o c = more (omega arith) (omega arith) ∙ rw (at_something o x u h c) (table o)
        where
          table : (o : Ordering) → q + 1 ≡ q + bit (goes_up over (from_middle o) (eqb (q % 2) 1))
          table Ordering.lt = refl
          table Ordering.eq = refl
          table Ordering.gt = refl

  pub side_at : (w : Way) (odd : Bool) → compare ((q + bit (goes_up w (location_of x u) odd)) * u) (q * u + x) ≡ side (location_of x u) (goes_up w (location_of x u) odd)
  unfolding goes_up bit from_middle side inexact
  side_at w odd = elim (zero_or x) [ inl e ↦ rw (at_nothing x u e) (compare_at Ordering.eq ((q + 0) * u) (q * u + x) (omega arith)) | inr h ↦ rw (at_something (compare (x * 2) u) x u h (cmp (x * 2) u)) (off h (compare (x * 2) u)) ]
    where
      up : 0 < x → (b : Bool) → compare ((q + bit b) * u) (q * u + x) ≡ inexact b
      up h true = compare_at Ordering.gt ((q + 1) * u) (q * u + x) (omega arith)
      up h false = compare_at Ordering.lt ((q + 0) * u) (q * u + x) (omega arith)

      off : 0 < x → (o : Ordering) → compare ((q + bit (goes_up w (from_middle o) odd)) * u) (q * u + x) ≡ side (from_middle o) (goes_up w (from_middle o) odd)
      off h Ordering.lt = up h (goes_up w Lower odd)
      off h Ordering.eq = up h (goes_up w Tie odd)
      off h Ordering.gt = up h (goes_up w Upper odd)
