-- The least sum lies just above the unit below D, the greatest is D and perhaps some more. Where D is a whole number of kept units, one less has another quotient.
use mathlib.Core.Path.{◌≡◌, refl, sym, ap, ◌∙◌, subst}
use mathlib.Core.Logic.{inl, inr}
use mathlib.Core.Bool.{Bool, true, false, not, cond, ◌&&◌, ◌||◌}
use Prim.Native.Nat.{ℕ, zero, suc, ◌+◌, ◌-◌, ◌*◌, ◌/◌, ◌%◌, ◌^◌, ◌≤◌, ◌<◌, compare, Ordering}
use native.Mathlib.Nat.{le_trans, mod-lt}
use native.Mathlib.Omega.{arith}
use borrow.Author.Tests.{eqb-true, eqb-false, eq-eqb, ne_eqb, lt-ltb, le-ltb, lt-leb, ltb-false, leb-false}
use lib.Dec.{ltb, eqb}
use lib.Pow.{pow_pos}
use lib.Ieee.{size}
use lib.Ieee.Digits.{size_reaches}
use Rattle.rounding.specs.Mode.{Way, near, under, over}
use Rattle.rounding.proofs.Order.{size_mono, Cmp, cmp, compare_at, le_or_lt}
use Rattle.decide.specs.Class.{tie, off, lean, alike, enough, settled}
use Rattle.decide.proofs.Lean.{lean_rest, lean_more}
use Rattle.decide.proofs.Settled.{enough_true}
use Rattle.remnant.specs.Rest.{RestOf}
use Rattle.remnant.specs.declared.rest.Rest.{Rest}
use Rattle.settle.proofs.Units.{odd_even, even_power, before_whole, within, within_quotient, whole_less, size_within}
use Rattle.lean.proofs.Plus.{too_few, past_unit, settled_is, digits_read}

less : (D : ℕ) → D - 1 ≤ D
less D = omega arith

-- one less has no more digits
pub minus_few : (w : Way) (p D : ℕ) (most : Bool) → enough w p D ≡ false → false ≡ settled w p (D - 1) true 1 most
unfolding enough
minus_few w p D most e = sym (too_few w p (D - 1) true 1 most (go w e))
  where
    fewer : size (D - 1) ≤ size D
    fewer = size_mono (D - 1) D (less D)

    go : (w : Way) → enough w p D ≡ false → enough w p (D - 1) ≡ false
    go near e = le-ltb p (size (D - 1)) (le_trans fewer (ltb-false p (size D) e))
    go under e = lt-leb p (size (D - 1)) (omega (arith, fewer, leb-false p (size D) e))
    go over e = lt-leb p (size (D - 1)) (omega (arith, fewer, leb-false p (size D) e))

-- under nearest, r units and a part of one against one unit more: only a half that the second reaches parts them
half_parts : (q r u : ℕ) (half odd most : Bool) → (h : ℕ) × (u ≡ h * 2) → half ≡ eqb ((r + 1) * 2) u → odd ≡ not (eqb (q % 2) 0)
    → alike (off near q u r true) (off near q u (r + 1) most) ≡ not (half && (most || odd))
unfolding off tie
half_parts q r u half odd most halved half_is odd_is = go (compare ((r + 1) * 2) u) (cmp ((r + 1) * 2) u)
  where
    at_half : (m : Bool) → alike Ordering.lt (tie m q Ordering.eq) ≡ not (true && (m || odd))
    at_half true = refl
    at_half false = rw odd_is (by (eqb (q % 2) 0))
      where
        by : (b : Bool) → alike Ordering.lt (cond b Ordering.lt Ordering.gt) ≡ not (not b)
        by true = refl
        by false = refl

    to : {h : Bool} {a b : Ordering} → half ≡ h → compare (r * 2) u ≡ a → compare ((r + 1) * 2) u ≡ b → alike (tie true q a) (tie most q b) ≡ not (h && (most || odd)) → alike (tie true q (compare (r * 2) u)) (tie most q (compare ((r + 1) * 2) u)) ≡ not (half && (most || odd))
    to {h} {a} {b} f g k t =
        ap (λ (o : Ordering). alike (tie true q o) (tie most q (compare ((r + 1) * 2) u))) g
        ∙ ap (λ (o : Ordering). alike (tie true q a) (tie most q o)) k ∙ t ∙ ap (λ (b : Bool). not (b && (most || odd))) (sym f)

    even : (r u : ℕ) → (h : ℕ) × (u ≡ h * 2) → u < (r + 1) * 2 → r * 2 ≤ u → r * 2 ≡ u
    even r u (h, f) c k = omega arith

    go : (o : Ordering) → Cmp o ((r + 1) * 2) u → alike (tie true q (compare (r * 2) u)) (tie most q (compare ((r + 1) * 2) u)) ≡ not (half && (most || odd))
    go Ordering.lt c = to (half_is ∙ ne_eqb ((r + 1) * 2) u (λ f. omega arith)) (compare_at Ordering.lt (r * 2) u (omega arith)) (compare_at Ordering.lt ((r + 1) * 2) u c) refl
    go Ordering.eq c = to (half_is ∙ eq-eqb ((r + 1) * 2) u c) (compare_at Ordering.lt (r * 2) u (omega arith)) (compare_at Ordering.eq ((r + 1) * 2) u c) (at_half most)
    go Ordering.gt c = elim (le_or_lt (r * 2) u) [
      | inl k ↦ to (half_is ∙ ne_eqb ((r + 1) * 2) u (λ f. omega arith)) (compare_at Ordering.eq (r * 2) u (even r u halved c k)) (compare_at Ordering.gt ((r + 1) * 2) u c) refl
      | inr k ↦ to (half_is ∙ ne_eqb ((r + 1) * 2) u (λ f. omega arith)) (compare_at Ordering.gt (r * 2) u k) (compare_at Ordering.gt ((r + 1) * 2) u c) refl
    ]

module _ (w : Way) (p D : ℕ) (x : Rest) (rest : RestOf p D x) (P : 0 < p) (most : Bool) (e : enough w p D ≡ true) where
  abbrev u : ℕ
  u = 2 ^ (size D - p)

  reads : p ≤ size D
  reads = digits_read w p D e

  one_more : suc (D - 1) ≡ D
  one_more = go D (size_reaches D 0 (omega (arith, reads)))
    where
      go : (D : ℕ) → 1 ≤ D → suc (D - 1) ≡ D
      go D h = omega arith

  pub minus_zero : x.zero ≡ true → false ≡ settled w p (D - 1) true 1 most
  minus_zero z = sym (past_unit w p (D - 1) true 1 most (le-ltb ((D - 1) % v + 1) v (omega (arith, before_whole D (D - 1) one_more v (pow_pos (size (D - 1) - p)) whole))))
    where
      v : ℕ
      v = 2 ^ (size (D - 1) - p)

      fewer : (a b : ℕ) → a ≤ b → a - p ≤ b - p
      fewer a b h = omega arith

      whole : D % v ≡ 0
      whole = whole_less D (size D - p) (size (D - 1) - p) (fewer (size (D - 1)) (size D) (size_mono (D - 1) D (less D))) (eqb-true (D % u) 0 (sym (rest.zero reads) ∙ z))

  -- what is left of D is not 0: the quotient is that of D, and the rest one less
  module _ (z : x.zero ≡ false) where
    some : 0 < D % u
    some = go (D % u) (eqb-false (D % u) 0 (sym (rest.zero reads) ∙ z))
      where
        go : (r : ℕ) → (r ≡ 0 → ⊥) → 0 < r
        go zero n = absurd (n refl)
        go (suc r) n = omega arith

    abbrev r : ℕ
    r = (D - 1) % u

    rest_is : r + 1 ≡ D % u
    rest_is = omega (arith, within D (D - 1) one_more u (pow_pos (size D - p)) some)

    same_size : size (D - 1) ≡ size D
    same_size = size_within p D (D - 1) one_more P reads some

    same_enough : enough w p (D - 1) ≡ true
    unfolding enough
    same_enough = go w e
      where
        go : (w : Way) → enough w p D ≡ true → enough w p (D - 1) ≡ true
        go near e = rw same_size e
        go under e = rw same_size e
        go over e = rw same_size e

    minus_is : settled w p (D - 1) true 1 most ≡ alike (off w (D / u) u r true) (off w (D / u) u (r + 1) most)
    minus_is =
        settled_is w p (D - 1) true 1 most same_enough (subst (λ (s : ℕ). ltb ((D - 1) % 2 ^ (s - p) + 1) (2 ^ (s - p)) ≡ true) (sym same_size) (lt-ltb (r + 1) u inside))
        ∙ ap (λ (s : ℕ). alike (lean w ((D - 1) / 2 ^ (s - p)) (2 ^ (s - p)) ((D - 1) % 2 ^ (s - p)) true) (lean w ((D - 1) / 2 ^ (s - p)) (2 ^ (s - p)) ((D - 1) % 2 ^ (s - p) + 1) most)) same_size
        ∙ ap (λ (q : ℕ). alike (lean w q u r true) (lean w q u (r + 1) most)) (within_quotient D (D - 1) one_more u (pow_pos (size D - p)) some)
        ∙ ap (λ (o : Ordering). alike o (lean w (D / u) u (r + 1) most)) (lean_more w (D / u) u r)
        ∙ ap (alike (off w (D / u) u r true)) (lean_rest w (D / u) u (r + 1) (omega arith) most)
      where
        inside : r + 1 < u
        inside = omega (arith, rest_is, mod-lt D (pow_pos (size D - p)))

    pub minus_under : w ≡ under → true ≡ settled w p (D - 1) true 1 most
    unfolding off
    minus_under d = sym (minus_is ∙ ap (λ (v : Way). alike (off v (D / u) u r true) (off v (D / u) u (r + 1) most)) d)

    pub minus_over : w ≡ over → true ≡ settled w p (D - 1) true 1 most
    unfolding off
    minus_over d = sym (minus_is ∙ ap (λ (v : Way). alike (off v (D / u) u r true) (off v (D / u) u (r + 1) most)) d)

    -- only the half parts the two
    pub minus_near : w ≡ near → not (x.half && (most || x.odd)) ≡ settled w p (D - 1) true 1 most
    unfolding off tie enough
    minus_near d = sym (minus_is ∙ ap (λ (v : Way). alike (off v (D / u) u r true) (off v (D / u) u (r + 1) most)) d ∙ half_parts (D / u) r u x.half x.odd most halved half_is odd_is)
      where
        longer : p < size D
        longer = enough_true near p D (subst (λ (v : Way). enough v p D ≡ true) d e)

        halved : (h : ℕ) × (u ≡ h * 2)
        halved = even_power (size D) p longer

        half_is : x.half ≡ eqb ((r + 1) * 2) u
        half_is = rest.half reads ∙ ap (λ (v : ℕ). eqb (v * 2) u) (sym rest_is)

        odd_is : x.odd ≡ not (eqb (D / u % 2) 0)
        odd_is = rest.odd longer ∙ odd_even (D / u)
