-- What the tests on a remainder say of the theory's `lean` and `enough`.
use mathlib.Core.Path.{◌≡◌, refl, sym, ap, ◌∙◌}
use mathlib.Core.Logic.{◌⊎◌, inl, inr}
use mathlib.Core.Bool.{Bool, true, false, not, cond, ◌&&◌, ◌||◌, and_comm}
use Prim.Native.Nat.{ℕ, zero, suc, ◌+◌, ◌-◌, ◌*◌, ◌/◌, ◌%◌, ◌^◌, ◌≤◌, ◌<◌, compare, Ordering}
use native.Mathlib.Nat.{mod-lt}
use native.Mathlib.Numerals.{add-one}
use native.Mathlib.Omega.{arith}
use borrow.Author.Tests.{eqb-true, eqb-false, eq-eqb, ne_eqb, lt-ltb, le-ltb, le-leb, lt-leb}
use lib.Dec.{ltb, leb, eqb}
use lib.Pow.{pow_pos}
use lib.Ieee.{size}
use Rattle.rounding.specs.Mode.{Way, near, under, over}
use Rattle.rounding.proofs.Order.{le_or_lt, Cmp, cmp}
use Rattle.decide.specs.Class.{tie, off, lean, alike, enough}
use Rattle.remnant.specs.Rest.{RestOf}
use Rattle.remnant.specs.declared.rest.Rest.{Rest}
use Rattle.std.specs.Ordering.{ordering_index}
use Rattle.std.specs.Bool.{◌==◌}
use Rattle.lean.specs.Leaning.{lean_is, Flags}
use Rattle.std.specs.declared.cmp.Ordering.{Ordering as Order}
use Rattle.std.specs.declared.cmp.Ordering.TheVariants.{Less, Equal, Greater}
use Rattle.settle.proofs.Units.{odd_even, one_or_even, power_halved}

pub alike_same : (a b : Order) → (ordering_index a == ordering_index b) ≡ alike (lean_is a) (lean_is b)
unfolding lean_is
alike_same Less Less = refl
alike_same Less Equal = refl
alike_same Less Greater = refl
alike_same Equal Less = refl
alike_same Equal Equal = refl
alike_same Equal Greater = refl
alike_same Greater Less = refl
alike_same Greater Equal = refl
alike_same Greater Greater = refl

module _ (q u r : ℕ) (z h a o : Bool) (f : Flags q u r z h a o) (more : Bool) where
  nothing : (not more && eqb r 0) ≡ (z && not more)
  nothing = ap (λ (b : Bool). not more && b) (sym f.is_zero) ∙ and_comm (not more) z

  -- the remainder is 0 and nothing lies below it
  pub lean_even : (w : Way) → (z && not more) ≡ true → lean w q u r more ≡ Ordering.eq
  unfolding lean
  lean_even w e = ap (λ (b : Bool). cond b Ordering.eq (off w q u r more)) (nothing ∙ e)

  pub lean_off : (w : Way) → (z && not more) ≡ false → lean w q u r more ≡ off w q u r more
  unfolding lean
  lean_off w e = ap (λ (b : Bool). cond b Ordering.eq (off w q u r more)) (nothing ∙ e)

  -- above the half, or at it and with more below or an odd last digit
  near_is : off near q u r more ≡ cond (a || (h && (more || o))) Ordering.gt Ordering.lt
  unfolding off tie
  near_is = go (compare (r * 2) u) (cmp (r * 2) u) more
    where
      to : {a' h' : Bool} (m : Bool) → a ≡ a' → h ≡ h' → cond (a' || (h' && (m || o))) Ordering.gt Ordering.lt ≡ cond (a || (h && (m || o))) Ordering.gt Ordering.lt
      to m e g = rw (e, g)

      tied : h ≡ true → cond (eqb (q % 2) 0) Ordering.lt Ordering.gt ≡ cond o Ordering.gt Ordering.lt
      tied e = turned (eqb (q % 2) 0) ∙ ap (λ (b : Bool). cond b Ordering.gt Ordering.lt) (sym (f.is_odd e ∙ odd_even q))
        where
          turned : (b : Bool) → cond b Ordering.lt Ordering.gt ≡ cond (not b) Ordering.gt Ordering.lt
          turned true = refl
          turned false = refl

      go : (c : Ordering) → Cmp c (r * 2) u → (m : Bool) → tie m q c ≡ cond (a || (h && (m || o))) Ordering.gt Ordering.lt
      go Ordering.lt c m = to m (f.is_above ∙ le-ltb u (r * 2) (omega arith)) (f.is_half ∙ ne_eqb (r * 2) u (λ e. omega arith))
      go Ordering.eq c true = to true (f.is_above ∙ le-ltb u (r * 2) (omega arith)) (f.is_half ∙ eq-eqb (r * 2) u c)
      go Ordering.eq c false = tied (f.is_half ∙ eq-eqb (r * 2) u c) ∙ to false (f.is_above ∙ le-ltb u (r * 2) (omega arith)) (f.is_half ∙ eq-eqb (r * 2) u c)
      go Ordering.gt c m = to m (f.is_above ∙ lt-ltb u (r * 2) c) (f.is_half ∙ ne_eqb (r * 2) u (λ e. omega arith))

  pub near_high : (z && not more) ≡ false → (a || (h && (more || o))) ≡ true → lean near q u r more ≡ Ordering.gt
  near_high e g = lean_off near e ∙ near_is ∙ ap (λ (b : Bool). cond b Ordering.gt Ordering.lt) g

  pub near_low : (z && not more) ≡ false → (a || (h && (more || o))) ≡ false → lean near q u r more ≡ Ordering.lt
  near_low e g = lean_off near e ∙ near_is ∙ ap (λ (b : Bool). cond b Ordering.gt Ordering.lt) g

  pub under_low : (z && not more) ≡ false → lean under q u r more ≡ Ordering.lt
  unfolding off
  under_low e = lean_off under e

  pub over_high : (z && not more) ≡ false → lean over q u r more ≡ Ordering.gt
  unfolding off
  over_high e = lean_off over e

-- the tests are those on the rest below p digits of D, and on that rest and one more
module _ (p D : ℕ) (x : Rest) (rest : RestOf p D x) (l : p ≤ size D) where
  abbrev u : ℕ
  u = 2 ^ (size D - p)

  abbrev r : ℕ
  r = D % u

  pub flags_of : Flags (D / u) u r x.zero x.half x.above x.odd
  flags_of = record {
    is_zero = rest.zero l;
    is_half = rest.half l;
    is_above = rest.above l;
    is_odd = λ e. rest.odd (power_halved (size D) p r l (eqb-true (r * 2) u (sym (rest.half l) ∙ e)));
  }

  pub next_below : x.ones ≡ false → r + 1 < u
  next_below e = go r u (eqb-false (suc r) u (sym (rest.ones l) ∙ e)) (mod-lt D (pow_pos (size D - p)))
    where
      go : (r u : ℕ) → (suc r ≡ u → ⊥) → r < u → r + 1 < u
      go r u n h = elim (le_or_lt u (r + 1)) [ inl k ↦ absurd (n (omega arith)) | inr k ↦ k ]

  pub flags_next : x.ones ≡ false → Flags (D / u) u (r + 1) false x.almost (x.half || x.above) x.odd
  flags_next e = record {
    is_zero = sym (ne_eqb (r + 1) 0 (some r));
    is_half = half;
    is_above = ap (λ (b : Bool). b || x.above) (rest.half l) ∙ ap (λ (b : Bool). eqb (r * 2) u || b) (rest.above l) ∙ above r u (one_or_even (size D - p)) (next_below e);
    is_odd = λ g. rest.odd (power_halved (size D) p (r + 1) l (eqb-true ((r + 1) * 2) u (sym half ∙ g)));
  }
    where
      some : (r : ℕ) → r + 1 ≡ 0 → ⊥
      some r e = omega arith

      half : x.almost ≡ eqb ((r + 1) * 2) u
      half = rest.almost l ∙ ap (λ (v : ℕ). eqb (v * 2) u) (sym (add-one r))

      above : (r u : ℕ) → (u ≡ 1) ⊎ ((h : ℕ) × (u ≡ h * 2)) → r + 1 < u → (eqb (r * 2) u || ltb u (r * 2)) ≡ ltb u ((r + 1) * 2)
      above r u (inl e) k = absurd (omega arith)
      above r u (inr (h, e)) k = go (compare (r * 2) u) (cmp (r * 2) u)
        where
          go : (c : Ordering) → Cmp c (r * 2) u → (eqb (r * 2) u || ltb u (r * 2)) ≡ ltb u ((r + 1) * 2)
          go Ordering.lt c = rw (ne_eqb (r * 2) u (λ e. omega arith), le-ltb u (r * 2) (omega arith)) (sym (le-ltb u ((r + 1) * 2) (omega arith)))
          go Ordering.eq c = rw (eq-eqb (r * 2) u c) (sym (lt-ltb u ((r + 1) * 2) (omega arith)))
          go Ordering.gt c = rw (ne_eqb (r * 2) u (λ e. omega arith), lt-ltb u (r * 2) c) (sym (lt-ltb u ((r + 1) * 2) (omega arith)))

-- ---- are there enough digits

module _ (p D : ℕ) (x : Rest) (rest : RestOf p D x) where
  pub enough_near : (x.enough && not x.empty) ≡ enough near p D
  unfolding enough
  enough_near = ap (λ (b : Bool). b && not x.empty) rest.enough ∙ go (le_or_lt p (size D))
    where
      go : (p ≤ size D) ⊎ (size D < p) → (leb p (size D) && not x.empty) ≡ ltb p (size D)
      go (inr h) = rw (lt-leb p (size D) h) (sym (le-ltb p (size D) (omega arith)))
      go (inl h) = rw (le-leb p (size D) h) (ap not (rest.empty h) ∙ elim (le_or_lt (size D) p) [
        | inl k ↦ rw (eq-eqb (size D) p (omega arith)) (sym (le-ltb p (size D) k))
        | inr k ↦ rw (ne_eqb (size D) p (λ e. omega arith)) (sym (lt-ltb p (size D) k))
      ])

  pub enough_under : x.enough ≡ enough under p D
  unfolding enough
  enough_under = rest.enough

  pub enough_over : x.enough ≡ enough over p D
  unfolding enough
  enough_over = rest.enough
