-- `lean` is the ternary value, and with the quotient it gives what is selected; the cut unit does not matter.
use mathlib.Core.Path.{◌≡◌, refl, sym, ap, ◌∙◌, subst}
use mathlib.Core.Logic.{◌⊎◌, inl, inr}
use mathlib.Core.Bool.{Bool, true, false, cond}
use Prim.Native.Nat.{ℕ, zero, suc, ◌+◌, ◌*◌, ◌%◌, ◌≤◌, ◌<◌, compare, Ordering}
use native.Mathlib.Nat.{suc-mul, mul-le-mul_right, div-eq_of_lt-le}
use native.Mathlib.Omega.{arith}
use borrow.Author.Tests.{ne_eqb}
use lib.Dec.{eqb}
use lib.Ieee.{nearest}
use Rattle.rounding.specs.Mode.{Way, near, under, over}
use Rattle.rounding.specs.Select.{quotient}
use Rattle.rounding.proofs.Order.{Cmp, cmp, compare_at, zero_or, units, remainder}
use Rattle.decide.specs.Class.{tie, off, lean, step}

-- a is what lies below one unit u: nothing, or something
abbrev pub Part : Bool → ℕ → ℕ → Type 0
Part false u a = a ≡ 0
Part true u a = (0 < a) × (a < u)

pub lean_exact : (w : Way) (q u : ℕ) → lean w q u 0 false ≡ Ordering.eq
unfolding lean
lean_exact w q u = refl

pub lean_rest : (w : Way) (q u r : ℕ) → 0 < r → (more : Bool) → lean w q u r more ≡ off w q u r more
unfolding lean
lean_rest w q u r h true = refl
lean_rest w q u r h false = simp (ne_eqb r 0 (pos r h))
  where
    pos : (r : ℕ) → 0 < r → r ≡ 0 → ⊥
    pos r h e = omega arith

pub lean_more : (w : Way) (q u r : ℕ) → lean w q u r true ≡ off w q u r true
unfolding lean
lean_more w q u r = refl

odd_or : (q : ℕ) → (q % 2 ≡ 0) ⊎ (q % 2 ≡ 1)
odd_or q = go (q % 2) (two q)
  where
    two : (q : ℕ) → q % 2 < 2
    two q = omega arith

    go : (b : ℕ) → b < 2 → (b ≡ 0) ⊎ (b ≡ 1)
    go zero h = inl refl
    go (suc zero) h = inr refl
    go (suc (suc b)) h = absurd (omega arith)

tie_step : (q : ℕ) (o : Ordering) → nearest q o ≡ step (tie false q o) q
unfolding tie step
tie_step q Ordering.lt = refl
tie_step q Ordering.gt = refl
tie_step q Ordering.eq = elim (odd_or q) [
  | inl e ↦ simp (e) (omega arith)
  | inr e ↦ simp (e) (omega arith)
]

-- ---- `lean` gives what is selected, and is the sign of selected - exact

pub quot_lean : (w : Way) (q u r : ℕ) → r < u → quotient w (q * u + r) u ≡ step (lean w q u r false) q
unfolding quotient off step
quot_lean w q u r lt = elim (zero_or r) [ inl e ↦ at_zero w e | inr h ↦ off_zero w h ]
  where
    near_is : quotient near (q * u + r) u ≡ nearest q (compare (r * 2) u)
    near_is = ap (λ (z : ℕ). nearest z (compare ((q * u + r) % u * 2) u)) (units q u r lt) ∙ ap (λ (z : ℕ). nearest q (compare (z * 2) u)) (remainder q u r lt)

    stays : r ≡ 0 → step (lean w q u r false) q ≡ q
    stays e = ap (λ (z : ℕ). step (lean w q u z false) q) e ∙ ap (λ (z : Ordering). step z q) (lean_exact w q u)

    at_zero : (v : Way) → r ≡ 0 → quotient v (q * u + r) u ≡ step (lean w q u r false) q
    at_zero near e = near_is ∙ ap (nearest q) (compare_at Ordering.lt (r * 2) u (omega arith)) ∙ sym (stays e)
    at_zero under e = units q u r lt ∙ sym (stays e)
    at_zero over e = div-eq_of_lt-le u (omega arith) (omega arith) ∙ sym (stays e)

    off_zero : (v : Way) → 0 < r → quotient v (q * u + r) u ≡ step (lean v q u r false) q
    off_zero near h = near_is ∙ tie_step q (compare (r * 2) u) ∙ ap (λ (z : Ordering). step z q) (sym (lean_rest near q u r h false))
    off_zero under h = units q u r lt ∙ ap (λ (z : Ordering). step z q) (sym (lean_rest under q u r h false))
    off_zero over h = div-eq_of_lt-le u (omega (arith, suc-mul q u)) (omega (arith, suc-mul q u)) ∙ ap (λ (z : Ordering). step z q) (sym (lean_rest over q u r h false))

abbrev Says : Ordering → ℕ → Type 0
Says Ordering.lt r = 0 < r
Says Ordering.eq r = r ≡ 0
Says Ordering.gt r = Unit {0}

says : (w : Way) (q u r : ℕ) → Says (lean w q u r false) r
unfolding off tie
says w q u r = elim (zero_or r) [
  | inl e ↦ subst (λ (z : ℕ). Says (lean w q u z false) z) (sym e) (subst (λ (z : Ordering). Says z 0) (sym (lean_exact w q u)) refl)
  | inr h ↦ subst (λ (z : Ordering). Says z r) (sym (lean_rest w q u r h false)) (go w h)
]
  where
    by : (b : Bool) → 0 < r → Says (cond b Ordering.lt Ordering.gt) r
    by true h = h
    by false h = tt

    middle : (o : Ordering) → 0 < r → Says (tie false q o) r
    middle Ordering.lt h = h
    middle Ordering.eq h = by (eqb (q % 2) 0) h
    middle Ordering.gt h = tt

    go : (w : Way) → 0 < r → Says (off w q u r false) r
    go near h = middle (compare (r * 2) u) h
    go under h = h
    go over h = tt

pub tern_lean : (w : Way) (q u r : ℕ) → r < u → compare (step (lean w q u r false) q * u) (q * u + r) ≡ lean w q u r false
unfolding step
tern_lean w q u r lt = go (lean w q u r false) (says w q u r)
  where
    go : (o : Ordering) → Says o r → compare (step o q * u) (q * u + r) ≡ o
    go Ordering.lt s = compare_at Ordering.lt (q * u) (q * u + r) (omega arith)
    go Ordering.eq s = compare_at Ordering.eq (q * u) (q * u + r) (omega arith)
    go Ordering.gt s = compare_at Ordering.gt (suc q * u) (q * u + r) (omega (arith, suc-mul q u))

-- ---- r units of C, and a part of one: counted in the smallest unit it leans the same way

abbrev pub Halves : Way → ℕ → Type 0
Halves near u = (f : ℕ) × (u ≡ f * 2)
Halves under u = Unit {0}
Halves over u = Unit {0}

module _ (q r C a : ℕ) (pos : 0 < C) where
  -- the part moves the middle to the upper side, and nothing else
  middle : (f : ℕ) (more : Bool) → Part more C a → tie more q (compare (r * 2) (f * 2)) ≡ tie false q (compare ((r * C + a) * 2) (f * 2 * C))
  unfolding tie
  middle f more h = go (compare (r * 2) (f * 2)) (cmp (r * 2) (f * 2)) more h
    where
      less : (r f : ℕ) → r * 2 < f * 2 → suc r ≤ f
      less r f h = omega arith

      even : (r f : ℕ) → r * 2 ≡ f * 2 → r ≡ f
      even r f h = omega arith

      to : {o v : Ordering} (m : Bool) → v ≡ o → tie m q o ≡ tie m q v
      to m e = ap (tie m q) (sym e)

      go : (o : Ordering) → Cmp o (r * 2) (f * 2) → (m : Bool) → Part m C a → tie m q o ≡ tie false q (compare ((r * C + a) * 2) (f * 2 * C))
      go Ordering.lt c false e = let k = mul-le-mul_right C (less r f c) in to false (compare_at Ordering.lt ((r * C + a) * 2) (f * 2 * C) (omega (arith, suc-mul r C)))
      go Ordering.lt c true e = let k = mul-le-mul_right C (less r f c) in to false (compare_at Ordering.lt ((r * C + a) * 2) (f * 2 * C) (omega (arith, suc-mul r C)))
      go Ordering.gt c false e = let k = mul-le-mul_right C (less f r c) in to false (compare_at Ordering.gt ((r * C + a) * 2) (f * 2 * C) (omega (arith, suc-mul f C)))
      go Ordering.gt c true e = let k = mul-le-mul_right C (less f r c) in to false (compare_at Ordering.gt ((r * C + a) * 2) (f * 2 * C) (omega (arith, suc-mul f C)))
      go Ordering.eq c false e = let k = ap (λ (z : ℕ). z * C) (even r f c) in to false (compare_at Ordering.eq ((r * C + a) * 2) (f * 2 * C) (omega arith))
      go Ordering.eq c true e = let k = ap (λ (z : ℕ). z * C) (even r f c) in to false (compare_at Ordering.gt ((r * C + a) * 2) (f * 2 * C) (omega arith))

  off_scale : (w : Way) (u : ℕ) → Halves w u → (more : Bool) → Part more C a → off w q u r more ≡ off w q (u * C) (r * C + a) false
  unfolding off
  off_scale near u h more m = subst (λ (z : ℕ). tie more q (compare (r * 2) z) ≡ tie false q (compare ((r * C + a) * 2) (z * C))) (sym h.1) (middle h.0 more m)
  off_scale under u h more m = refl
  off_scale over u h more m = refl

  pub lean_scale : (w : Way) (u : ℕ) → Halves w u → (more : Bool) → Part more C a → lean w q u r more ≡ lean w q (u * C) (r * C + a) false
  lean_scale w u h more m = go (zero_or r) more m
    where
      some : 0 < r → 0 < r * C + a
      some k = let l = mul-le-mul_right C k in omega arith

      both : 0 < r * C + a → (more : Bool) → Part more C a → lean w q u r more ≡ off w q u r more → lean w q u r more ≡ lean w q (u * C) (r * C + a) false
      both k more m e = e ∙ off_scale w u h more m ∙ sym (lean_rest w q (u * C) (r * C + a) k false)

      go : (r ≡ 0) ⊎ (0 < r) → (more : Bool) → Part more C a → lean w q u r more ≡ lean w q (u * C) (r * C + a) false
      go (inr k) more m = both (some k) more m (lean_rest w q u r k more)
      go (inl e) true m = both (omega arith) true m (lean_more w q u r)
      go (inl e) false m =
          let z : r * C + a ≡ 0 = ap (λ (v : ℕ). v * C + a) e ∙ omega arith in
          ap (λ (v : ℕ). lean w q u v false) e ∙ lean_exact w q u ∙ sym (ap (λ (v : ℕ). lean w q (u * C) v false) z ∙ lean_exact w q (u * C))
