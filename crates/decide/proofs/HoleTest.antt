-- The hole, decided by sizes alone.
use mathlib.Core.Path.{◌≡◌, refl, sym, ap, ◌∙◌, subst}
use mathlib.Core.Logic.{◌⊎◌, inl, inr}
use mathlib.Core.Bool.{Bool, true, false, not, cond, ◌&&◌, ◌||◌, beq, and-true, and-false}
use Prim.Native.Nat.{ℕ, zero, suc, ◌+◌, ◌-◌, ◌*◌, ◌/◌, ◌%◌, ◌^◌, ◌≤◌, ◌<◌, compare, Ordering}
use native.Mathlib.Nat.{le_trans, le_of_eq, le_antisymm, lt_of_lt_of_le, div-add-mod', mod-lt, pow-succ', div-one, mul-one, mul-pos, suc-mul, mul-le-mul, mul-le-mul_right, mul-lt-mul_of_pos_right}
use native.Mathlib.Omega.{arith}
use borrow.Author.Tests.{lt-ltb, le-ltb, le-leb, lt-leb, eq-eqb, ne_eqb}
use lib.Dec.{ltb, eqb}
use lib.Pow.{pow_pos, pow-add}
use lib.Ieee.{size}
use lib.Ieee.Digits.{size-lt, size_reaches}
use Rattle.limb.proofs.Tests.{and_both}
use Rattle.rounding.specs.Mode.{way, Way, near, under, over}
use Rattle.rounding.specs.declared.Mode.{Mode}
use Rattle.numbers.specs.Limits.{least_exponent, most_exponent}
use Rattle.rounding.proofs.Order.{le_or_lt, cmp, compare_at, size_mono, zero_or}
use Rattle.limb.proofs.Sizes.{size_is, size_part}
use Rattle.rounding.proofs.Scale.{size_shift}
use Rattle.decide.proofs.Settled.{alike_refl}
use Rattle.decide.proofs.Lean.{lean_exact, lean_rest, lean_more}
use Rattle.decide.specs.Class.{tie, off, lean, alike, enough, settled}
use Rattle.decide.specs.Range.{bump, carry, short_least, large?, small?, decided}
use Rattle.decide.specs.Table.{some?, hole_same, hole_unlike, hole_same_row, hole_unlike_row, hole_pair, hole_by_size, odd?, hole?}

-- the part of `settled` behind `enough`
abbrev inner : Way → ℕ → ℕ → ℕ → Bool → ℕ → Bool → Bool
inner w q u r ml i mg = ltb (r + i) u && alike (lean w q u r ml) (lean w q u (r + i) mg)

settled_at : (w : Way) (p n u : ℕ) (ml : Bool) (i : ℕ) (mg : Bool) → 2 ^ (size n - p) ≡ u → settled w p n ml i mg ≡ (enough w p n && inner w (n / u) u (n % u) ml i mg)
unfolding settled
settled_at w p n u ml i mg e = ap (λ (v : ℕ). enough w p n && inner w (n / v) v (n % v) ml i mg) e

same : {a b c : Ordering} → a ≡ c → b ≡ c → alike a b ≡ true
same {a} {b} {c} e f = ap (λ (o : Ordering). alike o b) e ∙ ap (alike c) f ∙ alike_refl c

-- a directed way leans one way off zero
data Directed : Way → Type 0 where
  down : Directed under
  up : Directed over

side : {w : Way} → Directed w → Ordering
side down = Ordering.lt
side up = Ordering.gt

off_side : {w : Way} (d : Directed w) (q u r : ℕ) (m : Bool) → off w q u r m ≡ side d
unfolding off side
off_side down q u r m = refl
off_side up q u r m = refl

not_exact : {w : Way} (d : Directed w) → alike Ordering.eq (side d) ≡ false
unfolding side
not_exact down = refl
not_exact up = refl

-- ---- one more digit, or two, than are selected

-- u is even, and r is odd
same_directed : {w : Way} → Directed w → (q u r : ℕ) → 0 < r → r < u → inner w q u r false 0 true ≡ true
same_directed {w} d q u r h k =
    and_both (lt-ltb (r + 0) u (omega arith)) (same (lean_rest w q u r h false ∙ off_side d q u r false) (lean_rest w q u (r + 0) (omega arith) true ∙ off_side d q u (r + 0) true))

same_near_two : (q : ℕ) → inner near q 2 1 false 0 true ≡ odd? q
unfolding lean off tie
same_near_two q = go (eqb (q % 2) 0)
  where
    go : (b : Bool) → alike (cond b Ordering.lt Ordering.gt) Ordering.gt ≡ not b
    go true = refl
    go false = refl

-- not a tie: what lies below does not matter
untied : (q : ℕ) (o : Ordering) → (o ≡ Ordering.eq → ⊥) → tie false q o ≡ tie true q o
unfolding tie
untied q Ordering.lt n = refl
untied q Ordering.eq n = absurd (n refl)
untied q Ordering.gt n = refl

same_near_more : (q h r : ℕ) → 0 < r → r < h * 4 → (r * 2 ≡ h * 4 → ⊥) → inner near q (h * 4) r false 0 true ≡ true
unfolding off
same_near_more q h r a b n =
    and_both (lt-ltb (r + 0) (h * 4) (omega arith))
    (same (lean_rest near q (h * 4) r a false ∙ untied q (compare (r * 2) (h * 4)) (λ e. n (tied e))) (ap (λ (v : ℕ). lean near q (h * 4) v true) (flat r) ∙ lean_rest near q (h * 4) r a true))
  where
    flat : (r : ℕ) → r + 0 ≡ r
    flat r = omega arith

    tied : compare (r * 2) (h * 4) ≡ Ordering.eq → r * 2 ≡ h * 4
    tied e = rw e at (cmp (r * 2) (h * 4))

-- u is even, and so is r
unlike_directed : {w : Way} → Directed w → (q u r : ℕ) → r + 1 < u → inner w q u r true 1 false ≡ true
unlike_directed {w} d q u r k = and_both (lt-ltb (r + 1) u k) (same (lean_more w q u r ∙ off_side d q u r true) (lean_rest w q u (r + 1) (omega arith) false ∙ off_side d q u (r + 1) false))

unlike_near_two : (q : ℕ) → inner near q 2 0 true 1 false ≡ eqb (q % 2) 0
unfolding lean off tie
unlike_near_two q = go (eqb (q % 2) 0)
  where
    go : (b : Bool) → alike Ordering.lt (cond b Ordering.lt Ordering.gt) ≡ b
    go true = refl
    go false = refl

unlike_near_more : (q h r : ℕ) → r + 1 < h * 4 → r % 2 ≡ 0 → inner near q (h * 4) r true 1 false ≡ true
unfolding off tie
unlike_near_more q h r k e = and_both (lt-ltb (r + 1) (h * 4) k) (go (le_or_lt (h * 4) (r * 2)))
  where
    next : lean near q (h * 4) (r + 1) false ≡ tie false q (compare ((r + 1) * 2) (h * 4))
    next = lean_rest near q (h * 4) (r + 1) (omega arith) false

    to : (o p : Ordering) → compare (r * 2) (h * 4) ≡ o → compare ((r + 1) * 2) (h * 4) ≡ p → tie true q o ≡ tie false q p → alike (lean near q (h * 4) r true) (lean near q (h * 4) (r + 1) false) ≡ true
    to o p a b c = same (lean_more near q (h * 4) r ∙ ap (tie true q) a ∙ c) (next ∙ ap (tie false q) b)

    go : (h * 4 ≤ r * 2) ⊎ (r * 2 < h * 4) → alike (lean near q (h * 4) r true) (lean near q (h * 4) (r + 1) false) ≡ true
    go (inr l) = to Ordering.lt Ordering.lt (compare_at Ordering.lt (r * 2) (h * 4) l) (compare_at Ordering.lt ((r + 1) * 2) (h * 4) (omega arith)) refl
    go (inl l) = elim (le_or_lt (r * 2) (h * 4)) [
      | inl m ↦ to Ordering.eq Ordering.gt (compare_at Ordering.eq (r * 2) (h * 4) (le_antisymm m l)) (compare_at Ordering.gt ((r + 1) * 2) (h * 4) (omega arith)) refl
      | inr m ↦ to Ordering.gt Ordering.gt (compare_at Ordering.gt (r * 2) (h * 4) m) (compare_at Ordering.gt ((r + 1) * 2) (h * 4) (omega arith)) refl
    ]

-- ---- by how many digits are read beyond those selected

data Beyond (p z : ℕ) : Type 0 where
  fewer : z < p → Beyond p z
  just : z ≡ p → Beyond p z
  one : z ≡ p + 1 → Beyond p z
  more : (d : ℕ) → z ≡ p + 2 + d → Beyond p z

beyond_of : (p z : ℕ) → Beyond p z
beyond_of p z = elim (le_or_lt p z) [
  | inr h ↦ fewer h
  | inl h ↦ elim (le_or_lt z p) [
    | inl k ↦ just (le_antisymm k h)
    | inr k ↦ elim (le_or_lt z (p + 1)) [ inl l ↦ one (omega arith) | inr l ↦ more (z - (p + 2)) (omega arith) ]
  ]
]

module _ (p z : ℕ) where
  just_unit : z ≡ p → 2 ^ (z - p) ≡ 1
  just_unit e = ap (λ (k : ℕ). 2 ^ k) (go e)
    where
      go : z ≡ p → z - p ≡ 0
      go e = omega arith

  one_unit : z ≡ p + 1 → 2 ^ (z - p) ≡ 2
  one_unit e = ap (λ (k : ℕ). 2 ^ k) (go e)
    where
      go : z ≡ p + 1 → z - p ≡ 1
      go e = omega arith

  more_unit : (d : ℕ) → z ≡ p + 2 + d → 2 ^ (z - p) ≡ 2 ^ d * 4
  more_unit d e = ap (λ (k : ℕ). 2 ^ k) (go e) ∙ four (2 ^ d) (2 ^ suc d) (2 ^ suc (suc d)) (pow-succ' 2 d) (pow-succ' 2 (suc d))
    where
      go : z ≡ p + 2 + d → z - p ≡ suc (suc d)
      go e = omega arith

      four : (a b c : ℕ) → b ≡ 2 * a → c ≡ 2 * b → c ≡ a * 4
      four a b c e f = omega arith

module _ (p n : ℕ) (ml : Bool) (i : ℕ) (mg odd : Bool) where
  abbrev z : ℕ
  z = size n

  -- what is to be shown of the part behind `enough`, in each case
  by_cases : (w : Way) → Beyond p (size n)
      → (Directed w → inner w n 1 0 ml i mg ≡ false)
      → (Directed w → inner w (n / 2) 2 (n % 2) ml i mg ≡ true) → ((w ≡ near) → inner near (n / 2) 2 (n % 2) ml i mg ≡ odd)
      → ((h : ℕ) → 0 < h → inner w (n / (h * 4)) (h * 4) (n % (h * 4)) ml i mg ≡ true)
      → settled w p n ml i mg ≡ hole? w p (size n) odd
  unfolding enough hole?
  by_cases near (fewer h) a b c d = settled_at near p n _ ml i mg refl ∙ rw (le-ltb p z (omega arith)) (sym (rw (le-ltb (p + 1) z (omega arith), ne_eqb (p + 1) z (λ e. omega arith))))
  by_cases near (just h) a b c d = settled_at near p n _ ml i mg refl ∙ rw (le-ltb p z (omega arith)) (sym (rw (le-ltb (p + 1) z (omega arith), ne_eqb (p + 1) z (λ e. omega arith))))
  by_cases near (one h) a b c d = settled_at near p n 2 ml i mg (one_unit p z h) ∙ rw (lt-ltb p z (omega arith)) (c refl ∙ sym (rw (le-ltb (p + 1) z (omega arith), eq-eqb (p + 1) z (sym h))))
  by_cases near (more e h) a b c d = settled_at near p n (2 ^ e * 4) ml i mg (more_unit p z e h) ∙ rw (lt-ltb p z (omega arith)) (d (2 ^ e) (pow_pos e) ∙ sym (rw (lt-ltb (p + 1) z (omega arith))))
  by_cases under (fewer h) a b c d = settled_at under p n _ ml i mg refl ∙ rw (lt-leb p z h) (sym (le-ltb p z (omega arith)))
  by_cases under (just h) a b c d = settled_at under p n 1 ml i mg (just_unit p z h) ∙ rw (le-leb p z (omega arith)) (ap (λ (v : ℕ). inner under v 1 (n % 1) ml i mg) (div-one n) ∙ ap (λ (v : ℕ). inner under n 1 v ml i mg) (none n) ∙ a down ∙ sym (le-ltb p z (omega arith)))
    where
      none : (n : ℕ) → n % 1 ≡ 0
      none n = omega arith
  by_cases under (one h) a b c d = settled_at under p n 2 ml i mg (one_unit p z h) ∙ rw (le-leb p z (omega arith)) (b down ∙ sym (lt-ltb p z (omega arith)))
  by_cases under (more e h) a b c d = settled_at under p n (2 ^ e * 4) ml i mg (more_unit p z e h) ∙ rw (le-leb p z (omega arith)) (d (2 ^ e) (pow_pos e) ∙ sym (lt-ltb p z (omega arith)))
  by_cases over (fewer h) a b c d = settled_at over p n _ ml i mg refl ∙ rw (lt-leb p z h) (sym (le-ltb p z (omega arith)))
  by_cases over (just h) a b c d = settled_at over p n 1 ml i mg (just_unit p z h) ∙ rw (le-leb p z (omega arith)) (ap (λ (v : ℕ). inner over v 1 (n % 1) ml i mg) (div-one n) ∙ ap (λ (v : ℕ). inner over n 1 v ml i mg) (none n) ∙ a up ∙ sym (le-ltb p z (omega arith)))
    where
      none : (n : ℕ) → n % 1 ≡ 0
      none n = omega arith
  by_cases over (one h) a b c d = settled_at over p n 2 ml i mg (one_unit p z h) ∙ rw (le-leb p z (omega arith)) (b up ∙ sym (lt-ltb p z (omega arith)))
  by_cases over (more e h) a b c d = settled_at over p n (2 ^ e * 4) ml i mg (more_unit p z e h) ∙ rw (le-leb p z (omega arith)) (d (2 ^ e) (pow_pos e) ∙ sym (lt-ltb p z (omega arith)))

-- ---- same signs: z + 1, where z = y * 2

parts : (n u : ℕ) → n ≡ n / u * u + n % u
parts n u = sym (div-add-mod' n u)

hole_same_is : (w : Way) (p y : ℕ) → settled w p (y * 2 + 1) false 0 true ≡ hole? w p (size (y * 2 + 1)) (odd? y)
hole_same_is w p y = by_cases p (y * 2 + 1) false 0 true (odd? y) w (beyond_of p (size (y * 2 + 1))) none two (λ e. tie_two) (λ h k. four w h k)
  where
    half : (y : ℕ) → (y * 2 + 1) / 2 ≡ y
    half y = omega arith

    last : (y : ℕ) → (y * 2 + 1) % 2 ≡ 1
    last y = omega arith

    none : Directed w → inner w (y * 2 + 1) 1 0 false 0 true ≡ false
    none d = ap (λ (o : Ordering). alike o (lean w (y * 2 + 1) 1 0 true)) (lean_exact w (y * 2 + 1) 1) ∙ ap (alike Ordering.eq) (lean_more w (y * 2 + 1) 1 0 ∙ off_side d (y * 2 + 1) 1 0 true) ∙ not_exact d

    two : Directed w → inner w ((y * 2 + 1) / 2) 2 ((y * 2 + 1) % 2) false 0 true ≡ true
    two d = same_directed d ((y * 2 + 1) / 2) 2 ((y * 2 + 1) % 2) (omega arith) (omega arith)

    tie_two : inner near ((y * 2 + 1) / 2) 2 ((y * 2 + 1) % 2) false 0 true ≡ odd? y
    tie_two = ap (λ (v : ℕ). inner near v 2 ((y * 2 + 1) % 2) false 0 true) (half y) ∙ ap (λ (v : ℕ). inner near y 2 v false 0 true) (last y) ∙ same_near_two y

    odd_rest : (h q r : ℕ) → y * 2 + 1 ≡ q * (h * 4) + r → r % 2 ≡ 1
    odd_rest h q r e = omega arith

    pos : (r : ℕ) → r % 2 ≡ 1 → 0 < r
    pos r e = omega arith

    no_tie : (h r : ℕ) → r % 2 ≡ 1 → r * 2 ≡ h * 4 → ⊥
    no_tie h r e f = double h (subst (λ (v : ℕ). v % 2 ≡ 1) (half_of r h f) e)
      where
        half_of : (r h : ℕ) → r * 2 ≡ h * 4 → r ≡ h * 2
        half_of r h f = omega arith

        double : (h : ℕ) → h * 2 % 2 ≡ 1 → ⊥
        double h e = omega arith

    four : (w : Way) (h : ℕ) → 0 < h → inner w ((y * 2 + 1) / (h * 4)) (h * 4) ((y * 2 + 1) % (h * 4)) false 0 true ≡ true
    four w h k =
        let q = (y * 2 + 1) / (h * 4) in
        let r = (y * 2 + 1) % (h * 4) in
        let e = odd_rest h q r (parts (y * 2 + 1) (h * 4)) in
        let l : r < h * 4 = mod-lt (y * 2 + 1) (omega arith) in
        go w q r e l
      where
        go : (w : Way) (q r : ℕ) → r % 2 ≡ 1 → r < h * 4 → inner w q (h * 4) r false 0 true ≡ true
        go near q r e l = same_near_more q h r (pos r e) l (no_tie h r e)
        go under q r e l = same_directed down q (h * 4) r (pos r e) l
        go over q r e l = same_directed up q (h * 4) r (pos r e) l

-- ---- unlike signs: z - 2

hole_unlike_is : (w : Way) (p y : ℕ) → 0 < y → settled w p (y * 2 - 2) true 1 false ≡ hole? w p (size (y * 2 - 2)) (odd? y)
hole_unlike_is w p y Y = by_cases p (y * 2 - 2) true 1 false (odd? y) w (beyond_of p (size (y * 2 - 2))) (λ d. refl) two (λ e. tie_two) (λ h k. four w h k)
  where
    half : (y : ℕ) → (y * 2 - 2) / 2 ≡ y - 1
    half y = omega arith

    last : (y : ℕ) → (y * 2 - 2) % 2 ≡ 0
    last y = omega arith

    two : Directed w → inner w ((y * 2 - 2) / 2) 2 ((y * 2 - 2) % 2) true 1 false ≡ true
    two d = unlike_directed d ((y * 2 - 2) / 2) 2 ((y * 2 - 2) % 2) (omega (arith, last y))

    parity : (b : Bool) → eqb (y % 2) 0 ≡ b → eqb ((y - 1) % 2) 0 ≡ not b
    parity true e = ne_eqb ((y - 1) % 2) 0 (λ f. go y Y (borrow.Author.Tests.eqb-true (y % 2) 0 e) f)
      where
        go : (y : ℕ) → 0 < y → y % 2 ≡ 0 → (y - 1) % 2 ≡ 0 → ⊥
        go y Y e f = omega arith
    parity false e = eq-eqb ((y - 1) % 2) 0 (go y (borrow.Author.Tests.eqb-false (y % 2) 0 e))
      where
        go : (y : ℕ) → (y % 2 ≡ 0 → ⊥) → (y - 1) % 2 ≡ 0
        go y n = elim (zero_or (y % 2)) [ inl e ↦ absurd (n e) | inr h ↦ omega arith ]

    tie_two : inner near ((y * 2 - 2) / 2) 2 ((y * 2 - 2) % 2) true 1 false ≡ odd? y
    tie_two = ap (λ (v : ℕ). inner near v 2 ((y * 2 - 2) % 2) true 1 false) (half y) ∙ ap (λ (v : ℕ). inner near (y - 1) 2 v true 1 false) (last y) ∙ unlike_near_two (y - 1) ∙ parity (eqb (y % 2) 0) refl

    even_rest : (h q r : ℕ) → y * 2 - 2 ≡ q * (h * 4) + r → r % 2 ≡ 0
    even_rest h q r e = omega arith

    next : (h r : ℕ) → r % 2 ≡ 0 → r < h * 4 → r + 1 < h * 4
    next h r e l = omega arith

    four : (w : Way) (h : ℕ) → 0 < h → inner w ((y * 2 - 2) / (h * 4)) (h * 4) ((y * 2 - 2) % (h * 4)) true 1 false ≡ true
    four w h k =
        let q = (y * 2 - 2) / (h * 4) in
        let r = (y * 2 - 2) % (h * 4) in
        let e = even_rest h q r (parts (y * 2 - 2) (h * 4)) in
        let l : r < h * 4 = mod-lt (y * 2 - 2) (omega arith) in
        go w q r e l
      where
        go : (w : Way) (q r : ℕ) → r % 2 ≡ 0 → r < h * 4 → inner w q (h * 4) r true 1 false ≡ true
        go near q r e l = unlike_near_more q h r (next h r e l) e
        go under q r e l = unlike_directed down q (h * 4) r (next h r e l)
        go over q r e l = unlike_directed up q (h * 4) r (next h r e l)

-- ---- no refusal decides a hole that is not settled

quiet_small : (w : Way) (p e m : ℕ) (mg : Bool) (tail : ℕ) → least_exponent ≤ size m + e → small? w p e m mg tail ≡ false
unfolding small?
quiet_small w p e m mg tail h = le-ltb _ least_exponent (go (size m) _ h)
  where
    go : (z c : ℕ) → least_exponent ≤ z + e → least_exponent ≤ z + c + e
    go z c h = omega arith

quiet_large : (w : Way) (p e n : ℕ) (ml : Bool) → size n + e ≤ most_exponent → cond (enough w p n) (carry w p n ml) (short_least w p n false) ≡ 0 → large? w p e n ml false ≡ false
unfolding large?
quiet_large w p e n ml h z = le-ltb most_exponent _ (go (size n) _ h z)
  where
    go : (a c : ℕ) → a + e ≤ most_exponent → c ≡ 0 → a + c + e ≤ most_exponent
    go a c h z = omega arith

carry_at : (w : Way) (p n u : ℕ) (ml : Bool) → 2 ^ (size n - p) ≡ u → carry w p n ml ≡ bump (lean w (n / u) u (n % u) ml) p (n / u)
unfolding carry
carry_at w p n u ml e = ap (λ (v : ℕ). bump (lean w (n / v) v (n % v) ml) p (n / v)) e

short_zero : (w : Way) (p n : ℕ) → short_least w p n false ≡ 0
unfolding short_least
short_zero near p n = refl
short_zero under p n = refl
short_zero over p n = refl

-- what does not lean up does not carry
flat_bump : (o : Ordering) (p q : ℕ) → (o ≡ Ordering.gt → suc q ≡ 2 ^ p → ⊥) → bump o p q ≡ 0
unfolding bump
flat_bump Ordering.lt p q n = refl
flat_bump Ordering.eq p q n = refl
flat_bump Ordering.gt p q n = ap (λ (b : Bool). cond b 1 0) (ne_eqb (suc q) (2 ^ p) (n refl))

module _ (p n : ℕ) (ml odd : Bool) where
  no_carry : (w : Way) → Beyond p (size n) → hole? w p (size n) odd ≡ false
      → (Directed w → bump (lean w n 1 0 ml) p n ≡ 0)
      → (w ≡ near → odd ≡ false → bump (lean near (n / 2) 2 (n % 2) ml) p (n / 2) ≡ 0)
      → cond (enough w p n) (carry w p n ml) (short_least w p n false) ≡ 0
  unfolding enough hole?
  no_carry near (fewer h) f a b = rw (le-ltb p (size n) (omega arith)) (short_zero near p n)
  no_carry near (just h) f a b = rw (le-ltb p (size n) (omega arith)) (short_zero near p n)
  no_carry near (one h) f a b = rw (lt-ltb p (size n) (omega arith)) (carry_at near p n 2 ml (one_unit p (size n) h) ∙ b refl (rw (le-ltb (p + 1) (size n) (omega arith), eq-eqb (p + 1) (size n) (sym h)) at f))
  no_carry near (more e h) f a b = absurd (let g = lt-ltb (p + 1) (size n) (omega arith) in let k : (true || (eqb (p + 1) (size n) && odd)) ≡ false = rw g at f in let z : ◌≡◌ {A = ℕ} 0 1 = cc in omega arith)
  no_carry under (fewer h) f a b = rw (lt-leb p (size n) h) (short_zero under p n)
  no_carry under (just h) f a b = rw (le-leb p (size n) (omega arith)) (carry_at under p n 1 ml (just_unit p (size n) h) ∙ ap (λ (v : ℕ). bump (lean under v 1 (n % 1) ml) p v) (div-one n) ∙ ap (λ (v : ℕ). bump (lean under n 1 v ml) p n) (none n) ∙ a down)
    where
      none : (n : ℕ) → n % 1 ≡ 0
      none n = omega arith
  no_carry under (one h) f a b = absurd (let g = lt-ltb p (size n) (omega arith) in let z : ◌≡◌ {A = ℕ} 0 1 = cc in omega arith)
  no_carry under (more e h) f a b = absurd (let g = lt-ltb p (size n) (omega arith) in let z : ◌≡◌ {A = ℕ} 0 1 = cc in omega arith)
  no_carry over (fewer h) f a b = rw (lt-leb p (size n) h) (short_zero over p n)
  no_carry over (just h) f a b = rw (le-leb p (size n) (omega arith)) (carry_at over p n 1 ml (just_unit p (size n) h) ∙ ap (λ (v : ℕ). bump (lean over v 1 (n % 1) ml) p v) (div-one n) ∙ ap (λ (v : ℕ). bump (lean over n 1 v ml) p n) (none n) ∙ a up)
    where
      none : (n : ℕ) → n % 1 ≡ 0
      none n = omega arith
  no_carry over (one h) f a b = absurd (let g = lt-ltb p (size n) (omega arith) in let z : ◌≡◌ {A = ℕ} 0 1 = cc in omega arith)
  no_carry over (more e h) f a b = absurd (let g = lt-ltb p (size n) (omega arith) in let z : ◌≡◌ {A = ℕ} 0 1 = cc in omega arith)

or_none : (a b c d : Bool) → a ≡ d → (d ≡ false → b ≡ false) → c ≡ false → (a || (b || c)) ≡ d
or_none true b c d e f g = e
or_none false b c d e f g = let h = f (sym e) in rw (h, g) e

hole_same_decided : (w : Way) (p e y : ℕ) → size (y * 2 + 1) + e ≤ most_exponent → least_exponent ≤ size (y * 2 + 1) + e → hole_same w p e (y * 2) ≡ hole? w p (size (y * 2 + 1)) (odd? y)
unfolding hole_same hole_same_row decided
hole_same_decided w p e y h k = or_none _ _ _ _ (hole_same_is w p y) (λ f. quiet_large w p e (y * 2 + 1) false h (no_carry p (y * 2 + 1) false (odd? y) w (beyond_of p (size (y * 2 + 1))) f exact (λ g. even))) (quiet_small w p e (y * 2 + 1 + 0) true 0 (le_trans k (le_of_eq (ap (λ (v : ℕ). size v + e) (flat (y * 2 + 1))))))
  where
    flat : (n : ℕ) → n ≡ n + 0
    flat n = omega arith

    half : (y : ℕ) → (y * 2 + 1) / 2 ≡ y
    half y = omega arith

    last : (y : ℕ) → (y * 2 + 1) % 2 ≡ 1
    last y = omega arith

    exact : Directed w → bump (lean w (y * 2 + 1) 1 0 false) p (y * 2 + 1) ≡ 0
    exact d = ap (λ (o : Ordering). bump o p (y * 2 + 1)) (lean_exact w (y * 2 + 1) 1) ∙ unfold bump in refl

    tied : (b : Bool) → eqb (y % 2) 0 ≡ b → not b ≡ false → bump (lean near y 2 1 false) p y ≡ 0
    tied true e f = unfold lean off tie bump in ap (λ (b : Bool). bump (cond b Ordering.lt Ordering.gt) p y) e
    tied false e f = absurd (let z : ◌≡◌ {A = ℕ} 0 1 = cc in omega arith)

    even : odd? y ≡ false → bump (lean near ((y * 2 + 1) / 2) 2 ((y * 2 + 1) % 2) false) p ((y * 2 + 1) / 2) ≡ 0
    even f = ap (λ (v : ℕ). bump (lean near v 2 ((y * 2 + 1) % 2) false) p v) (half y) ∙ ap (λ (v : ℕ). bump (lean near y 2 v false) p y) (last y) ∙ tied (eqb (y % 2) 0) refl f

hole_unlike_decided : (w : Way) (p e y : ℕ) → 0 < p → 0 < y → size (y * 2 - 2) + e ≤ most_exponent → least_exponent ≤ size (y * 2 - 2 + 1) + e → hole_unlike w p e (y * 2) ≡ hole? w p (size (y * 2 - 2)) (odd? y)
unfolding hole_unlike hole_unlike_row decided
hole_unlike_decided w p e y P Y h k = or_none _ _ _ _ (hole_unlike_is w p y Y) (λ f. quiet_large w p e (y * 2 - 2) true h (no_carry p (y * 2 - 2) true (odd? y) w (beyond_of p (size (y * 2 - 2))) f (λ d. flat_bump _ p (y * 2 - 2) (λ g. odd p P)) (λ g o. even))) (quiet_small w p e (y * 2 - 2 + 1) false 0 k)
  where
    odd : (p : ℕ) → 0 < p → suc (y * 2 - 2) ≡ 2 ^ p → ⊥
    odd zero P f = omega arith
    odd (suc p) P f = let g = pow-succ' 2 p in omega arith

    last : (y : ℕ) → (y * 2 - 2) % 2 ≡ 0
    last y = omega arith

    down_two : (q : ℕ) → bump (lean near q 2 0 true) p q ≡ 0
    down_two q = unfold lean off tie bump in refl

    even : bump (lean near ((y * 2 - 2) / 2) 2 ((y * 2 - 2) % 2) true) p ((y * 2 - 2) / 2) ≡ 0
    even = ap (λ (v : ℕ). bump (lean near ((y * 2 - 2) / 2) 2 v true) p ((y * 2 - 2) / 2)) (last y) ∙ down_two ((y * 2 - 2) / 2)

-- ---- the sizes, where z = m * 2 ^ suc f: x's digits are m, and its last stands f digits above y's first

size_next : (y : ℕ) → 0 < y → size (y * 2 + 1) ≡ size y + 1
size_next y Y = size_part y 1 1 Y (omega arith)

size_above : (m f : ℕ) → 0 < m → size (m * 2 ^ f * 2 + 1) ≡ size m + f + 1
size_above m f M = size_next (m * 2 ^ f) (mul-pos M (pow_pos f)) ∙ ap (λ (v : ℕ). v + 1) (size_shift m f M)

-- one less, where m is a power of two
size_below : (m f : ℕ) → 2 ≤ m → size (m * 2 ^ f * 2 - 2) ≡ size m + f + 1 - cond (eqb m (2 ^ (size m - 1))) 1 0
size_below m f M = ap size (double (m * 2 ^ f)) ∙ size_shift (m * 2 ^ f - 1) 1 (pos (m * 2 ^ f) big) ∙ go (size m) refl
  where
    double : (y : ℕ) → y * 2 - 2 ≡ (y - 1) * 2
    double y = omega arith

    pos : (y : ℕ) → 2 ≤ y → 0 < y - 1
    pos y h = omega arith

    big : 2 ≤ m * 2 ^ f
    big = mul-le-mul M (pow_pos f)

    small : size m ≡ 0 → ⊥
    small e = omega (arith, subst (λ (z : ℕ). m < 2 ^ z) e (size-lt m))

    -- m is above the power of two
    above : (z : ℕ) → 2 ^ z < m → m < 2 ^ suc z → size (m * 2 ^ f - 1) ≡ suc z + f
    above z l h =
        size_is (m * 2 ^ f - 1) (z + f) (low (2 ^ (z + f)) (m * 2 ^ f) (pow-add 2 z f) (mul-le-mul_right (2 ^ f) l)) (high (m * 2 ^ f) (2 ^ suc (z + f)) (lt_of_lt_of_le (mul-lt-mul_of_pos_right h (pow_pos f)) (le_of_eq (sym (pow-add 2 (suc z) f) ∙ ap (λ (v : ℕ). 2 ^ v) (shift z)))))
        ∙ sym (shift z)
      where
        low : (a y : ℕ) → a ≡ 2 ^ z * 2 ^ f → suc (2 ^ z) * 2 ^ f ≤ y → a ≤ y - 1
        low a y e h = omega (arith, suc-mul (2 ^ z) (2 ^ f), pow_pos f)

        high : (y b : ℕ) → y < b → y - 1 < b
        high y b h = omega arith

        shift : (z : ℕ) → suc z + f ≡ suc (z + f)
        shift z = omega arith

    -- m is the power of two
    power : (z : ℕ) → m ≡ 2 ^ z → size (m * 2 ^ f - 1) ≡ z + f
    power zero e = absurd (omega arith)
    power (suc z) e = ap (λ (v : ℕ). size (v * 2 ^ f - 1)) e ∙ ap (λ (v : ℕ). size (v - 1)) (sym (pow-add 2 (suc z) f) ∙ ap (λ (v : ℕ). 2 ^ v) (shift z)) ∙ ones (z + f) ∙ sym (shift z)
      where
        shift : (z : ℕ) → suc z + f ≡ suc (z + f)
        shift z = omega arith

        ones : (k : ℕ) → size (2 ^ suc k - 1) ≡ suc k
        ones k = let e = pow-succ' 2 k in let h = pow_pos k in size_is (2 ^ suc k - 1) k (omega arith) (omega arith)

    pred : (z : ℕ) → suc z - 1 ≡ z
    pred z = omega arith

    go : (z : ℕ) → size m ≡ z → size (m * 2 ^ f - 1) + 1 ≡ size m + f + 1 - cond (eqb m (2 ^ (size m - 1))) 1 0
    go zero e = absurd (small e)
    go (suc z) e = test (eqb m (2 ^ z)) refl ∙ sym (ap (λ (v : ℕ). v + f + 1 - cond (eqb m (2 ^ (v - 1))) 1 0) e ∙ ap (λ (v : ℕ). suc z + f + 1 - cond (eqb m (2 ^ v)) 1 0) (pred z))
      where
        test : (b : Bool) → eqb m (2 ^ z) ≡ b → size (m * 2 ^ f - 1) + 1 ≡ suc z + f + 1 - cond b 1 0
        test true t = ap (λ (v : ℕ). v + 1) (power z (borrow.Author.Tests.eqb-true m (2 ^ z) t)) ∙ omega arith
        test false t = ap (λ (v : ℕ). v + 1) (above z (strict (size_reaches m z (le_of_eq (sym e))) (borrow.Author.Tests.eqb-false m (2 ^ z) t)) (subst (λ (v : ℕ). m < 2 ^ v) e (size-lt m))) ∙ omega arith
          where
            strict : 2 ^ z ≤ m → (m ≡ 2 ^ z → ⊥) → 2 ^ z < m
            strict h n = elim (le_or_lt m (2 ^ z)) [ inl k ↦ absurd (n (le_antisymm k h)) | inr k ↦ k ]

-- two numbers are the same where nothing lies between them
pub eqb_none : (n c : ℕ) → c ≤ n → eqb n c ≡ not (some? (n - c))
eqb_none n c h = go (n - c) refl
  where
    go : (d : ℕ) → n - c ≡ d → eqb n c ≡ not (some? d)
    go zero e = eq-eqb n c (omega arith)
    go (suc d) e = ne_eqb n c (λ f. omega arith)

-- z / 2 is odd only where the two stand next to each other
odd_shift : (m f : ℕ) → odd? (m * 2 ^ f) ≡ (odd? m && not (some? f))
odd_shift m zero = ap odd? (mul-one m) ∙ sym (and-true (odd? m))
odd_shift m (suc f) = ap (λ (b : Bool). not b) (eq-eqb (m * 2 ^ suc f % 2) 0 (even (m * 2 ^ f) (ap (λ (v : ℕ). m * v) (pow-succ' 2 f)))) ∙ sym (and-false (odd? m))
  where
    even : (y : ℕ) {v : ℕ} → v ≡ m * (2 * 2 ^ f) → v % 2 ≡ 0
    even y e = omega arith

pub hole_pair_is : (o : Mode) (p e : ℕ) (a b : Bool) (m f : ℕ) → 0 < p → 2 ≤ m → least_exponent < size m + f + 1 + e → size m + f + 1 + e ≤ most_exponent → hole_pair o p e a b (m * 2 ^ f * 2) ≡ hole_by_size o p a b m f
unfolding hole_pair hole_by_size
hole_pair_is o p e a b m f P M h k = arms (beq a b) alike_signs unlike_signs
  where
    y : ℕ
    y = m * 2 ^ f

    arms : (c : Bool) {s t u v : Bool} → s ≡ u → t ≡ v → cond c s t ≡ cond c u v
    arms true i j = i
    arms false i j = j

    m_pos : 0 < m
    m_pos = omega arith

    alike_signs : hole_same (way o a) p e (m * 2 ^ f * 2) ≡ hole? (way o a) p (size m + f + 1) (odd? m && not (some? f))
    alike_signs =
        let z = size_above m f m_pos in
        hole_same_decided (way o a) p e (m * 2 ^ f) (le_trans (le_of_eq (ap (λ (v : ℕ). v + e) z)) k) (le_trans (less h) (le_of_eq (sym (ap (λ (v : ℕ). v + e) z))))
        ∙ ap (λ (v : ℕ). hole? (way o a) p v (odd? (m * 2 ^ f))) z ∙ ap (hole? (way o a) p (size m + f + 1)) (odd_shift m f)
      where
        less : {v : ℕ} → least_exponent < v → least_exponent ≤ v
        less h = omega arith

    unlike_signs : hole_unlike (way o a) p e (m * 2 ^ f * 2) ≡ hole? (way o a) p (size m + f + 1 - cond (eqb m (2 ^ (size m - 1))) 1 0) (odd? m && not (some? f))
    unlike_signs =
        let z = size_below m f M in
        hole_unlike_decided (way o a) p e (m * 2 ^ f) P (mul-pos m_pos (pow_pos f)) (top (size m + f + 1) (cond (eqb m (2 ^ (size m - 1))) 1 0) z k) (le_trans (bottom (size m + f + 1) (eqb m (2 ^ (size m - 1))) z h) (more (size_mono (m * 2 ^ f * 2 - 2) (m * 2 ^ f * 2 - 2 + 1) (omega arith))))
        ∙ ap (λ (v : ℕ). hole? (way o a) p v (odd? (m * 2 ^ f))) z ∙ ap (hole? (way o a) p (size m + f + 1 - cond (eqb m (2 ^ (size m - 1))) 1 0)) (odd_shift m f)
      where
        top : (z c : ℕ) {v : ℕ} → v ≡ z - c → z + e ≤ most_exponent → v + e ≤ most_exponent
        top z c i l = omega arith

        bottom : (z : ℕ) (c : Bool) {v : ℕ} → v ≡ z - cond c 1 0 → least_exponent < z + e → least_exponent ≤ v + e
        bottom z true i l = omega arith
        bottom z false i l = omega arith

        more : {v w : ℕ} → v ≤ w → v + e ≤ w + e
        more h = omega arith
