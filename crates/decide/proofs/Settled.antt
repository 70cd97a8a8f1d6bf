-- The decision is right: the least and the greatest sum round alike exactly when `settled` says so.
use mathlib.Core.Path.{◌≡◌, refl, sym, ap, ◌∙◌, subst}
use mathlib.Core.Logic.{◌⊎◌, inl, inr}
use mathlib.Core.Bool.{Bool, true, false, ◌&&◌}
use Prim.Native.Nat.{ℕ, zero, suc, ◌+◌, ◌-◌, ◌*◌, ◌/◌, ◌%◌, ◌^◌, ◌≤◌, ◌<◌, compare, Ordering}
use native.Mathlib.Nat.{le_trans, le_of_eq, le_of_lt, lt_of_lt_of_le, lt_of_le_of_lt, le_antisymm, suc-mul, mul_assoc, mul-le-mul_right, div-add-mod', mod-lt, pow-succ'}
use native.Mathlib.Omega.{arith}
use borrow.Author.Tests.{ltb-true, leb-true, lt-ltb, le-leb}
use lib.Dec.{ltb}
use lib.Pow.{pow_pos, pow_mono, pow-add}
use lib.Ieee.{size}
use lib.Ieee.Digits.{size-lt, size-le}
use lib.Ieee.Fits.{kept-lt}
use Rattle.limb.proofs.Sizes.{size_part}
use Rattle.limb.proofs.Tests.{both_true}
use Rattle.rounding.specs.Mode.{Way, near, under, over}
use Rattle.rounding.specs.Select.{quotient, unit, chosen, on_grid}
use Rattle.rounding.proofs.Selection.{Rep, full, chosen_mono}
use Rattle.rounding.proofs.Order.{le_or_lt, Cmp, cmp, compare_at, size_mono, zero_or}
use Rattle.rounding.proofs.Scale.{exact}
use Rattle.decide.specs.Class.{tie, off, lean, step, alike, enough, settled}
use Rattle.decide.proofs.Lean.{Part, Halves, lean_exact, lean_rest, lean_scale, quot_lean, tern_lean}

-- selected alike, with the same ternary value
pub record Alike (w : Way) (p lo hi : ℕ) : Type 0 where
  pub number : chosen w p lo ≡ chosen w p hi
  pub tern : compare (chosen w p lo) lo ≡ compare (chosen w p hi) hi

-- ---- what is selected for m cut units and a part of one more

pub part_lt : (more : Bool) (C a : ℕ) → 0 < C → Part more C a → a < C
part_lt true C a pos h = h.1
part_lt false C a pos h = omega arith

pub unit_part : (p m j a : ℕ) → 0 < m → a < 2 ^ j → p ≤ size m → unit p (m * 2 ^ j + a) ≡ 2 ^ (size m - p) * 2 ^ j
unfolding unit
unit_part p m j a M lt h = ap (λ (z : ℕ). 2 ^ (z - p)) (size_part m j a M lt) ∙ ap (λ (z : ℕ). 2 ^ z) (move (size m) h) ∙ pow-add 2 (size m - p) j
  where
    move : (z : ℕ) → p ≤ z → z + j - p ≡ z - p + j
    move z h = omega arith

-- of a number q * u + r whose unit is u
module _ (w : Way) (p v q u r : ℕ) (is : v ≡ q * u + r) (lt : r < u) (unit_is : unit p v ≡ u) where
  pub chosen_at : chosen w p v ≡ step (lean w q u r false) q * u
  unfolding chosen on_grid
  chosen_at = ap (λ (z : ℕ). quotient w v z * z) unit_is ∙ ap (λ (z : ℕ). quotient w z u * u) is ∙ ap (λ (z : ℕ). z * u) (quot_lean w q u r lt)

  tern_at : compare (chosen w p v) v ≡ lean w q u r false
  tern_at = ap (λ (z : ℕ). compare z v) chosen_at ∙ ap (compare (step (lean w q u r false) q * u)) is ∙ tern_lean w q u r lt

-- of m = q * u + r cut units, and more: what lies below the cut is seen only as `more`
module _ (w : Way) (p m j a : ℕ) (more : Bool) (M : 0 < m) (part : Part more (2 ^ j) a) (fits : p ≤ size m) (q u r : ℕ) (u_is : 2 ^ (size m - p) ≡ u) (is : m ≡ q * u + r) (lt : r < u) (h : Halves w u) where
  abbrev cut : ℕ
  cut = 2 ^ j

  split : m * cut + a ≡ q * (u * cut) + (r * cut + a)
  split = ap (λ (z : ℕ). z * cut + a) is ∙ spread q u r cut
    where
      spread : (q u r cut : ℕ) → (q * u + r) * cut + a ≡ q * (u * cut) + (r * cut + a)
      spread q u r cut = omega arith

  inside : r * cut + a < u * cut
  inside = go (part_lt more cut a (pow_pos j) part) (mul-le-mul_right cut lt)
    where
      go : a < cut → suc r * cut ≤ u * cut → r * cut + a < u * cut
      go k l = omega (arith, suc-mul r cut)

  unit_is : unit p (m * cut + a) ≡ u * cut
  unit_is = unit_part p m j a M (part_lt more cut a (pow_pos j) part) fits ∙ ap (λ (z : ℕ). z * cut) u_is

  seen : lean w q u r more ≡ lean w q (u * cut) (r * cut + a) false
  seen = lean_scale q r cut a (pow_pos j) w u h more part

  pub chosen_cut : chosen w p (m * cut + a) ≡ step (lean w q u r more) q * (u * cut)
  chosen_cut = chosen_at w p (m * cut + a) q (u * cut) (r * cut + a) split inside unit_is ∙ ap (λ (z : Ordering). step z q * (u * cut)) (sym seen)

  pub tern_cut : compare (chosen w p (m * cut + a)) (m * cut + a) ≡ lean w q u r more
  tern_cut = tern_at w p (m * cut + a) q (u * cut) (r * cut + a) split inside unit_is ∙ sym seen

-- ---- a p-digit number between the two ends: they do not round alike

pub rep_between : (w : Way) (p lo m hi : ℕ) → 0 < p → Rep p m → lo ≤ m → m ≤ hi → Alike w p lo hi → lo ≡ hi
rep_between w p lo m hi P r h k e =
    let x = exact w p m P r in
    let a : chosen w p lo ≡ m = le_antisymm (le_trans (chosen_mono w p lo m P h) (le_of_eq x)) (le_trans (le_of_eq (sym x)) (le_trans (chosen_mono w p m hi P k) (le_of_eq (sym e.number)))) in
    let c : compare m lo ≡ compare m hi = ap (λ (z : ℕ). compare z lo) (sym a) ∙ e.tern ∙ ap (λ (z : ℕ). compare z hi) (sym e.number ∙ a) in
    go (compare m lo) (cmp m lo) (rw (← c) at (cmp m hi))
  where
    go : (o : Ordering) → Cmp o m lo → Cmp o m hi → lo ≡ hi
    go Ordering.lt a b = absurd (omega arith)
    go Ordering.eq a b = omega arith
    go Ordering.gt a b = absurd (omega arith)

-- ---- the two ends, seen from the cut unit 2 ^ j

-- the ends lie so far apart that they can be told: the least is a whole number of units, or the greatest is one unit on, or a half lies strictly between
abbrev pub Wide : ℕ → ℕ → Bool → ℕ → ℕ → ℕ → Type 0
Wide C n ml i lo hi = (ml ≡ false) ⊎ ((i ≡ 1) ⊎ ((lo * 2 < n * 2 * C + C) × (n * 2 * C + C < hi * 2)))

-- the least is n units (and more, if ml), the greatest n + i (and more, if mg)
pub record Span (j n : ℕ) (ml : Bool) (i : ℕ) (mg : Bool) (lo hi : ℕ) : Type 0 where
  pub a : ℕ
  pub b : ℕ
  pub least : lo ≡ n * 2 ^ j + a
  pub most : hi ≡ (n + i) * 2 ^ j + b
  pub part_least : Part ml (2 ^ j) a
  pub part_most : Part mg (2 ^ j) b
  pub carry : i ≤ 1
  pub apart : lo < hi
  pub wide : Wide (2 ^ j) n ml i lo hi

alike_eq : (a b : Ordering) → alike a b ≡ true → a ≡ b
alike_eq Ordering.lt Ordering.lt e = refl
alike_eq Ordering.eq Ordering.eq e = refl
alike_eq Ordering.gt Ordering.gt e = refl
alike_eq Ordering.lt Ordering.eq e = cc
alike_eq Ordering.lt Ordering.gt e = cc
alike_eq Ordering.eq Ordering.lt e = cc
alike_eq Ordering.eq Ordering.gt e = cc
alike_eq Ordering.gt Ordering.lt e = cc
alike_eq Ordering.gt Ordering.eq e = cc

pub alike_refl : (a : Ordering) → alike a a ≡ true
alike_refl Ordering.lt = refl
alike_refl Ordering.eq = refl
alike_refl Ordering.gt = refl

-- enough digits: the unit of the last one is u cut units, and under nearest u is even
abbrev pub Enough : Way → ℕ → ℕ → Type 0
Enough near p n = p < size n
Enough under p n = p ≤ size n
Enough over p n = p ≤ size n

pub enough_true : (w : Way) (p n : ℕ) → enough w p n ≡ true → Enough w p n
unfolding enough
enough_true near p n e = ltb-true p (size n) e
enough_true under p n e = leb-true p (size n) e
enough_true over p n e = leb-true p (size n) e

pub enough_longer : (w : Way) (p n : ℕ) → p < size n → enough w p n ≡ true
unfolding enough
enough_longer near p n h = lt-ltb p (size n) h
enough_longer under p n h = le-leb p (size n) (omega arith)
enough_longer over p n h = le-leb p (size n) (omega arith)

pub enough_or : (w : Way) (p n : ℕ) → (Enough w p n × (enough w p n ≡ true)) ⊎ (Enough w p n → ⊥)
unfolding enough
enough_or near p n = elim (le_or_lt (size n) p) [ inl h ↦ inr (λ k. omega arith) | inr h ↦ inl (h, lt-ltb p (size n) h) ]
enough_or under p n = elim (le_or_lt p (size n)) [ inl h ↦ inl (h, le-leb p (size n) h) | inr h ↦ inr (λ k. omega arith) ]
enough_or over p n = elim (le_or_lt p (size n)) [ inl h ↦ inl (h, le-leb p (size n) h) | inr h ↦ inr (λ k. omega arith) ]

pub enough_le : (w : Way) (p n : ℕ) → Enough w p n → p ≤ size n
enough_le near p n h = omega arith
enough_le under p n h = h
enough_le over p n h = h

pub halves : (w : Way) (p n : ℕ) → Enough w p n → Halves w (2 ^ (size n - p))
halves near p n h = (2 ^ (size n - p - 1), ap (λ (z : ℕ). 2 ^ z) (back (size n) h) ∙ pow-succ' 2 (size n - p - 1) ∙ omega arith)
  where
    back : (z : ℕ) → p < z → z - p ≡ suc (z - p - 1)
    back z h = omega arith
halves under p n h = tt
halves over p n h = tt

module _ (w : Way) (p : ℕ) (P : 0 < p) (j n : ℕ) (ml : Bool) (i : ℕ) (mg : Bool) (lo hi : ℕ) (s : Span j n ml i mg lo hi) where
  abbrev u : ℕ
  u = 2 ^ (size n - p)

  abbrev q : ℕ
  q = n / u

  abbrev r : ℕ
  r = n % u

  some : 0 < size n → 0 < n
  some h = elim (zero_or n) [ inl e ↦ absurd (none (subst (λ (z : ℕ). 0 < size z) e h)) | inr k ↦ k ]
    where
      none : 0 < size 0 → ⊥
      none h = omega (arith, size-le 0 0 (pow_pos 0))

  n_is : n ≡ q * u + r
  n_is = sym (div-add-mod' n u)

  -- where no carry reaches the last digit, both have one unit
  module _ (e : Enough w p n) (room : r + i < u) where
    more_is : n + i ≡ q * u + (r + i)
    more_is = go (q * u) r n_is
      where
        go : (a r : ℕ) → n ≡ a + r → n + i ≡ a + (r + i)
        go a r e = omega arith

    one_size : size (n + i) ≡ size n
    one_size =
        le_antisymm
        (size-le (n + i) (size n) (lt_of_lt_of_le (lt_of_le_of_lt (le_of_eq more_is) (next (q * u) (r + i) u (suc q * u) room (suc-mul q u))) (le_trans (mul-le-mul_right u (kept-lt p n)) (le_of_eq (sym (pow-add 2 p (size n - p)) ∙ ap (λ (z : ℕ). 2 ^ z) (back (size n) (enough_le w p n e)))))))
        (size_mono n (n + i) (more n i))
      where
        next : (a r u v : ℕ) → r < u → v ≡ a + u → a + r < v
        next a r u v h e = omega arith

        back : (z : ℕ) → p ≤ z → p + (z - p) ≡ z
        back z h = omega arith

        more : (a b : ℕ) → a ≤ a + b
        more a b = omega arith

    abbrev first : Ordering
    first = lean w q u r ml

    abbrev last : Ordering
    last = lean w q u (r + i) mg

    r_lt : r < u
    r_lt = mod-lt n (pow_pos (size n - p))

    fits : p ≤ size (n + i)
    fits = le_trans (enough_le w p n e) (le_of_eq (sym one_size))

    n_pos : 0 < n
    n_pos = some (le_trans P (enough_le w p n e))

    some_most : 0 < n + i
    some_most = lt_of_lt_of_le n_pos (go n i)
      where
        go : (a b : ℕ) → a ≤ a + b
        go a b = omega arith

    unit_most : 2 ^ (size (n + i) - p) ≡ u
    unit_most = ap (λ (z : ℕ). 2 ^ (z - p)) one_size

    chosen_least : chosen w p lo ≡ step first q * (u * 2 ^ j)
    chosen_least = ap (chosen w p) s.least ∙ chosen_cut w p n j s.a ml n_pos s.part_least (enough_le w p n e) q u r refl n_is r_lt (halves w p n e)

    tern_least : compare (chosen w p lo) lo ≡ first
    tern_least = ap (λ (z : ℕ). compare (chosen w p z) z) s.least ∙ tern_cut w p n j s.a ml n_pos s.part_least (enough_le w p n e) q u r refl n_is r_lt (halves w p n e)

    chosen_most : chosen w p hi ≡ step last q * (u * 2 ^ j)
    chosen_most = ap (chosen w p) s.most ∙ chosen_cut w p (n + i) j s.b mg some_most s.part_most fits q u (r + i) unit_most more_is room (halves w p n e)

    tern_most : compare (chosen w p hi) hi ≡ last
    tern_most = ap (λ (z : ℕ). compare (chosen w p z) z) s.most ∙ tern_cut w p (n + i) j s.b mg some_most s.part_most fits q u (r + i) unit_most more_is room (halves w p n e)

    alike_if : first ≡ last → Alike w p lo hi
    alike_if f = record { number = chosen_least ∙ ap (λ (z : Ordering). step z q * (u * 2 ^ j)) f ∙ sym chosen_most; tern = tern_least ∙ f ∙ sym tern_most }

    alike_only : Alike w p lo hi → first ≡ last
    alike_only f = sym tern_least ∙ f.tern ∙ tern_most

  pub settled_if : settled w p n ml i mg ≡ true → Alike w p lo hi
  unfolding settled
  settled_if e =
      let a = both_true (enough w p n) _ e in
      let b = both_true (ltb (r + i) u) _ a.1 in
      alike_if (enough_true w p n a.0) (ltb-true (r + i) u b.0) (alike_eq _ _ b.1)

  -- ---- else a p-digit number, or under nearest the middle of two, lies between

  never : {m : ℕ} → Rep p m → lo ≤ m → m ≤ hi → Alike w p lo hi → ⊥
  never {m} t h k f = clash (rep_between w p lo m hi P t h k f) s.apart
    where
      clash : lo ≡ hi → lo < hi → ⊥
      clash e l = omega arith

  abbrev C : ℕ
  C = 2 ^ j

  a_lt : s.a < C
  a_lt = part_lt ml C s.a (pow_pos j) s.part_least

  b_lt : s.b < C
  b_lt = part_lt mg C s.b (pow_pos j) s.part_most

  -- the unit above the least, where the greatest has reached it
  next_between : i ≡ 1 → (lo ≤ suc n * C) × (suc n * C ≤ hi)
  next_between one = (go s.a s.least a_lt, next s.b (s.most ∙ ap (λ (z : ℕ). (n + z) * C + s.b) one))
    where
      go : (a : ℕ) → lo ≡ n * C + a → a < C → lo ≤ suc n * C
      go a e h = omega (arith, suc-mul n C)

      next : (b : ℕ) → hi ≡ (n + 1) * C + b → suc n * C ≤ hi
      next b e = omega (arith, suc-mul n C)

  carried : Enough w p n → u ≤ r + i → Alike w p lo hi → ⊥
  carried e h f =
      let c = one i r u s.carry (mod-lt n (pow_pos (size n - p))) h in
      let k = next_between c.0 in
      let m : suc n * C ≡ suc q * 2 ^ (size n - p + j) = ap (λ (z : ℕ). z * C) (top (q * u) r n_is c.1 ∙ sym (suc-mul q u)) ∙ mul_assoc (suc q) u C ∙ ap (λ (z : ℕ). suc q * z) (sym (pow-add 2 (size n - p) j)) in
      never (full p (size n - p + j) (suc q) P (kept-lt p n)) (le_trans k.0 (le_of_eq m)) (le_trans (le_of_eq (sym m)) k.1) f
    where
      one : (i r u : ℕ) → i ≤ 1 → r < u → u ≤ r + i → (i ≡ 1) × (suc r ≡ u)
      one i r u a b c = (omega arith, omega arith)

      top : (a r : ℕ) → n ≡ a + r → suc r ≡ u → suc n ≡ a + u
      top a r e h = omega arith

  not_enough : (Enough w p n → ⊥) → size n ≤ p
  not_enough lack = elim (le_or_lt (size n) p) [ inl h ↦ h | inr h ↦ absurd (lack (go w h)) ]
    where
      go : (v : Way) → p < size n → Enough v p n
      go near h = h
      go under h = omega arith
      go over h = omega arith

  n_few : size n ≤ p → n < 2 ^ p
  n_few h = lt_of_lt_of_le (size-lt n) (pow_mono h)

  -- a half between the two
  module _ (zero_i : i ≡ 0) (low : lo * 2 < n * 2 * C + C) (high : n * 2 * C + C < hi * 2) where
    half_rep : size n < p → (m : ℕ) × Rep p m × (lo ≤ m) × (m ≤ hi)
    half_rep h = go j refl
      where
        n_half : suc (n * 2) ≤ 2 ^ p
        n_half = le_trans (go (le_of_lt (size-lt n))) (le_trans (le_of_eq (sym (pow-succ' 2 (size n)))) (pow_mono h))
          where
            go : n ≤ 2 ^ size n → suc (n * 2) ≤ 2 * 2 ^ size n
            go k = omega (arith, size-lt n)

        flat : (b : ℕ) → b < 1 → hi ≡ (n + 0) * 1 + b → n * 2 * 1 + 1 < hi * 2 → ⊥
        flat b k e l = omega arith

        go : (k : ℕ) → j ≡ k → (m : ℕ) × Rep p m × (lo ≤ m) × (m ≤ hi)
        go zero e =
            absurd (flat s.b (subst (λ (z : ℕ). s.b < 2 ^ z) e b_lt) (s.most ∙ ap (λ (z : ℕ). (n + i) * 2 ^ z + s.b) e ∙ ap (λ (z : ℕ). (n + z) * 1 + s.b) zero_i) (subst (λ (z : ℕ). n * 2 * 2 ^ z + 2 ^ z < hi * 2) e high))
        go (suc k) e =
            let c : C ≡ 2 * 2 ^ k = ap (λ (z : ℕ). 2 ^ z) e ∙ pow-succ' 2 k in
            (suc (n * 2) * 2 ^ k, full p k (suc (n * 2)) P n_half, below (2 ^ k) c low, above (2 ^ k) c high)
          where
            below : (H : ℕ) → C ≡ 2 * H → lo * 2 < n * 2 * C + C → lo ≤ suc (n * 2) * H
            below H c l = let d = ap (λ (z : ℕ). n * z) c in omega arith

            above : (H : ℕ) → C ≡ 2 * H → n * 2 * C + C < hi * 2 → suc (n * 2) * H ≤ hi
            above H c l = let d = ap (λ (z : ℕ). n * z) c in omega arith

    -- n has just p digits: the half is the middle of two p-digit numbers
    low_step : lo ≡ n * C + s.a → step (lean near n C s.a false) n ≡ n
    unfolding step off tie
    low_step e = elim (zero_or s.a) [
      | inl z ↦ ap (λ (v : ℕ). step (lean near n C v false) n) z ∙ ap (λ (o : Ordering). step o n) (lean_exact near n C)
      | inr h ↦ ap (λ (o : Ordering). step o n) (lean_rest near n C s.a h false ∙ ap (tie false n) (compare_at Ordering.lt (s.a * 2) C (omega arith)))
    ]

    high_step : hi ≡ n * C + s.b → step (lean near n C s.b false) n ≡ suc n
    unfolding step off tie
    high_step e = ap (λ (o : Ordering). step o n) (lean_rest near n C s.b (omega arith) false ∙ ap (tie false n) (compare_at Ordering.gt (s.b * 2) C (omega arith)))

    half_middle : size n ≡ p → chosen near p lo ≡ chosen near p hi → ⊥
    half_middle z e = clash (n * C) (suc n * C) (suc-mul n C) (pow_pos j) (sym low_is ∙ e ∙ high_is)
      where
        most : hi ≡ n * C + s.b
        most = s.most ∙ ap (λ (v : ℕ). v * C + s.b) (ap (λ (v : ℕ). n + v) zero_i ∙ omega arith)

        flat : (v a : ℕ) → v ≡ n * C + a → a < C → unit p v ≡ C
        flat v a e h = ap (unit p) e ∙ unit_part p n j a (some (le_trans P (le_of_eq (sym z)))) h (le_of_eq (sym z)) ∙ ap (λ (k : ℕ). 2 ^ (k - p) * C) z ∙ ap (λ (k : ℕ). 2 ^ k * C) (none p) ∙ one C
          where
            none : (p : ℕ) → p - p ≡ 0
            none p = omega arith

            one : (c : ℕ) → 2 ^ 0 * c ≡ c
            one c = omega arith

        low_is : chosen near p lo ≡ n * C
        low_is = chosen_at near p lo n C s.a s.least a_lt (flat lo s.a s.least a_lt) ∙ ap (λ (v : ℕ). v * C) (low_step s.least)

        high_is : chosen near p hi ≡ suc n * C
        high_is = chosen_at near p hi n C s.b most b_lt (flat hi s.b most b_lt) ∙ ap (λ (v : ℕ). v * C) (high_step most)

        clash : (a b : ℕ) → b ≡ a + C → 0 < C → a ≡ b → ⊥
        clash a b e h k = omega arith

    half_between : (Enough w p n → ⊥) → Alike w p lo hi → ⊥
    half_between lack f = elim (le_or_lt p (size n)) [
      | inr h ↦ let m = half_rep h in never m.1 m.2 m.3 f
      | inl h ↦ go w lack (le_antisymm (not_enough lack) h) f.number
    ]
      where
        go : (v : Way) → (Enough v p n → ⊥) → size n ≡ p → chosen v p lo ≡ chosen v p hi → ⊥
        go near l z e = half_middle z e
        go under l z e = l (le_of_eq (sym z))
        go over l z e = l (le_of_eq (sym z))

  too_few : (Enough w p n → ⊥) → Alike w p lo hi → ⊥
  too_few lack f = go s.wide
    where
      none : (m : Bool) → m ≡ false → Part m C s.a → s.a ≡ 0
      none false e h = h
      none true e h = absurd (let z : ◌≡◌ {A = ℕ} 0 1 = cc in omega arith)

      next : i ≡ 1 → ⊥
      next e = let k = next_between e in never (full p j (suc n) P (n_few (not_enough lack))) k.0 k.1 f

      whole : lo ≡ n * C + s.a → s.a ≡ 0 → lo ≡ n * C
      whole e z = omega arith

      go : Wide C n ml i lo hi → ⊥
      go (inl e) =
          let x = whole s.least (none ml e s.part_least) in
          never (full p j n P (le_of_lt (n_few (not_enough lack)))) (le_of_eq x) (le_trans (le_of_eq (sym x)) (le_of_lt s.apart)) f
      go (inr (inl e)) = next e
      go (inr (inr h)) = elim (zero_or i) [ inl z ↦ half_between z h.0 h.1 lack f | inr k ↦ next (le_antisymm s.carry k) ]

  pub settled_only : Alike w p lo hi → settled w p n ml i mg ≡ true
  unfolding settled
  settled_only f = go (enough_or w p n)
    where
      all : {a b c : Bool} → a ≡ true → b ≡ true → c ≡ true → (a && (b && c)) ≡ true
      all x y z = rw (x, y, z)

      go : (Enough w p n × (enough w p n ≡ true)) ⊎ (Enough w p n → ⊥) → settled w p n ml i mg ≡ true
      go (inr lack) = absurd (too_few lack f)
      go (inl e) = elim (le_or_lt u (r + i)) [
        | inl h ↦ absurd (carried e.0 h f)
        | inr h ↦ all e.1 (lt-ltb (r + i) u h) (ap (λ (o : Ordering). alike (lean w q u r ml) o) (sym (alike_only e.0 h f)) ∙ alike_refl (lean w q u r ml))
      ]
