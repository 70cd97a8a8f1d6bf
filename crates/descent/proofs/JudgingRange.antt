-- How many digits D has, whether the first are all 1, and so whether both ends are refused alike. Assumes nothing.
use mathlib.Core.Path.{◌≡◌, refl, sym, ap, ◌∙◌, subst}
use mathlib.Core.Logic.{inl, inr}
use mathlib.Core.Bool.{Bool, true, false, not, cond, and-false}
use mathlib.Core.List.{List}
use Prim.Native.Nat.{ℕ, suc, ◌+◌, ◌-◌, ◌*◌, ◌/◌, ◌^◌, ◌≤◌, ◌<◌}
use native.Mathlib.Nat.{div-one, pow-zero}
use native.Mathlib.Omega.{arith}
use borrow.Author.Tests.{le-leb, lt-leb, ne_eqb}
use lib.Dec.{ltb, eqb}
use lib.ListN.{length}
use lib.Pow.{pow_mono}
use lib.Ieee.{size}
use lib.Ieee.Digits.{size-lt}
use Rattle.std.specs.Prelude.{is_some}
use Rattle.limb.proofs.Carry.{bit_le}
use Rattle.limb.specs.Carry.{bit}
use Rattle.numbers.specs.Limits.{least_precision, most_precision, least_exponent, most_exponent, limbs_for}
use Rattle.rounding.specs.Mode.{Way}
use Rattle.rounding.proofs.Order.{le_or_lt}
use Rattle.decide.specs.Range.{large?, small?}
use Rattle.walk.specs.Window.{shown_columns, Shows}
use Rattle.remnant.specs.Digits.{ShowsDigits}
use Rattle.remnant.specs.Ones.{OnesFirst}
use Rattle.walk.specs.declared.state.Window.{Window}
use Rattle.walk.proofs.Showing.{columns_open, columns_guarded, whole_shows}
use Rattle.bounds.specs.Ends.{is_far, is_next, open_digits, Ones}
use Rattle.settle.specs.declared.rows.Pair.{Pair}
use Rattle.bounds.proofs.Ranges.{not_large, not_small}
use Rattle.bridge.specs.Verdict.{refused_by}
use Rattle.descent.specs.declared.going.Verdict.{Verdict}
use Rattle.descent.specs.declared.going.Verdict.TheVariants.{Open, Fixed, InHole, Refused}
use Rattle.checks.specs.Room.{Room}
use Rattle.descent.specs.Course.{Measured, Moderate, refused_as, verdict_as}

-- ---- a target has few limbs

module _ (p n : ℕ) (room : Room p n) where
  pub limbs_few : n < 2 ^ 50
  unfolding limbs_for most_precision
  limbs_few = omega (arith, room.count, room.most)

  pub digits_fit : p ≤ 64 * n
  unfolding limbs_for
  digits_fit = omega (arith, room.count)

  pub digits_last : 64 * n < p + 64
  unfolding limbs_for
  digits_last = omega (arith, room.count)

  pub digits_some : 0 < p
  unfolding least_precision
  digits_some = omega (arith, room.least)

  pub digits_few : p ≤ 2 ^ 20
  unfolding most_precision
  digits_few = omega (arith, room.most)

-- ---- the digits of D, over plain numbers: s columns are passed over, f are filled, b are below

module _ (k s f r : ℕ) (few : k ≤ 2 ^ 20) where
  all_open : s + f ≤ k → r ≤ 64 * f + 64 * 0 + 1 → r + 64 * (k - s - f) ≤ 2 ^ 30
  all_open h m = omega arith

  all_guarded : s + (f + 1) ≤ k → r ≤ 64 * f + 64 * 1 + 1 → r + 64 * (k - s - f - 1) ≤ 2 ^ 30
  all_guarded h m = omega arith

  same_open : (b n : ℕ) → s + f + b ≡ k → r + 64 * b ≡ n → r + 64 * (k - s - f) ≡ n
  same_open b n e h = let d : k - s - f ≡ b = omega arith in rw d h

  same_guarded : (b n : ℕ) → s + (f + 1) + b ≡ k → r + 64 * b ≡ n → r + 64 * (k - s - f - 1) ≡ n
  same_guarded b n e h = let d : k - s - f - 1 ≡ b = omega arith in rw d h

module _ (pair : Pair) (w : Window) (target : List ℕ) (k : ℕ) (m : Measured pair w target k) where
  columns_are : (b : Bool) → is_some w.guard ≡ b → w.skipped + (w.filled + bit b) ≤ k
  unfolding shown_columns bit
  columns_are b e = subst (λ (g : Bool). w.skipped + (w.filled + bit g) ≤ k) e m.columns

  pub filled_room : w.filled ≤ k - w.skipped
  filled_room = omega (arith, columns_are (is_some w.guard) refl)

  pub guard_room : is_some w.guard ≡ true → 1 ≤ k - w.skipped - w.filled
  unfolding bit
  guard_room e = omega (arith, columns_are true e)

  module _ (r : ℕ) (d : ShowsDigits w target r) where
    most_are : (b : Bool) → is_some w.guard ≡ b → r ≤ 64 * w.filled + 64 * bit b + 1
    most_are b e = subst (λ (g : Bool). r ≤ 64 * w.filled + 64 * bit g + 1) e (omega (arith, d.most, bit_le w.carry))

    pub digits_guarded : is_some w.guard ≡ true → (r + 64 * (k - w.skipped - w.filled - 1) ≤ 2 ^ 30) × ((D : ℕ) → Shows w target k D → r + 64 * (k - w.skipped - w.filled - 1) ≡ size D)
    unfolding bit
    digits_guarded e = (
      all_guarded k w.skipped w.filled r m.modest.columns (columns_are true e) (most_are true e),
      λ D s. same_guarded k w.skipped w.filled r m.modest.columns s.below (size D) (rw (columns_guarded w target e) at s.columns) (d.exact k D s),
    )

    pub digits_open : is_some w.guard ≡ false → (r + 64 * (k - w.skipped - w.filled) ≤ 2 ^ 30) × ((D : ℕ) → Shows w target k D → r + 64 * (k - w.skipped - w.filled) ≡ size D)
    unfolding bit
    digits_open e =
        let c : w.skipped + (w.filled + 0) ≤ k = columns_are false e in (
          all_open k w.skipped w.filled r m.modest.columns (omega arith) (most_are false e),
          λ D s. same_open k w.skipped w.filled r m.modest.columns s.below (size D) (rw (columns_open w target e) at s.columns) (d.exact k D s),
        )

-- ---- the first digits

module _ (p : ℕ) (w : Window) (target : List ℕ) (k D : ℕ) (s : Shows w target k D) (room : Room p (length target)) where
  -- a tail begins below p digits
  pub guarded_long : is_some w.guard ≡ true → p + 64 * s.below < size D
  guarded_long g =
      let c : 64 * (w.filled + s.below) ≡ 64 * (shown_columns w + s.below - 1) = omega (arith, columns_guarded w target g) in
      let f = s.fits.full g in
      let l : 2 ^ (64 * (w.filled + s.below)) < D = rw c (s.leads (omega (arith, s.fits.limbs))) in
      go (64 * (w.filled + s.below)) (size D) l (size-lt D) (omega (arith, digits_fit p (length target) room))
    where
      go : (m n : ℕ) → 2 ^ m < D → D < 2 ^ n → p + 64 * s.below ≤ m → p + 64 * s.below < n
      go m n a b h = elim (le_or_lt n m) [ inl g ↦ absurd (omega (arith, pow_mono {i = n} {j = m} g)) | inr g ↦ omega arith ]

  above_tail : (c : ℕ) → c ≤ p → c ≤ size D → c + 64 * s.below ≤ size D
  above_tail c h l = go (is_some w.guard) refl
    where
      go : (b : Bool) → is_some w.guard ≡ b → c + 64 * s.below ≤ size D
      go true e = omega (arith, guarded_long e)
      go false e = omega (arith, (whole_shows w target k D s e).below)

  pub ones_long : (digits : ℕ) (r : Bool) → p ≤ digits → OnesFirst w target p r → digits ≡ size D → Ones p D r
  ones_long digits r h f d =
      record {
        long = λ l. f k D s (above_tail p (omega arith) l);
        short = λ l. absurd (omega arith);
      }

  pub ones_short : (digits : ℕ) (r : Bool) → digits < p → OnesFirst w target digits r → digits ≡ size D → Ones p D r
  ones_short digits r h f d =
      record {
        long = λ l. absurd (omega arith);
        short = λ l. f k D s (above_tail digits (omega arith) (omega arith)) ∙ ap (λ (c : ℕ). eqb (suc (D / 2 ^ (size D - c))) (2 ^ c)) d ∙ all;
      }
    where
      all : eqb (suc (D / 2 ^ (size D - size D))) (2 ^ size D) ≡ eqb (suc D) (2 ^ size D)
      all = let z : size D - size D ≡ 0 = omega arith in rw (z, pow-zero, div-one)

-- ---- both ends refused

module _ (t : Way) (p : ℕ) (pair : Pair) (w : Window) (target : List ℕ) (k : ℕ) (m : Measured pair w target k) (D : ℕ) (o : Moderate pair k D) where
  told : (b : Bool) → refused_by t p pair k D ≡ b → refused_as pair b ≡ refused_as pair (refused_by t p pair k D)
  told b e = ap (refused_as pair) (sym e)

  module _ (same : pair.same ≡ true) where
    large_told : (b : Bool) → b ≡ large? t p (pair.top - 64 * k) D (is_far pair k) (is_next pair k) → refused_by t p pair k D ≡ b
    unfolding refused_by is_next is_far
    large_told b e = rw same (sym e)

    pub sum_low : ltb most_exponent (pair.top + 2) ≡ false → Open ≡ refused_as pair (refused_by t p pair k D)
    unfolding refused_as
    sum_low h = told false (large_told false (sym (not_large t p pair.top k D (is_far pair k) (is_next pair k) m.modest.above h (o.sum same))))

    pub sum_refused : (b : Bool) → b ≡ large? t p (pair.top - 64 * k) D (is_far pair k) (is_next pair k) → b ≡ true → Refused 6 ≡ refused_as pair (refused_by t p pair k D)
    unfolding refused_as
    sum_refused b e h = ap (λ (c : Bool). Refused (cond c 6 7)) (sym same) ∙ told true (large_told true (sym h ∙ e))

    pub sum_open : (b : Bool) → b ≡ large? t p (pair.top - 64 * k) D (is_far pair k) (is_next pair k) → b ≡ false → Open ≡ refused_as pair (refused_by t p pair k D)
    unfolding refused_as
    sum_open b e h = told false (large_told false (sym h ∙ e))

  module _ (unlike : pair.same ≡ false) where
    pub difference_far : 64 * k ≤ pair.gap → Open ≡ refused_as pair (refused_by t p pair k D)
    unfolding refused_as
    difference_far h = told false go
      where
        go : refused_by t p pair k D ≡ false
        go = unfold refused_by is_far in rw (unlike, ne_eqb pair.second 0 (λ e. omega (arith, m.other unlike)), le-leb (64 * k) pair.gap h) refl

    small_told : pair.gap < 64 * k → refused_by t p pair k D ≡ small? t p (pair.top - 64 * k) D (ltb 0 (open_digits pair k)) (open_digits pair k)
    unfolding refused_by is_far small?
    small_told h = rw (unlike, near) refl
      where
        near : is_far pair k ≡ false
        near = unfold is_far in rw (lt-leb (64 * k) pair.gap h) (and-false (not (eqb pair.second 0)))

    pub difference_high : pair.gap < 64 * k → ltb (pair.top + 1) (least_exponent + 64 * k) ≡ false → Open ≡ refused_as pair (refused_by t p pair k D)
    unfolding refused_as
    difference_high n h = told false (small_told n ∙ not_small t p pair.top k D (ltb 0 (open_digits pair k)) (open_digits pair k) m.modest.above h o.some)

    pub difference_refused : pair.gap < 64 * k → (b : Bool) → b ≡ small? t p (pair.top - 64 * k) D (ltb 0 (open_digits pair k)) (open_digits pair k) → b ≡ true → Refused 7 ≡ refused_as pair (refused_by t p pair k D)
    unfolding refused_as
    difference_refused n b e h = ap (λ (c : Bool). Refused (cond c 6 7)) (sym unlike) ∙ told true (small_told n ∙ sym e ∙ h)

    pub difference_open : pair.gap < 64 * k → (b : Bool) → b ≡ small? t p (pair.top - 64 * k) D (ltb 0 (open_digits pair k)) (open_digits pair k) → b ≡ false → Open ≡ refused_as pair (refused_by t p pair k D)
    unfolding refused_as
    difference_open n b e h = told false (small_told n ∙ sym e ∙ h)

-- ---- the two tests together

pub settled_as : (pair : Pair) (s more refused r : Bool) → r ≡ s → r ≡ true → Fixed more ≡ verdict_as pair s more refused
unfolding verdict_as
settled_as pair s more refused r e h = rw (sym e ∙ h)

pub unsettled_as : (pair : Pair) (s more refused r : Bool) (v : Verdict) → r ≡ s → r ≡ false → v ≡ refused_as pair refused → v ≡ verdict_as pair s more refused
unfolding verdict_as
unsettled_as pair s more refused r v e h f = rw (sym e ∙ h) f

pub hole_fixed : (b r : Bool) → r ≡ b → r ≡ true → InHole ≡ cond b InHole Open
hole_fixed b r e h = rw (sym e ∙ h)

pub hole_open : (b r : Bool) → r ≡ b → r ≡ false → Open ≡ cond b InHole Open
hole_open b r e h = rw (sym e ∙ h)
