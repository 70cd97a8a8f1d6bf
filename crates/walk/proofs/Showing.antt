-- Laws of what a window shows: how `Shows` is taken apart and put together, with a guard and without, and one column more. Assumes nothing.
use mathlib.Core.Path.{◌≡◌, refl, sym, ap, ◌∙◌, subst}
use mathlib.Core.Bool.{Bool, true, false}
use mathlib.Core.List.{List}
use Rattle.std.specs.Prelude.{Option, Some, None}
use Rattle.std.specs.Option.{is_some, unwrap_or}
use Prim.Native.Nat.{ℕ, suc, ◌+◌, ◌-◌, ◌*◌, ◌^◌, ◌≤◌, ◌<◌}
use native.Mathlib.Nat.{mul-le-mul_right, lt_of_not-le}
use native.Mathlib.Numerals.{add-one}
use native.Mathlib.Omega.{arith}
use lib.ListN.{length, drop, set, length-set}
use lib.Pow.{pow-add}
use lib.Seq.{get_or-set_same, drop-set-lt, drop-length}
use Rattle.limb.specs.Value.{value_of}
use Rattle.limb.specs.Carry.{bit}
use Rattle.limb.proofs.Value.{value_nil, value_drop, base_pow}
use Rattle.walk.specs.declared.state.Window.{Window}
use Rattle.walk.specs.declared.state.Tail.{Tail}
use Rattle.walk.specs.declared.state.Tail.TheVariants.{Empty}
use Rattle.walk.specs.declared.change.Change.{Change}
use Rattle.walk.specs.Change.{Moved, part_of, ChangedAt, PassesLimb}
use Rattle.walk.specs.Window.{guard_of, head_of, shown_of, shown_columns, TailIs, Shows}
use Rattle.walk.specs.Tail.{Unmixed, PassesTail}
use Rattle.walk.specs.Append.{Appended}
use Rattle.walk.proofs.Tails.{column_weight}

abbrev pub window_of : ℕ → Bool → ℕ → Option ℕ → Tail → Window
window_of skipped carry filled guard tail = record { skipped = skipped; carry = carry; filled = filled; guard = guard; tail = tail }

-- ---- apart and together

no_guard : (guard : Option ℕ) → is_some guard ≡ false → unwrap_or guard 0 ≡ 0
no_guard None e = refl
no_guard (Some g) e = absurd (let z : ◌≡◌ {A = ℕ} 0 1 = cc in omega arith)

module _ (w : Window) (target : List ℕ) where
  pub shown_open : is_some w.guard ≡ false → shown_of w target ≡ head_of w target
  unfolding shown_of
  shown_open g = rw g

  pub shown_guarded : is_some w.guard ≡ true → shown_of w target ≡ head_of w target * 2 ^ 64 + guard_of w
  unfolding shown_of
  shown_guarded g = rw g

  pub columns_open : is_some w.guard ≡ false → shown_columns w ≡ w.filled
  unfolding shown_columns bit
  columns_open g = rw g (omega arith)

  pub columns_guarded : is_some w.guard ≡ true → shown_columns w ≡ w.filled + 1
  unfolding shown_columns bit
  columns_guarded g = rw g

  -- the limbs filled, with the carry above them
  pub head_part : w.filled ≤ length target → head_of w target ≡ part_of (length target - w.filled) w.carry target
  unfolding head_of part_of
  head_part h =
      let n : length target - (length target - w.filled) ≡ w.filled = omega arith in
      rw (n, base_pow w.filled) refl

  module _ (k D : ℕ) (s : Shows w target k D) where
    -- without a guard the window is all of D
    pub record Whole : Type 0 where
      pub tail : w.tail ≡ Empty
      pub guard : guard_of w ≡ 0
      pub below : s.below ≡ 0
      pub rest : s.rest ≡ 0
      pub columns : w.skipped + w.filled ≡ k
      pub value : D ≡ head_of w target

    pub whole_shows : is_some w.guard ≡ false → Whole
    whole_shows g =
        let u = s.fits.untailed g in
        let is : TailIs Empty s.below s.rest = rw u at s.tail in
        let c : w.skipped + w.filled + 0 ≡ k = rw (columns_open g, is.0) at s.columns in
        let v : D ≡ head_of w target * 2 ^ (64 * 0) + 0 = rw (shown_open g, is.0, is.1) at s.value in
        record { tail = u; guard = no_guard w.guard g; below = is.0; rest = is.1; columns = omega arith; value = omega arith }

    pub record Tailed : Type 0 where
      pub full : w.filled ≡ length target
      pub columns : w.skipped + (w.filled + 1) + s.below ≡ k
      pub value : D ≡ (head_of w target * 2 ^ 64 + guard_of w) * 2 ^ (64 * s.below) + s.rest

    pub tailed_shows : is_some w.guard ≡ true → Tailed
    tailed_shows g = record {
      full = s.fits.full g;
      columns = rw (columns_guarded g) at s.columns;
      value = rw (shown_guarded g) at s.value;
    }

  pub show_open : (k D : ℕ) → 0 < length target → w.filled ≤ length target → is_some w.guard ≡ false → w.tail ≡ Empty
      → w.skipped + w.filled ≡ k → D ≡ head_of w target → (0 < w.filled → 2 ^ (64 * (w.filled - 1)) < D) → Shows w target k D
  show_open k D l h g t c v leads = record {
    fits = record { limbs = l; within = h; guard_fits = omega (arith, no_guard w.guard g); full = λ e. absurd (no (sym g ∙ e)); untailed = λ e. t };
    below = 0;
    rest = 0;
    columns = rw (columns_open g) (omega arith);
    tail = rw t (refl, refl);
    value = rw (shown_open g) (omega arith);
    leads = λ f. rw (columns_open g) (let e : w.filled + 0 - 1 ≡ w.filled - 1 = omega arith in rw e (leads f));
  }
    where
      no : false ≡ true → ⊥
      no e = let z : ◌≡◌ {A = ℕ} 0 1 = cc in omega arith

  pub show_guarded : (k D t q : ℕ) → 0 < length target → guard_of w < 2 ^ 64 → w.filled ≡ length target → is_some w.guard ≡ true → TailIs w.tail t q
      → w.skipped + (w.filled + 1) + t ≡ k → D ≡ (head_of w target * 2 ^ 64 + guard_of w) * 2 ^ (64 * t) + q
      → 2 ^ (64 * (w.filled + t)) < D → Shows w target k D
  show_guarded k D t q l x full g is c v leads = record {
    fits = record { limbs = l; within = omega arith; guard_fits = x; full = λ e. full; untailed = λ e. absurd (no (sym g ∙ e)) };
    below = t;
    rest = q;
    columns = rw (columns_guarded g) (omega arith);
    tail = is;
    value = rw (shown_guarded g) v;
    leads = λ f. rw (columns_guarded g) (let e : w.filled + 1 + t - 1 ≡ w.filled + t = omega arith in rw e leads);
  }
    where
      no : true ≡ false → ⊥
      no e = let z : ◌≡◌ {A = ℕ} 0 1 = cc in omega arith

-- ---- one column more

-- N weighs the limbs above, and there is room for m
room_above : (B M N m low g q h y : ℕ) → low < B → m * B + low ≡ g * (B * M) + q → g ≡ h * B + y → m < 2 * (N * B * M) → h < 2 * N
room_above B M N m low g q h y s e f l =
    lt_of_not-le (λ far.
    let more : 2 * N * B ≤ g = omega (arith, mul-le-mul_right B far) in
    let most : m + 1 ≤ g * M = omega (arith, mul-le-mul_right M more) in
    omega (arith, mul-le-mul_right B most))

module _ (w : Window) (low : ℕ) (change : Option Change) (before : List ℕ) where
  -- a limb of the target is filled
  module _ (mid after : List ℕ) (carry : Bool) (g : is_some w.guard ≡ false) (f : w.filled < length before)
      (c : ChangedAt change (length before - w.filled) w.carry before mid carry) (e : after ≡ set mid (length before - w.filled - 1) low) where
    abbrev r : Window
    r = window_of w.skipped carry (w.filled + 1) None w.tail

    same_after : length after ≡ length before
    same_after = ap length e ∙ length-set mid (length before - w.filled - 1) low ∙ c.same_length

    -- the part from the limb filled before on, and the new limb below it
    new_part : value_of (drop (length after - (w.filled + 1)) after) ≡ low + 2 ^ 64 * value_of (drop (length before - w.filled) mid)
    new_part =
        let at : ℕ = length before - w.filled - 1 in
        let place : length after - (w.filled + 1) ≡ at = omega (arith, same_after) in
        let next : suc at ≡ length before - w.filled = omega arith in
        let within : at < length mid = omega (arith, c.same_length) in
        rw (place, e, value_drop (2 ^ 64) at (set mid at low), get_or-set_same mid at low 0 within, drop-set-lt (suc at) mid at low (omega arith), next) refl

    head_more : (m : ℕ) → part_of (length before - w.filled) carry mid ≡ m → m * 2 ^ 64 + low ≡ head_of r after
    unfolding head_of part_of
    head_more m p =
        let n : length mid - (length before - w.filled) ≡ w.filled = omega (arith, c.same_length) in
        let q : bit carry * 2 ^ (64 * w.filled) + value_of (drop (length before - w.filled) mid) ≡ m = rw (n, base_pow w.filled) at p in
        rw (new_part, add-one w.filled, column_weight w.filled) (omega (arith, ap (λ (x : ℕ). x * 2 ^ 64) q))

    pub filled_more : Appended w low change before r after
    filled_more = record {
      same_length = same_after;
      same_skip = refl;
      shows = λ k n D m s unmixed en mv room leads.
          let o = whole_shows w before k D s g in
          let ef : n ≡ w.filled = omega (arith, o.columns) in
          let weight : (2 ^ 64) ^ (length before - (length before - w.filled)) ≡ 2 ^ (64 * n) = let x : length before - (length before - w.filled) ≡ n = omega arith in rw (x, base_pow n) refl in
          let moved : Moved change (part_of (length before - w.filled) w.carry before) m = rw (o.value, head_part w before s.fits.within) at mv in
          let p : part_of (length before - w.filled) carry mid ≡ m = c.value m moved (rw weight room) in
          show_open r after (suc k) (m * 2 ^ 64 + low) (rw same_after s.fits.limbs) (rw same_after (omega arith)) refl o.tail (omega (arith, o.columns)) (head_more m p)
          (λ some. let x : w.filled + 1 - 1 ≡ n = omega arith in rw x leads);
    }

  -- the target is full, and the guard is set
  module _ (after : List ℕ) (carry : Bool) (g : is_some w.guard ≡ false) (small : low < 2 ^ 64) (f : w.filled ≡ length before) (c : ChangedAt change 0 w.carry before after carry) where
    pub guard_set : Appended w low change before (window_of w.skipped carry w.filled (Some low) w.tail) after
    guard_set = record {
      same_length = c.same_length;
      same_skip = refl;
      shows = λ k n D m s unmixed en mv room leads.
          let o = whole_shows w before k D s g in
          let r : Window = window_of w.skipped carry w.filled (Some low) w.tail in
          let ef : n ≡ w.filled = omega (arith, o.columns) in
          let none : length before - w.filled ≡ 0 = omega arith in
          let all : length before - 0 ≡ n = omega arith in
          let weight : (2 ^ 64) ^ (length before - 0) ≡ 2 ^ (64 * n) = rw (all, base_pow n) refl in
          let moved : Moved change (part_of 0 w.carry before) m = rw (o.value, head_part w before s.fits.within, none) at mv in
          let p : part_of 0 carry after ≡ m = c.value m moved (rw weight room) in
          let still : length after - w.filled ≡ 0 = omega (arith, c.same_length) in
          let head : head_of r after ≡ m = head_part r after (omega (arith, c.same_length)) ∙ rw still p in
          show_guarded r after (suc k) (m * 2 ^ 64 + low) 0 0 (rw c.same_length s.fits.limbs) small (f ∙ sym c.same_length) refl (rw o.tail (refl, refl)) (omega (arith, o.columns))
          (rw head (omega arith)) (let x : w.filled + 0 ≡ n = omega arith in rw x leads);
    }

  -- below a guard
  module _ (after : List ℕ) (carry : Bool) (up into : Option Change) (limb : ℕ) (tail : Tail) (g : is_some w.guard ≡ true) (small : low < 2 ^ 64) (digit : limb < 2 ^ 64)
      (pt : PassesTail change w.tail low up tail) (pl : PassesLimb up (guard_of w) into limb) (c : ChangedAt into 0 w.carry before after carry) where
    pub tail_longer : Appended w low change before (window_of w.skipped carry w.filled (Some limb) tail) after
    tail_longer = record {
      same_length = c.same_length;
      same_skip = refl;
      shows = λ k n D m s unmixed en mv room leads.
          let o = tailed_shows w before k D s g in
          let r : Window = window_of w.skipped carry w.filled (Some limb) tail in
          let H : ℕ = head_of w before in
          let t : ℕ = s.below in
          let a = pt t s.rest (H * 2 ^ 64 + guard_of w) m s.tail unmixed (rw o.value at mv) in
          let b = pl H a.0 a.2 in
          let none : length before - w.filled ≡ 0 = omega (arith, o.full) in
          let all : length before - 0 ≡ w.filled = omega (arith, o.full) in
          let en : n ≡ w.filled + suc t = omega (arith, o.columns) in
          let weight : 2 ^ (64 * n) ≡ 2 ^ (64 * w.filled) * 2 ^ 64 * 2 ^ (64 * t) =
          ap (λ (x : ℕ). 2 ^ x) (omega arith) ∙ pow-add 2 (64 * w.filled + 64) (64 * t) ∙ ap (λ (x : ℕ). x * 2 ^ (64 * t)) (pow-add 2 (64 * w.filled) 64) in
          let sum : m * 2 ^ 64 + low ≡ a.0 * (2 ^ 64 * 2 ^ (64 * t)) + a.1 = rw (column_weight t) at a.3 in
          let high : b.0 < 2 * 2 ^ (64 * w.filled) =
          room_above (2 ^ 64) (2 ^ (64 * t)) (2 ^ (64 * w.filled)) m low a.0 a.1 b.0 limb small sum b.2 (rw weight at room) in
          let head_was : H ≡ part_of 0 w.carry before = head_part w before s.fits.within ∙ rw none refl in
          let high_part : b.0 < 2 * (2 ^ 64) ^ (length before - 0) = rw (all, base_pow w.filled) high in
          let p : part_of 0 carry after ≡ b.0 = c.value b.0 (subst (λ (x : ℕ). Moved into x b.0) head_was b.1) high_part in
          let still : length after - w.filled ≡ 0 = omega (arith, c.same_length, o.full) in
          let head : head_of r after ≡ b.0 = head_part r after (omega (arith, c.same_length, o.full)) ∙ rw still p in
          show_guarded r after (suc k) (m * 2 ^ 64 + low) (suc t) a.1 (rw c.same_length s.fits.limbs) digit (o.full ∙ sym c.same_length) refl a.4 (omega (arith, o.columns))
          (a.3 ∙ ap (λ (x : ℕ). x * 2 ^ (64 * suc t) + a.1) (b.2 ∙ ap (λ (x : ℕ). x * 2 ^ 64 + limb) (sym head))) (let x : w.filled + suc t ≡ n = omega arith in rw x leads);
    }

-- ---- a window begun anew

no_limbs : (target : List ℕ) → value_of (drop (length target - 0) target) ≡ 0
no_limbs target = let z : length target - 0 ≡ length target = omega arith in rw (z, drop-length target) (value_nil (2 ^ 64))

-- nothing is shown, or a 1 that stands as the carry
pub show_start : (target : List ℕ) (k : ℕ) (carry : Bool) → 0 < length target → Shows (window_of k carry 0 None Empty) target k (bit carry)
unfolding head_of
show_start target k carry l =
    show_open (window_of k carry 0 None Empty) target k (bit carry) l (omega arith) refl refl (omega arith)
    (omega (arith, no_limbs target)) (λ f. absurd (omega arith))

-- and a window of which no limb is filled shows no more
pub unfilled_shows : (w : Window) (target : List ℕ) (k D : ℕ) (s : Shows w target k D) → w.filled ≡ 0
    → (is_some w.guard ≡ false) × (w.skipped ≡ k) × (D ≡ bit w.carry)
unfolding head_of
unfilled_shows w target k D s z = go (is_some w.guard) refl
  where
    go : (p : Bool) → is_some w.guard ≡ p → (is_some w.guard ≡ false) × (w.skipped ≡ k) × (D ≡ bit w.carry)
    go true g = absurd (omega (arith, s.fits.full g, s.fits.limbs))
    go false g =
        let o = whole_shows w target k D s g in
        let v : D ≡ bit w.carry * 2 ^ (64 * 0) + value_of (drop (length target - 0) target) = rw z at o.value in
        (g, omega (arith, o.columns), omega (arith, v, no_limbs target))

pub unfilled_unmixed : (w : Window) (target : List ℕ) (k D : ℕ) → Shows w target k D → w.filled ≡ 0 → Unmixed w.tail
unfilled_unmixed w target k D s z e = let t : w.tail ≡ Empty = s.fits.untailed (unfilled_shows w target k D s z).0 in let z : ◌≡◌ {A = ℕ} 0 1 = cc in omega arith
