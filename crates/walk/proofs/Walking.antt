-- Laws of one column more of a sum or a difference: where there is room for it, and that its first limb never becomes empty. Assumes nothing.
use mathlib.Core.Path.{◌≡◌, refl, sym, ap, ◌∙◌, subst}
use mathlib.Core.Bool.{Bool, true, false, not, ◌&&◌}
use mathlib.Core.List.{List}
use Rattle.std.specs.Prelude.{Option, Some, None}
use Rattle.std.specs.Option.{is_some}
use Rattle.std.specs.Bool.{then_some}
use Prim.Native.Nat.{ℕ, zero, suc, ◌+◌, ◌-◌, ◌*◌, ◌^◌, ◌≤◌, ◌<◌}
use native.Mathlib.Nat.{mul-le-mul_right, lt_of_mul-lt-mul_left}
use native.Mathlib.Omega.{arith}
use lib.ListN.{length, drop, length-drop}
use lib.Pow.{pow-add, pow_pos}
use lib.Seq.{get_or-drop}
use Rattle.limb.specs.Value.{value_of, Below}
use Rattle.limb.specs.Carry.{bit}
use Rattle.limb.proofs.Carry.{bit_le}
use Rattle.limb.proofs.Value.{value_lt, base_pow}
use Rattle.walk.specs.declared.state.Window.{Window}
use Rattle.walk.specs.declared.state.Tail.{Tail}
use Rattle.walk.specs.declared.state.Tail.TheVariants.{Empty, Zeros, Ones, Mixed}
use Rattle.walk.specs.declared.change.Change.{Change}
use Rattle.walk.specs.declared.change.Change.TheVariants.{Rise, Fall}
use Rattle.walk.specs.Change.{Moved}
use Rattle.walk.specs.Window.{guard_of, head_of, shown_columns, TailIs, Shows}
use Rattle.walk.specs.Tail.{Unmixed}
use Rattle.walk.specs.Append.{Appended, Summed, Differed, Led}
use Rattle.walk.proofs.Tails.{column_weight}
use Rattle.walk.proofs.Showing.{window_of, whole_shows, tailed_shows, show_start, unfilled_shows, unfilled_unmixed}

-- ---- room

pub tail_lt : (tail : Tail) (t q : ℕ) → TailIs tail t q → q < 2 ^ (64 * t)
tail_lt Empty t q (e, f) = omega (arith, pow_pos (64 * t))
tail_lt Zeros t q (e, f) = omega (arith, pow_pos (64 * t))
tail_lt Ones t q (e, f) = omega arith
tail_lt Mixed t q (e, f, g) = omega arith

head_lt : (w : Window) (target : List ℕ) → Below (2 ^ 64) target → w.filled ≤ length target → head_of w target < 2 * 2 ^ (64 * w.filled)
unfolding head_of
head_lt w target b h =
    let n : length (drop (length target - w.filled) target) ≡ w.filled = length-drop (length target - w.filled) target ∙ omega arith in
    let l : value_of (drop (length target - w.filled) target) < 2 ^ (64 * w.filled) =
    rw (n, base_pow w.filled) at (value_lt (2 ^ 64) (drop (length target - w.filled) target) (λ i. rw (get_or-drop (length target - w.filled) target i 0) (b (length target - w.filled + i)))) in
    omega (arith, mul-le-mul_right (2 ^ (64 * w.filled)) (bit_le w.carry))

guard_lt : (B M N H x q : ℕ) → H < 2 * N → x < B → q < M → (H * B + x) * M + q < 2 * (N * B * M)
guard_lt B M N H x q h hx hq =
    let more : H * B + x + 1 ≤ 2 * N * B = omega (arith, mul-le-mul_right B h) in
    omega (arith, mul-le-mul_right M more)

-- what is shown has n columns, and a carry above them
pub shows_lt : (w : Window) (target : List ℕ) (k n D : ℕ) → Below (2 ^ 64) target → Shows w target k D → w.skipped + n ≡ k → D < 2 * 2 ^ (64 * n)
shows_lt w target k n D b s e = go (is_some w.guard) refl
  where
    go : (p : Bool) → is_some w.guard ≡ p → D < 2 * 2 ^ (64 * n)
    go false g =
        let o = whole_shows w target k D s g in
        let ef : n ≡ w.filled = omega (arith, o.columns) in
        rw (o.value, ef) (head_lt w target b s.fits.within)
    go true g =
        let o = tailed_shows w target k D s g in
        let t : ℕ = s.below in
        let ef : 64 * n ≡ 64 * w.filled + 64 + 64 * t = omega (arith, o.columns) in
        let weight : 2 ^ (64 * n) ≡ 2 ^ (64 * w.filled) * 2 ^ 64 * 2 ^ (64 * t) =
        ap (λ (m : ℕ). 2 ^ m) ef ∙ pow-add 2 (64 * w.filled + 64) (64 * t) ∙ ap (λ (m : ℕ). m * 2 ^ (64 * t)) (pow-add 2 (64 * w.filled) 64) in
        rw (weight, o.value) (guard_lt (2 ^ 64) (2 ^ (64 * t)) (2 ^ (64 * w.filled)) (head_of w target) (guard_of w) s.rest (head_lt w target b s.fits.within) s.fits.guard_fits (tail_lt w.tail t s.rest s.tail))

-- room for a column more is room for what stands above it
room_before : (B P m x : ℕ) → m * B + x < 2 * (B * P) → m < 2 * P
room_before B P m x h = lt_of_mul-lt-mul_left B (omega arith)

-- ---- the first limb

some_columns : (w : Window) → w.filled ≤ shown_columns w
unfolding shown_columns
some_columns w = omega arith

module _ (w : Window) (target : List ℕ) (k n D : ℕ) (s : Shows w target k D) (e : w.skipped + n ≡ k) where
  -- the limbs above the last column, where some are filled
  filled_leads : 0 < w.filled → (p : ℕ) × (n ≡ suc p) × (2 ^ (64 * p) < D)
  filled_leads f =
      let p : ℕ = shown_columns w + s.below - 1 in
      (p, omega (arith, some_columns w, s.columns), s.leads f)

  -- D is not less in m: the first limb stays
  pub leads_on : (m low : ℕ) → D ≤ m → (w.filled ≡ 0 → 1 < m * 2 ^ 64 + low) → 2 ^ (64 * n) < m * 2 ^ 64 + low
  leads_on m low h first = go w.filled refl
    where
      go : (f : ℕ) → w.filled ≡ f → 2 ^ (64 * n) < m * 2 ^ 64 + low
      go zero z =
          let en : n ≡ 0 = omega (arith, (unfilled_shows w target k D s z).1) in
          rw en (first z)
      go (suc f) z =
          let l = filled_leads (omega arith) in
          let more : 2 ^ (64 * l.0) < m = omega (arith, l.2) in
          rw (l.1, column_weight l.0) (omega arith)

  -- one less than D, where a limb is filled and the column is not empty
  pub leads_below : (m low : ℕ) → suc m ≡ D → 0 < low → 0 < w.filled → 2 ^ (64 * n) < m * 2 ^ 64 + low
  leads_below m low h some f =
      let l = filled_leads f in
      let more : 2 ^ (64 * l.0) ≤ m = omega (arith, l.2) in
      rw (l.1, column_weight l.0) (omega arith)

  pub filled_pos : 0 < w.filled → 0 < D
  filled_pos f = let l = filled_leads f in omega (arith, l.2)

-- ---- a sum

module _ (w r : Window) (a b : ℕ) (before after : List ℕ) (change : Option Change) (low : ℕ) (p : Appended w low change before r after) where
  sum_column : (k n D m : ℕ) → Shows w before k D → Unmixed w.tail → w.skipped + n ≡ k → Moved change D m → D ≤ m → m * 2 ^ 64 + low ≡ D * 2 ^ 64 + a + b
      → D * 2 ^ 64 + a + b < 2 * 2 ^ (64 * suc n) → (w.filled ≡ 0 → 1 < D * 2 ^ 64 + a + b) → Shows r after (suc k) (D * 2 ^ 64 + a + b)
  sum_column k n D m s unmixed en mv h ev room first =
      let fits : m * 2 ^ 64 + low < 2 * (2 ^ 64 * 2 ^ (64 * n)) = rw ev (rw (column_weight n) at room) in
      let start : w.filled ≡ 0 → 1 < m * 2 ^ 64 + low = λ z. rw ev (first z) in
      subst (λ (x : ℕ). Shows r after (suc k) x) ev
      (p.shows k n D m s unmixed en mv (room_before (2 ^ 64) (2 ^ (64 * n)) m low fits) (leads_on w before k n D s en m low h start))

pub sum_rises : (w r : Window) (a b : ℕ) (before after : List ℕ) (low : ℕ) → low + 2 ^ 64 * 1 ≡ a + b + 0 → Appended w low (Some Rise) before r after → Summed w a b before r after
sum_rises w r a b before after low e p = record {
  same_length = p.same_length;
  same_skip = p.same_skip;
  shows = λ k n D s unmixed en room first. sum_column w r a b before after (Some Rise) low p k n D (suc D) s unmixed en refl (omega arith) (omega arith) room first;
}

pub sum_stays : (w r : Window) (a b : ℕ) (before after : List ℕ) (low : ℕ) → low + 2 ^ 64 * 0 ≡ a + b + 0 → Appended w low None before r after → Summed w a b before r after
sum_stays w r a b before after low e p = record {
  same_length = p.same_length;
  same_skip = p.same_skip;
  shows = λ k n D s unmixed en room first. sum_column w r a b before after None low p k n D D s unmixed en refl (omega arith) (omega arith) room first;
}

pub sum_appended : (w r : Window) (a b : ℕ) (before after : List ℕ) (low : ℕ) (out : Bool) → low + 2 ^ 64 * bit out ≡ a + b + bit false
    → Appended w low (then_some out Rise) before r after → Summed w a b before r after
unfolding bit
sum_appended w r a b before after low true e p = sum_rises w r a b before after low e p
sum_appended w r a b before after low false e p = sum_stays w r a b before after low e p

-- ---- a difference

module _ (w r : Window) (a b : ℕ) (before after : List ℕ) (low : ℕ) (limbs : Below (2 ^ 64) before) (f : 0 < w.filled) where
  pub difference_stays : low + b + 0 ≡ a + 2 ^ 64 * 0 → Appended w low None before r after → Differed w a b before r after
  difference_stays e p = record {
    same_length = p.same_length;
    shows = λ k D s unmixed h.
        let n : ℕ = shown_columns w + s.below in
        let en : w.skipped + n ≡ k = omega (arith, s.columns) in
        let ev : D * 2 ^ 64 + low ≡ D * 2 ^ 64 + a - b = omega arith in
        subst (λ (y : ℕ). Shows r after (suc k) y) ev
        (p.shows k n D D s unmixed en refl (shows_lt w before k n D limbs s en) (leads_on w before k n D s en D low (omega arith) (λ z. absurd (omega arith))));
  }

  pub difference_falls : b < 2 ^ 64 → low + b + 0 ≡ a + 2 ^ 64 * 1 → Appended w low (Some Fall) before r after → Differed w a b before r after
  difference_falls hb e p = record {
    same_length = p.same_length;
    shows = λ k D s unmixed h.
        let n : ℕ = shown_columns w + s.below in
        let en : w.skipped + n ≡ k = omega (arith, s.columns) in
        let m : ℕ = D - 1 in
        let mv : suc m ≡ D = omega (arith, filled_pos w before k n D s en f) in
        let ev : m * 2 ^ 64 + low ≡ D * 2 ^ 64 + a - b = omega arith in
        subst (λ (y : ℕ). Shows r after (suc k) y) ev
        (p.shows k n D m s unmixed en mv (omega (arith, shows_lt w before k n D limbs s en)) (leads_below w before k n D s en m low mv (omega arith) f));
  }

  pub difference_appended : b < 2 ^ 64 → (out : Bool) → low + b + bit false ≡ a + 2 ^ 64 * bit out → Appended w low (then_some out Fall) before r after → Differed w a b before r after
  unfolding bit
  difference_appended hb true e p = difference_falls hb e p
  difference_appended hb false e p = difference_stays e p

-- ---- the first columns of a difference

first_column : (carry borrow : Bool) (low E : ℕ) → low < 2 ^ 64 → carry && not borrow ≡ false → E + 2 ^ 64 * bit borrow ≡ bit carry * 2 ^ 64 + low → E ≡ low
unfolding bit
first_column true true low E h e f = omega arith
first_column true false low E h e f = absurd (let z : ◌≡◌ {A = ℕ} 0 1 = cc in omega arith)
first_column false true low E h e f = absurd (omega arith)
first_column false false low E h e f = omega arith

module _ (w : Window) (low : ℕ) (borrow : Bool) (before : List ℕ) (small : low < 2 ^ 64) (z : w.filled ≡ 0) where
  kept_open : (r : Window) (E : ℕ) → (w.carry && not borrow ≡ false) → ((k : ℕ) → w.skipped ≡ k → 0 < length before → E ≡ low → Shows r before (suc k) E)
      → (k D : ℕ) → Shows w before k D → E + 2 ^ 64 * bit borrow ≡ D * 2 ^ 64 + low → Shows r before (suc k) E
  kept_open r E t made k D s e =
      let u = unfilled_shows w before k D s z in
      made k u.1 s.fits.limbs (first_column w.carry borrow low E small t (rw u.2 at e))

  -- a 1 stands above, and stays
  pub led_pending : (r : Window) (after : List ℕ) → w.carry ≡ true → borrow ≡ false → Appended w low None before r after → Led w low borrow before r after
  unfolding bit
  led_pending r after c nb p = record {
    same_length = p.same_length;
    shows = λ k D E s e.
        let u = unfilled_shows w before k D s z in
        let one : D ≡ 1 = rw c at u.2 in
        let ev : D * 2 ^ 64 + low ≡ E = sym (omega (arith, rw nb at e)) in
        subst (λ (y : ℕ). Shows r after (suc k) y) ev
        (p.shows k 0 D D s (unfilled_unmixed w before k D s z) (omega (arith, u.1)) refl (rw one (omega arith)) (rw one (omega arith)));
  }

  -- nothing stands here
  pub led_nothing : (r : Window) → w.carry && not borrow ≡ false → low ≡ 0 → ((target : List ℕ) → 0 < length target → Shows r target (w.skipped + 1) 0) → Led w low borrow before r before
  led_nothing r t none made = record {
    same_length = refl;
    shows = λ k D E s e. kept_open r E t (λ j f l g. let ej : w.skipped + 1 ≡ suc j = omega arith in let ee : 0 ≡ E = omega arith in rw (ej, ee) at (made before l)) k D s e;
  }

  -- a 1 stands here, and becomes the carry
  pub led_one : w.carry && not borrow ≡ false → low ≡ 1 → Led w low borrow before (window_of (w.skipped + 1) true 0 None Empty) before
  unfolding bit
  led_one t one = record {
    same_length = refl;
    shows = λ k D E s e. kept_open (window_of (w.skipped + 1) true 0 None Empty) E t
        (λ j f l g. let ej : w.skipped + 1 ≡ suc j = omega arith in let ee : 1 ≡ E = omega arith in subst (λ (y : ℕ). Shows (window_of (w.skipped + 1) true 0 None Empty) before (suc j) y) ee (subst (λ (y : ℕ). Shows (window_of (w.skipped + 1) true 0 None Empty) before y 1) ej (show_start before (w.skipped + 1) true l))) k D s e;
  }

  -- two or more stand here: the first limb
  pub led_first : (here r : Window) (after : List ℕ) → w.carry && not borrow ≡ false → 1 < low → here.filled ≡ 0
      → ((target : List ℕ) → 0 < length target → Shows here target w.skipped 0) → Appended here low None before r after → Led w low borrow before r after
  led_first here r after t more y made p = record {
    same_length = p.same_length;
    shows = λ k D E s e.
        let u = unfilled_shows w before k D s z in
        let m = made before s.fits.limbs in
        let v = unfilled_shows here before w.skipped 0 m y in
        let ev : 0 * 2 ^ 64 + low ≡ E = omega (arith, first_column w.carry borrow low E small t (rw u.2 at e)) in
        let ek : suc w.skipped ≡ suc k = omega (arith, u.1) in
        subst (λ (j : ℕ). Shows r after j E) ek (subst (λ (j : ℕ). Shows r after (suc w.skipped) j) ev
        (p.shows w.skipped 0 0 0 m (unfilled_unmixed here before w.skipped 0 m y) (omega (arith, v.1)) refl (omega arith) (omega arith)));
  }

-- what the first columns come to is the difference
pub difference_led : (w r : Window) (a b : ℕ) (before after : List ℕ) (low : ℕ) (borrow : Bool) → low + b + 0 ≡ a + 2 ^ 64 * bit borrow → Led w low borrow before r after
    → Differed w a b before r after
difference_led w r a b before after low borrow e p = record {
  same_length = p.same_length;
  shows = λ k D s unmixed h. p.shows k D (D * 2 ^ 64 + a - b) s (omega arith);
}

pub both_hold : (p q : Bool) → p && not q ≡ true → (p ≡ true) × (q ≡ false)
both_hold true true e = absurd (let z : ◌≡◌ {A = ℕ} 0 1 = cc in omega arith)
both_hold true false e = (refl, refl)
both_hold false q e = absurd (let z : ◌≡◌ {A = ℕ} 0 1 = cc in omega arith)
