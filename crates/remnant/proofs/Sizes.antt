-- Laws of how many digits a number has that a window shows: the first limb filled tells it. Assumes nothing.
use mathlib.Core.Path.{◌≡◌, refl, sym, ap, ◌∙◌}
use mathlib.Core.Bool.{Bool, true, false}
use mathlib.Core.List.{List}
use Prim.Native.Nat.{ℕ, suc, ◌+◌, ◌-◌, ◌*◌, ◌^◌, ◌≤◌, ◌<◌}
use native.Mathlib.Nat.{pos_of_ne-zero}
use native.Mathlib.Omega.{arith}
use lib.Count.{count_leading_zeros, leading_top}
use lib.Ieee.{size}
use lib.ListN.{length, take, drop, get_or, length-drop}
use lib.Pow.{pow-add, pow_pos}
use lib.Seq.{drop-drop, drop-length}
use Rattle.std.specs.Option.{is_some}
use Rattle.limb.specs.Value.{value_of, Below}
use Rattle.limb.specs.Carry.{bit}
use Rattle.limb.proofs.Tests.{true_false}
use Rattle.limb.proofs.Sizes.{size_is, size_zero, part_least, part_most, size_part}
use Rattle.limb.proofs.Value.{value_nil, value_split, value_drop, value_lt, below_part, value_take_lt, base_pow}
use Rattle.walk.specs.declared.state.Window.{Window}
use Rattle.walk.specs.Window.{guard_of, head_of, shown_columns, Fits, Shows}
use Rattle.remnant.specs.Digits.{ShowsDigits}
use Rattle.walk.proofs.Tails.{column_weight}
use Rattle.walk.proofs.Showing.{whole_shows, tailed_shows, unfilled_shows}
use Rattle.walk.proofs.Walking.{tail_lt}

-- ---- what stands below the limbs filled

pub record BelowHead (w : Window) (target : List ℕ) (k D below : ℕ) : Type 0 where
  pub columns : ℕ
  pub rest : ℕ
  pub count : columns ≡ bit (is_some w.guard) + below
  pub all : w.skipped + w.filled + columns ≡ k
  pub value : D ≡ head_of w target * 2 ^ (64 * columns) + rest
  pub small : rest < 2 ^ (64 * columns)

guard_split : (H x B M q : ℕ) → (H * B + x) * M + q ≡ H * (B * M) + (x * M + q)
guard_split H x B M q = omega arith

pub below_head : (w : Window) (target : List ℕ) (k D : ℕ) (s : Shows w target k D) → BelowHead w target k D s.below
unfolding bit
below_head w target k D s = go (is_some w.guard) refl
  where
    go : (p : Bool) → is_some w.guard ≡ p → BelowHead w target k D s.below
    go false g =
        let o = whole_shows w target k D s g in
        record { columns = 0; rest = 0; count = rw (g, o.below) refl; all = omega (arith, o.columns); value = omega (arith, o.value); small = omega arith }
    go true g =
        let o = tailed_shows w target k D s g in
        let t : ℕ = s.below in
        let M : ℕ = 2 ^ (64 * t) in
        record {
          columns = suc t;
          rest = guard_of w * M + s.rest;
          count = rw g (omega arith);
          all = omega (arith, o.columns);
          value = rw (column_weight t) (o.value ∙ guard_split (head_of w target) (guard_of w) (2 ^ 64) M s.rest);
          small = rw (column_weight t) (part_most (guard_of w) (2 ^ 64) M s.rest s.fits.guard_fits (tail_lt w.tail t s.rest s.tail));
        }

-- ---- the limbs filled

module _ (w : Window) (target : List ℕ) (b : Below (2 ^ 64) target) where
  -- the top limb x, and f limbs below it
  head_top : (f : ℕ) → w.filled ≡ suc f → w.filled ≤ length target → w.carry ≡ false
      → (q : ℕ) × (head_of w target ≡ get_or target (length target - 1) 0 * 2 ^ (64 * f) + q) × (q < 2 ^ (64 * f))
  unfolding head_of bit
  head_top f e h c =
      let at : ℕ = length target - w.filled in
      let l : List ℕ = drop at target in
      let x : ℕ = get_or target (length target - 1) 0 in
      let place : at + f ≡ length target - 1 = omega arith in
      let next : suc (length target - 1) ≡ length target = omega arith in
      let top : value_of (drop f l) ≡ x =
      ap (λ (m : List ℕ). value_of m) (drop-drop f at target) ∙ ap (λ (n : ℕ). value_of (drop n target)) place ∙ value_drop (2 ^ 64) (length target - 1) target
      ∙ ap (λ (n : ℕ). x + 2 ^ 64 * value_of (drop n target)) next ∙ ap (λ (m : List ℕ). x + 2 ^ 64 * value_of m) (drop-length target) ∙ ap (λ (n : ℕ). x + 2 ^ 64 * n) (value_nil (2 ^ 64)) ∙ omega arith in
      let split : value_of l ≡ value_of (take f l) + 2 ^ (64 * f) * x = value_split (2 ^ 64) f l ∙ ap (λ (n : ℕ). value_of (take f l) + n * value_of (drop f l)) (base_pow f) ∙ ap (λ (n : ℕ). value_of (take f l) + 2 ^ (64 * f) * n) top in
      (value_of (take f l), rw c (omega (arith, split)), rw (base_pow f) at (value_take_lt (2 ^ 64) f l (below_part (2 ^ 64) at target b)))

  head_carry : w.filled ≤ length target → w.carry ≡ true → (q : ℕ) × (head_of w target ≡ 1 * 2 ^ (64 * w.filled) + q) × (q < 2 ^ (64 * w.filled))
  unfolding head_of bit
  head_carry h c =
      let at : ℕ = length target - w.filled in
      let n : length (drop at target) ≡ w.filled = length-drop at target ∙ omega arith in
      (value_of (drop at target), rw c refl, rw (n, base_pow w.filled) at (value_lt (2 ^ 64) (drop at target) (below_part (2 ^ 64) at target b)))

  module _ (k D : ℕ) (s : Shows w target k D) where
    -- a carry is the first digit
    pub digits_carry : w.carry ≡ true → 64 * w.filled + 64 * bit (is_some w.guard) + 1 + 64 * s.below ≡ size D
    digits_carry c =
        let o = below_head w target k D s in
        let h = head_carry s.fits.within c in
        let one : size 1 ≡ 1 = size_is 1 0 (omega arith) (omega arith) in
        let head : size (head_of w target) ≡ 1 + 64 * w.filled = ap size h.1 ∙ size_part 1 (64 * w.filled) h.0 (omega arith) h.2 ∙ omega (arith, one) in
        let some : 0 < head_of w target = omega (arith, h.1, pow_pos (64 * w.filled)) in
        let all : size D ≡ size (head_of w target) + 64 * o.columns = ap size o.value ∙ size_part (head_of w target) (64 * o.columns) o.rest some o.small in
        omega (arith, all, head, o.count)

    -- nothing is filled
    pub digits_none : w.carry ≡ false → w.filled ≡ 0 → 0 + 64 * s.below ≡ size D
    unfolding bit
    digits_none c z =
        let u = unfilled_shows w target k D s z in
        let o = whole_shows w target k D s u.0 in
        let none : D ≡ 0 = u.2 ∙ rw c refl in
        rw (o.below, none) (sym size_zero)

    shown_place : (o : BelowHead w target k D s.below) (p : ℕ) → w.filled ≡ suc p → 64 * (shown_columns w + s.below - 1) ≡ 64 * p + 64 * o.columns
    unfolding shown_columns
    shown_place o p e = omega (arith, o.count)

    -- the first limb is not empty
    pub first_limb : w.carry ≡ false → 0 < w.filled → 0 < get_or target (length target - 1) 0
    first_limb c f = pos_of_ne-zero (λ z.
        let o = below_head w target k D s in
        let p : ℕ = w.filled - 1 in
        let h = head_top p (omega arith) s.fits.within c in
        let low : head_of w target < 2 ^ (64 * p) = omega (arith, h.2, h.1 ∙ ap (λ (n : ℕ). n * 2 ^ (64 * p) + h.0) z) in
        let most : D < 2 ^ (64 * p) * 2 ^ (64 * o.columns) = omega (arith, o.value, part_most (head_of w target) (2 ^ (64 * p)) (2 ^ (64 * o.columns)) o.rest low o.small) in
        let e : 64 * (shown_columns w + s.below - 1) ≡ 64 * p + 64 * o.columns = shown_place o p (omega arith) in
        omega (arith, most, s.leads f, ap (λ (n : ℕ). 2 ^ n) e ∙ pow-add 2 (64 * p) (64 * o.columns)))

    pub digits_limb : w.carry ≡ false → 0 < w.filled → 64 * w.filled + 64 * bit (is_some w.guard) - count_leading_zeros 64 (get_or target (length target - 1) 0) + 64 * s.below ≡ size D
    digits_limb c f =
        let o = below_head w target k D s in
        let p : ℕ = w.filled - 1 in
        let x : ℕ = get_or target (length target - 1) 0 in
        let h = head_top p (omega arith) s.fits.within c in
        let some : 0 < x = first_limb c f in
        let t = leading_top 64 x some (b (length target - 1)) in
        let first : size x ≡ suc t.0 = size_is x t.0 t.2 t.3 in
        let head : size (head_of w target) ≡ size x + 64 * p = ap size h.1 ∙ size_part x (64 * p) h.0 some h.2 in
        let more : 0 < head_of w target = omega (arith, h.1, part_least x 1 (2 ^ (64 * p)) some, pow_pos (64 * p)) in
        let all : size D ≡ size (head_of w target) + 64 * o.columns = ap size o.value ∙ size_part (head_of w target) (64 * o.columns) o.rest more o.small in
        limb_count w.filled (bit (is_some w.guard)) (count_leading_zeros 64 x) s.below o.columns p t.0 (size D) (omega arith) o.count t.1 (omega (arith, all, head, first))
      where
        limb_count : (f g z t e p j d : ℕ) → f ≡ suc p → e ≡ g + t → z + suc j ≡ 64 → d ≡ suc j + 64 * p + 64 * e → 64 * f + 64 * g - z + 64 * t ≡ d
        limb_count f g z t e p j d ef ee ez ed = omega arith

-- ---- how many digits there are at least and at most, whatever is shown

module _ (w : Window) (target : List ℕ) (r : ℕ) where
  pub with_carry : w.carry ≡ true → r ≡ 64 * w.filled + 64 * bit (is_some w.guard) + 1 → ((k D : ℕ) (s : Shows w target k D) → r + 64 * s.below ≡ size D) → ShowsDigits w target r
  unfolding bit
  with_carry c e x = record { most = rw c (omega arith); least = rw c (omega arith); carried = λ y. e; exact = x }

  pub without_carry : w.carry ≡ false → r ≤ 64 * w.filled + 64 * bit (is_some w.guard) → 64 * bit (is_some w.guard) ≤ r → ((k D : ℕ) (s : Shows w target k D) → r + 64 * s.below ≡ size D)
      → ShowsDigits w target r
  unfolding bit
  without_carry c m l x = record { most = rw c (omega arith); least = rw c (omega arith); carried = λ y. absurd (true_false y c); exact = x }

  -- a guard stands below a full target
  pub unfilled_unguarded : Fits w target → w.filled ≡ 0 → bit (is_some w.guard) ≡ 0
  unfolding bit
  unfilled_unguarded f z = go (is_some w.guard) refl
    where
      go : (p : Bool) → is_some w.guard ≡ p → bit (is_some w.guard) ≡ 0
      go true g = absurd (omega (arith, f.full g, f.limbs))
      go false g = rw g refl
