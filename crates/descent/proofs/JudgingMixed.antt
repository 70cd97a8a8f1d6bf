-- A tail that is neither all zeros nor all ones fixes the answer: the rest below the digits kept is then no end and no half. So where nothing is fixed, no tail is mixed. Assumes nothing.
use mathlib.Core.Path.{◌≡◌, refl, sym, ap, ◌∙◌, subst}
use mathlib.Core.Logic.{◌⊎◌, inl, inr}
use mathlib.Core.Bool.{Bool, true, false, true≢false}
use mathlib.Core.List.{List}
use Prim.Native.Nat.{ℕ, zero, suc, ◌+◌, ◌-◌, ◌*◌, ◌/◌, ◌%◌, ◌^◌, ◌≤◌, ◌<◌, max, Ordering}
use native.Mathlib.Nat.{mod-lt, mod-eq_of_lt, mul-add-mod_self_right, mul-le-mul_right, suc-mul, pow-succ'}
use native.Mathlib.Omega.{arith}
use borrow.Author.Tests.{lt-ltb, le-leb, ne_eqb}
use lib.Dec.{ltb, leb, eqb}
use lib.ListN.{length}
use lib.Pow.{pow-add, pow_pos, mod-pow-add}
use lib.Ieee.{size}
use Rattle.std.specs.Prelude.{is_some}
use Rattle.decide.proofs.Settled.{enough_longer}
use Rattle.limb.proofs.Carry.{bit_le}
use Rattle.limb.specs.Carry.{bit}
use Rattle.numbers.specs.Limits.{least_precision, limbs_for}
use Rattle.numbers.specs.Operand.{Operand}
use Rattle.rounding.specs.Mode.{Way, way, near, under, over}
use Rattle.rounding.specs.declared.Mode.{Mode}
use Rattle.rounding.proofs.Order.{le_or_lt, compare_at}
use Rattle.depth.specs.Bound.{columns_for, far_columns, bound_of, bound}
use Rattle.decide.specs.Class.{tie, off, lean, alike, enough, settled}
use Rattle.decide.specs.Decide.{decide_at}
use Rattle.decide.proofs.Lean.{lean_rest}
use Rattle.walk.specs.Window.{shown_of, TailIs, Shows}
use Rattle.walk.specs.Tail.{Unmixed}
use Rattle.remnant.specs.Rest.{RestOf}
use Rattle.remnant.specs.declared.rest.Rest.{Rest}
use Rattle.walk.specs.declared.state.Window.{Window}
use Rattle.walk.specs.declared.state.Tail.{Tail}
use Rattle.walk.specs.declared.state.Tail.TheVariants.{Empty, Mixed}
use Rattle.walk.proofs.Showing.{columns_guarded}
use Rattle.settle.specs.Rows.{row_of}
use Rattle.settle.specs.declared.rows.Row.{Row}
use Rattle.settle.specs.declared.rows.Row.TheVariants.{Exact, Plus, Minus, Hole}
use Rattle.lean.proofs.Plus.{settled_is}
use Rattle.lean.proofs.Minus.{minus_under, minus_over, minus_near}
use Rattle.bridge.specs.Verdict.{pair_of, read_sum, settled_by, test_by, verdict}
use Rattle.bridge.proofs.Decision.{decision}
use Rattle.bridge.proofs.Theorems.{hole_place}
use Rattle.checks.specs.Room.{Room}
use Rattle.descent.specs.Course.{Reached}
use Rattle.descent.proofs.GoingOn.{deep_fixed}
use Rattle.descent.proofs.JudgingRange.{guarded_long}

-- ---- the rest, over plain numbers: q units of v and n more, u is an even number of units

module _ (q n v h : ℕ) (some : 0 < n) (room : suc n < v) where
  low : q < h * 2 → q * v + n + 1 < h * 2 * v
  low l = omega (arith, mul-le-mul_right v l, suc-mul q v)

  off_half : ((q * v + n + 1) * 2 < h * 2 * v) ⊎ (h * 2 * v < (q * v + n) * 2)
  off_half = elim (le_or_lt h q) [
    | inl g ↦ inr (omega (arith, mul-le-mul_right v g, twice))
    | inr g ↦ inl (omega (arith, mul-le-mul_right v g, suc-mul q v, twice))
  ]
    where
      twice : h * 2 * v ≡ h * v * 2
      twice = omega arith

-- ---- a number whose last t digits are neither all 0 nor all 1

module _ (p D t n S : ℕ) (value : D ≡ S * 2 ^ t + n) (some : 0 < n) (room : suc n < 2 ^ t) (long : p + t < size D) where
  abbrev u : ℕ
  u = 2 ^ (size D - p)

  -- the digits of the rest above the last t, less one
  j : ℕ
  j = size D - p - t - 1

  abbrev q : ℕ
  q = D / 2 ^ t % 2 ^ suc j

  unit_is : u ≡ 2 ^ j * 2 * 2 ^ t
  unfolding j
  unit_is = ap (λ (m : ℕ). 2 ^ m) (go (size D) long) ∙ pow-add 2 (suc j) t ∙ ap (λ (m : ℕ). m * 2 ^ t) (pow-succ' 2 j ∙ omega arith)
    where
      go : (s : ℕ) → p + t < s → s - p ≡ suc (s - p - t - 1) + t
      go s h = omega arith

  last_is : D % 2 ^ t ≡ n
  last_is = ap (λ (m : ℕ). m % 2 ^ t) value ∙ mul-add-mod_self_right S (2 ^ t) n ∙ mod-eq_of_lt (omega arith)

  rest_is : D % u ≡ q * 2 ^ t + n
  unfolding j
  rest_is = ap (λ (m : ℕ). D % 2 ^ m) (go (size D) long) ∙ mod-pow-add D (suc j) t ∙ ap (λ (m : ℕ). q * 2 ^ t + m) last_is
    where
      go : (s : ℕ) → p + t < s → s - p ≡ suc (s - p - t - 1) + t
      go s h = omega arith

  few : q < 2 ^ j * 2
  few = omega (arith, mod-lt (D / 2 ^ t) (pow_pos (suc j)), pow-succ' 2 j)

  positive : 0 < D % u
  positive = omega (arith, rest_is)

  below : D % u + 1 < u
  below = rw (rest_is, unit_is) (low q n (2 ^ t) (2 ^ j) some room few)

  beside : ((D % u + 1) * 2 < u) ⊎ (u < D % u * 2)
  beside = rw (rest_is, unit_is) (off_half q n (2 ^ t) (2 ^ j) some room)

  longer : p < size D
  longer = omega arith

  enough_is : (w : Way) → enough w p D ≡ true
  enough_is w = enough_longer w p D longer

  offs : (w : Way) (least most : Bool) (i : ℕ) → i ≤ 1 → alike (off w (D / u) u (D % u) least) (off w (D / u) u (D % u + i) most) ≡ true
  unfolding off tie
  offs under least most i I = refl
  offs over least most i I = refl
  offs near least most i I = elim beside [
    | inl h ↦ rw (compare_at Ordering.lt (D % u * 2) u (omega arith), compare_at Ordering.lt ((D % u + i) * 2) u (omega arith))
    | inr h ↦ rw (compare_at Ordering.gt (D % u * 2) u (omega arith), compare_at Ordering.gt ((D % u + i) * 2) u (omega arith))
  ]

  mixed_plus : (w : Way) (least next most : Bool) → settled w p D least (bit next) most ≡ true
  mixed_plus w least next most =
      let b = bit_le next in
      settled_is w p D least (bit next) most (enough_is w) (lt-ltb (D % u + bit next) u (omega (arith, below, b)))
      ∙ ap (λ (z : Ordering). alike z (lean w (D / u) u (D % u + bit next) most)) (lean_rest w (D / u) u (D % u) positive least)
      ∙ ap (alike (off w (D / u) u (D % u) least)) (lean_rest w (D / u) u (D % u + bit next) (omega (arith, positive)) most)
      ∙ offs w least most (bit next) b

  flags : Rest
  flags = record {
    enough = leb p (size D);
    empty = eqb (size D) p;
    zero = eqb (D % u) 0;
    ones = eqb (suc (D % u)) u;
    almost = eqb (suc (D % u) * 2) u;
    half = eqb (D % u * 2) u;
    above = ltb u (D % u * 2);
    odd = eqb (D / u % 2) 1;
  }

  flags_are : RestOf p D flags
  unfolding flags
  flags_are = record {
    enough = refl;
    empty = λ l. refl;
    zero = λ l. refl;
    ones = λ l. refl;
    almost = λ l. refl;
    half = λ l. refl;
    above = λ l. refl;
    odd = λ l. refl;
  }

  not_zero : flags.zero ≡ false
  unfolding flags
  not_zero = ne_eqb (D % u) 0 (λ e. omega (arith, positive))

  not_half : flags.half ≡ false
  unfolding flags
  not_half = ne_eqb (D % u * 2) u (λ e. elim beside [ inl h ↦ omega arith | inr h ↦ omega arith ])

  mixed_minus : (w : Way) (most : Bool) → 0 < p → settled w p (D - 1) true 1 most ≡ true
  mixed_minus near most P =
      sym (minus_near near p D flags flags_are P most (enough_is near) not_zero refl) ∙ rw not_half refl
  mixed_minus under most P = sym (minus_under under p D flags flags_are P most (enough_is under) not_zero refl)
  mixed_minus over most P = sym (minus_over over p D flags flags_are P most (enough_is over) not_zero refl)

-- ---- the window

module _ (o : Mode) (p : ℕ) (x y : Operand) (w : Window) (target : List ℕ) (k : ℕ) (room : Room p (length target)) (r : Reached x y w target k) (mixed : w.tail ≡ Mixed) where
  abbrev s : Shows w target k (read_sum x y k)
  s = r.shows

  P : 0 < p
  unfolding least_precision
  P = omega (arith, room.least)

  guarded : is_some w.guard ≡ true
  guarded = go (is_some w.guard) refl
    where
      clash : w.tail ≡ Empty → ⊥
      clash e = let z : ◌≡◌ {A = ℕ} 0 1 = cc in omega arith

      go : (b : Bool) → is_some w.guard ≡ b → b ≡ true
      go true e = refl
      go false e = absurd (clash (s.fits.untailed e))

  tail : TailIs Mixed s.below s.rest
  tail = subst (λ (t : Tail). TailIs t s.below s.rest) mixed s.tail

  covers : p ≤ 64 * w.filled
  unfolding limbs_for
  covers = omega (arith, room.count, s.fits.full guarded)

  digits : p + 64 * s.below < size (read_sum x y k)
  digits = guarded_long p w target k (read_sum x y k) s room guarded

  deep : p + 2 ≤ 64 * k
  deep = omega (arith, covers, s.columns, columns_guarded w target guarded, tail.0)

  by_row : (row : Row) → row_of (pair_of x y) k ≡ row → decide_at o p x y k ≡ true
  unfolding verdict test_by settled_by
  by_row Exact is = decision o p P x y k r.ordered r.some r.leads ∙ ap (verdict o p x y k) is
  by_row (Plus least next most) is =
      decision o p P x y k r.ordered r.some r.leads ∙ ap (verdict o p x y k) is
      ∙ rw (mixed_plus p (read_sum x y k) (64 * s.below) s.rest (shown_of w target) s.value tail.1 tail.2 digits (way o x.negative) least next most) refl
  by_row (Minus most) is =
      decision o p P x y k r.ordered r.some r.leads ∙ ap (verdict o p x y k) is
      ∙ rw (mixed_minus p (read_sum x y k) (64 * s.below) s.rest (shown_of w target) s.value tail.1 tail.2 digits (way o x.negative) most P) refl
  by_row Hole is = deep_fixed o p P room.most x y k r.ordered r.some bounded
    where
      place : (y.is_zero ≡ false) × (64 * k ≤ x.exponent - y.exponent) × (x.precision - 64 * k ≡ 0)
      place = hole_place o p P x y k r.ordered r.some is

      far : far_columns p x.precision ≤ k
      far = unfold far_columns columns_for in go x.precision place.2 deep
        where
          go : (m : ℕ) → m - 64 * k ≡ 0 → p + 2 ≤ 64 * k → (max m (p + 2) + 63) / 64 ≤ k
          go m e h = omega arith

      bounded : bound p x y ≤ k
      bounded =
          unfold bound bound_of in
          rw (r.ordered.regular, place.0, le-leb y.exponent x.exponent (r.ordered.order place.0), le-leb (64 * far_columns p x.precision) (x.exponent - y.exponent) (omega (arith, far, place.1)))
          far

  pub mixed_fixed : decide_at o p x y k ≡ true
  mixed_fixed = by_row (row_of (pair_of x y) k) refl

pub open_unmixed : (o : Mode) (p : ℕ) (x y : Operand) (w : Window) (target : List ℕ) (k : ℕ) → Room p (length target) → Reached x y w target k → decide_at o p x y k ≡ false → Unmixed w.tail
open_unmixed o p x y w target k room r e m = true≢false (sym (mixed_fixed o p x y w target k room r m) ∙ e)
