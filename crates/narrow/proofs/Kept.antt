-- The difference of two operands whose digits are all among those kept is exact: the column has all of both, and nothing of it lies below
-- the digits kept. Assumes nothing.
use mathlib.Core.Path.{◌≡◌, refl, sym, ap, ◌∙◌}
use mathlib.Core.Bool.{Bool, true, false, true≢false}
use mathlib.Core.List.{List, [], ◌∷◌}
use Prim.Native.Nat.{ℕ, ◌+◌, ◌-◌, ◌/◌, ◌%◌, ◌^◌, ◌≤◌, ◌<◌}
use native.Mathlib.Nat.{zero-div, dvd-sub, dvd_of_mod-eq-zero, mod-eq-zero_of_dvd}
use native.Mathlib.Omega.{arith}
use borrow.Author.Tests.{le-leb, lt-leb, le-ltb}
use lib.Dec.{leb}
use lib.ListN.{length}
use lib.Pow.{field}
use Rattle.limb.specs.Value.{value_of}
use Rattle.kept.proofs.OneLimb.{one_value}
use Rattle.numbers.specs.Limits.{limbs_for}
use Rattle.numbers.specs.Operand.{Operand, WellFormed, spare_bits}
use Rattle.numbers.proofs.Limits.{two_digits}
use Rattle.rounding.specs.declared.Mode.{Mode}
use Rattle.place.specs.declared.Placed.{Placed}
use Rattle.place.specs.Placed.{run_rule}
use Rattle.place.specs.Rounded.{rounded_placed, rounded_limbs}
use Rattle.settle.specs.declared.rows.Pair.{Pair}
use Rattle.settle.proofs.Units.{whole_less}
use Rattle.bridge.specs.Verdict.{Ordered}
use Rattle.bridge.proofs.Told.{pair_first, pair_second}
use Rattle.narrow.specs.declared.column.Column.{Column}
use Rattle.narrow.specs.Sighting.{top_limb, Held, Facing, AllKept, Told}
use Rattle.narrow.specs.Column.{is_whole, is_hole, has_more, Found}
use Rattle.narrow.proofs.Settled.{difference_settles, difference_found}
use Rattle.narrow.proofs.Tops.{run_passes, told}

-- ---- the spare bits of one limb

one_limb : (l : List ℕ) → length l ≡ 1 → value_of l ≡ top_limb l
unfolding top_limb
one_limb [] e = absurd (omega arith)
one_limb (a ∷ []) e = one_value a
one_limb (a ∷ b ∷ l) e = absurd (omega arith)

-- a regular number of one limb is 0 below its digits
top_spare : (x : Operand) → WellFormed x → x.is_zero ≡ false → x.precision ≤ 64 → top_limb x.limbs % 2 ^ (64 - x.precision) ≡ 0
unfolding spare_bits
top_spare x g r h = let f = (g.regular r).spare in rw (one, one_limb x.limbs (g.count ∙ one)) at f
  where
    one : limbs_for x.precision ≡ 1
    one = unfold limbs_for in omega (arith, two_digits, g.least)

-- ---- nothing below

-- a limb whose last s digits are 0 has gap fewer of them where it begins gap lower
lowered_clean : (v s gap : ℕ) → gap ≤ s → v % 2 ^ s ≡ 0 → v / 2 ^ gap % 2 ^ (s - gap) ≡ 0
lowered_clean v s gap h e = sym (field v (s - gap) gap) ∙ ap (λ (n : ℕ). v % 2 ^ n / 2 ^ gap) back ∙ ap (λ (n : ℕ). n / 2 ^ gap) e ∙ zero-div (2 ^ gap)
  where
    back : s - gap + gap ≡ s
    back = omega arith

difference_clean : (a b S : ℕ) → a % S ≡ 0 → b % S ≡ 0 → (a - b) % S ≡ 0
difference_clean a b S e f = mod-eq-zero_of_dvd S (dvd-sub S (dvd_of_mod-eq-zero S e) (dvd_of_mod-eq-zero S f))

-- ---- two operands

module _ (p : ℕ) (pair : Pair) (u v : ℕ) (f : Facing p pair u) (k : AllKept p pair) where
  gap_few : pair.gap < 64
  gap_few = omega (arith, f.most, k.second)

  abbrev D : ℕ
  D = u - v / 2 ^ pair.gap

  -- neither has a digit below those kept, so the difference has none
  clean : (x y : Operand) → Held x y pair u v → D % 2 ^ (64 - p) ≡ 0
  clean x y h = difference_clean u (v / 2 ^ pair.gap) (2 ^ (64 - p)) first second
    where
      d : Ordered x y
      d = h.ordered

      first_is : pair.first ≡ x.precision
      first_is = ap (λ (s : Pair). s.first) h.pair_is ∙ pair_first x y

      second_is : pair.second ≡ y.precision
      second_is = ap (λ (s : Pair). s.second) h.pair_is ∙ pair_second x y h.regular

      first : u % 2 ^ (64 - p) ≡ 0
      first =
          let e : u % 2 ^ (64 - x.precision) ≡ 0 = ap (λ (n : ℕ). n % 2 ^ (64 - x.precision)) h.first_top ∙ top_spare x d.first d.regular (omega (arith, first_is, k.first, f.most)) in
          whole_less u (64 - x.precision) (64 - p) (omega (arith, first_is, k.first)) e

      second : v / 2 ^ pair.gap % 2 ^ (64 - p) ≡ 0
      second =
          let few : pair.gap + y.precision ≤ p = omega (arith, second_is, k.second) in
          let e : v % 2 ^ (64 - y.precision) ≡ 0 = ap (λ (n : ℕ). n % 2 ^ (64 - y.precision)) h.second_top ∙ top_spare y d.second h.regular (omega (arith, f.most)) in
          whole_less (v / 2 ^ pair.gap) (64 - y.precision - pair.gap) (64 - p) (omega arith) (lowered_clean v (64 - y.precision) pair.gap (omega (arith, f.most)) e)

  -- ---- the column

  first_read : leb pair.first 64 ≡ true
  first_read = le-leb pair.first 64 (omega (arith, f.most, k.first))

  second_read : leb (pair.gap + pair.second) 64 ≡ true
  second_read = le-leb (pair.gap + pair.second) 64 (omega (arith, f.most, k.second))

  near : leb 64 pair.gap ≡ false
  near = lt-leb 64 pair.gap gap_few

  pub whole : is_whole pair ≡ true
  whole = rw (first_read, second_read) refl

  no_hole : is_hole pair ≡ false
  no_hole = rw (first_read, near) refl

  no_more : has_more pair ≡ false
  no_more = rw (near, le-ltb 64 pair.first (omega (arith, f.most, k.first))) refl

  module _ (ahead : v / 2 ^ pair.gap < u) where
    abbrev column : Column
    column = record { carry = false; limb = D; guard = 0; more = false }

    found : Found p pair u v column
    found =
        difference_found p pair u f k.unlike v (v / 2 ^ pair.gap) refl ahead column
        (difference_settles p pair u f k.unlike no_hole D true false false (sym whole) (sym no_more) (omega arith) (λ e. absurd (true≢false (sym e))) refl)

    pub exact_passes : run_rule p false (D ∷ []) (pair.top - 128) ≡ 0
    exact_passes = run_passes p pair u v f column found

    -- the limb that every mode rounds it to tells the sum
    pub exact_told : (limb : ℕ) (placed : Placed)
        → (D % 2 ^ (64 - p) ≡ 0 → (mode : Mode) (negative : Bool) → (placed ≡ rounded_placed mode p negative (pair.top - 128) false (D ∷ []) 0 false) × (limb ∷ [] ≡ rounded_limbs mode p negative (pair.top - 128) false (D ∷ []) 0 false))
        → (mode : Mode) (negative : Bool) (x y : Operand) → Held x y pair u v → negative ≡ x.negative → Told mode p x y negative limb placed
    exact_told limb placed settled mode negative x y h sign = let e = settled (clean x y h) mode negative in told p pair u v f column found mode negative limb placed e.0 e.1 x y h sign
