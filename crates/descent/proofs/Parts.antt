-- What lies below the guard, and the mode by which a hole is rounded. Assumes nothing.
use mathlib.Core.Path.{◌≡◌, refl}
use mathlib.Core.Bool.{Bool, true, false, not}
use Prim.Native.Nat.{ℕ, zero, suc, ◌*◌, ◌^◌, ◌≤◌, ◌<◌}
use native.Mathlib.Nat.{pow-succ'}
use native.Mathlib.Omega.{arith}
use borrow.Author.Tests.{eq-eqb, ne_eqb, not-true, not-false}
use lib.Dec.{eqb}
use lib.Pow.{pow_pos}
use Rattle.rounding.specs.Mode.{way}
use Rattle.rounding.specs.declared.Mode.{Mode}
use Rattle.rounding.specs.declared.Mode.TheVariants.{Nearest, Zeroward, Upward, Downward}
use Rattle.settle.specs.declared.rows.Pair.{Pair}
use Rattle.walk.specs.declared.state.Tail.TheVariants.{Empty, Zeros, Ones, Mixed}
use Rattle.walk.specs.Window.{TailIs}
use Rattle.bridge.specs.Verdict.{hole_way, middle?}

-- ---- below the guard

pub empty_more : (t q : ℕ) → TailIs Empty t q → false ≡ not (eqb q 0)
empty_more t q h = rw h.1 refl

pub zeros_more : (t q : ℕ) → TailIs Zeros t q → false ≡ not (eqb q 0)
zeros_more t q h = rw h.1 refl

some_more : (q : ℕ) → 0 < q → true ≡ not (eqb q 0)
some_more q h = rw (ne_eqb q 0 (λ e. omega arith)) refl

pub ones_more : (t q : ℕ) → TailIs Ones t q → true ≡ not (eqb q 0)
ones_more t q h = some_more q (last q (2 ^ (64 * t)) h.1 (two (64 * t) (omega arith)))
  where
    last : (q n : ℕ) → suc q ≡ n → 2 ≤ n → 0 < q
    last q n e h = omega arith

    two : (j : ℕ) → 1 ≤ j → 2 ≤ 2 ^ j
    two zero h = elim h [ ]
    two (suc j) h = rw (pow-succ' 2 j) (omega (arith, pow_pos j))

pub mixed_more : (t q : ℕ) → TailIs Mixed t q → true ≡ not (eqb q 0)
mixed_more t q h = some_more q h.1

-- ---- the mode of a hole

module _ (mode : Mode) (negative : Bool) (p : ℕ) (pair : Pair) where
  -- only nearest has a tie, where as many digits are kept as lie before the second operand
  pub mode_kept : (mode ≡ Nearest → p ≡ pair.gap → ⊥) → way mode negative ≡ hole_way (way mode negative) p pair
  unfolding hole_way middle? way
  mode_kept h = go mode h negative
    where
      go : (m : Mode) → (m ≡ Nearest → p ≡ pair.gap → ⊥) → (n : Bool) → way m n ≡ hole_way (way m n) p pair
      go Nearest h n = rw (ne_eqb p pair.gap (h refl)) refl
      go Zeroward h n = refl
      go Upward h true = refl
      go Upward h false = refl
      go Downward h true = refl
      go Downward h false = refl

  module _ (e : mode ≡ Nearest) (f : p ≡ pair.gap) where
    pub mode_less : pair.same ≡ false → way Zeroward negative ≡ hole_way (way mode negative) p pair
    unfolding hole_way middle? way
    mode_less g = rw (e, eq-eqb p pair.gap f, g) refl

    pub mode_more_up : pair.same ≡ true → negative ≡ false → way Upward negative ≡ hole_way (way mode negative) p pair
    unfolding hole_way middle? way
    mode_more_up g n = rw (e, eq-eqb p pair.gap f, g, n) refl

    pub mode_more_down : pair.same ≡ true → negative ≡ true → way Downward negative ≡ hole_way (way mode negative) p pair
    unfolding hole_way middle? way
    mode_more_down g n = rw (e, eq-eqb p pair.gap f, g, n) refl
