-- Where the operands of a pair stand: no regular one lies above E.
use mathlib.Core.Path.{◌≡◌, refl}
use mathlib.Core.Bool.{Bool, true, false, cond}
use Prim.Native.Nat.{ℕ, ◌-◌, ◌*◌, ◌≤◌, max}
use native.Mathlib.Nat.{le_refl, le_trans, le_of_eq}
use native.Mathlib.Omega.{arith}
use Rattle.depth.proofs.Exchange.{first_some, top_exchange}
use Rattle.numbers.specs.Operand.{Operand}
use Rattle.depth.specs.Columns.{top_exponent}

pub top_first : (x y : Operand) → x.is_zero ≡ false → x.exponent ≤ top_exponent x y
unfolding top_exponent
top_first x y r = go y.is_zero refl
  where
    left : (a b : ℕ) → a ≤ max a b
    left a b = omega arith

    go : (b : Bool) → y.is_zero ≡ b → x.exponent ≤ cond x.is_zero y.exponent (cond y.is_zero x.exponent (max x.exponent y.exponent))
    go true q = rw (r, q) (le_refl x.exponent)
    go false q = rw (r, q) (left x.exponent y.exponent)

pub top_second : (x y : Operand) → y.is_zero ≡ false → y.exponent ≤ top_exponent x y
top_second x y q = le_trans (top_first y x q) (le_of_eq (top_exchange y x (first_some y x q)))

pub top_ordered : (x y : Operand) → x.is_zero ≡ false → y.is_zero ≡ false → y.exponent ≤ x.exponent → top_exponent x y ≡ x.exponent
unfolding top_exponent
top_ordered x y r q h = rw (r, q) (go x.exponent y.exponent h)
  where
    go : (a b : ℕ) → b ≤ a → max a b ≡ a
    go a b h = omega arith

-- where nothing of y is read, x is regular and stands at the top
pub other_top : (x y : Operand) (k : ℕ) → 1 ≤ k → y.is_zero ≡ false → 64 * k ≤ top_exponent x y - y.exponent → (x.is_zero ≡ false) × (top_exponent x y ≡ x.exponent)
unfolding top_exponent
other_top x y k K q u = go x.is_zero refl u
  where
    flat : (e : ℕ) → 64 * k ≤ e - e → ⊥
    flat e h = omega arith

    tall : (a b : ℕ) → 64 * k ≤ max a b - b → max a b ≡ a
    tall a b h = omega arith

    go : (b : Bool) → x.is_zero ≡ b → 64 * k ≤ cond x.is_zero y.exponent (cond y.is_zero x.exponent (max x.exponent y.exponent)) - y.exponent
        → (x.is_zero ≡ false) × (cond x.is_zero y.exponent (cond y.is_zero x.exponent (max x.exponent y.exponent)) ≡ x.exponent)
    go true e h = absurd (flat y.exponent (rw e at h))
    go false e h = (e, rw (e, q) (tall x.exponent y.exponent (rw (e, q) at h)))
