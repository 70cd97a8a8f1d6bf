-- Within a hole, where all of x is read and nothing of y, the verdict is the same for every k, and is found by sizes alone.
use mathlib.Core.Path.{◌≡◌, sym, ap, ◌∙◌}
use mathlib.Core.Bool.{false}
use Prim.Native.Nat.{ℕ, ◌-◌, ◌*◌, ◌/◌, ◌^◌, ◌≤◌, ◌<◌}
use native.Mathlib.Nat.{div-one}
use native.Mathlib.Omega.{arith}
use Rattle.numbers.specs.Operand.{Operand, mantissa, last_weight, WellFormed}
use Rattle.rounding.specs.declared.Mode.{Mode}
use Rattle.depth.specs.Columns.{top_exponent}
use Rattle.depth.specs.Read.{unread}
use Rattle.depth.specs.Depth.{plus, Fixed}
use Rattle.decide.specs.Table.{some?, hole_by_size}
use Rattle.decide.specs.Decide.{read_digits, beyond, decide_at}
use Rattle.depth.proofs.Place.{other_top}
use Rattle.decide.proofs.Beyond.{digits_are}
use Rattle.decide.proofs.Decision.{reached, not_reaching, decides_fixed}

-- after k columns
pub record InHole (x y : Operand) (k : ℕ) : Type 0 where
  pub regular : y.is_zero ≡ false
  pub unseen : 64 * k ≤ top_exponent x y - y.exponent
  pub read : unread (top_exponent x y) k x ≡ 0

module _ (o : Mode) (p : ℕ) (x y : Operand) where
  pub hole_by_size_lem : (k : ℕ) → 1 ≤ k → InHole x y k → decide_at o p x y k ≡ hole_by_size o p x.negative y.negative (mantissa x) (last_weight x - y.exponent)
  unfolding decide_at beyond
  hole_by_size_lem k K h =
      let t = top_exponent x y in
      let v = other_top x y k K h.regular h.unseen in
      let a = reached t k x (flat x.exponent v.1) in
      let b = not_reaching t k y h.regular h.unseen in
      let c : read_digits t k x ≡ mantissa x = digits_are t k x v.0 ∙ ap (λ (n : ℕ). mantissa x / 2 ^ n) h.read ∙ div-one (mantissa x) in
      let d : some? (unread t k x) ≡ false = ap some? h.read in
      cc
    where
      flat : (e : ℕ) → top_exponent x y ≡ e → top_exponent x y - e < 64 * k
      flat e h = omega arith

  pub hole_same_lem : 0 < p → WellFormed x → WellFormed y → (j k : ℕ) → 1 ≤ j → 1 ≤ k → InHole x y j → InHole x y k → Fixed plus o p x y j → Fixed plus o p x y k
  hole_same_lem P g h j k J K a b f =
      (decides_fixed o p P x y g h k K).sound (hole_by_size_lem k K b ∙ sym (hole_by_size_lem j J a) ∙ (decides_fixed o p P x y g h j J).complete f)
