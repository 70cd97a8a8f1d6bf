-- The order of two regular numbers, told as it is found, is the one that is promised. Assumes nothing.
use mathlib.Core.Path.{◌≡◌, sym, ap, ◌∙◌}
use mathlib.Core.Bool.{Bool, true, false, ◌||◌, beq}
use mathlib.Core.List.{List, []}
use Prim.Native.Nat.{ℕ, ◌^◌}
use Rattle.limb.specs.Value.{Below}
use Rattle.checks.specs.declared.Number.{Number}
use Rattle.checks.specs.Number.{is_zero_kind, operand_of}
use Rattle.checks.specs.Check.{accepted}
use Rattle.checks.specs.Passes.{Passes}
use Rattle.std.specs.Prelude.{Ok}
use Rattle.std.specs.declared.cmp.Ordering.{Ordering as Order}
use Rattle.checks.proofs.Passing.{compared_passes}
use Rattle.order.specs.Order.{case_of, compared_of}
use Rattle.order.specs.Steps.{regular_order, reversed_if, apart_order, signed_order}
use Rattle.order.proofs.Cases.{signs_apart, signs_alike, none_zero, compared_found}
use Rattle.plain.specs.declared.PlainNumber.{PlainNumber}
use Rattle.plain.specs.declared.PlainOrder.{PlainOrder}
use Rattle.plain.specs.Plain.{kind_from, number_from}
use Rattle.plain.specs.Answers.{order_told}
use Rattle.plain.proofs.Agree.{zero_back}

-- ---- regular numbers

-- what is known of a number is known of the plain fields that say it
pub regular_said : (x : PlainNumber) (xl : List ℕ) (a : Number) → a ≡ number_from x → Passes (operand_of a xl) × (is_zero_kind a.kind ≡ false) → Passes (operand_of (number_from x) xl) × (x.zero ≡ false)
unfolding number_from
regular_said x xl a same h =
    let k : Passes (operand_of (number_from x) xl) × (is_zero_kind (number_from x).kind ≡ false) = rw same at h in
    (k.0, sym (zero_back x.zero) ∙ k.1)

-- the exponent is that of the plain fields
pub exponent_said : (x : PlainNumber) (a : Number) → a ≡ number_from x → a.exponent ≡ x.exponent
unfolding number_from
exponent_said x a same = rw same

-- ---- the order

both_false : (a b : Bool) → a ≡ false → b ≡ false → a || b ≡ false
both_false a b p q = rw (p, q)

module _ (x y : PlainNumber) (xl yl : List ℕ) (known : Passes (operand_of (number_from x) xl) × (x.zero ≡ false) × Passes (operand_of (number_from y) yl) × (y.zero ≡ false)) (wx : Below (2 ^ 64) xl) (wy : Below (2 ^ 64) yl) where
  -- an order that is found, without a refusal
  found_told : (o : Order) (r : PlainOrder) → o ≡ case_of (signed_order (operand_of (number_from x) xl) (operand_of (number_from y) yl)) → r ≡ order_told (Ok o) → r ≡ order_told (compared_of (number_from x) xl (number_from y) yl)
  unfolding accepted
  found_told o r found told = told ∙ ap order_told (compared_found (number_from x) (number_from y) xl yl o tt (compared_passes (operand_of (number_from x) xl) (operand_of (number_from y) yl) known.0 known.2) wx wy found)

  module _ (a b : Number) (p : a ≡ number_from x) (q : b ≡ number_from y) (o : Order) (r : PlainOrder) where
    -- two numbers of different signs
    pub apart_told : beq x.negative y.negative ≡ false → o ≡ case_of (apart_order (operand_of a []) (operand_of b [])) → r ≡ order_told (Ok o) → r ≡ order_told (compared_of (number_from x) xl (number_from y) yl)
    unfolding number_from
    apart_told signs apart told = found_told o r (signs_apart (number_from x) (number_from y) xl yl signs (rw (p, q) at apart)) told

    -- two regular numbers of one sign
    pub alike_told : beq x.negative y.negative ≡ true → o ≡ case_of (reversed_if a.negative (regular_order (operand_of a xl) (operand_of b yl))) → r ≡ order_told (Ok o) → r ≡ order_told (compared_of (number_from x) xl (number_from y) yl)
    unfolding number_from
    alike_told signs alike told =
        let none = both_false (is_zero_kind (kind_from x.zero)) (is_zero_kind (kind_from y.zero)) (zero_back x.zero ∙ known.1) (zero_back y.zero ∙ known.3) in
        found_told o r (signs_alike (number_from x) (number_from y) xl yl signs (none_zero (number_from x) (number_from y) xl yl none (rw (p, q) at alike))) told
