-- The order of two numbers is an order: equal to itself, reversed with its operands, and so under a turn of both signs. Assumes nothing.
use mathlib.Core.Path.{◌≡◌, refl, sym, ap, ◌∙◌}
use mathlib.Core.Logic.{inl, inr}
use mathlib.Core.Bool.{Bool, true, false}
use Prim.Native.Nat.{ℕ, ◌+◌, compare, Ordering}
use native.Mathlib.Nat.{add_comm}
use mathlib.Core.List.{List}
use lib.IntN.{neg_ℤ}
use Rattle.numbers.specs.Operand.{Operand, turned}
use Rattle.checks.specs.declared.Number.{Number}
use Rattle.checks.specs.Number.{operand_of}
use Rattle.checks.specs.Check.{compared_refusal, answered}
use Rattle.rounding.specs.Sum.{scale, share}
use Rattle.rounding.proofs.Order.{compare_at}
use Rattle.rounding.proofs.Zeros.{share_zero, scale_commutes}
use Rattle.rounding.proofs.Mirror.{share_turned, scale_turned}
use Rattle.order.specs.Order.{order_of, case_of, number_of, sign_of, compared_of}
use Rattle.std.specs.Prelude.{Result, Ok, Err, MatchResult}
use Rattle.checks.specs.declared.Refusal.{Refusal}
use Rattle.order.specs.Steps.{reversed}
use Rattle.order.proofs.Sizes.{compare_reversed}

-- document 01's number of a reversed order is the number with the other sign
pub reversed_number : (o : Ordering) → number_of (case_of (reversed o)) ≡ neg_ℤ (number_of (case_of o))
unfolding reversed case_of number_of
reversed_number Ordering.lt = refl
reversed_number Ordering.eq = refl
reversed_number Ordering.gt = refl

-- the case that answers stands for the sign of x - y
pub case_number : (o : Ordering) → number_of (case_of o) ≡ sign_of o
unfolding case_of number_of sign_of
case_number Ordering.lt = refl
case_number Ordering.eq = refl
case_number Ordering.gt = refl

-- a refused comparison is its refusal, and an accepted one the sign of x - y
pub compared_number : (x y : Number) (xl yl : List ℕ) → let a = operand_of x xl in let b = operand_of y yl in
    MatchResult (compared_refusal a b) (λ u. compared_of x xl y yl ≡ Ok (case_of (order_of a b)) × number_of (case_of (order_of a b)) ≡ sign_of (order_of a b)) (λ r. compared_of x xl y yl ≡ Err r)
unfolding compared_of answered
compared_number x y xl yl = go (compared_refusal (operand_of x xl) (operand_of y yl)) (order_of (operand_of x xl) (operand_of y yl))
  where
    go : (c : Result (Unit {0}) Refusal) (o : Ordering) → MatchResult c (λ u. answered c (case_of o) ≡ Ok (case_of o) × number_of (case_of o) ≡ sign_of o) (λ r. answered c (case_of o) ≡ Err r)
    go (Ok u) o = (refl, case_number o)
    go (Err r) o = refl

pub equal_itself : (x : Operand) → order_of x x ≡ Ordering.eq
unfolding order_of
equal_itself x = compare_at Ordering.eq _ _ (add_comm (share false (scale x x) x) (share true (scale x x) x))

-- "the two zeros are equal"
pub zeros_equal : (x y : Operand) → x.is_zero ≡ true → y.is_zero ≡ true → order_of x y ≡ Ordering.eq
unfolding order_of
zeros_equal x y z w =
    let s = scale x y in
    compare_at Ordering.eq _ _ (simp (share_zero false s x z, share_zero true s x z, share_zero false s y w, share_zero true s y w))

same_unit : (x y : Operand) → scale y x ≡ scale x y → order_of y x ≡ reversed (order_of x y)
unfolding order_of
same_unit x y e =
    rw e
    (ap (λ (n : ℕ). compare n (share true (scale x y) y + share false (scale x y) x)) (add_comm (share false (scale x y) y) (share true (scale x y) x))
    ∙ ap (compare (share true (scale x y) x + share false (scale x y) y)) (add_comm (share true (scale x y) y) (share false (scale x y) x))
    ∙ compare_reversed (share false (scale x y) x + share true (scale x y) y) (share true (scale x y) x + share false (scale x y) y))

pub order_reversed : (x y : Operand) → order_of y x ≡ reversed (order_of x y)
unfolding reversed
order_reversed x y = go x.is_zero y.is_zero refl refl
  where
    go : (a b : Bool) → x.is_zero ≡ a → y.is_zero ≡ b → order_of y x ≡ reversed (order_of x y)
    go true true z w = zeros_equal y x w z ∙ sym (ap reversed (zeros_equal x y z w))
    go true false z w = same_unit x y (scale_commutes y x (inl w))
    go false b z w = same_unit x y (scale_commutes y x (inr z))

turned_reversed : (x y : Operand) → order_of (turned x) (turned y) ≡ reversed (order_of x y)
unfolding order_of
turned_reversed x y =
    let s = scale x y in
    simp (scale_turned, share_turned) (compare_reversed (share false s x + share true s y) (share true s x + share false s y))

-- turning both signs reverses the order
pub order_turned : (x y : Operand) → order_of (turned x) (turned y) ≡ order_of y x
order_turned x y = turned_reversed x y ∙ sym (order_reversed x y)
