-- The exact sum of two operands in whole numbers, and the answer of demand 2: add, subtract, re-round. Definitions only.
use Rattle.std.specs.Prelude.{ℕ, ◌+◌, ◌-◌, ◌*◌, ◌^◌, min, Bool, true, false, cond}
use Rattle.std.specs.Bool.{beq}
use Rattle.numbers.specs.Operand.{Operand, mantissa, last_weight, turned, zero_like}
use Rattle.rounding.specs.declared.Mode.{Mode}
use Rattle.rounding.specs.Answer.{Answer, answer}

-- "The exact value is a whole number once scaled by the lowest weight present": 2 ^ scale (of two zeros, any weight serves)
unfoldable pub scale : Operand → Operand → ℕ
scale x y = cond x.is_zero (last_weight y) (cond y.is_zero (last_weight x) (min (last_weight x) (last_weight y)))

-- x without its sign, in units of 2 ^ s; a zero is worth 0
unfoldable pub amount : ℕ → Operand → ℕ
amount s x = cond x.is_zero 0 (mantissa x * 2 ^ (last_weight x - s))

-- what x adds to the numbers of the sign b
unfoldable pub share : Bool → ℕ → Operand → ℕ
share b s x = cond (beq x.negative b) (amount s x) 0

-- "Exact cancellation gives +0 in all four modes."
unfoldable pub cancelled : Mode → Bool
cancelled o = false

-- the one rule for a zero's sign: "Two zeros of one sign give that zero, of two signs +0"; what cancels has two signs
unfoldable pub zero_sign : Mode → Bool → Bool → Bool
zero_sign o a b = cond (beq a b) a (cancelled o)

-- the sum, in units of 2 ^ s
unfoldable pub sum_at : Mode → ℕ → ℕ → Operand → Operand → Answer
sum_at o p s x y =
    answer (zero_sign o x.negative y.negative) o p s
    (share false s x + share false s y) (share true s x + share true s y)

unfoldable pub add : Mode → ℕ → Operand → Operand → Answer
add o p x y = sum_at o p (scale x y) x y

-- "subtract (add with the second sign turned)"
unfoldable pub subtract : Mode → ℕ → Operand → Operand → Answer
subtract o p x y = add o p x (turned y)

-- "Zero and a regular number: the regular number re-rounded. Re-rounding keeps a zero's sign."
unfoldable pub reround : Mode → ℕ → Operand → Answer
reround o p x = add o p x (zero_like x)
