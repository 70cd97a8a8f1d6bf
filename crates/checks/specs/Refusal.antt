-- The number of each rule and of each place. Definitions only.
-- Document 01, "Refusal numbers".
use Rattle.std.specs.Prelude.{ℕ}
use Rattle.checks.specs.declared.Rule.{Rule}
use Rattle.checks.specs.declared.Rule.TheVariants.{Mode, Precision, Limbs, Exponent, Form, TooLarge, TooSmall, LineSize, LineByte, LineKind, Operation, DoubleTooLarge, DoubleTooSmall, NoNumber}
use Rattle.checks.specs.declared.Place.{Place}
use Rattle.checks.specs.declared.Place.TheVariants.{Call, First, Second, Target}

unfoldable pub rule_number : Rule → ℕ
rule_number Mode = 1
rule_number Precision = 2
rule_number Limbs = 3
rule_number Exponent = 4
rule_number Form = 5
rule_number TooLarge = 6
rule_number TooSmall = 7
rule_number LineSize = 8
rule_number LineByte = 9
rule_number LineKind = 10
rule_number Operation = 11
rule_number DoubleTooLarge = 12
rule_number DoubleTooSmall = 13
rule_number NoNumber = 14

-- "first 1, second 2, target 3", and 0 where the fault is in the call itself
unfoldable pub place_number : Place → ℕ
place_number Call = 0
place_number First = 1
place_number Second = 2
place_number Target = 3
