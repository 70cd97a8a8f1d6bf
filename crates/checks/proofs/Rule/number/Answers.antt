-- `checks::Rule::number`: the numbers that the variants are declared with are those of the table. Assumes nothing.
use denote.Enum.Declared.{tag_of}
use Rattle.std.proofs.Common.{◌≡◌, refl, ◌+◌}
use Rattle.checks.specs.contracts.Rule.{the_type}
use Rattle.checks.specs.declared.Rule.TheVariants.{Mode, Precision, Limbs, Exponent, Form, TooLarge, TooSmall, LineSize, LineByte, LineKind, Operation, DoubleTooLarge, DoubleTooSmall, NoNumber}
use Rattle.checks.specs.Refusal.{rule_number}
use Rattle.checks.proofs.Rule.number.Goals as goal

pub returns : goal.returns
unfolding rule_number
returns c = elim c.args.self as (λ x. tag_of the_type x + 1 ≡ rule_number x) [ Mode ↦ refl | Precision ↦ refl | Limbs ↦ refl | Exponent ↦ refl | Form ↦ refl | TooLarge ↦ refl | TooSmall ↦ refl | LineSize ↦ refl | LineByte ↦ refl | LineKind ↦ refl | Operation ↦ refl | DoubleTooLarge ↦ refl | DoubleTooSmall ↦ refl | NoNumber ↦ refl ]
