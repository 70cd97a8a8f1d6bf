-- What plain fields say: the kernel's own numbers and answers, with each case as a bool or a small number. Definitions only.
use Rattle.std.specs.Prelude.{Bool, true, false}
use Rattle.checks.specs.declared.Number.{Number}
use Rattle.checks.specs.declared.Kind.{Kind}
use Rattle.checks.specs.declared.Kind.TheVariants.{Regular, Zero}
use Rattle.plain.specs.declared.PlainNumber.{PlainNumber}

-- "a kind (regular or zero)"
unfoldable pub kind_from : Bool → Kind
kind_from true = Zero
kind_from false = Regular

unfoldable pub number_from : PlainNumber → Number
number_from x = record { negative = x.negative; kind = kind_from x.zero; precision = x.precision; exponent = x.exponent }
