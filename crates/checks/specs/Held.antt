-- The operand of a number that is held with its limbs. Definitions only.
use Rattle.numbers.specs.Operand.{Operand}
use Rattle.checks.specs.Number.{operand_of}
use Rattle.checks.specs.declared.operand.Formed.{Formed}
use Rattle.checks.specs.declared.operand.Regular.{Regular}

abbrev pub formed : Formed → Operand
formed x = operand_of x.number x.limbs.now

abbrev pub regular : Regular → Operand
regular x = operand_of x.number x.limbs.now
