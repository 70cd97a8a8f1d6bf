-- `admission::limbs_pass`: the top limb by a comparison, and the lowest by its test. Assumes nothing.
use Rattle.checks.proofs.Passing.{top_fails, low_decides}
use Rattle.admission.proofs.limbs_pass.Goals as goal

pub returns-then-l-lt-FIRST_DIGIT : goal.returns-then-l-lt-FIRST_DIGIT
returns-then-l-lt-FIRST_DIGIT c = top_fails _ _ c.if-l-lt-FIRST_DIGIT.true

pub returns : goal.returns
returns c = low_decides _ _ _ c.if-l-lt-FIRST_DIGIT.false c.low_holds.ensures
