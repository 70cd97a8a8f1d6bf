-- Two operands and a target whose precisions and lengths pass. Definitions only.
use Rattle.std.specs.Prelude.{ℕ}
use Rattle.checks.specs.Passes.{TargetPasses}

-- tests 2 and 3 hold for operands of a digits in m limbs and of b digits in k, and for a target of p digits in n
pub record SizesPass (a m b k p n : ℕ) : Type 0 where
  pub first : TargetPasses a m
  pub second : TargetPasses b k
  pub target : TargetPasses p n
