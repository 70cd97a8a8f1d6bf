-- `wide::digits_in` is right since the carry is the first digit where it is 1, and else the first digit stands in the top limb. Assumes nothing.
use mathlib.Core.Path.{◌∙◌}
use Prim.Native.Nat.{◌-◌}
use native.Mathlib.Omega.{arith}
use lib.Count.{leading_le}
use lib.ListN.{length, get_or}
use Rattle.wide.proofs.FullTarget.{full_carry, full_limb}
use Rattle.wide.proofs.exactly.digits_in.Goals as goal

pub returns-then-carry : goal.returns-then-carry
returns-then-carry c = λ w e f. full_carry w _ (λ i. (c.type_inv.target i).fits) f (e ∙ c.if-carry.true)

pub overflow_cast-result : goal.overflow_cast-result
overflow_cast-result c = omega (arith, leading_le 64 (get_or c.args.target.now (length c.args.target.now - 1) 0))

pub overflow_sub-result : goal.overflow_sub-result
overflow_sub-result c = omega (arith, leading_le 64 (get_or c.args.target.now (length c.args.target.now - 1) 0))

pub returns : goal.returns
returns c = λ w e f. full_limb w _ (λ i. (c.type_inv.target i).fits) f (e ∙ c.if-carry.false)
