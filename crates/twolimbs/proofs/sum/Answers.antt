-- `twolimbs::sum` is right since the second column stays. Assumes nothing.
use mathlib.Core.Path.{refl}
use Prim.Native.Nat.{◌^◌}
use Rattle.twolimbs.proofs.TwoLimbs.{sum_is}
use Rattle.twolimbs.proofs.sum.Goals as goal

pub returns : goal.returns
returns c = (sum_is (2 ^ 64) c.args.limb c.args.high c.args.low c.add_carry-s.result.limb c.add_carry-s.result.carry c.add_carry-s.ensures, refl)
