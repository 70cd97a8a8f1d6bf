-- `settle::last_is_one`: the lowest limb has the last digit just above the spare bits.
use mathlib.Core.Path.{ap, ◌∙◌}
use Prim.Native.Nat.{ℕ, ◌-◌, ◌*◌, ◌/◌, ◌%◌, ◌^◌}
use native.Mathlib.Omega.{arith}
use lib.Dec.{eqb}
use lib.ListN.{length}
use Rattle.checks.specs.Number.{fetched}
use Rattle.hole.proofs.Holes.{limbs_few, digits_fit, spare_few, last_digit}
use Rattle.hole.proofs.last_is_one.Goals as goal

pub overflow_mul-spare : goal.overflow_mul-spare
overflow_mul-spare c = omega (arith, limbs_few _ _ c.requires)

pub overflow_sub-spare : goal.overflow_sub-spare
overflow_sub-spare c = digits_fit _ _ c.requires

pub overflow_shr-result : goal.overflow_shr-result
overflow_shr-result c = spare_few _ _ c.requires

pub returns : goal.returns
unfolding fetched
returns c = ap (λ (n : ℕ). eqb (n / 2 ^ (64 * length c.args.limbs.now - c.args.p) % 2) 1) c.fetch.ensures ∙ last_digit _ _ c.requires
