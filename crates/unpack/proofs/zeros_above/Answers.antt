-- `unpack::zeros_above`: the zeros above the highest 1 make 64 with the digits up to it. Assumes nothing.
use mathlib.Core.Path.{◌∙◌, ap}
use Prim.Native.Nat.{ℕ, ◌+◌}
use native.Mathlib.Omega.{arith}
use lib.Count.{count_leading_zeros, leading_top}
use Rattle.limb.proofs.Sizes.{size_is}
use Rattle.unpack.proofs.zeros_above.Goals as goal

pub overflow_cast-result : goal.overflow_cast-result
overflow_cast-result c =
    let top = leading_top 64 c.args.digits c.requires c.ranges.digits.fits in
    omega (arith, top.1)

pub returns : goal.returns
returns c =
    let x = c.args.digits in
    let top = leading_top 64 x c.requires c.ranges.digits.fits in
    let z = size_is x top.0 top.2 top.3 in
    (ap (λ (n : ℕ). count_leading_zeros 64 x + n) z ∙ top.1, omega (arith, z))
