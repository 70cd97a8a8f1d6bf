-- `reading::is_fixed` is right since it answers true where the first column has more than p digits and the tail is mixed or both operands end above, and nowhere else. Assumes nothing.
use mathlib.Core.Path.{refl}
use mathlib.Core.Logic.{inl}
use Prim.Native.Nat.{◌<◌}
use native.Mathlib.Omega.{arith}
use lib.Ieee.{size}
use Rattle.limb.proofs.Tests.{true_false}
use Rattle.front.specs.Front.{first_of}
use Rattle.deep.proofs.ReadingOn.{ends_read, goes_on_below}
use Rattle.deep.proofs.reading.is_fixed.Goals as goal

pub returns-then-digits_of-p : goal.returns-then-digits_of-p
returns-then-digits_of-p c = (λ e. absurd (true_false e refl), λ e ends. let few = c.digits_of.ensures in let short = c.if-digits_of-p.true in let long = ends.long in omega arith)

pub returns-then-is_mixed : goal.returns-then-is_mixed
returns-then-is_mixed c = (
  λ e. record { long = omega (arith, c.digits_of.ensures, c.if-digits_of-p.false); ends = inl (c.is_mixed.ensures.0 c.if-is_mixed.true) },
  λ e. absurd (true_false refl e),
)

pub returns : goal.returns
returns c =
    let long : c.args.p < size (first_of c.args.front) = omega (arith, c.digits_of.ensures, c.if-digits_of-p.false) in
    (ends_read c.args.p c.args.pair c.args.front c.args.k c.requires.1 long, goes_on_below c.args.p c.args.pair c.args.front c.args.k c.requires.1 long (c.is_mixed.ensures.1 c.if-is_mixed.false))
