-- `narrow::column::is_inside` is right since the zeros before its first digit tell how many digits a limb has. Assumes nothing.
use mathlib.Core.Path.{sym}
use mathlib.Core.Bool.{true≢false}
use Prim.Native.Nat.{◌^◌, ◌<◌}
use native.Mathlib.Omega.{arith}
use lib.Count.{leading_le}
use Rattle.narrow.proofs.Settled.{digits_are, limb_inside}
use borrow.Author.Rules.{rules}
use Rattle.narrow.proofs.column.is_inside.Goals as goal

pub overflow_cast-digits : goal.overflow_cast-digits
overflow_cast-digits c = record { fits = omega (arith, leading_le 64 c.args.limb) }

pub overflow_sub-digits : goal.overflow_sub-digits
overflow_sub-digits c = leading_le 64 c.args.limb

pub returns-then-p-digits : goal.returns-then-p-digits
returns-then-p-digits c =
    let a = c.args in
    let lt : a.limb < 2 ^ 64 = search rules in
    λ e. limb_inside a.p _ a.limb (digits_are a.limb c.requires lt) c.if-p-digits.true (omega arith) (c.lies_inside.ensures e)

pub returns-else-p-digits : goal.returns-else-p-digits
returns-else-p-digits c = λ e. absurd (true≢false (sym e))
