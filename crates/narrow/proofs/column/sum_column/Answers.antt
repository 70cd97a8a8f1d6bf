-- `narrow::column::sum_column`: all is read, or the second operand begins below a column that has all of the first, or the rest lies inside a half. Assumes nothing.
use mathlib.Core.Path.{refl}
use Prim.Native.Nat.{◌^◌, ◌<◌}
use native.Mathlib.Omega.{arith}
use Rattle.limb.proofs.Carry.{byte_le}
use Rattle.numbers.proofs.Limits.{two_digits}
use Rattle.narrow.proofs.Settled.{sums_fit, sum_led, sum_settles}
use borrow.Author.Rules.{rules}
use Rattle.narrow.proofs.column.sum_column.Goals as goal

pub overflow_add-drop : goal.overflow_add-drop
overflow_add-drop c = record { fits = omega (arith, byte_le c.add_carry-s.result.carry) }

pub is_fixed-requires : goal.is_fixed-requires
is_fixed-requires c =
    let f = c.args.tops.facing in
    let h = byte_le c.add_carry-s.result.carry in
    (omega (arith, f.most), omega (arith, f.least, two_digits), sums_fit _ _ _ f)

pub returns : goal.returns
returns c =
    let t = c.args.tops in
    let s = c.add_carry-s in
    let lt : s.result.limb < 2 ^ 64 = search rules in
    (refl, sum_led t.precision t.pair t.first t.facing c.requires c.args.low s.result.limb s.result.carry s.ensures lt, sum_settles t.precision t.pair t.first t.facing c.requires c.args.low s.result.limb s.result.carry s.ensures lt (c.is_fixed.ensures c.if-not-is_fixed.false))
