-- `narrow::column::part` is right since a limb that begins a column lower has no digit there. Assumes nothing.
use mathlib.Core.Path.{sym}
use Prim.Native.Nat.{◌^◌, ◌<◌}
use Rattle.narrow.proofs.Settled.{part_none}
use borrow.Author.Rules.{rules}
use Rattle.narrow.proofs.column.part.Goals as goal

pub returns-else-gap-lt64 : goal.returns-else-gap-lt64
returns-else-gap-lt64 c =
    let h : c.args.limb < 2 ^ 64 = search rules in
    sym (part_none c.args.limb c.args.gap h c.if-gap-lt64.false)
