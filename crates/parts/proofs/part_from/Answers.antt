-- `run::part_from` is right since the part from a start on holds what is left without the limbs below it, and past the end nothing is
-- left. Assumes nothing.
use mathlib.Core.Path.{sym, ◌∙◌}
use mathlib.Core.List.{List}
use Prim.Native.Nat.{ℕ}
use lib.ListN.{length, drop_of_length-le}
use lib.Seq.{drop-length}
use Rattle.parts.proofs.Parts.{part_is}
use Rattle.parts.proofs.part_from.Goals as goal

pub returns-then-start-end : goal.returns-then-start-end
returns-then-start-end c = part_is c.args.s.now c.args.start

pub returns-else-start-end : goal.returns-else-start-end
returns-else-start-end c =
    let s : List ℕ = c.args.s.now in
    part_is s (length s) ∙ drop-length s ∙ sym (drop_of_length-le s c.if-start-end.false)
