-- `printing::put_all`: what has been printed so far, with the digits that are held. Assumes nothing.
use Rattle.std.proofs.Common.{◌≤◌, take}
use Rattle.std.specs.Prelude.{IsSome, flat_map}
use Rattle.std.specs.Io.KnownBytes.{Appends, append_known}
use Rattle.vectors.specs.Printed.{item_text}
use Rattle.vectors.proofs.printing.put_all.Given as goal

abbrev pub invariant-loop-item : goal.invariant-loop-item
invariant-loop-item g l =
    (l.held ≤ 128) × (((x : g.row.T.Denot) → IsSome (g.T.HasDigits.word x)) → Appends (g.W.Write.contents l.initial.out) (append_known (g.W.Write.contents l.out) (take l.held l.room)) (flat_map (λ x. item_text l.digits (g.T.HasDigits.word x)) (take l.item-index l.items)))
