-- `narrow::column::sum_of` is right since the column is made of the first operand's limb and the second's part. Assumes nothing.
use mathlib.Core.Path.{◌≡◌}
use mathlib.Core.Bool.{false}
use Prim.Native.Nat.{◌^◌, ◌≤◌}
use Rattle.std.proofs.lemmas.Option.{IfSome_then}
use Rattle.narrow.specs.Column.{Found}
use Rattle.narrow.proofs.Settled.{sum_found}
use Rattle.narrow.proofs.column.sum_of.Goals as goal

pub returns : goal.returns
returns c =
    let t = c.args.tops in
    IfSome_then _ {Q = λ r. Found t.precision t.pair t.first t.second r × (r.guard ≡ 0) × (r.carry ≡ false → 2 ^ 63 ≤ r.limb)} c.sum_column.ensures (λ r e. (sum_found t.precision t.pair t.first t.facing c.requires t.second _ c.part.ensures r e.2, e.0, e.1))
