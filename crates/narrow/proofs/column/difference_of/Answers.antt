-- `narrow::column::difference_of` is right case by case: a difference that begins below a hole, one that is not seen to begin, and any other. Assumes nothing.
use mathlib.Core.Path.{◌≡◌, sym, ap, ◌∙◌}
use Prim.Native.Nat.{◌^◌, ◌<◌}
use Rattle.std.proofs.lemmas.Option.{IfSome_then}
use Rattle.narrow.specs.declared.column.Column.{Column}
use mathlib.Core.Bool.{false}
use Rattle.narrow.specs.Column.{Found}
use Rattle.narrow.proofs.Settled.{hole_found, difference_found}
use borrow.Author.Rules.{rules}
use Rattle.narrow.proofs.column.difference_of.Goals as goal

pub returns-then-is_hole : goal.returns-then-is_hole
returns-then-is_hole c =
    let t = c.args.tops in
    let lt : t.second < 2 ^ 64 = search rules in
    (hole_found t.precision t.pair t.first t.facing c.requires (sym c.is_hole.ensures ∙ c.if-is_hole.true) t.second lt c.lessened.result c.lessened.ensures, ap (λ (r : Column). r.carry) c.lessened.ensures)

pub difference_column-requires : goal.difference_column-requires
difference_column-requires c =
    (c.requires, sym c.is_hole.ensures ∙ c.if-is_hole.false, c.if-u-low.false)

pub returns : goal.returns
returns c =
    let t = c.args.tops in
    IfSome_then _ {Q = λ r. Found t.precision t.pair t.first t.second r × (r.carry ≡ false)} c.difference_column.ensures (λ r e. (difference_found t.precision t.pair t.first t.facing c.requires t.second _ c.part-low.ensures c.if-u-low.false r e.1, e.0))
