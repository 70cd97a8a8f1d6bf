-- `alone::see_alone` is right since the top limb of an operand is its first column, and where that fixes the answer, the limb is rounded to it. Assumes nothing.
use Prim.Native.Nat.{◌^◌, ◌<◌}
use borrow.Author.Rules.{rules}
use Rattle.narrow.proofs.Passed.{top_high}
use Rattle.narrow.proofs.Lone.{alone_passes, alone_told}
use Rattle.narrow.proofs.alone.see_alone.Goals as goal

pub overflow_sub-top : goal.overflow_sub-top
overflow_sub-top c = top_high _ c.requires.low

pub round_limb-r-requires : goal.round_limb-r-requires
round_limb-r-requires c =
    (alone_passes _ _ _ c.requires, c.requires.led)

pub returns : goal.returns
returns c =
    let a = c.args in
    let t = c.has_rest in
    let o = c.round_limb-r in
    let lt : a.u < 2 ^ 64 = search rules in
    alone_told a.p a.top a.u c.requires a.first t.result lt t.ensures (c.if-not-fixed.false) a.mode a.negative o.result.limb o.result.placed o.ensures.placed_value o.ensures.limb_value
