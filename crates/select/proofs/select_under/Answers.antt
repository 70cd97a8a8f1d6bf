-- `select::select_under`: below two limbs only whether something stands there counts, so the run answers as the number does. Assumes nothing.
use mathlib.Core.Path.{◌≡◌, sym}
use mathlib.Core.List.{[], ◌∷◌}
use Prim.Native.Nat.{◌≤◌}
use native.Mathlib.Omega.{arith}
use mir.Facts.{to_z-of_z}
use borrow.Author.Rules.{rules}
use Rattle.numbers.specs.Limits.{counted}
use Rattle.checks.specs.Number.{operand_of}
use Rattle.select.proofs.Run.{wide_exponent, passes, top_large, selects}
use Rattle.select.proofs.select_under.Goals as goal

pub overflow_sub-unit : goal.overflow_sub-unit
unfolding operand_of
overflow_sub-unit c =
    let x = c.args.x in
    let w : 8192 ≤ counted x.number.exponent = wide_exponent _ x.formed x.regular in
    let counted_back : c.counted_exponent-unit.result ≡ counted x.number.exponent = search rules in
    rw counted_back (omega arith)

pub round_limb-requires : goal.round_limb-requires
unfolding operand_of
round_limb-requires c =
    let x = c.args.x in
    let counted_back : c.counted_exponent-unit.result ≡ counted x.number.exponent = search rules in
    (rw counted_back (sym (passes _ x.formed x.regular c.args.mode _ c.requires)), top_large _ x.formed x.regular c.args.mode _ c.requires)

pub returns : goal.returns
unfolding operand_of
returns c =
    let x = c.args.x in
    let counted_back : c.counted_exponent-unit.result ≡ counted x.number.exponent = search rules in
    let r = c.round_limb in
    selects _ x.formed x.regular _ _ c.requires _ (r.result.limb ∷ []) _ counted_back r.ensures.placed_value r.ensures.limb_value
