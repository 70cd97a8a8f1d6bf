-- `short::close::combine` is right by the columns of the other operand. Assumes nothing.
use mathlib.Core.Path.{sym, ap, ◌∙◌}
use mathlib.Core.Bool.{true≢false}
use Prim.Native.Nat.{ℕ, ◌*◌, ◌%◌, ◌^◌}
use Rattle.short.proofs.Combined.{combined, parted, parted_less}
use Rattle.short.proofs.close.combine.Goals as goal

pub returns-then-same : goal.returns-then-same
returns-then-same c =
    let k = c.columns-c in
    (combined c.args.same (c.args.u * 2 ^ 64) _ _ _ c.if-same.true c.sum.ensures.0 k.ensures.0, λ e. ap (λ (m : ℕ). m % 2) c.sum.ensures.1 ∙ k.ensures.1)

pub difference-requires : goal.difference-requires
difference-requires c =
    parted_less (2 ^ 64) c.args.u _ _ c.columns-c.ensures.0 (c.requires.1 c.if-same.false)

pub returns : goal.returns
returns c =
    let d = c.difference in
    (parted c.args.same d.result.carry (2 ^ 64) c.args.u _ _ _ _ c.if-same.false d.ensures.0 d.ensures.1 c.columns-c.ensures.0, λ e. absurd (true≢false (sym e ∙ d.ensures.0)))
