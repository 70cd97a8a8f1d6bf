-- `narrow::see_exact` is right since the column has all of both operands: they cancel, or nothing of their difference lies below the digits kept. Assumes nothing.
use mathlib.Core.Path.{◌≡◌}
use Prim.Native.Nat.{ℕ, ◌≤◌, ◌<◌}
use native.Mathlib.Omega.{arith}
use Rattle.narrow.proofs.Passed.{top_high}
use Rattle.narrow.proofs.Kept.{exact_passes, exact_told}
use Rattle.narrow.proofs.Cancels.{cancelled_told}
use Rattle.narrow.proofs.seeing.see_exact.Goals as goal

-- what is neither less nor alike is larger
above : (m n : ℕ) → (m ≡ n → ⊥) → n ≤ m → n < m
above m n h l = omega arith

pub returns-then-u-low : goal.returns-then-u-low
returns-then-u-low c =
    let t = c.args.tops in
    let z = c.cancelled.ensures in
    λ x y h sign. cancelled_told t.precision t.pair t.first t.second t.facing c.requires c.if-u-low.true c.args.mode x y h sign z.0 z.1 z.2

pub overflow_sub-pair : goal.overflow_sub-pair
overflow_sub-pair c = top_high _ c.args.tops.facing.low

pub settle_one-r-requires : goal.settle_one-r-requires
settle_one-r-requires c =
    let t = c.args.tops in
    exact_passes t.precision t.pair t.first t.second t.facing c.requires (above _ _ c.if-u-low.false c.if-u-low-2.false)

pub returns : goal.returns
returns c =
    let t = c.args.tops in
    let o = c.settle_one-r in
    let ahead = above _ _ c.if-u-low.false c.if-u-low-2.false in
    exact_told t.precision t.pair t.first t.second t.facing c.requires ahead o.result.limb o.result.placed o.ensures c.args.mode c.args.negative
