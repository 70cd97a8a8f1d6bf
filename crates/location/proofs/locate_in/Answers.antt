-- `location::locate_in` is right since the first of the digits tells the half, and the others with `more` whether anything is left
-- beside it. Assumes nothing.
use mathlib.Core.Path.{◌≡◌}
use Prim.Native.Nat.{◌-◌, ◌/◌, ◌%◌, ◌^◌}
use native.Mathlib.Nat.{mod-lt}
use native.Mathlib.Omega.{arith}
use lib.Pow.{pow_pos}
use Rattle.limb.specs.Carry.{bit}
use Rattle.limb.proofs.Carry.{bit_le}
use Rattle.location.specs.declared.Location.TheVariants.{Exact, Lower, Tie, Upper}
use Rattle.location.proofs.Locating.{something, nothing, is_exact, is_lower, is_tie, is_upper, of_digits}
use Rattle.location.proofs.locate_in.Goals as goal

pub nonzero_rem-some : goal.nonzero_rem-some
nonzero_rem-some c = rw c.power.ensures (pow_pos _)

pub returns-then-some : goal.returns-then-some
returns-then-some c =
    let g = c.args in
    let P = 2 ^ (g.width - 1) in
    of_digits g.limb g.width c.requires.0 g.more Lower
    (is_lower P _ (g.limb % P) (bit g.more) (mod-lt _ (pow_pos _)) (bit_le g.more) c.if-first-eq0.true
    (something _ g.more (rw c.power.ensures at c.if-some.true)))

pub returns-else-some : goal.returns-else-some
returns-else-some c =
    let g = c.args in
    let P = 2 ^ (g.width - 1) in
    of_digits g.limb g.width c.requires.0 g.more Exact
    (is_exact P _ (g.limb % P) (bit g.more) (mod-lt _ (pow_pos _)) (bit_le g.more) c.if-first-eq0.true
    (nothing _ g.more (rw c.power.ensures at c.if-some.false)))

pub returns-then-some-2 : goal.returns-then-some-2
returns-then-some-2 c =
    let g = c.args in
    let P = 2 ^ (g.width - 1) in
    let one : g.limb / P % 2 ≡ 1 = omega (arith, c.if-first-eq0.false) in
    of_digits g.limb g.width c.requires.0 g.more Upper
    (is_upper P _ (g.limb % P) (bit g.more) (mod-lt _ (pow_pos _)) (bit_le g.more) one
    (something _ g.more (rw c.power.ensures at c.if-some-2.true)))

pub returns-else-some-2 : goal.returns-else-some-2
returns-else-some-2 c =
    let g = c.args in
    let P = 2 ^ (g.width - 1) in
    let one : g.limb / P % 2 ≡ 1 = omega (arith, c.if-first-eq0.false) in
    of_digits g.limb g.width c.requires.0 g.more Tie
    (is_tie P _ (g.limb % P) (bit g.more) (mod-lt _ (pow_pos _)) (bit_le g.more) one
    (nothing _ g.more (rw c.power.ensures at c.if-some-2.false)))
