-- `kept::truncation::move_down` is right since from limb i on twice the limbs, with the bit that left them, are what they were with the 1
-- above them. Assumes nothing.
use Rattle.std.proofs.Common.{◌≡◌, ℕ, List, suc, ◌+◌, ◌-◌, ◌*◌, ◌/◌, ◌%◌, ◌^◌, length, get_or, refl, ap, ◌∙◌, arith, rules}
use lib.Bits.{bit_or}
use Rattle.kept.proofs.Moves.{limb_lowered, turn_down_at, none_down, below_stays, halved}
use Rattle.kept.proofs.truncation.move_down.Goals as goal

pub loop-i-init : goal.loop-i-init
loop-i-init c = (omega arith, λ j h. refl, none_down (2 ^ 64) c.args.target.now)

pub loop-i-preserved : goal.loop-i-preserved
loop-i-preserved c =
    let l = c.loop-i in
    let t : List ℕ = c.args.target.now in
    let i = l.i - 1 in
    let limb = get_or l.target i 0 in
    let n = bit_or (limb / 2) (l.down * 2 ^ 63 % 2 ^ 64) in
    let here : suc i ≡ l.i = omega arith in (
      omega arith,
      below_stays (2 ^ 64) l.target t l.i i n here l.invariant.1,
      turn_down_at (2 ^ 64) l.target t l.i i l.down n (limb % 2) (length t) here (omega arith) (omega arith)
          (limb_lowered limb l.down (c.slice_known-1.given i).fits l.invariant.0 ∙ ap (λ (m : ℕ). m + 2 ^ 64 * l.down) (l.invariant.1 i (omega arith))) l.invariant.2,
    )

pub returns : goal.returns
returns c =
    let l = c.loop-i in
    let t : List ℕ = c.args.target.now in
    let e : l.i ≡ 0 = omega arith in
    record { size = search rules; value = halved (2 ^ 64) l.target t l.down (length t) l.invariant.0 (rw e at l.invariant.2) }
