-- `kept::truncation::move_up` is right since after i turns the lowest i limbs, with the bits that left them on top, are what they were
-- moved up, with the guard's bits below. Assumes nothing.
use Rattle.std.proofs.Common.{◌≡◌, ℕ, List, ◌+◌, ◌-◌, ◌*◌, ◌/◌, ◌%◌, ◌^◌, ◌<◌, length, get_or, take, refl, ap, ◌∙◌, arith, rules}
use native.Mathlib.Nat.{le_refl}
use lib.Bits.{bit_or}
use lib.ListN.{length-set}
use lib.Pow.{pow_pos}
use lib.Seq.{take_all}
use Rattle.kept.proofs.Moves.{limb_raised, raised_lt, top_few, turn_up, turn_lt, none_up, none_lt, above_stays, low_of}
use Rattle.kept.proofs.truncation.move_up.Goals as goal

pub loop-limb-init : goal.loop-limb-init
loop-limb-init c =
    let g = c.args in (
      refl,
      top_few g.guard 0 g.k c.requires.0 c.requires.1 c.ranges.guard.fits (pow_pos g.k),
      λ j h. refl,
      none_lt (2 ^ 64) g.target.now,
      none_up (2 ^ 64) g.target.now g.target.now (2 ^ g.k) (g.guard / 2 ^ (64 - g.k)),
    )

pub loop-limb-preserved : goal.loop-limb-preserved
loop-limb-preserved c =
    let l = c.loop-limb in
    let g = c.args in
    let i : ℕ = l.limb-index in
    let limb : ℕ = get_or l.target i 0 in
    let lt : limb < 2 ^ 64 = search rules in
    let n = bit_or (limb * 2 ^ g.k % 2 ^ 64) l.up in
    let e = limb_raised limb l.up g.k c.requires.0 c.requires.1 lt l.invariant.1 in (
      simp length-set (omega arith),
      top_few limb l.up g.k c.requires.0 c.requires.1 lt l.invariant.1,
      above_stays (2 ^ 64) l.target g.target.now i n l.invariant.2,
      turn_lt (2 ^ 64) l.target i n (omega arith) (raised_lt limb l.up g.k c.requires.0 c.requires.1 lt l.invariant.1) l.invariant.3,
      turn_up (2 ^ 64) l.target g.target.now i l.up n (limb / 2 ^ (64 - g.k)) (2 ^ g.k) (g.guard / 2 ^ (64 - g.k)) (omega arith)
          (e ∙ ap (λ (m : ℕ). m * 2 ^ g.k + l.up) (l.invariant.2 i (le_refl i))) l.invariant.4,
    )

pub returns : goal.returns
returns c =
    let l = c.loop-limb in
    let t : List ℕ = c.args.target.now in
    let i : ℕ = l.limb-index in
    let whole : take i l.target ≡ l.target = take_all i l.target (omega arith) in
    let whole₀ : take i t ≡ t = take_all i t (omega arith) in
    let e : i ≡ length t = omega arith in
    record {
      size = search rules;
      value = low_of _ _ l.up _ (rw (whole, e) at l.invariant.3) (rw (whole, whole₀, e) at l.invariant.4);
    }
