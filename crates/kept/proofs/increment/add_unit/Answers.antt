-- `kept::increment::add_unit` is right since after i turns the target, with what is still to be added above its lowest i limbs, is worth
-- what it was and the unit; where nothing is left to add, the walk is done. Assumes nothing.
use Rattle.std.proofs.Common.{◌≡◌, ℕ, List, ◌^◌, ◌≤◌, length, refl, arith, rules}
use Rattle.std.proofs.lemmas.List.{set-get_or}
use lib.ListN.{length-set}
use Rattle.limb.specs.Carry.{bit}
use Rattle.limb.proofs.Carry.{bit_byte, byte_le}
use Rattle.kept.proofs.Unit.{unit_start, unit_turn, unit_done, one_left}
use Rattle.kept.proofs.increment.add_unit.Goals as goal

pub loop-limb-init : goal.loop-limb-init
loop-limb-init c = (refl, λ h. absurd (omega arith), unit_start (2 ^ 64) _ _ _ c.power-add.ensures)

pub returns-then-add-eq0 : goal.returns-then-add-eq0
returns-then-add-eq0 c =
    let l = c.loop-limb in
    record { size = search rules; value = rw (set-get_or l.target l.limb-index 0) (unit_done (2 ^ 64) l.target l.limb-index l.add _ _ c.if-add-eq0.true l.invariant.2) }

pub loop-limb-preserved : goal.loop-limb-preserved
unfolding bit
loop-limb-preserved c =
    let l = c.loop-limb in
    let r = c.add_carry-s in (
      simp length-set (omega arith),
      λ h. byte_le r.result.carry,
      unit_turn (2 ^ 64) l.target l.limb-index l.add _ r.result.limb _ (omega arith)
          (rw (bit_byte r.result.carry) at r.ensures) l.invariant.2,
    )

pub returns : goal.returns
returns c =
    let l = c.loop-limb in
    let t : List ℕ = c.args.target.now in
    let e : l.limb-index ≡ length t = omega arith in
    let few : l.add ≤ 1 = l.invariant.1 (omega (arith, c.requires.0)) in
    record { size = search rules; value = rw (one_left l.add few) (rw e at l.invariant.2) }
