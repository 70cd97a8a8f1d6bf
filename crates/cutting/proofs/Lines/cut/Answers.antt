-- `cutting::Lines::cut`: after i bytes the group is what those bytes make of it. Assumes nothing.
use Rattle.std.proofs.Common.{◌≡◌, length, refl, ◌∙◌, arith}
use Rattle.cutting.proofs.Underway.{begins, goes, same_group, stops_whole, stops_empty, within_all}
use Rattle.cutting.proofs.Lines.cut.Goals as goal

pub loop-i-init : goal.loop-i-init
loop-i-init c =
    (begins _ _ _ _ _ (record { first = c.at_most_room-self.ensures.0; second = c.at_most_room-self-2.ensures.0; third = c.at_most_room-self-3.ensures.0 }) c.requires, (refl, refl, refl))

pub returns-then-self-ge3-clause-cuts : goal.returns-then-self-ge3-clause-cuts
returns-then-self-ge3-clause-cuts c =
    stops_whole _ _ _ _ _ _ _ _ _ _ c.loop-i.invariant.0 _ (same_group _ _ _ _ _ c.requires refl c.at_most_room-self.ensures c.at_most_room-self-2.ensures c.at_most_room-self-3.ensures) c.if-self-ge3.true

pub take_byte-requires : goal.take_byte-requires
take_byte-requires c = let v = c.loop-i.invariant.0 in (within_all v, c.if-self-ge3.false, v.rooms)

pub loop-i-preserved : goal.loop-i-preserved
loop-i-preserved c =
    let v = c.loop-i.invariant in
    let t = c.take_byte.ensures in
    (goes _ _ _ _ _ _ _ _ _ _ v.0 _ _ _ _ (omega arith) c.if-self-ge3.false t.rooms t.took, (t.same.0 ∙ v.1.0, t.same.1 ∙ v.1.1, t.same.2 ∙ v.1.2))

pub returns-clause-cuts : goal.returns-clause-cuts
returns-clause-cuts c =
    let v = c.loop-i.invariant.0 in
    let far = v.far in
    let all : c.loop-i.i ≡ length c.args.bytes.now = omega arith in
    rw (← all) (stops_empty _ _ _ _ _ _ _ _ _ _ v _ (same_group _ _ _ _ _ c.requires refl c.at_most_room-self.ensures c.at_most_room-self-2.ensures c.at_most_room-self-3.ensures) (omega arith))

pub returns-then-self-ge3-clause-rooms : goal.returns-then-self-ge3-clause-rooms
returns-then-self-ge3-clause-rooms c = c.loop-i.invariant.0.rooms

pub returns-clause-rooms : goal.returns-clause-rooms
returns-clause-rooms c = c.loop-i.invariant.0.rooms
