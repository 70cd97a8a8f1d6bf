-- `entry::add_any`: what is refused leaves the target untouched; what passes the checks is of good form, so that a look at the first column tells the sum, or the target read at once,
-- or the walk reports it. Assumes nothing.
use mathlib.Core.Path.{sym, subst}
use native.Mathlib.Omega.{arith}
use Rattle.checks.specs.Room.{Room}
use Rattle.deep.proofs.FillingTarget.{one_limb}
use Rattle.sums.proofs.AtOnce.{known_told, known_some, looked_ranged, attempted_ranged, attempted_reported, copy_formed, copies_reported}
use Rattle.sums.proofs.Entries.{pair_ready, pair_plain, pair_refused, pair_reported}
use Rattle.sums.proofs.entry.add_any.Goals as goal

pub returns-in-Err : goal.returns-in-Err
returns-in-Err c = pair_refused _ _ _ _ _ _ _ _ c.check_pair-refusal.ensures c.in-Err.is c.refused.ensures

pub invariant_of-first : goal.invariant_of-first
invariant_of-first c =
    let g = pair_plain _ c.args.x _ c.args.y _ _ c.args.target.now _ c.check_pair-refusal.ensures c.in_default.is (λ i. (c.type_inv.xl i).fits) (λ i. (c.type_inv.yl i).fits) (c.is_narrow.ensures c.if-is_narrow.true) in
    record { formed = g.first; regular = g.first_regular }

pub invariant_of-second : goal.invariant_of-second
invariant_of-second c =
    let g = pair_plain _ c.args.x _ c.args.y _ _ c.args.target.now _ c.check_pair-refusal.ensures c.in_default.is (λ i. (c.type_inv.xl i).fits) (λ i. (c.type_inv.yl i).fits) (c.is_narrow.ensures c.if-is_narrow.true) in
    record { formed = g.second; regular = g.second_regular }

pub look-requires : goal.look-requires
look-requires c =
    let g = pair_plain _ c.args.x _ c.args.y _ _ c.args.target.now _ c.check_pair-refusal.ensures c.in_default.is (λ i. (c.type_inv.xl i).fits) (λ i. (c.type_inv.yl i).fits) (c.is_narrow.ensures c.if-is_narrow.true) in
    (g.room.least, g.few)

pub told-requires : goal.told-requires
told-requires c =
    let g = pair_plain _ c.args.x _ c.args.y _ _ c.args.target.now _ c.check_pair-refusal.ensures c.in_default.is (λ i. (c.type_inv.xl i).fits) (λ i. (c.type_inv.yl i).fits) (c.is_narrow.ensures c.if-is_narrow.true) in
    (omega (arith, one_limb _ _ g.room g.few), looked_ranged _ _ _ _ _ c.in-Some.ensures)

pub returns-in-Some : goal.returns-in-Some
returns-in-Some c =
    let g = pair_plain _ c.args.x _ c.args.y _ _ c.args.target.now _ c.check_pair-refusal.ensures c.in_default.is (λ i. (c.type_inv.xl i).fits) (λ i. (c.type_inv.yl i).fits) (c.is_narrow.ensures c.if-is_narrow.true) in
    let ke = known_told c.args.mode c.try_from.ensures c.unwrap-known.ensures in
    pair_reported _ _ _ _ _ _ _ _ c.check_pair-refusal.ensures c.in_default.is
    (rw ke at (c.told.ensures.1 _ _ _ g.room g.few c.in-Some.ensures))

pub unwrap-known-requires : goal.unwrap-known-requires
unwrap-known-requires c = known_some _ c.try_from.ensures (pair_ready _ c.args.x _ c.args.y _ _ c.args.target.now _ c.check_pair-refusal.ensures c.in_default.is (λ i. (c.type_inv.xl i).fits) (λ i. (c.type_inv.yl i).fits)).0

pub attempt-requires : goal.attempt-requires
attempt-requires c = let g = pair_ready _ c.args.x _ c.args.y _ _ c.args.target.now _ c.check_pair-refusal.ensures c.in_default.is (λ i. (c.type_inv.xl i).fits) (λ i. (c.type_inv.yl i).fits) in (g.1, g.2, g.3)

pub reported-requires : goal.reported-requires
reported-requires c = attempted_ranged _ _ _ _ c.in-Some-attempt.attempt _ c.in-Some-attempt.ensures.1

pub returns-in-Some-attempt : goal.returns-in-Some-attempt
returns-in-Some-attempt c =
    let ke = known_told c.args.mode c.try_from.ensures c.unwrap-known.ensures in
    pair_reported _ _ _ _ _ _ _ _ c.check_pair-refusal.ensures c.in_default.is
    (rw ke at (attempted_reported _ _ _ _ c.in-Some-attempt.attempt _ c.in-Some-attempt.ensures.1 c.reported.ensures))

pub invariant_of-first-2 : goal.invariant_of-first-2
invariant_of-first-2 c = record { formed = copy_formed _ c.copied.ensures (pair_ready _ c.args.x _ c.args.y _ _ c.args.target.now _ c.check_pair-refusal.ensures c.in_default.is (λ i. (c.type_inv.xl i).fits) (λ i. (c.type_inv.yl i).fits)).1 }

pub invariant_of-second-2 : goal.invariant_of-second-2
invariant_of-second-2 c = record { formed = copy_formed _ c.copied-2.ensures (pair_ready _ c.args.x _ c.args.y _ _ c.args.target.now _ c.check_pair-refusal.ensures c.in_default.is (λ i. (c.type_inv.xl i).fits) (λ i. (c.type_inv.yl i).fits)).2 }

pub summed-requires : goal.summed-requires
summed-requires c = subst (Room _) (sym c.attempt.ensures.0) (pair_ready _ c.args.x _ c.args.y _ _ c.args.target.now _ c.check_pair-refusal.ensures c.in_default.is (λ i. (c.type_inv.xl i).fits) (λ i. (c.type_inv.yl i).fits)).3

pub returns : goal.returns
returns c =
    let ke = known_told c.args.mode c.try_from.ensures c.unwrap-known.ensures in
    pair_reported _ _ _ _ _ _ _ _ c.check_pair-refusal.ensures c.in_default.is
    (rw c.retold.ensures (rw ke at (copies_reported _ _ c.copied.ensures c.copied-2.ensures _ _ _ _ c.summed.ensures)))
