-- `entry::reround`: what is refused leaves the target untouched; a look at the first column tells a regular number, or the walk reports it beside the zero like it; a zero
-- is added to itself. Assumes nothing.
use mathlib.Core.Path.{sym, ◌∙◌}
use native.Mathlib.Omega.{arith}
use Rattle.deep.proofs.FillingTarget.{one_limb}
use Rattle.sums.proofs.AtOnce.{known_told, known_some, alone_ranged, copy_formed, copy_kind, copy_doubled, copy_alone}
use Rattle.sums.proofs.Entries.{kind_told, single_ready, single_refused, zero_rerounded, regular_rerounded}
use Rattle.sums.proofs.entry.reround.Goals as goal

pub returns-in-Err : goal.returns-in-Err
returns-in-Err c = single_refused _ _ _ _ _ _ c.check_single-refusal.ensures c.in-Err.is c.refused.ensures

pub invariant_of-alone : goal.invariant_of-alone
invariant_of-alone c =
    let g = single_ready _ _ _ _ c.args.target.now _ c.check_single-refusal.ensures c.in_default.is (λ i. (c.type_inv.xl i).fits) in
    let t = c.is_narrow.ensures c.if-is_narrow.true in
    record { formed = g.1; regular = t.1 }

pub look_alone-requires : goal.look_alone-requires
look_alone-requires c =
    let g = single_ready _ _ _ _ c.args.target.now _ c.check_single-refusal.ensures c.in_default.is (λ i. (c.type_inv.xl i).fits) in
    let t = c.is_narrow.ensures c.if-is_narrow.true in
    (g.2.least, t.0)

pub told-requires : goal.told-requires
told-requires c =
    let g = single_ready _ _ _ _ c.args.target.now _ c.check_single-refusal.ensures c.in_default.is (λ i. (c.type_inv.xl i).fits) in
    let t = c.is_narrow.ensures c.if-is_narrow.true in
    (omega (arith, one_limb _ _ g.2 t.0), alone_ranged _ _ _ _ g.1 c.in-Some.ensures)

pub returns-in-Some : goal.returns-in-Some
returns-in-Some c =
    let g = single_ready _ _ _ _ c.args.target.now _ c.check_single-refusal.ensures c.in_default.is (λ i. (c.type_inv.xl i).fits) in
    let t = c.is_narrow.ensures c.if-is_narrow.true in
    let ke = known_told c.args.mode c.try_from.ensures c.unwrap-known.ensures in
    regular_rerounded _ _ _ _ _ _ c.check_single-refusal.ensures c.in_default.is (λ i. (c.type_inv.xl i).fits)
    (λ z h e. rw ke at (c.told.ensures.1 _ _ z g.2 t.0 (c.in-Some.ensures z h e)))

pub unwrap-known-requires : goal.unwrap-known-requires
unwrap-known-requires c = known_some _ c.try_from.ensures (single_ready _ c.args.x _ _ c.args.target.now _ c.check_single-refusal.ensures c.in_default.is (λ i. (c.type_inv.xl i).fits)).0

pub zeros-requires : goal.zeros-requires
zeros-requires c = (single_ready _ c.args.x _ _ c.args.target.now _ c.check_single-refusal.ensures c.in_default.is (λ i. (c.type_inv.xl i).fits)).2

pub returns-then-is_zero : goal.returns-then-is_zero
returns-then-is_zero c =
    let i = c.copied-alike.ensures in
    let e = kind_told _ _ c.is_zero.ensures c.if-is_zero.true in
    let ke = known_told c.args.mode c.try_from.ensures c.unwrap-known.ensures in
    zero_rerounded _ _ _ _ _ _ c.check_single-refusal.ensures c.in_default.is (λ i. (c.type_inv.xl i).fits) (copy_kind _ i e) (copy_doubled _ i _ _ _ _ (rw ke at (c.zeros.ensures _ _ e e)))

pub single-requires : goal.single-requires
single-requires c = (single_ready _ c.args.x _ _ c.args.target.now _ c.check_single-refusal.ensures c.in_default.is (λ i. (c.type_inv.xl i).fits)).2

pub invariant_of-alone-2 : goal.invariant_of-alone-2
invariant_of-alone-2 c = record { formed = copy_formed _ c.copied-alike.ensures (single_ready _ c.args.x _ _ c.args.target.now _ c.check_single-refusal.ensures c.in_default.is (λ i. (c.type_inv.xl i).fits)).1; regular = sym c.is_zero.ensures ∙ c.if-is_zero.false }

pub returns : goal.returns
returns c =
    let ke = known_told c.args.mode c.try_from.ensures c.unwrap-known.ensures in
    regular_rerounded _ _ _ _ _ _ c.check_single-refusal.ensures c.in_default.is (λ i. (c.type_inv.xl i).fits) (λ z h e. rw ke at (copy_alone _ c.copied-alike.ensures _ _ _ _ c.single.ensures z h e))
