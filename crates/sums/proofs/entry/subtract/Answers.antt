-- `entry::subtract`: the difference is the sum with the second sign turned, refused or not, where the signs are then not alike by a look at the first column. Assumes nothing.
use mathlib.Core.Path.{refl}
use native.Mathlib.Omega.{arith}
use Rattle.deep.proofs.FillingTarget.{one_limb}
use Rattle.sums.proofs.AtOnce.{plain_unlike, known_told, known_some, looked_ranged, copies_sized, copies_unsized, copies_summed}
use Rattle.sums.proofs.Entries.{accepted_ready, accepted_plain, accepted_reported}
use Rattle.sums.proofs.Turned.{summed_turned}
use Rattle.sums.proofs.entry.subtract.Goals as goal

pub unwrap-known-requires : goal.unwrap-known-requires
unwrap-known-requires c =
    let t = c.is_plain.ensures (plain_unlike _ _ _ c.if-is_plain-x.true).0 in
    let g = accepted_plain _ c.args.x _ c.turn_sign-turned.result _ _ c.args.target.now t.0 (λ i. (c.type_inv.xl i).fits) (λ i. (c.type_inv.yl i).fits) t.1 t.2 t.3 in
    known_some _ c.try_from.ensures (accepted_ready _ c.args.x _ c.turn_sign-turned.result _ _ c.args.target.now t.0 (λ i. (c.type_inv.xl i).fits) (λ i. (c.type_inv.yl i).fits)).0

pub invariant_of-first : goal.invariant_of-first
invariant_of-first c =
    let t = c.is_plain.ensures (plain_unlike _ _ _ c.if-is_plain-x.true).0 in
    let g = accepted_plain _ c.args.x _ c.turn_sign-turned.result _ _ c.args.target.now t.0 (λ i. (c.type_inv.xl i).fits) (λ i. (c.type_inv.yl i).fits) t.1 t.2 t.3 in
    record { formed = g.first; regular = g.first_regular }

pub invariant_of-second : goal.invariant_of-second
invariant_of-second c =
    let t = c.is_plain.ensures (plain_unlike _ _ _ c.if-is_plain-x.true).0 in
    let g = accepted_plain _ c.args.x _ c.turn_sign-turned.result _ _ c.args.target.now t.0 (λ i. (c.type_inv.xl i).fits) (λ i. (c.type_inv.yl i).fits) t.1 t.2 t.3 in
    record { formed = g.second; regular = g.second_regular }

pub look_unlike-requires : goal.look_unlike-requires
look_unlike-requires c =
    let t = c.is_plain.ensures (plain_unlike _ _ _ c.if-is_plain-x.true).0 in
    let g = accepted_plain _ c.args.x _ c.turn_sign-turned.result _ _ c.args.target.now t.0 (λ i. (c.type_inv.xl i).fits) (λ i. (c.type_inv.yl i).fits) t.1 t.2 t.3 in
    (g.room.least, g.few, (plain_unlike _ _ _ c.if-is_plain-x.true).1)

pub told-requires : goal.told-requires
told-requires c =
    let t = c.is_plain.ensures (plain_unlike _ _ _ c.if-is_plain-x.true).0 in
    let g = accepted_plain _ c.args.x _ c.turn_sign-turned.result _ _ c.args.target.now t.0 (λ i. (c.type_inv.xl i).fits) (λ i. (c.type_inv.yl i).fits) t.1 t.2 t.3 in
    (omega (arith, one_limb _ _ g.room g.few), looked_ranged _ _ _ _ _ c.in-Some.ensures)

pub returns-in-Some : goal.returns-in-Some
returns-in-Some c =
    let t = c.is_plain.ensures (plain_unlike _ _ _ c.if-is_plain-x.true).0 in
    let g = accepted_plain _ c.args.x _ c.turn_sign-turned.result _ _ c.args.target.now t.0 (λ i. (c.type_inv.xl i).fits) (λ i. (c.type_inv.yl i).fits) t.1 t.2 t.3 in
    let ke = known_told c.args.mode c.try_from.ensures c.unwrap-known.ensures in
    summed_turned _ _ _ _ _ _ _ _ _
    (rw c.turn_sign-turned.ensures at (accepted_reported _ _ _ _ _ _ c.args.target.now t.0 (rw ke at (c.told.ensures.1 _ _ _ g.room g.few c.in-Some.ensures))))

pub refuse_sizes-requires : goal.refuse_sizes-requires
refuse_sizes-requires c = copies_unsized c.copied.ensures c.copied-then-not-sizes_pass.ensures _ _ _ _ (c.sizes_pass.ensures.1 (c.if-not-sizes_pass.true))

pub returns-then-not-sizes_pass : goal.returns-then-not-sizes_pass
returns-then-not-sizes_pass c =
    summed_turned _ _ _ _ _ _ _ _ _
    (rw c.turn_sign-turned.ensures at (copies_summed _ _ c.copied.ensures c.copied-then-not-sizes_pass.ensures _ _ c.args.target.now _ refl (c.refuse_sizes.ensures _ refl)))

pub add_sized-requires : goal.add_sized-requires
add_sized-requires c = copies_sized c.copied-2.ensures c.copied-3.ensures _ _ _ _ (c.sizes_pass.ensures.0 (c.if-not-sizes_pass.false))

pub returns : goal.returns
returns c =
    summed_turned _ _ _ _ _ _ _ _ _
    (rw c.turn_sign-turned.ensures at (copies_summed _ _ c.copied-2.ensures c.copied-3.ensures _ _ _ _ c.sum.ensures c.add_sized.ensures))
