-- `far::attempt_under` is right since the first operand and a little more, or a little less, rounds as the second does whatever stands in it. Assumes nothing.
use native.Mathlib.Omega.{arith}
use Rattle.wide.proofs.Offering.{offered}
use Rattle.wide.proofs.FullTarget.{offered_sighted}
use Rattle.far.specs.Alone.{Alone}
use Rattle.far.proofs.FirstAlone.{far_told}
use Rattle.far.proofs.attempt_under.Goals as goal

pub overflow_sub-n : goal.overflow_sub-n
overflow_sub-n c =
    (offered_sighted c.args.p _ c.args.order.now.first.now c.args.order.now.second.now (offered c.args.order.now) c.args.target.now c.requires.0).some

pub is_inland-requires : goal.is_inland-requires
is_inland-requires c =
    let w = offered_sighted c.args.p _ c.args.order.now.first.now c.args.order.now.second.now (offered c.args.order.now) c.args.target.now c.requires.0 in
    (w.top, omega (arith, w.target))

pub round-placed-requires : goal.round-placed-requires
round-placed-requires c =
    let alone : Alone c.args.p c.args.order.now.pair c.args.order.now.first.now c.args.target.now = record {
      second = c.args.order.now.second.now;
      offered = (offered c.args.order.now);
      room = c.requires.0;
      long = c.requires.1;
      below = c.requires.2;
      far = c.requires.3;
      inland = c.is_inland.ensures (c.if-not-is_inland.false);
    } in
    alone

pub returns : goal.returns
returns c = rw c.by_fields.ensures (
    let alone : Alone c.args.p c.args.order.now.pair c.args.order.now.first.now c.args.target.now = record {
      second = c.args.order.now.second.now;
      offered = (offered c.args.order.now);
      room = c.requires.0;
      long = c.requires.1;
      below = c.requires.2;
      far = c.requires.3;
      inland = c.is_inland.ensures (c.if-not-is_inland.false);
    } in
    let a = c.round-placed.ensures in (
      c.round-placed.auto.target,
      λ z w h sign. far_told c.args.p _ c.args.order.now.first.now c.args.target.now alone a.run a.guard a.limbs a.beside c.args.mode _ z w h sign c.args.order.now.swapped a.placed a.left c.either.ensures c.either-2.ensures,
    ))
