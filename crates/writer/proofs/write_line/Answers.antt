-- `writer::write_line`: the checks of the number alone, then the room, then the line. Assumes nothing.
use native.Mathlib.Omega.{arith}
use mathlib.Core.Path.{sym, ◌∙◌}
use Rattle.std.proofs.lemmas.Result.{err_from_is_err_and}
use Rattle.checks.specs.Check.{accepted}
use Rattle.lines.proofs.Answered.{refused_alone, short_room, room_holds, all_written}
use Rattle.writer.proofs.write_line.Goals as goal

pub returns-in_err-check_alone-clause-value : goal.returns-in_err-check_alone-clause-value
returns-in_err-check_alone-clause-value c =
    let p = err_from_is_err_and c.from_residual.result c.from_residual.ensures.1 in
    rw (p.1, p.2) (refused_alone c.args.x c.args.limbs.now _ c.args.room.now (sym c.in_err-check_alone.ensures)).0

pub returns-in_err-check_alone-clause-room_after : goal.returns-in_err-check_alone-clause-room_after
returns-in_err-check_alone-clause-room_after c = (refused_alone c.args.x c.args.limbs.now _ c.args.room.now (sym c.in_err-check_alone.ensures)).1

pub returns-then-room-size : goal.returns-then-room-size
unfolding accepted
returns-then-room-size c =
    let a = c.args in
    let told = short_room a.x a.limbs.now (sym c.in_ok-check_alone.ensures) a.room.now (omega (arith, c.line_size-size.ensures)) in
    record {
      value = told.0;
      room_after = told.1;
    }

pub write_whole-requires : goal.write_whole-requires
unfolding accepted
write_whole-requires c =
    let a = c.args in
    room_holds a.x a.limbs.now (sym c.in_ok-check_alone.ensures) _ _ c.line_size-size.ensures c.if-room-size.false

pub returns : goal.returns
unfolding accepted
returns c =
    let a = c.args in
    let told = all_written a.x a.limbs.now (sym c.in_ok-check_alone.ensures) a.room.now _ _ c.line_size-size.ensures c.if-room-size.false c.write_whole.ensures in
    record {
      value = told.0;
      room_after = told.1;
    }
