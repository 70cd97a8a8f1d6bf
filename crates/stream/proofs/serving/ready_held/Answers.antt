-- `stream::ready_held`: test by test. Assumes nothing.
use Rattle.stream.specs.Serving.{state_held}
use mathlib.Core.Path.{sym, ◌∙◌}
use Rattle.stream.proofs.Pieces.{many_lines, wrong_first, wrong_second, wrong_third, room_left}
use Rattle.stream.proofs.serving.ready_held.Goals as goal

pub returns-then-held-ge3 : goal.returns-then-held-ge3
returns-then-held-ge3 c = many_lines (state_held c.args.held c.args.first.now c.args.second.now c.args.third.now) c.args.out.now c.if-held-ge3.true

pub returns-then-first-room : goal.returns-then-first-room
returns-then-first-room c = wrong_first (state_held c.args.held c.args.first.now c.args.second.now c.args.third.now) c.args.out.now c.if-held-ge3.false (λ e. c.if-first-room.true (e ∙ sym c.line_room-room.ensures))

pub returns-then-second-room : goal.returns-then-second-room
returns-then-second-room c = wrong_second (state_held c.args.held c.args.first.now c.args.second.now c.args.third.now) c.args.out.now c.if-held-ge3.false (c.if-first-room.false ∙ c.line_room-room.ensures) (λ e. c.if-second-room.true (e ∙ sym c.line_room-room.ensures))

pub returns-then-third-room : goal.returns-then-third-room
returns-then-third-room c = wrong_third (state_held c.args.held c.args.first.now c.args.second.now c.args.third.now) c.args.out.now c.if-held-ge3.false (c.if-first-room.false ∙ c.line_room-room.ensures) (c.if-second-room.false ∙ c.line_room-room.ensures) (λ e. c.if-third-room.true (e ∙ sym c.line_room-room.ensures))

pub returns : goal.returns
returns c = room_left (state_held c.args.held c.args.first.now c.args.second.now c.args.third.now) c.args.out.now c.if-held-ge3.false (c.if-first-room.false ∙ c.line_room-room.ensures) (c.if-second-room.false ∙ c.line_room-room.ensures) _ (c.if-third-room.false ∙ c.line_room-room.ensures) c.longest_answer-most.ensures
