-- `stream::finish_held`: by how much of a group is held. Assumes nothing.
use Rattle.stream.specs.Serving.{state_held}
use mathlib.Core.Path.{refl, sym, ◌∙◌}
use Rattle.stream.proofs.Pieces.{is_ready_lem, finish_unready, finish_nothing, finish_one, finish_only_one, finish_two, finish_only_two, finish_three}
use Rattle.stream.proofs.serving.finish_held.Goals as goal

pub returns-then-not-ready_held : goal.returns-then-not-ready_held
returns-then-not-ready_held c = finish_unready (state_held c.args.held c.args.first.now c.args.second.now c.args.third.now) c.args.out.now _ _ (sym c.ready_held.ensures ∙ c.if-not-ready_held.true) refl refl

pub returns-then-held-eq0-2 : goal.returns-then-held-eq0-2
returns-then-held-eq0-2 c = finish_nothing (state_held c.args.held c.args.first.now c.args.second.now c.args.third.now) c.args.out.now _ _ (sym c.ready_held.ensures ∙ c.if-not-ready_held.false) c.if-held-eq0.true c.if-held-eq0-2.true refl refl

pub cut_short-requires : goal.cut_short-requires
cut_short-requires c = (is_ready_lem (state_held c.args.held c.args.first.now c.args.second.now c.args.third.now) c.args.out.now (sym c.ready_held.ensures ∙ c.if-not-ready_held.false)).room

pub returns-then-held-eq0 : goal.returns-then-held-eq0
returns-then-held-eq0 c = finish_one (state_held c.args.held c.args.first.now c.args.second.now c.args.third.now) c.args.out.now _ _ (sym c.ready_held.ensures ∙ c.if-not-ready_held.false) c.if-held-eq0.true c.if-held-eq0-2.false c.cut_short.ensures

pub cut_short-requires-then-held-eq0-3 : goal.cut_short-requires-then-held-eq0-3
cut_short-requires-then-held-eq0-3 c = (is_ready_lem (state_held c.args.held c.args.first.now c.args.second.now c.args.third.now) c.args.out.now (sym c.ready_held.ensures ∙ c.if-not-ready_held.false)).room

pub returns-then-held-eq0-3 : goal.returns-then-held-eq0-3
returns-then-held-eq0-3 c = finish_only_one (state_held c.args.held c.args.first.now c.args.second.now c.args.third.now) c.args.out.now _ _ (sym c.ready_held.ensures ∙ c.if-not-ready_held.false) c.if-held-eq1.true c.if-held-eq0-3.true c.cut_short-then-held-eq0-3.ensures

pub cut_short-requires-then-held-eq1 : goal.cut_short-requires-then-held-eq1
cut_short-requires-then-held-eq1 c = (is_ready_lem (state_held c.args.held c.args.first.now c.args.second.now c.args.third.now) c.args.out.now (sym c.ready_held.ensures ∙ c.if-not-ready_held.false)).room

pub returns-then-held-eq1 : goal.returns-then-held-eq1
returns-then-held-eq1 c = finish_two (state_held c.args.held c.args.first.now c.args.second.now c.args.third.now) c.args.out.now _ _ (sym c.ready_held.ensures ∙ c.if-not-ready_held.false) c.if-held-eq1.true c.if-held-eq0-3.false c.cut_short-then-held-eq1.ensures

pub cut_short-requires-then-held-eq0-4 : goal.cut_short-requires-then-held-eq0-4
cut_short-requires-then-held-eq0-4 c = (is_ready_lem (state_held c.args.held c.args.first.now c.args.second.now c.args.third.now) c.args.out.now (sym c.ready_held.ensures ∙ c.if-not-ready_held.false)).room

pub returns-then-held-eq0-4 : goal.returns-then-held-eq0-4
returns-then-held-eq0-4 c = finish_only_two (state_held c.args.held c.args.first.now c.args.second.now c.args.third.now) c.args.out.now _ _ (sym c.ready_held.ensures ∙ c.if-not-ready_held.false) c.if-held-eq0.false c.if-held-eq1.false c.if-held-eq0-4.true c.cut_short-then-held-eq0-4.ensures

pub returns : goal.returns
returns c =
    finish_three (state_held c.args.held c.args.first.now c.args.second.now c.args.third.now) c.args.out.now _ _ (sym c.ready_held.ensures ∙ c.if-not-ready_held.false) c.if-held-eq0.false c.if-held-eq1.false c.if-held-eq0-4.false (rw (c.part.ensures, c.part-2.ensures, c.part-3.ensures) at c.answer.ensures)
