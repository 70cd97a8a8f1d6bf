-- `stream::serve_groups`: what was printed so far, and then what the rest prints. Assumes nothing.
use Rattle.cutting.specs.Group.{Progress}
use Rattle.cutting.specs.Held.{counts_in}
use Rattle.stream.specs.Serving.{state_of}
use Prim.Native.Nat.{◌-◌}
use mathlib.Core.Path.{refl, ◌∙◌}
use native.Mathlib.Omega.{arith}
use Rattle.stream.proofs.Pieces.{serving_begins, stops_full, stops_ended, waits_served, serving_next, taken_far, taken_some, r_fits, is_ready_lem}
use Rattle.stream.proofs.serving.serve_groups.Goals as goal

pub loop-taken-init : goal.loop-taken-init
loop-taken-init c =
    let g = c.args in
    (serving_begins c.longest_answer-most.result (state_of g.lines.now) g.bytes.now g.out.now c.longest_answer-most.ensures c.requires, (refl, refl, refl))

pub overflow_sub-out : goal.overflow_sub-out
overflow_sub-out c = c.loop-taken.invariant.0.fits

pub shape_of-out-then-out-told : goal.shape_of-out-then-out-told
shape_of-out-then-out-told c = c.loop-taken.invariant.0.same

pub returns-then-out-told-clause-served : goal.returns-then-out-told-clause-served
returns-then-out-told-clause-served c =
    let g = c.args in
    let l = c.loop-taken in
    (stops_full c.longest_answer-most.result (state_of g.lines.now) g.bytes.now g.out.now (state_of l.lines) l.out l.taken l.told l.invariant.0 c.loop-taken-test.true c.if-out-told.true)

pub cut-taken-requires : goal.cut-taken-requires
cut-taken-requires c = c.loop-taken.invariant.0.rooms

pub overflow_add-taken : goal.overflow_add-taken
overflow_add-taken c =
    let g = c.args in
    let l = c.loop-taken in
    let k = c.cut-taken in
    let f = taken_far c.longest_answer-most.result (state_of g.lines.now) g.bytes.now g.out.now (state_of l.lines) l.out l.taken l.told l.invariant.0 c.loop-taken-test.true c.if-out-told.false (record { held = counts_in k.new.self; taken = k.result }) k.new.self.first.bytes.now k.new.self.second.bytes.now k.new.self.third.bytes.now k.ensures.cuts in
    record { fits = omega (arith, f, c.well_formed.1.0.0) }

pub shape_of-out-then-lines-lt3 : goal.shape_of-out-then-lines-lt3
shape_of-out-then-lines-lt3 c = c.loop-taken.invariant.0.same

pub returns-then-lines-lt3-clause-served : goal.returns-then-lines-lt3-clause-served
returns-then-lines-lt3-clause-served c =
    let g = c.args in
    let l = c.loop-taken in
    let k = c.cut-taken in
    (waits_served c.longest_answer-most.result (state_of g.lines.now) g.bytes.now g.out.now (state_of l.lines) l.out l.taken l.told l.invariant.0 c.loop-taken-test.true c.if-out-told.false (record { held = counts_in k.new.self; taken = k.result }) k.new.self.first.bytes.now k.new.self.second.bytes.now k.new.self.third.bytes.now k.ensures.cuts c.if-lines-lt3.true)

pub overflow_add-told : goal.overflow_add-told
overflow_add-told c =
    let g = c.args in
    let l = c.loop-taken in
    let k = c.cut-taken in
    let a = c.answer_held-told in
    let f = r_fits c.longest_answer-most.result (state_of g.lines.now) g.bytes.now g.out.now (state_of l.lines) l.out l.taken l.told l.invariant.0 c.loop-taken-test.true c.if-out-told.false (record { held = counts_in k.new.self; taken = k.result }) k.new.self.first.bytes.now k.new.self.second.bytes.now k.new.self.third.bytes.now k.ensures.cuts c.if-lines-lt3.false a.result a.new.out a.ensures a.auto.out in
    record { fits = omega (arith, f, l.invariant.0.same, c.well_formed.1.1.0.0) }

pub loop-taken-smaller : goal.loop-taken-smaller
loop-taken-smaller c =
    let g = c.args in
    let l = c.loop-taken in
    let k = c.cut-taken in
    let f = taken_some c.longest_answer-most.result (state_of g.lines.now) g.bytes.now g.out.now (state_of l.lines) l.out l.taken l.told l.invariant.0 c.loop-taken-test.true c.if-out-told.false (record { held = counts_in k.new.self; taken = k.result }) k.new.self.first.bytes.now k.new.self.second.bytes.now k.new.self.third.bytes.now k.ensures.cuts in
    omega (arith, f, c.loop-taken-test.true)

pub loop-taken-preserved : goal.loop-taken-preserved
loop-taken-preserved c =
    let g = c.args in
    let l = c.loop-taken in
    let k = c.cut-taken in
    let a = c.answer_held-told in
    let e = c.clear.ensures in
    let p : Progress = record { held = counts_in k.new.self; taken = k.result } in
    let f = taken_far c.longest_answer-most.result (state_of g.lines.now) g.bytes.now g.out.now (state_of l.lines) l.out l.taken l.told l.invariant.0 c.loop-taken-test.true c.if-out-told.false p k.new.self.first.bytes.now k.new.self.second.bytes.now k.new.self.third.bytes.now k.ensures.cuts in (
      rw (e.first, e.second, e.third) (serving_next c.longest_answer-most.result (state_of g.lines.now) g.bytes.now g.out.now (state_of l.lines) l.out l.taken l.told l.invariant.0 c.loop-taken-test.true c.if-out-told.false p k.new.self.first.bytes.now k.new.self.second.bytes.now k.new.self.third.bytes.now k.ensures.cuts c.if-lines-lt3.false a.result a.new.out a.ensures a.auto.out _ e.cleared k.ensures.rooms f),
      (e.same.0 ∙ k.ensures.same.0 ∙ l.invariant.1.0, e.same.1 ∙ k.ensures.same.1 ∙ l.invariant.1.1, e.same.2 ∙ k.ensures.same.2 ∙ l.invariant.1.2),
    )

pub shape_of-out : goal.shape_of-out
shape_of-out c = c.loop-taken.invariant.0.same

pub returns-clause-served : goal.returns-clause-served
returns-clause-served c =
    let g = c.args in
    let l = c.loop-taken in
    (stops_ended c.longest_answer-most.result (state_of g.lines.now) g.bytes.now g.out.now (state_of l.lines) l.out l.taken l.told l.invariant.0 c.loop-taken-test.false)
