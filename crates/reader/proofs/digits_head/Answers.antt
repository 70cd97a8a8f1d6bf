-- `reader::digits_head`: each return is the first test that fails, or that none does. Assumes nothing.
use mathlib.Core.List.{List, []}
use Prim.Native.Nat.{ℕ, ◌<◌, ◌≤◌}
use lib.ListN.{length}
use Rattle.checks.specs.declared.Number.{Number}
use Rattle.checks.specs.Number.{operand_of}
use Rattle.checks.specs.Check.{precision_holds, exponent_holds}
use Rattle.lines.specs.Line.{line_size}
use Rattle.lines.specs.Reading.{kind_in, number_in}
use Rattle.lines.proofs.Tests.{at_line, exponent_in, accepted_head}
use native.Mathlib.Omega.{arith}
use mathlib.Core.Path.{◌≡◌, refl, sym, ap, ◌∙◌}
use Rattle.lines.proofs.Fields.{shortest_is, kind_is}
use Rattle.lines.proofs.Tests.{refused_head, no_kind, no_precision, no_size, no_exponent, head_accepted}
use Rattle.reader.proofs.digits_head.Goals as goal

pub field_at-requires : goal.field_at-requires
field_at-requires c = (c.requires.0, omega (arith, shortest_is), omega arith)

pub returns-then-field_at-gt3 : goal.returns-then-field_at-gt3
returns-then-field_at-gt3 c =
    let l : List ℕ = c.args.line.now in
    let k : 3 < kind_in l = omega (arith, c.field_at.ensures.0, kind_is l, c.if-field_at-gt3.true) in
    rw c.fault.ensures (refused_head l _ (no_kind l c.requires.1 c.requires.0 k))

pub returns-then-not-precision_holds : goal.returns-then-not-precision_holds
returns-then-not-precision_holds c =
    let l : List ℕ = c.args.line.now in
    let long = c.requires.1 in
    let digits = c.requires.0 in
    let k : kind_in l ≤ 3 = omega (arith, c.field_at.ensures.0, kind_is l, c.if-field_at-gt3.false) in
    rw c.fault-then-not-precision_holds.ensures (refused_head l _ (no_precision l long digits k (at_line (λ (y : Number). precision_holds y.precision) c.precision_holds.ensures c.number_in-x.ensures (c.if-not-precision_holds.true))))

pub returns-then-line-line_size : goal.returns-then-line-line_size
returns-then-line-line_size c =
    let l : List ℕ = c.args.line.now in
    let long = c.requires.1 in
    let digits = c.requires.0 in
    let k : kind_in l ≤ 3 = omega (arith, c.field_at.ensures.0, kind_is l, c.if-field_at-gt3.false) in
    let p = at_line (λ (y : Number). precision_holds y.precision) c.precision_holds.ensures c.number_in-x.ensures (c.if-not-precision_holds.false) in
    rw c.fault-then-line-line_size.ensures (refused_head l _ (no_size l long digits k p (λ e. c.if-line-line_size.true (e ∙ ap line_size (sym c.number_in-x.ensures) ∙ sym c.line_size.ensures))))

pub returns-then-not-exponent_holds : goal.returns-then-not-exponent_holds
returns-then-not-exponent_holds c =
    let l : List ℕ = c.args.line.now in
    let long = c.requires.1 in
    let digits = c.requires.0 in
    let k : kind_in l ≤ 3 = omega (arith, c.field_at.ensures.0, kind_is l, c.if-field_at-gt3.false) in
    let p = at_line (λ (y : Number). precision_holds y.precision) c.precision_holds.ensures c.number_in-x.ensures (c.if-not-precision_holds.false) in
    let s : length l ≡ line_size (number_in l) = c.if-line-line_size.false ∙ c.line_size.ensures ∙ ap line_size c.number_in-x.ensures in
    rw c.fault-then-not-exponent_holds.ensures (refused_head l _ (no_exponent l long digits k p s (exponent_in l ∙ at_line (λ (y : Number). exponent_holds (operand_of y [])) c.exponent_holds.ensures c.number_in-x.ensures (c.if-not-exponent_holds.true))))

pub returns : goal.returns
returns c =
    let l : List ℕ = c.args.line.now in
    let long = c.requires.1 in
    let digits = c.requires.0 in
    let k : kind_in l ≤ 3 = omega (arith, c.field_at.ensures.0, kind_is l, c.if-field_at-gt3.false) in
    let p = at_line (λ (y : Number). precision_holds y.precision) c.precision_holds.ensures c.number_in-x.ensures (c.if-not-precision_holds.false) in
    let s : length l ≡ line_size (number_in l) = c.if-line-line_size.false ∙ c.line_size.ensures ∙ ap line_size c.number_in-x.ensures in
    accepted_head l _ (head_accepted l long digits k p s (exponent_in l ∙ at_line (λ (y : Number). exponent_holds (operand_of y [])) c.exponent_holds.ensures c.number_in-x.ensures (c.if-not-exponent_holds.false))) c.number_in-x.ensures
