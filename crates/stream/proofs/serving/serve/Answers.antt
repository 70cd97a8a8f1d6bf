-- `stream::serve`: what is lent is looked at first. Assumes nothing.
use Rattle.stream.specs.Serving.{state_of}
use mathlib.Core.Path.{sym, ◌∙◌}
use Rattle.stream.proofs.Pieces.{serve_unready}
use Rattle.stream.proofs.serving.serve.Goals as goal

pub returns-then-not-ready-clause-served : goal.returns-then-not-ready-clause-served
returns-then-not-ready-clause-served c = serve_unready (state_of c.args.lines.now) c.args.bytes.now c.args.out.now (sym c.ready.ensures ∙ c.if-not-ready.true)

pub serve_groups-requires : goal.serve_groups-requires
serve_groups-requires c = sym c.ready.ensures ∙ c.if-not-ready.false
