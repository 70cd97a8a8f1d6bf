-- A sum from its fields. Definitions only.
use Rattle.std.specs.Prelude.{cond, Ok, Err}
use Rattle.reports.specs.declared.report.Sum.{Sum}
use Rattle.reports.specs.declared.laid_out.LaidOut.{LaidOut}

-- what is refused has the refusal, and what is not the number and its ternary value
unfoldable pub sum_in : LaidOut → Sum
sum_in l = record { depth = l.depth; first = l.first; answer = cond l.is_refused (Err l.refusal) (Ok (record { number = record { negative = l.negative; kind = l.kind; precision = l.precision; exponent = l.exponent }; ternary = l.ternary })); second = l.second }
