-- What the plain fields of an answer say, case by case. Definitions only.
-- Document 01: "For any answer that is an enum, a definition gives this paper's number and values for each of its cases."
use Rattle.std.specs.Prelude.{ℕ, false, pos, negsuc, Result, Ok, Err}
use Rattle.std.specs.declared.cmp.Ordering.{Ordering as Order}
use Rattle.checks.specs.declared.Number.{Number}
use Rattle.checks.specs.declared.Refusal.{Refusal}
use Rattle.checks.specs.Number.{is_zero_kind, nothing}
use Rattle.checks.specs.Refusal.{rule_number, place_number}
use Rattle.order.specs.Order.{number_of}
use Rattle.doubles.specs.declared.Converted.{Converted}
use Rattle.doubles.specs.declared.Converted.TheVariants.{Exact, Below, Above}
use Rattle.doubles.specs.declared.Enclosing.{Enclosing}
use Rattle.unpack.specs.Double.{sign_bit, double}
use Rattle.reports.specs.declared.report.Rounded.{Rounded}
use Rattle.reports.specs.declared.report.Sum.{Sum}
use Rattle.plain.specs.declared.PlainNumber.{PlainNumber}
use Rattle.plain.specs.declared.PlainSum.{PlainSum}
use Rattle.plain.specs.declared.PlainOrder.{PlainOrder}
use Rattle.plain.specs.declared.PlainDouble.{PlainDouble}
use Rattle.plain.specs.declared.PlainPair.{PlainPair}
use Rattle.plain.specs.declared.PlainRead.{PlainRead}
use Rattle.plain.specs.declared.PlainWritten.{PlainWritten}

-- a number's fields, one for one
unfoldable pub number_told : Number → PlainNumber
number_told x = record { precision = x.precision; exponent = x.exponent; negative = x.negative; zero = is_zero_kind x.kind }

-- what a sum's answer is told as, beside the depth and the limbs used; "It returns +0 of precision 2, ternary 0."
unfoldable pub answer_told : Result Rounded Refusal → ℕ → ℕ → ℕ → PlainSum
answer_told (Ok a) depth first second = record { number = number_told a.number; depth = depth; first = first; second = second; ternary = a.ternary; rule = 0; place = 0 }
answer_told (Err r) depth first second = record { number = number_told nothing; depth = depth; first = first; second = second; ternary = pos 0; rule = rule_number r.rule; place = place_number r.place }

unfoldable pub sum_told : Sum → PlainSum
sum_told s = answer_told s.answer s.depth s.first s.second

-- "compare (−1, 0, 1 ..)"; "a refused comparison gives 0 beside its number"
unfoldable pub order_told : Result Order Refusal → PlainOrder
order_told (Ok o) = record { order = number_of o; rule = 0; place = 0 }
order_told (Err r) = record { order = pos 0; rule = rule_number r.rule; place = place_number r.place }

-- exact 0; the double lies below the number −1, above 1
unfoldable pub value_told : Converted → PlainDouble
value_told (Exact d) = record { value = d; ternary = pos 0; rule = 0; place = 0 }
value_told (Below d) = record { value = d; ternary = negsuc 0; rule = 0; place = 0 }
value_told (Above d) = record { value = d; ternary = pos 1; rule = 0; place = 0 }

-- a refusal has +0, and 0 beside its number
unfoldable pub double_told : Result Converted Refusal → PlainDouble
double_told (Ok c) = value_told c
double_told (Err r) = record { value = double (sign_bit false); ternary = pos 0; rule = rule_number r.rule; place = place_number r.place }

-- "Under any refusal both ends are +0"
unfoldable pub enclosed_told : Result Enclosing Refusal → PlainPair
enclosed_told (Ok e) = record { lower = e.lower; upper = e.upper; rule = 0; place = 0 }
enclosed_told (Err r) = record { lower = double (sign_bit false); upper = double (sign_bit false); rule = rule_number r.rule; place = place_number r.place }

-- "A refusal .. returns +0 of precision 2"
unfoldable pub read_told : Result Number Refusal → PlainRead
read_told (Ok x) = record { number = number_told x; rule = 0; place = 0 }
read_told (Err r) = record { number = number_told nothing; rule = rule_number r.rule; place = place_number r.place }

-- "its answer is their count, 0 when refused"
unfoldable pub written_told : Result ℕ Refusal → PlainWritten
written_told (Ok n) = record { count = n; rule = 0; place = 0 }
written_told (Err r) = record { count = 0; rule = rule_number r.rule; place = place_number r.place }
