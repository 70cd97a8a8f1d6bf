-- Plain fields beside what they say, each field with a value of its own. Assumes nothing.
use mathlib.Core.Path.{◌≡◌, refl}
use mathlib.Core.Bool.{true, false}
use mathlib.Core.List.{[], ◌∷◌, map}
use lib.IntN.{pos, negsuc}
use lib.Ieee.{fin, of_bits, of_fields, odd}
use Rattle.checks.specs.declared.Kind.TheVariants.{Regular, Zero}
use Rattle.std.specs.Prelude.{Result, Ok, Err}
use Rattle.std.specs.declared.cmp.Ordering.TheVariants.{Less, Equal, Greater}
use Rattle.checks.specs.declared.Refusal.{Refusal}
use Rattle.checks.specs.declared.Rule.TheVariants.{Precision, Limbs, TooLarge, DoubleTooLarge}
use Rattle.checks.specs.declared.Rule.TheVariants as rules
use Rattle.checks.specs.declared.Place.TheVariants.{Call, First, Target}
use Rattle.checks.specs.declared.Place.TheVariants as places
use Rattle.checks.specs.Number.{is_zero_kind, nothing}
use Rattle.checks.specs.Refusal.{rule_number, place_number}
use Rattle.order.specs.Order.{number_of}
use Rattle.doubles.specs.declared.Converted.{Converted}
use Rattle.doubles.specs.declared.Converted.TheVariants.{Exact, Below, Above}
use Rattle.unpack.specs.Double.{sign_bit, double}
use Rattle.doubles.specs.Convert.{told, told_case, told_refusal}
use Rattle.plain.specs.declared.PlainNumber.{PlainNumber}
use Rattle.plain.specs.Plain.{kind_from, number_from}
use Rattle.plain.specs.Answers.{number_told, answer_told, sum_told, order_told, value_told, double_told, enclosed_told, read_told, written_told}

-- a regular number and a zero
abbrev minus : PlainNumber
minus = record { precision = 4; exponent = negsuc 0; negative = true; zero = false }

abbrev none : PlainNumber
none = record { precision = 5; exponent = pos 0; negative = false; zero = true }

-- what is told of a number that is refused
abbrev refused_number : PlainNumber
refused_number = record { precision = 2; exponent = pos 0; negative = false; zero = true }

-- the refusal numbers: each rule's and each place's
pub rules_numbered : map rule_number (rules.Mode ∷ rules.Precision ∷ rules.Limbs ∷ rules.Exponent ∷ rules.Form ∷ rules.TooLarge ∷ rules.TooSmall ∷ rules.LineSize ∷ rules.LineByte ∷ rules.LineKind ∷ rules.Operation ∷ rules.DoubleTooLarge ∷ rules.DoubleTooSmall ∷ rules.NoNumber ∷ []) ≡ 1 ∷ 2 ∷ 3 ∷ 4 ∷ 5 ∷ 6 ∷ 7 ∷ 8 ∷ 9 ∷ 10 ∷ 11 ∷ 12 ∷ 13 ∷ 14 ∷ []
unfolding rule_number
rules_numbered = refl

pub places_numbered : map place_number (places.Call ∷ places.First ∷ places.Second ∷ places.Target ∷ []) ≡ 0 ∷ 1 ∷ 2 ∷ 3 ∷ []
unfolding place_number
places_numbered = refl

pub numbers_said : map number_from (minus ∷ none ∷ []) ≡ record { negative = true; kind = Regular; precision = 4; exponent = negsuc 0 } ∷ record { negative = false; kind = Zero; precision = 5; exponent = pos 0 } ∷ []
unfolding number_from kind_from
numbers_said = refl

-- the depth and the counts, then the answer; a refused sum has +0 of precision 2 and 0
pub sums_told :
    map sum_told
    (record { depth = 1; first = 2; answer = Ok (record { number = number_from minus; ternary = negsuc 0 }); second = 3 }
    ∷ record { depth = 1; first = 2; answer = Err (record { rule = TooLarge; place = Target }); second = 3 }
    ∷ [])
    ≡ record { number = minus; depth = 1; first = 2; second = 3; ternary = negsuc 0; rule = 0; place = 0 }
    ∷ record { number = refused_number; depth = 1; first = 2; second = 3; ternary = pos 0; rule = 6; place = 3 }
    ∷ []
unfolding sum_told answer_told number_told number_from kind_from is_zero_kind nothing rule_number place_number
sums_told = refl

-- -1, 0 and 1; or the refusal's number, then its place
pub orders_told :
    map order_told (Ok Less ∷ Ok Equal ∷ Ok Greater ∷ Err (record { rule = Precision; place = First }) ∷ [])
    ≡ record { order = negsuc 0; rule = 0; place = 0 } ∷ record { order = pos 0; rule = 0; place = 0 } ∷ record { order = pos 1; rule = 0; place = 0 } ∷ record { order = pos 0; rule = 2; place = 1 } ∷ []
unfolding order_told number_of rule_number place_number
orders_told = refl

-- the case's number, the refusal's number and place are those of `told`; a refusal has +0
pub doubles_told : (c : Result Converted Refusal) → ((double_told c).ternary ≡ (told c).case) × ((double_told c).rule ≡ (told c).rule) × ((double_told c).place ≡ (told c).place)
unfolding double_told value_told told told_case told_refusal
doubles_told (Ok (Exact d)) = (refl, refl, refl)
doubles_told (Ok (Below d)) = (refl, refl, refl)
doubles_told (Ok (Above d)) = (refl, refl, refl)
doubles_told (Err r) = (refl, refl, refl)

pub refused_told : (double_told (Err (record { rule = DoubleTooLarge; place = Call }))).value ≡ fin false 0 (pos 0)
unfolding double_told double sign_bit of_bits of_fields odd
refused_told = refl

pub answers_told :
    (map enclosed_told (Ok (record { lower = fin true 1 (pos 0); upper = fin false 1 (pos 0) }) ∷ Err (record { rule = Precision; place = First }) ∷ [])
    ≡ record { lower = fin true 1 (pos 0); upper = fin false 1 (pos 0); rule = 0; place = 0 } ∷ record { lower = fin false 0 (pos 0); upper = fin false 0 (pos 0); rule = 2; place = 1 } ∷ [])
    × (map read_told (Ok (number_from minus) ∷ Err (record { rule = Limbs; place = Target }) ∷ []) ≡ record { number = minus; rule = 0; place = 0 } ∷ record { number = refused_number; rule = 3; place = 3 } ∷ [])
    × (map written_told (Ok 15 ∷ Err (record { rule = Limbs; place = Target }) ∷ []) ≡ record { count = 15; rule = 0; place = 0 } ∷ record { count = 0; rule = 3; place = 3 } ∷ [])
unfolding enclosed_told read_told written_told number_told number_from kind_from is_zero_kind nothing rule_number place_number double sign_bit of_bits of_fields odd
answers_told = (refl, refl, refl)
