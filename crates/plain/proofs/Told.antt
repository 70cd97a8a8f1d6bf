-- Plain fields say the number that they were made of, and a refused comparison gives 0 beside its number. Assumes nothing.
use Rattle.std.proofs.Common.{◌≡◌, refl, sym, ℕ, List, pos}
use Rattle.std.specs.Prelude.{Result, Ok, Err, MatchResult}
use Rattle.checks.specs.declared.Number.{Number}
use Rattle.checks.specs.declared.Refusal.{Refusal}
use Rattle.checks.specs.declared.Kind.{Kind}
use Rattle.checks.specs.declared.Kind.TheVariants.{Regular, Zero}
use Rattle.checks.specs.Number.{is_zero_kind, operand_of, turned_number}
use Rattle.checks.specs.Refusal.{rule_number, place_number}
use Rattle.checks.specs.Check.{answered, compared_refusal}
use Rattle.order.specs.Order.{order_of, case_of, sign_of, compared_of}
use Rattle.order.proofs.Laws.{case_number}
use Rattle.plain.specs.declared.PlainNumber.{PlainNumber}
use Rattle.plain.specs.Answers.{number_told, order_told}
use Rattle.plain.specs.Plain.{kind_from, number_from}

pub kind_back : (k : Kind) → kind_from (is_zero_kind k) ≡ k
unfolding kind_from is_zero_kind
kind_back Regular = refl
kind_back Zero = refl

-- every field is kept, and the bool tells the kind
pub told_back : (x : Number) → number_from (number_told x) ≡ x
unfolding number_from number_told
told_back x = rw (kind_back x.kind)

pub turned_told : (x r : PlainNumber) (a b : Number) → a ≡ number_from x → b ≡ turned_number a → r ≡ number_told b → number_from r ≡ turned_number (number_from x)
turned_told x r a b first turned told = rw (told, told_back b, sym first) turned

-- "a refused comparison gives 0 beside its number", and an accepted one the sign of x - y
pub compared_number : (x y : Number) (xl yl : List ℕ) → let a = operand_of x xl in let b = operand_of y yl in
    MatchResult (compared_refusal a b)
    (λ u. order_told (compared_of x xl y yl) ≡ record { order = sign_of (order_of a b); rule = 0; place = 0 })
    (λ r. order_told (compared_of x xl y yl) ≡ record { order = pos 0; rule = rule_number r.rule; place = place_number r.place })
unfolding compared_of answered order_told
compared_number x y xl yl = go (compared_refusal (operand_of x xl) (operand_of y yl))
  where
    go : (c : Result (Unit {0}) Refusal) → let o = order_of (operand_of x xl) (operand_of y yl) in
        MatchResult c
        (λ u. order_told (answered c (case_of o)) ≡ record { order = sign_of o; rule = 0; place = 0 })
        (λ r. order_told (answered c (case_of o)) ≡ record { order = pos 0; rule = rule_number r.rule; place = place_number r.place })
    go (Ok u) = rw (case_number (order_of (operand_of x xl) (operand_of y yl)))
    go (Err r) = refl
