-- Two answers that differ are never told alike: what is told says the answer. Assumes nothing.
use Rattle.std.proofs.Common.{◌≡◌, refl, sym, ap, ◌∙◌, ℕ, ◌-◌, [], ◌∷◌, get_or, ℤ}
use Rattle.std.specs.Prelude.{Result, Ok, Err}
use Rattle.checks.specs.declared.Number.{Number}
use Rattle.checks.specs.declared.Refusal.{Refusal}
use Rattle.checks.specs.declared.Rule.{Rule}
use Rattle.checks.specs.declared.Rule.TheVariants.{Mode, Precision, Limbs, Exponent, Form, TooLarge, TooSmall, LineSize, LineByte, LineKind, Operation, DoubleTooLarge, DoubleTooSmall, NoNumber}
use Rattle.checks.specs.declared.Place.{Place}
use Rattle.checks.specs.declared.Place.TheVariants.{Call, First, Second, Target}
use Rattle.checks.specs.Refusal.{rule_number, place_number}
use Rattle.checks.proofs.Tables.{some_rule}
use Rattle.doubles.specs.declared.Enclosing.{Enclosing}
use Rattle.reports.specs.declared.report.Rounded.{Rounded}
use Rattle.reports.specs.declared.report.Sum.{Sum}
use Rattle.plain.specs.declared.PlainSum.{PlainSum}
use Rattle.plain.specs.declared.PlainPair.{PlainPair}
use Rattle.plain.specs.declared.PlainRead.{PlainRead}
use Rattle.plain.specs.declared.PlainWritten.{PlainWritten}
use Rattle.plain.specs.Plain.{number_from}
use Rattle.plain.specs.Answers.{number_told, answer_told, sum_told, enclosed_told, read_told, written_told}
use Rattle.plain.proofs.Told.{told_back}

-- ---- a refusal by its two numbers

rule_at : ℕ → Rule
rule_at n = get_or (Mode ∷ Precision ∷ Limbs ∷ Exponent ∷ Form ∷ TooLarge ∷ TooSmall ∷ LineSize ∷ LineByte ∷ LineKind ∷ Operation ∷ DoubleTooLarge ∷ DoubleTooSmall ∷ NoNumber ∷ []) (n - 1) Mode

rule_back : (r : Rule) → rule_at (rule_number r) ≡ r
unfolding rule_at rule_number
rule_back Mode = refl
rule_back Precision = refl
rule_back Limbs = refl
rule_back Exponent = refl
rule_back Form = refl
rule_back TooLarge = refl
rule_back TooSmall = refl
rule_back LineSize = refl
rule_back LineByte = refl
rule_back LineKind = refl
rule_back Operation = refl
rule_back DoubleTooLarge = refl
rule_back DoubleTooSmall = refl
rule_back NoNumber = refl

place_at : ℕ → Place
place_at n = get_or (Call ∷ First ∷ Second ∷ Target ∷ []) n Call

place_back : (p : Place) → place_at (place_number p) ≡ p
unfolding place_at place_number
place_back Call = refl
place_back First = refl
place_back Second = refl
place_back Target = refl

refusal_apart : (r q : Refusal) → rule_number r.rule ≡ rule_number q.rule → place_number r.place ≡ place_number q.place → r ≡ q
refusal_apart r q e f =
    let a : r.rule ≡ q.rule = sym (rule_back r.rule) ∙ ap rule_at e ∙ rule_back q.rule in
    let b : r.place ≡ q.place = sym (place_back r.place) ∙ ap place_at f ∙ place_back q.place in
    ap (λ (x : Rule). record { rule = x; place = r.place }) a ∙ ap (λ (x : Place). record { rule = q.rule; place = x }) b

number_apart : (x y : Number) → number_told x ≡ number_told y → x ≡ y
number_apart x y e = sym (told_back x) ∙ ap number_from e ∙ told_back y

-- ---- answers

pub read_apart : (a b : Result Number Refusal) → read_told a ≡ read_told b → a ≡ b
unfolding read_told
read_apart (Ok x) (Ok y) e = ap Ok (number_apart x y (ap (λ (p : PlainRead). p.number) e))
read_apart (Ok x) (Err r) e = absurd (some_rule r.rule (sym (ap (λ (p : PlainRead). p.rule) e)))
read_apart (Err r) (Ok y) e = absurd (some_rule r.rule (ap (λ (p : PlainRead). p.rule) e))
read_apart (Err r) (Err q) e = ap Err (refusal_apart r q (ap (λ (p : PlainRead). p.rule) e) (ap (λ (p : PlainRead). p.place) e))

pub written_apart : (a b : Result ℕ Refusal) → written_told a ≡ written_told b → a ≡ b
unfolding written_told
written_apart (Ok x) (Ok y) e = ap Ok (ap (λ (p : PlainWritten). p.count) e)
written_apart (Ok x) (Err r) e = absurd (some_rule r.rule (sym (ap (λ (p : PlainWritten). p.rule) e)))
written_apart (Err r) (Ok y) e = absurd (some_rule r.rule (ap (λ (p : PlainWritten). p.rule) e))
written_apart (Err r) (Err q) e = ap Err (refusal_apart r q (ap (λ (p : PlainWritten). p.rule) e) (ap (λ (p : PlainWritten). p.place) e))

pub pair_apart : (a b : Result Enclosing Refusal) → enclosed_told a ≡ enclosed_told b → a ≡ b
unfolding enclosed_told
pair_apart (Ok x) (Ok y) e = ap (λ (p : PlainPair). Ok (record { lower = p.lower; upper = p.upper })) e
pair_apart (Ok x) (Err r) e = absurd (some_rule r.rule (sym (ap (λ (p : PlainPair). p.rule) e)))
pair_apart (Err r) (Ok y) e = absurd (some_rule r.rule (ap (λ (p : PlainPair). p.rule) e))
pair_apart (Err r) (Err q) e = ap Err (refusal_apart r q (ap (λ (p : PlainPair). p.rule) e) (ap (λ (p : PlainPair). p.place) e))

rounded_apart : (a b : Rounded) → number_told a.number ≡ number_told b.number → a.ternary ≡ b.ternary → a ≡ b
rounded_apart a b e f = ap (λ (x : Number). record { number = x; ternary = a.ternary }) (number_apart a.number b.number e) ∙ ap (λ (t : ℤ). record { number = b.number; ternary = t }) f

sum_of_fields : (d f s : ℕ) (a : Result Rounded Refusal) → Sum
sum_of_fields d f s a = record { depth = d; first = f; answer = a; second = s }

answer_apart : (a b : Result Rounded Refusal) (d f s i j k : ℕ) → answer_told a d f s ≡ answer_told b i j k → sum_of_fields d f s a ≡ sum_of_fields i j k b
unfolding answer_told sum_of_fields
answer_apart (Ok a) (Ok b) d f s i j k e =
    let same : a ≡ b = rounded_apart a b (ap (λ (p : PlainSum). p.number) e) (ap (λ (p : PlainSum). p.ternary) e) in
    ap (λ (p : PlainSum). sum_of_fields p.depth p.first p.second (Ok a)) e ∙ ap (λ (x : Rounded). sum_of_fields i j k (Ok x)) same
answer_apart (Ok a) (Err r) d f s i j k e = absurd (some_rule r.rule (sym (ap (λ (p : PlainSum). p.rule) e)))
answer_apart (Err r) (Ok b) d f s i j k e = absurd (some_rule r.rule (ap (λ (p : PlainSum). p.rule) e))
answer_apart (Err r) (Err q) d f s i j k e =
    let same : r ≡ q = refusal_apart r q (ap (λ (p : PlainSum). p.rule) e) (ap (λ (p : PlainSum). p.place) e) in
    ap (λ (p : PlainSum). sum_of_fields p.depth p.first p.second (Err r)) e ∙ ap (λ (x : Refusal). sum_of_fields i j k (Err x)) same

pub sum_apart : (s t : Sum) → sum_told s ≡ sum_told t → s ≡ t
unfolding sum_told sum_of_fields
sum_apart s t e = answer_apart s.answer t.answer s.depth s.first s.second t.depth t.first t.second e
