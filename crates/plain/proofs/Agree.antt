-- Two answers that meet a promise agree: plain fields that say one thing are one. Assumes nothing.
use Rattle.std.proofs.Common.{◌≡◌, refl, sym, ap, ◌∙◌, ℕ, ◌+◌, ◌-◌, Bool, true, false, List, length, drop, arith}
use Rattle.std.proofs.Math.ListN.{length-drop}
use Rattle.std.specs.Prelude.{Result}
use Rattle.checks.specs.declared.Number.{Number}
use Rattle.checks.specs.declared.Refusal.{Refusal}
use Rattle.checks.specs.Number.{is_zero_kind}
use Rattle.doubles.specs.declared.Enclosing.{Enclosing}
use Rattle.parts.specs.Trimmed.{trimmed}
use Rattle.reports.specs.declared.report.Sum.{Sum}
use Rattle.plain.specs.declared.PlainNumber.{PlainNumber}
use Rattle.plain.specs.declared.PlainSum.{PlainSum}
use Rattle.plain.specs.declared.PlainPair.{PlainPair}
use Rattle.plain.specs.declared.PlainRead.{PlainRead}
use Rattle.plain.specs.declared.PlainRun.{PlainRun}
use Rattle.plain.specs.Plain.{kind_from, number_from}
use Rattle.plain.specs.declared.PlainWritten.{PlainWritten}
use Rattle.plain.specs.Answers.{number_told, sum_told, enclosed_told, read_told, written_told}

pub zero_back : (z : Bool) → is_zero_kind (kind_from z) ≡ z
unfolding kind_from is_zero_kind
zero_back true = refl
zero_back false = refl

number_back : (x : PlainNumber) → number_told (number_from x) ≡ x
unfolding number_from number_told
number_back x = rw (zero_back x.zero)

-- turn the sign
pub number_unique : (a b : PlainNumber) → number_from a ≡ number_from b → a ≡ b
number_unique a b e = sym (number_back a) ∙ ap number_told e ∙ number_back b

-- a sum
pub sum_unique : (s : Sum) (a b : PlainSum) → a ≡ sum_told s → b ≡ sum_told s → a ≡ b
sum_unique s a b p q = p ∙ sym q

-- the enclosing pair, and from double
pub pair_unique : (e : Result Enclosing Refusal) (a b : PlainPair) → a ≡ enclosed_told e → b ≡ enclosed_told e → a ≡ b
pair_unique e a b p q = p ∙ sym q

pub read_unique : (r : Result Number Refusal) (a b : PlainRead) → a ≡ read_told r → b ≡ read_told r → a ≡ b
read_unique r a b p q = p ∙ sym q

-- a line's head, and a line read; a line written
pub head_unique : (h : Result Number Refusal) (a b : PlainRead) → a ≡ read_told h → b ≡ read_told h → a ≡ b
head_unique h a b p q = p ∙ sym q

pub written_unique : (w : Result ℕ Refusal) (a b : PlainWritten) → a ≡ written_told w → b ≡ written_told w → a ≡ b
written_unique w a b p q = p ∙ sym q

-- trim
pub trim_agree : (l : List ℕ) (a b : PlainRun) → drop a.start l ≡ trimmed l → a.start + a.count ≡ length l
    → drop b.start l ≡ trimmed l → b.start + b.count ≡ length l → (a.start ≡ b.start) × (a.count ≡ b.count)
trim_agree l a b from whole from' whole' =
    let count : length l - a.start ≡ length l - b.start = sym (length-drop a.start l) ∙ ap length from ∙ sym (ap length from') ∙ length-drop b.start l in
    (omega (arith, whole, whole', count), omega (arith, whole, whole', count))
