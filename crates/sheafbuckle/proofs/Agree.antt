-- Two answers of add, subtract or re-round that meet a promise agree. Assumes nothing.
use mathlib.Core.Path.{◌≡◌, sym, ap, ◌∙◌}
use mathlib.Core.List.{List}
use Prim.Native.Nat.{ℕ}
use Rattle.checks.specs.declared.Number.{Number}
use Rattle.depth.specs.Depth.{Operation}
use Rattle.reports.specs.Summed.{Summed, Rerounded}
use Rattle.reports.proofs.Agree.{summed_unique, rerounded_unique}
use Rattle.plain.specs.declared.PlainSum.{PlainSum}
use Rattle.reports.specs.declared.report.Sum.{Sum}
use Rattle.plain.specs.Answers.{sum_told}

-- add, subtract, re-round
pub summed_agree : (f : Operation) (mode : ℕ) (x : Number) (xl : List ℕ) (y : Number) (yl : List ℕ) (p : ℕ) (entry : List ℕ) (a b : PlainSum) (exit left : List ℕ)
    → (s : Sum) × ((a ≡ sum_told s) × Summed f mode x xl y yl p entry exit s) → (s : Sum) × ((b ≡ sum_told s) × Summed f mode x xl y yl p entry left s) → (a ≡ b) × (exit ≡ left)
summed_agree f mode x xl y yl p entry a b exit left h k =
    let same = summed_unique f mode x xl y yl p entry h.0 k.0 exit left h.1.1 k.1.1 in
    (h.1.0 ∙ ap sum_told same.0 ∙ sym k.1.0, same.1)

pub rerounded_agree : (mode : ℕ) (x : Number) (xl : List ℕ) (p : ℕ) (entry : List ℕ) (a b : PlainSum) (exit left : List ℕ)
    → (s : Sum) × ((a ≡ sum_told s) × Rerounded mode x xl p entry exit s) → (s : Sum) × ((b ≡ sum_told s) × Rerounded mode x xl p entry left s) → (a ≡ b) × (exit ≡ left)
rerounded_agree mode x xl p entry a b exit left h k =
    let same = rerounded_unique mode x xl p entry h.0 k.0 exit left h.1.1 k.1.1 in
    (h.1.0 ∙ ap sum_told same.0 ∙ sym k.1.0, same.1)
