-- Two answers that meet a promise of add, subtract or re-round agree: number, ternary value, depth, counts, refusal, place and target. Assumes nothing.
use mathlib.Core.Path.{◌≡◌, refl, sym, ap, ◌∙◌}
use mathlib.Core.Bool.{Bool, true, false, ◌&&◌}
use mathlib.Core.List.{List}
use Prim.Native.Nat.{ℕ}
use Rattle.std.specs.Prelude.{Result, Ok, Err}
use lib.ListN.{length}
use Rattle.numbers.specs.Operand.{Operand, zero_like}
use Rattle.rounding.specs.Mode.{mode_of}
use Rattle.rounding.specs.declared.Mode.{Mode}
use Rattle.depth.specs.Columns.{top_exponent, limbs_used}
use Rattle.depth.specs.Depth.{Operation, plus, result, Depth}
use Rattle.depth.proofs.Least.{deciding_unique}
use Rattle.checks.specs.declared.Number.{Number}
use Rattle.checks.specs.declared.Refusal.{Refusal}
use Rattle.checks.specs.Number.{operand_of}
use Rattle.checks.specs.Check.{accepted, pair_refusal, single_refusal}
use Rattle.reports.specs.declared.report.Sum.{Sum}
use Rattle.reports.specs.Summed.{sum_of, Reported, Refused, Summed, Rerounded}

-- nothing is refused, or something is
pub accepted_or : (c : Result (Unit {0}) Refusal) → Dec (c ≡ accepted)
unfolding accepted
accepted_or (Ok u) = yes refl
accepted_or (Err r) = no (λ e. cc e)

-- one answer and one state of the target
abbrev Same : Sum → List ℕ → Sum → List ℕ → Type 0
Same r exit s left = (r ≡ s) × (exit ≡ left)

module _ (f : Operation) (o : Mode) (p : ℕ) (x y : Operand) where
  depth_unique : (j k : ℕ) → Depth f o p x y j → Depth f o p x y k → j ≡ k
  depth_unique j k a b = go (x.is_zero && y.is_zero) refl
    where
      go : (c : Bool) → (x.is_zero && y.is_zero) ≡ c → j ≡ k
      go true e = a.zeros e ∙ sym (b.zeros e)
      go false e = deciding_unique f o p x y j k (a.deciding e) (b.deciding e)

  pub reported_unique : (r s : Sum) (exit left : List ℕ) → Reported f o p x y exit r → Reported f o p x y left s → Same r exit s left
  reported_unique r s exit left a b =
      let d : r.depth ≡ s.depth = depth_unique r.depth s.depth a.depth b.depth in
      (a.answer ∙ ap (λ (k : ℕ). sum_of (result f o p x y) p k (limbs_used (top_exponent x y) k x) (limbs_used (top_exponent x y) k y)) d ∙ sym b.answer, a.target ∙ sym b.target)

refused_unique : (c : Refusal) (entry : List ℕ) (r s : Sum) (exit left : List ℕ) → Refused c entry exit r → Refused c entry left s → Same r exit s left
refused_unique c entry r s exit left a b = (a.answer ∙ sym b.answer, a.target ∙ sym b.target)

pub summed_unique : (f : Operation) (mode : ℕ) (x : Number) (xl : List ℕ) (y : Number) (yl : List ℕ) (p : ℕ) (entry : List ℕ) (r s : Sum) (exit left : List ℕ)
    → Summed f mode x xl y yl p entry exit r → Summed f mode x xl y yl p entry left s → Same r exit s left
unfolding accepted
summed_unique f mode x xl y yl p entry r s exit left a b = go (pair_refusal mode (operand_of x xl) (operand_of y yl) p (length entry)) refl
  where
    go : (c : Result (Unit {0}) Refusal) → pair_refusal mode (operand_of x xl) (operand_of y yl) p (length entry) ≡ c → Same r exit s left
    go (Ok u) e = reported_unique f (mode_of mode) p (operand_of x xl) (operand_of y yl) r s exit left (a.reported e) (b.reported e)
    go (Err c) e = refused_unique c entry r s exit left (a.refused c e) (b.refused c e)

pub rerounded_unique : (mode : ℕ) (x : Number) (xl : List ℕ) (p : ℕ) (entry : List ℕ) (r s : Sum) (exit left : List ℕ)
    → Rerounded mode x xl p entry exit r → Rerounded mode x xl p entry left s → Same r exit s left
unfolding accepted
rerounded_unique mode x xl p entry r s exit left a b = go (single_refusal mode (operand_of x xl) p (length entry)) refl
  where
    go : (c : Result (Unit {0}) Refusal) → single_refusal mode (operand_of x xl) p (length entry) ≡ c → Same r exit s left
    go (Ok u) e = reported_unique plus (mode_of mode) p (operand_of x xl) (zero_like (operand_of x xl)) r s exit left (a.reported e) (b.reported e)
    go (Err c) e = refused_unique c entry r s exit left (a.refused c e) (b.refused c e)
