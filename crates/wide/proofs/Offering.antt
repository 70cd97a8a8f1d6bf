-- Two operands in order are held, and any two that are so held can be laid out so. Assumes nothing.
use mathlib.Core.Path.{◌≡◌, refl, sym, ap, ◌∙◌, subst}
use mathlib.Core.Bool.{Bool, true, false, beq}
use mathlib.Core.List.{List}
use Prim.Native.Nat.{ℕ, ◌-◌, ◌≤◌}
use native.Mathlib.Omega.{arith}
use Rattle.numbers.specs.Operand.{Operand}
use Rattle.settle.specs.declared.rows.Pair.{Pair}
use Rattle.bridge.specs.Verdict.{pair_of}
use Rattle.bridge.proofs.Told.{pair_first, pair_second, pair_gap, pair_same, pair_top}
use Rattle.wide.specs.declared.order.Operands.{Operands}
use Rattle.wide.specs.Filling.{Holding, Offered}
use Rattle.wide.specs.Sides.{larger_of, other_of}

abbrev pub offered : (o : Operands) → Offered o.pair o.first.now o.second.now
offered o = record { larger = larger_of o.negative o.pair o.first.now; other = other_of o.negative o.pair o.second.now; holding = o.held }

-- a number that is no zero, by its parts
regular_is : (x : Operand) {n : Bool} {p e : ℕ} {l : List ℕ} → n ≡ x.negative → x.is_zero ≡ false → p ≡ x.precision → e ≡ x.exponent → l ≡ x.limbs → x ≡ record { negative = n; is_zero = false; precision = p; exponent = e; limbs = l }
regular_is x n z p e l = rw (n, p, e, l) (ap (λ (b : Bool). record { negative = x.negative; is_zero = b; precision = x.precision; exponent = x.exponent; limbs = x.limbs }) z)

sign_back : (a b : Bool) → beq (beq a b) a ≡ b
sign_back true true = refl
sign_back true false = refl
sign_back false true = refl
sign_back false false = refl

pub sides : (z w : Operand) (pair : Pair) (first second : List ℕ) → Holding z w pair first second → (negative : Bool) → negative ≡ z.negative → Holding (larger_of negative pair first) (other_of negative pair second) pair first second
sides z w pair first second h negative sign =
    subst (λ (o : Operand). Holding (larger_of negative pair first) o pair first second) other (subst (λ (o : Operand). Holding o w pair first second) larger h)
  where
    part : {A : Type 0} (f : Pair → A) → f pair ≡ f (pair_of z w)
    part f = ap f h.pair_is

    larger : z ≡ larger_of negative pair first
    larger = regular_is z sign h.course.ordered.regular (part (λ (s : Pair). s.first) ∙ pair_first z w) (part (λ (s : Pair). s.top) ∙ pair_top z w) h.first_is

    apart : (m n : ℕ) → n ≤ m → m - (m - n) ≡ n
    apart m n l = omega arith

    below : pair.top - pair.gap ≡ w.exponent
    below = rw (part (λ (s : Pair). s.top) ∙ pair_top z w, part (λ (s : Pair). s.gap) ∙ pair_gap z w h.regular) (apart z.exponent w.exponent (h.course.ordered.order h.regular))

    beside : beq pair.same negative ≡ w.negative
    beside = rw (part (λ (s : Pair). s.same) ∙ pair_same z w h.regular, sign) (sign_back z.negative w.negative)

    other : w ≡ other_of negative pair second
    other = regular_is w beside h.regular (part (λ (s : Pair). s.second) ∙ pair_second z w h.regular) below h.second_is
