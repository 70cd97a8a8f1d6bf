-- Two numbers in order, as a caller hands them over: their pair, their first column from the top limbs, and the course from its start. Assumes nothing.
use mathlib.Core.Path.{◌≡◌, refl, sym, ap, ◌∙◌}
use mathlib.Core.Bool.{Bool, true, false, not, cond, beq}
use mathlib.Core.List.{List, []}
use Prim.Native.Nat.{ℕ, suc, ◌+◌, ◌-◌, ◌*◌, ◌/◌, ◌^◌, ◌<◌, zero-le}
use native.Mathlib.Nat.{div-div-eq-div-mul}
use native.Mathlib.Omega.{arith}
use lib.ListN.{length, get_or, drop, drop_of_length-le}
use lib.Pow.{pow-add}
use Rattle.columns.proofs.Reading.{read_early}
use Rattle.limb.specs.Value.{value_of, Below}
use Rattle.limb.proofs.Value.{value_nil, value_drop, value_shr, base_pow}
use Rattle.numbers.specs.Limits.{counted}
use Rattle.numbers.specs.Operand.{Operand, WellFormed}
use Rattle.numbers.proofs.Limits.{two_digits, limbs_hold}
use Rattle.checks.specs.declared.Number.{Number}
use Rattle.checks.specs.Number.{operand_of}
use Rattle.columns.specs.Column.{read_to}
use Rattle.leap.proofs.Leaping.{read_down}
use Rattle.bridge.specs.Verdict.{pair_of, Ordered}
use Rattle.descent.specs.Course.{Course}

pub ordered_pair : (x : Number) (xl : List ℕ) (y : Number) (yl : List ℕ) (c d : ℕ) → (operand_of y yl).is_zero ≡ false → c ≡ counted x.exponent → d ≡ counted y.exponent
    → record { same = beq x.negative y.negative; first = x.precision; second = y.precision; gap = c - d; top = c } ≡ pair_of (operand_of x xl) (operand_of y yl)
unfolding pair_of operand_of
ordered_pair x xl y yl c d e f g = rw (e, f, g) (ap (λ (b : Bool). record { same = b; first = x.precision; second = y.precision; gap = counted x.exponent - counted y.exponent; top = counted x.exponent }) (like x.negative y.negative))
  where
    like : (a b : Bool) → beq a b ≡ cond a b (not b)
    like true true = refl
    like true false = refl
    like false true = refl
    like false false = refl

-- the order of two signs does not tell whether they are alike
pub beq_turned : (a b : Bool) → beq a b ≡ beq b a
beq_turned true true = refl
beq_turned true false = refl
beq_turned false true = refl
beq_turned false false = refl

-- ---- the top limb is the first column

pub limbs_some : (x : Operand) → WellFormed x → 0 < length x.limbs
limbs_some x h = rw h.count (omega (arith, two_digits, h.least, limbs_hold x.precision))

pub handed_some : (x : Number) (xl : List ℕ) → WellFormed (operand_of x xl) → 0 < length xl
unfolding operand_of
handed_some x xl g = limbs_some (operand_of x xl) g

pub top_read : (gap : ℕ) (l : List ℕ) → Below (2 ^ 64) l → 0 < length l → read_to 1 gap l ≡ get_or l (length l - 1) 0 / 2 ^ gap
top_read gap l below some =
    sym (read_down 1 gap l (omega arith))
    ∙ ap (λ (m : ℕ). value_of l / m) (ap (λ (m : ℕ). 2 ^ m) (places (length l) some) ∙ pow-add 2 (64 * (length l - 1)) gap)
    ∙ sym (div-div-eq-div-mul (value_of l) (2 ^ (64 * (length l - 1))) (2 ^ gap))
    ∙ ap (λ (m : ℕ). m / 2 ^ gap) (ap (λ (m : ℕ). value_of l / m) (sym (base_pow (length l - 1))) ∙ value_shr (2 ^ 64) (length l - 1) l below ∙ last)
  where
    places : (n : ℕ) → 0 < n → 64 * n + gap - 64 ≡ 64 * (n - 1) + gap
    places n h = omega arith

    last : value_of (drop (length l - 1) l) ≡ get_or l (length l - 1) 0
    last =
        let none : drop (suc (length l - 1)) l ≡ [] = drop_of_length-le l {i = suc (length l - 1)} (omega arith) in
        value_drop (2 ^ 64) (length l - 1) l ∙ rw (none, value_nil) (omega arith)

pub top_first : (x : Operand) → WellFormed x → read_to 1 0 x.limbs ≡ get_or x.limbs (length x.limbs - 1) 0
top_first x g = top_read 0 x.limbs g.limb (limbs_some x g) ∙ whole (get_or x.limbs (length x.limbs - 1) 0)
  where
    whole : (n : ℕ) → n / 2 ^ 0 ≡ n
    whole n = omega arith

-- ---- the course from its start, where the first column shows the larger

pub course_first : (x y : Operand) → Ordered x y → ((pair_of x y).same ≡ false → read_to 1 (pair_of x y).gap y.limbs < read_to 1 0 x.limbs) → Course x y 0
course_first x y d larger = record {
  ordered = d;
  sum = λ h. refl;
  level = λ h. read_early (pair_of x y).gap y.limbs d.second.limb 0 zero-le ∙ sym (read_early 0 x.limbs d.first.limb 0 zero-le);
  larger = larger;
  near = zero-le;
}
