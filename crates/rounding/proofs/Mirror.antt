-- Turning both signs exchanges up and down, and turns the answer of a sum that is not 0. (A sum that is 0 keeps its sign: exact cancellation gives +0 either way.)
use mathlib.Core.Path.{◌≡◌, refl, sym, ap, ◌∙◌}
use mathlib.Core.Bool.{Bool, true, false, not, cond, beq, not-not}
use Prim.Native.Nat.{ℕ, ◌+◌, ◌<◌, compare, Ordering}
use lib.Dec.{ltb}
use lib.Ieee.{size}
use Rattle.numbers.specs.Limits.{least_exponent, most_exponent}
use Rattle.numbers.specs.Operand.{Operand, mantissa, last_weight, turned}
use Rattle.rounding.specs.Mode.{Way, way}
use Rattle.rounding.specs.declared.Mode.{Mode}
use Rattle.rounding.specs.Select.{chosen}
use Rattle.rounding.specs.Answer.{Answer, zero_of, number, too_large, too_small, ranged, digits, signed, rounded}
use Rattle.rounding.specs.Sum.{scale, amount, share, add}
use Rattle.rounding.specs.Paper.{Exact}
use Rattle.rounding.proofs.Summed.{add_rounds}
use Rattle.rounding.specs.declared.Mode.TheVariants.{Nearest, Zeroward, Upward, Downward}

-- the mode that does below zero what o does above
unfoldable pub mirrored : Mode → Mode
mirrored Nearest = Nearest
mirrored Zeroward = Zeroward
mirrored Upward = Downward
mirrored Downward = Upward

-- an answer with the other sign
unfoldable pub negated : Answer → Answer
negated (zero_of n) = zero_of (not n)
negated (number n e d t) = number (not n) e d (signed true t)
negated too_large = too_large
negated too_small = too_small

way_mirrored : (o : Mode) (n : Bool) → way (mirrored o) (not n) ≡ way o n
unfolding way mirrored
way_mirrored Nearest n = refl
way_mirrored Zeroward n = refl
way_mirrored Upward true = refl
way_mirrored Upward false = refl
way_mirrored Downward true = refl
way_mirrored Downward false = refl

signed_not : (n : Bool) (t : Ordering) → signed (not n) t ≡ signed true (signed n t)
unfolding signed
signed_not false t = refl
signed_not true Ordering.lt = refl
signed_not true Ordering.eq = refl
signed_not true Ordering.gt = refl

rounded_negated : (w : Way) (p s : ℕ) (n : Bool) (m : ℕ) → rounded w p s (not n) m ≡ negated (rounded w p s n m)
unfolding rounded ranged negated
rounded_negated w p s n m = go (ltb most_exponent (size c + s)) (ltb (size c + s) least_exponent)
  where
    c : ℕ
    c = chosen w p m

    go : (a b : Bool) → cond a too_large (cond b too_small (number (not n) (size c + s) (digits p c) (signed (not n) (compare c m)))) ≡ negated (cond a too_large (cond b too_small (number n (size c + s) (digits p c) (signed n (compare c m)))))
    go true b = refl
    go false true = refl
    go false false = ap (number (not n) (size c + s) (digits p c)) (signed_not n (compare c m))

-- ---- the operands

pub share_turned : (b : Bool) (s : ℕ) (x : Operand) → share b s (turned x) ≡ share (not b) s x
unfolding share turned amount mantissa last_weight
share_turned b s x = ap (λ (c : Bool). cond c (amount s x) 0) (other x.negative b)
  where
    other : (a b : Bool) → beq (not a) b ≡ beq a (not b)
    other true true = refl
    other true false = refl
    other false true = refl
    other false false = refl

exact_turned : (s : ℕ) (x y : Operand) (n : Bool) (m : ℕ) → Exact s x y n m → Exact s (turned x) (turned y) (not n) m
exact_turned s x y n m e = rw (not-not n, share_turned n s x, share_turned n s y, share_turned (not n) s x, share_turned (not n) s y, not-not n) e

pub scale_turned : (x y : Operand) → scale (turned x) (turned y) ≡ scale x y
unfolding scale turned last_weight
scale_turned x y = refl

pub add_turned : (o : Mode) (p : ℕ) (x y : Operand) (n : Bool) (m : ℕ) → 0 < p → 0 < m → Exact (scale x y) x y n m → add (mirrored o) p (turned x) (turned y) ≡ negated (add o p x y)
add_turned o p x y n m P M e =
    add_rounds (mirrored o) p (turned x) (turned y) (not n) m P M (rw scale_turned (exact_turned (scale x y) x y n m e))
    ∙ ap (λ (s : ℕ). rounded (way (mirrored o) (not n)) p s (not n) m) (scale_turned x y)
    ∙ ap (λ (w : Way). rounded w p (scale x y) (not n) m) (way_mirrored o n)
    ∙ rounded_negated (way o n) p (scale x y) n m ∙ ap negated (sym (add_rounds o p x y n m P M e))
