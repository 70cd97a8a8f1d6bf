-- Document 01's depths: its example, and marked sums 10 and 13.
use Prim.Native.Nat.{ℕ, zero, suc, ◌+◌, ◌-◌, ◌^◌, ◌≤◌, ◌<◌, compare}
use mathlib.Core.Path.{◌≡◌, refl, sym, ◌∙◌}
use mathlib.Core.Bool.{true, false, true≢false}
use mathlib.Core.List.{[], ◌∷◌}
use native.Mathlib.Omega.{arith}
use lib.Dec.{lit≤, lit<}
use lib.Ieee.{size}
use lib.Pow.{pow_pos, pow-lt}
use Rattle.limb.proofs.Value.{one_below}
use Rattle.limb.specs.Value.{value_in, Below}
use Rattle.numbers.specs.Limits.{least_precision, most_precision, bias, least_exponent, most_exponent, limbs_for}
use Rattle.numbers.specs.Operand.{spare_bits, mantissa, last_weight, WellFormed}
use Rattle.rounding.specs.Mode.{Way, way}
use Rattle.rounding.specs.declared.Mode.{Mode}
use Rattle.rounding.specs.Select.{chosen}
use Rattle.rounding.specs.Answer.{too_large, number, digits, signed, rounded, answer}
use Rattle.rounding.specs.Sum.{scale, amount, share, zero_sign, sum_at, add}
use Rattle.rounding.proofs.Between.{is_large}
use Rattle.rounding.proofs.Ends.{plus as positive}
use Rattle.rounding.proofs.Selection.{Rep}
use Rattle.rounding.proofs.Scale.{exact}
use Rattle.rounding.specs.declared.Mode.TheVariants.{Nearest, Upward}
use Rattle.depth.specs.Columns.{top_exponent, limbs_used}
use Rattle.depth.specs.Read.{unread}
use Rattle.depth.specs.Depth.{plus, Deciding}
use Rattle.decide.specs.Table.{same_signs, seen_pair}
use Rattle.decide.specs.Decide.{reaches?, left_over, decide_at}
use Rattle.decide.proofs.Corners.{mid, top, dented, short, long, next, half, corners}
use Rattle.decide.proofs.Decision.{depth_decided}

-- ---- their good form

below_two : (m n : ℕ) → m < 2 ^ 64 → n < 2 ^ 64 → Below (2 ^ 64) (n ∷ m ∷ [])
below_two m n h l zero = l
below_two m n h l (suc zero) = h
below_two m n h l (suc (suc i)) = pow_pos 64

short_good : WellFormed short
unfolding value_in limbs_for spare_bits least_precision most_precision least_exponent most_exponent bias
short_good = record {
  least = lit≤ tt;
  most = lit≤ tt;
  count = refl;
  limb = one_below dented (lit< tt);
  zero = λ z. absurd (true≢false (sym z));
  regular = λ z. record { least = lit≤ tt; most = lit≤ tt; lead = lit≤ tt; spare = refl };
}

long_good : WellFormed long
unfolding value_in limbs_for spare_bits least_precision most_precision least_exponent most_exponent bias
long_good = record {
  least = lit≤ tt;
  most = lit≤ tt;
  count = refl;
  limb = below_two dented 5 (lit< tt) (lit< tt);
  zero = λ z. absurd (true≢false (sym z));
  regular = λ z. record { least = lit≤ tt; most = lit≤ tt; lead = lit≤ tt; spare = refl };
}

next_good : WellFormed next
unfolding value_in limbs_for spare_bits least_precision most_precision least_exponent most_exponent bias
next_good = record {
  least = lit≤ tt;
  most = lit≤ tt;
  count = refl;
  limb = one_below (2 ^ 63 + 1) (lit< tt);
  zero = λ z. absurd (true≢false (sym z));
  regular = λ z. record { least = lit≤ tt; most = lit≤ tt; lead = lit≤ tt; spare = refl };
}

half_good : (e : ℕ) → least_exponent ≤ e → e ≤ most_exponent → WellFormed (half e)
unfolding value_in limbs_for spare_bits least_precision most_precision
half_good e h k = record {
  least = lit≤ tt;
  most = lit≤ tt;
  count = refl;
  limb = one_below (2 ^ 63) (lit< tt);
  zero = λ z. absurd (true≢false (sym z));
  regular = λ z. record { least = h; most = k; lead = lit≤ tt; spare = refl };
}

-- ---- the depths

only_one : {A : Type 0} → 1 < 1 → A
only_one h = absurd (omega arith)

-- "With m = 128 the depth is 2, for a carry may still come; with m = 64 it is 1, for one number alone carries nothing."
pub example_short : Deciding plus Nearest 2 short next 1
example_short = depth_decided Nearest 2 (lit< tt) short next short_good next_good 1 (lit≤ tt) corners.0 only_one

pub example_long : Deciding plus Nearest 2 long next 2
example_long = depth_decided Nearest 2 (lit< tt) long next long_good next_good 2 (lit≤ tt) corners.2 (λ u. corners.1)

-- "10 | 0.10×2^M + 0.10×2^M, M = 2^30 - 1 | refused 6, depth 1", under every mode and target
most_good : WellFormed (half top)
most_good = half_good top (unfold least_exponent most_exponent bias in lit≤ tt) (unfold most_exponent bias in lit≤ tt)

pub ten_depth : (o : Mode) (p : ℕ) → 0 < p → Deciding plus o p (half top) (half top) 1
ten_depth o p P = depth_decided o p P (half top) (half top) most_good most_good 1 (lit≤ tt) read only_one
  where
    read : decide_at o p (half top) (half top) 1 ≡ true
    read = unfold decide_at left_over reaches? seen_pair same_signs top_exponent unread most_exponent bias in refl

pub ten_answer : (o : Mode) (p : ℕ) → 0 < p → add o p (half top) (half top) ≡ too_large
ten_answer o p P = whole ∙ positive false o p (top - 2) P 4 0 (lit< tt) ∙ refused (way o false)
  where
    -- four units of the weight of the last digits
    whole : add o p (half top) (half top) ≡ answer false o p (top - 2) 4 0
    whole = unfold add sum_at scale share amount zero_sign last_weight mantissa value_in limbs_for spare_bits most_exponent bias in refl

    one : Rep p 4
    one = record { digits = 1; shift = 2; few = pow-lt P; is = refl }

    high : most_exponent < size 4 + (top - 2)
    high = unfold most_exponent bias size in lit< tt

    refused : (w : Way) → rounded w p (top - 2) false 4 ≡ too_large
    refused w = unfold rounded in is_large (size (chosen w p 4) + (top - 2)) (number false (size (chosen w p 4) + (top - 2)) (digits p (chosen w p 4)) (signed false (compare (chosen w p 4) 4))) (rw (exact w p 4 P one) high)

-- "13 | 0.10 + 0.10×2^-1000000, 62, up | .. depth 1, limbs 1 and 0"
pub thirteen_depth : Deciding plus Upward 62 (half mid) (half (mid - 1000000)) 1
thirteen_depth = depth_decided Upward 62 (lit< tt) (half mid) (half (mid - 1000000)) (half_good mid (unfold least_exponent bias in lit≤ tt) (unfold most_exponent bias in lit≤ tt)) (half_good (mid - 1000000) (unfold least_exponent bias in lit≤ tt) (unfold most_exponent bias in lit≤ tt)) 1 (lit≤ tt) corners.15 only_one

pub thirteen_limbs : (limbs_used mid 1 (half mid) ≡ 1) × (limbs_used mid 1 (half (mid - 1000000)) ≡ 0)
unfolding limbs_used limbs_for bias
thirteen_limbs = (refl, refl)
