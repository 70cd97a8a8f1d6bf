-- The decision, computed where a careless version breaks: document 01's example, marked sum 13, and the corners of the table.
use Prim.Native.Nat.{ℕ, ◌+◌, ◌-◌, ◌*◌, ◌^◌}
use mathlib.Core.Path.{◌≡◌, refl}
use mathlib.Core.Bool.{Bool, true, false}
use mathlib.Core.List.{[], ◌∷◌}
use lib.Ieee.{size}
use Rattle.limb.specs.Value.{value_in}
use Rattle.numbers.specs.Limits.{bias, least_exponent, most_exponent, limbs_for}
use Rattle.numbers.specs.Operand.{Operand, spare_bits, mantissa, last_weight}
use Rattle.rounding.specs.Mode.{way}
use Rattle.rounding.specs.Sum.{scale}
use Rattle.rounding.specs.declared.Mode.TheVariants.{Nearest, Zeroward, Upward, Downward}
use Rattle.depth.specs.Columns.{top_exponent}
use Rattle.depth.specs.Read.{unread}
use Rattle.decide.specs.Class.{tie, off, lean, step, enough, settled}
use Rattle.decide.specs.Range.{bump, carry, short_least, short_most, large?, small?, or_large, or_small}
use Rattle.decide.specs.Table.{same_signs, unlike_signs, far_same, far_unlike, same_row, unlike_row, far_same_row, far_unlike_row, unlike_pair, seen_pair, far_pair, hole?, hole_by_size}
use Rattle.decide.specs.Decide.{reaches?, read_digits, read_part, left_over, beyond, decide_at}

-- ---- regular numbers of one limb and of two

abbrev pub one_limb : Bool → ℕ → ℕ → ℕ → Operand
one_limb s p e m = record { negative = s; is_zero = false; precision = p; exponent = e; limbs = m ∷ [] }

-- the high limb, then the low one
abbrev pub two_limbs : Bool → ℕ → ℕ → ℕ → ℕ → Operand
two_limbs s p e m n = record { negative = s; is_zero = false; precision = p; exponent = e; limbs = n ∷ m ∷ [] }

-- all 64 digits of a limb; a limb and d digits more, b the first of them
abbrev full : Bool → ℕ → ℕ → Operand
full s m e = one_limb s 64 e m

abbrev longer : ℕ → Bool → ℕ → ℕ → ℕ → Operand
longer d s m b e = two_limbs s (64 + d) e m (b * 2 ^ 63)

-- the middle of the range of exponents, and its top
abbrev pub mid : ℕ
mid = bias

abbrev pub top : ℕ
top = most_exponent

-- "top limb with bit 62 clear and all others set, low limb free, d = 64, n = 64"
abbrev pub dented : ℕ
dented = 2 ^ 64 - 1 - 2 ^ 62

abbrev pub short : Operand
short = one_limb false 64 mid dented

abbrev pub long : Operand
long = two_limbs false 128 mid dented 5

abbrev pub next : Operand
next = one_limb false 64 (mid - 64) (2 ^ 63 + 1)

-- 0.10 × 2 ^ e
abbrev pub half : ℕ → Operand
half e = one_limb false 2 e (2 ^ 63)

pub corners :
    -- document 01's example: 64 digits, and 128
    (decide_at Nearest 2 short next 1 ≡ true) × (decide_at Nearest 2 long next 1 ≡ false) × (decide_at Nearest 2 long next 2 ≡ true)
    -- a hole whose first digit is exactly the half: odd, and even
    × (decide_at Nearest 64 (full false (2 ^ 63 + 1) mid) (full false (2 ^ 63) (mid - 64)) 1 ≡ true)
    × (decide_at Nearest 64 (full false (2 ^ 63 + 2) mid) (full false (2 ^ 63) (mid - 64)) 1 ≡ false)
    -- one unread digit each: the carry reaches the tie and never passes it, and q is even; with two digits it may pass
    × (decide_at Nearest 2 (longer 1 false (2 ^ 63) 0 mid) (longer 1 false (2 ^ 63 + 2 ^ 62 - 1) 0 mid) 1 ≡ true)
    × (decide_at Nearest 2 (longer 1 false (2 ^ 63) 0 mid) (longer 2 false (2 ^ 63 + 2 ^ 62 - 1) 0 mid) 1 ≡ false)
    -- equal read parts of unlike signs, unread; and all read
    × (decide_at Nearest 2 (longer 1 false (2 ^ 63) 0 mid) (longer 1 true (2 ^ 63) 1 mid) 1 ≡ false)
    × (decide_at Nearest 2 (longer 1 false (2 ^ 63) 0 mid) (longer 1 true (2 ^ 63) 1 mid) 2 ≡ true)
    -- all ones at the top exponent: a carry that may come does not matter upward, and does downward
    × (decide_at Upward 53 (longer 1 false (2 ^ 64 - 1) 0 top) (longer 1 false (2 ^ 63) 0 (top - 64)) 1 ≡ true)
    × (decide_at Downward 53 (longer 1 false (2 ^ 64 - 1) 0 top) (longer 1 false (2 ^ 63) 0 (top - 64)) 1 ≡ false)
    -- and the same under nearest, where the least sum is the tie itself
    × (decide_at Nearest 64 (longer 1 false (2 ^ 64 - 1) 0 top) (full false (2 ^ 63) (top - 64)) 1 ≡ true)
    -- one number unread, nothing but zeros read below the digits kept: it may be exact
    × (decide_at Nearest 2 (longer 1 false (2 ^ 63) 0 mid) (half mid) 1 ≡ false)
    -- one number unread, and one short of the tie: alone it does not carry
    × (decide_at Nearest 2 (half mid) (longer 1 false (2 ^ 63 + 2 ^ 62 - 1) 0 mid) 1 ≡ true)
    -- a hole, and the target's last digit is the first of the lower number: its others are unread
    × (decide_at Zeroward 65 (full false (2 ^ 63 + 1) mid) (full false (2 ^ 63) (mid - 64)) 1 ≡ false)
    -- marked sum 13: no number of a million digits is computed
    × (decide_at Upward 62 (half mid) (half (mid - 1000000)) 1 ≡ true)
unfolding decide_at beyond left_over read_part read_digits reaches? hole_by_size hole? far_pair seen_pair unlike_pair far_unlike far_same unlike_signs same_signs far_unlike_row far_same_row unlike_row same_row or_large or_small small? large? short_most short_least carry bump settled enough step lean off tie way scale last_weight mantissa limbs_for spare_bits value_in size top_exponent unread bias least_exponent most_exponent
corners = (refl, refl, refl, refl, refl, refl, refl, refl, refl, refl, refl, refl, refl, refl, refl, refl)
