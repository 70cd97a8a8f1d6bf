-- Lowercase hexadecimal: the value of a digit, and whole numbers of any width. Definitions only.
-- Document 01, refusal 9: "line byte not 0-9 or a-f"; "The stored line": "lowercase hexadecimal", "high byte first".
use Rattle.std.specs.Prelude.{ℕ, zero, suc, ◌+◌, ◌-◌, ◌*◌, ◌/◌, ◌%◌, ◌^◌, Bool, true, cond, ◌&&◌, List, [], ◌∷◌, length, nat_le, nat_lt}

-- '0' to '9', then 'a' to 'f'; every other byte has the value 16, which is no digit's
unfoldable pub digit_of : ℕ → ℕ
digit_of b = cond (nat_le 48 b && nat_le b 57) (b - 48) (cond (nat_le 97 b && nat_le b 102) (b - 87) 16)

unfoldable pub all_digits : List ℕ → Bool
all_digits [] = true
all_digits (b ∷ bs) = nat_lt (digit_of b) 16 && all_digits bs

-- the byte that a value below 16 is written as
unfoldable pub glyph_of : ℕ → ℕ
glyph_of d = cond (nat_lt d 10) (48 + d) (87 + d)

-- the whole number of some digits, highest first
unfoldable pub worth : List ℕ → ℕ
worth [] = 0
worth (b ∷ bs) = digit_of b * 16 ^ length bs + worth bs

-- the last n digits of a whole number, highest first
unfoldable pub numeral : ℕ → ℕ → List ℕ
numeral zero v = []
numeral (suc n) v = glyph_of (v / 16 ^ n % 16) ∷ numeral n v
