-- The stored line of a number. Definitions only.
-- Document 01, "The stored line".
use Rattle.std.specs.Prelude.{ℕ, suc, ◌+◌, ◌-◌, ◌*◌, ◌^◌, Bool, true, false, cond, List, [], ◌∷◌, ◌++◌, ℤ, pos, negsuc}
use Rattle.numbers.specs.Limits.{most_precision, limbs_for}
use Rattle.checks.specs.declared.Number.{Number}
use Rattle.checks.specs.declared.Kind.{Kind}
use Rattle.checks.specs.declared.Kind.TheVariants.{Regular, Zero}
use Rattle.checks.specs.Number.{is_zero_kind}
use Rattle.text.specs.Digits.{numeral}

-- "kind byte (00 positive, 01 negative, 02 +0, 03 −0)"
unfoldable pub kind_byte : Kind → Bool → ℕ
kind_byte Regular false = 0
kind_byte Regular true = 1
kind_byte Zero false = 2
kind_byte Zero true = 3

-- "exponent in four (two's complement)"
unfoldable pub twos_complement : ℤ → ℕ
twos_complement (pos n) = n
twos_complement (negsuc n) = 2 ^ 32 - suc n

-- "kind byte .., precision in two bytes, exponent in four": two digits a byte
unfoldable pub head_digits : Number → List ℕ
head_digits x = numeral 2 (kind_byte x.kind x.negative) ++ numeral 4 x.precision ++ numeral 8 (twos_complement x.exponent)

-- "its limbs, top first, eight bytes each, high byte first"; the list has them lowest first
unfoldable pub limb_digits : List ℕ → List ℕ
limb_digits [] = []
limb_digits (v ∷ l) = limb_digits l ++ numeral 16 v

unfoldable pub line_feed : ℕ
line_feed = 10

-- "One number, one line of lowercase hexadecimal, ending in LF"; "a zero carries no limbs"
unfoldable pub line_of : Number → List ℕ → List ℕ
line_of x l = head_digits x ++ cond (is_zero_kind x.kind) [] (limb_digits l) ++ line_feed ∷ []

-- "at least 15 bytes": kind byte, precision, exponent and LF
unfoldable pub shortest_line : ℕ
shortest_line = 2 + 4 + 8 + 1

-- "exact size": that of the kind and the precision
unfoldable pub line_size : Number → ℕ
line_size x = cond (is_zero_kind x.kind) shortest_line (shortest_line + 16 * limbs_for x.precision)

-- "The longest line"
unfoldable pub longest_line : ℕ
longest_line = shortest_line + 16 * limbs_for most_precision
