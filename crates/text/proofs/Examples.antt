-- Digits and whole numbers, written out. Assumes nothing.
use Rattle.std.proofs.Common.{◌≡◌, [], ◌∷◌, map, refl}
use Rattle.text.specs.Digits.{digit_of, glyph_of, worth, numeral}
use Rattle.text.proofs.Bytes.{bytes}

-- the sixteen digits in order; the bytes beside their ranges, capitals and LF are none
pub digits_in_order : map digit_of (bytes "0123456789abcdef") ≡ 0 ∷ 1 ∷ 2 ∷ 3 ∷ 4 ∷ 5 ∷ 6 ∷ 7 ∷ 8 ∷ 9 ∷ 10 ∷ 11 ∷ 12 ∷ 13 ∷ 14 ∷ 15 ∷ []
unfolding bytes digit_of
digits_in_order = refl

pub glyphs_in_order : map glyph_of (0 ∷ 1 ∷ 2 ∷ 3 ∷ 4 ∷ 5 ∷ 6 ∷ 7 ∷ 8 ∷ 9 ∷ 10 ∷ 11 ∷ 12 ∷ 13 ∷ 14 ∷ 15 ∷ []) ≡ bytes "0123456789abcdef"
unfolding bytes glyph_of
glyphs_in_order = refl

pub no_digits : map digit_of (bytes "/:`gAF\n") ≡ 16 ∷ 16 ∷ 16 ∷ 16 ∷ 16 ∷ 16 ∷ 16 ∷ []
unfolding bytes digit_of
no_digits = refl

-- highest digit first, with zeros in front; what passes the width is dropped
pub numbers_written : (numeral 4 0x2af ≡ bytes "02af") × (numeral 2 0x2af ≡ bytes "af") × (worth (bytes "02af") ≡ 0x2af)
unfolding bytes numeral glyph_of worth digit_of
numbers_written = (refl, refl, refl)
