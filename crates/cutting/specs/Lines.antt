-- The lines of an input. Definitions only.
-- Document 01, "The desk program".
use Rattle.std.specs.Prelude.{ℕ, suc, Bool, cond, List, [], ◌∷◌, eqb, take}
use Rattle.lines.specs.Line.{line_feed, longest_line}

-- LF
unfoldable pub ends_line : ℕ → Bool
ends_line b = eqb b line_feed

-- a byte in front of the first line, or alone where nothing follows it
unfoldable pub before : ℕ → List (List ℕ) → List (List ℕ)
before b [] = (b ∷ []) ∷ []
before b (l ∷ ls) = (b ∷ l) ∷ ls

-- each line with its LF; "Bytes after the last LF count as a line."
unfoldable pub lines_of : List ℕ → List (List ℕ)
lines_of [] = []
lines_of (b ∷ bs) = cond (ends_line b) ((b ∷ []) ∷ lines_of bs) (before b (lines_of bs))

-- a line's buffer: one byte over the longest line shows that a line is too long
unfoldable pub line_room : ℕ
line_room = suc longest_line

-- "A line over 1,039 bytes is 8, its rest skipped."
unfoldable pub cut_line : List ℕ → List ℕ
cut_line l = take line_room l
