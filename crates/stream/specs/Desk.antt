-- The desk program: the whole input to the whole output. Definitions only.
-- Document 01, "The desk program".
use Rattle.std.specs.Prelude.{List, [], ◌∷◌, ◌++◌, ℕ}
use Rattle.checks.specs.declared.Rule.TheVariants.{LineSize}
use Rattle.checks.specs.declared.Place.{Place}
use Rattle.checks.specs.declared.Place.TheVariants.{Second, Target}
use Rattle.desklines.specs.Answer.{refusal_line, Answered}
use Rattle.cutting.specs.Lines.{lines_of}

-- "A group the input cuts short is 8 at the first missing line, whatever its earlier lines hold, and the program stops."
unfoldable pub cut_short : Place → List ℕ
cut_short missing = refusal_line (record { rule = LineSize; place = missing })

-- what is printed for some lines: an answer for each group of three. "Empty input prints nothing."
pub data Printed : List (List ℕ) → List ℕ → Type 0 where
  nothing : Printed [] []
  no_second : (a : List ℕ) → Printed (a ∷ []) (cut_short Second)
  no_third : (a b : List ℕ) → Printed (a ∷ b ∷ []) (cut_short Target)
  group : {a b c told rest : List ℕ} {lines : List (List ℕ)} → Answered a b c told → Printed lines rest → Printed (a ∷ b ∷ c ∷ lines) (told ++ rest)

-- the program prints `output` on `input`
abbrev pub Desk : List ℕ → List ℕ → Type 0
Desk input output = Printed (lines_of input) output
