-- What is written into a lent room. Definitions only.
use Rattle.std.specs.Prelude.{ℕ, ◌+◌, ◌≤◌, ◌<◌, ◌≡◌, List, ◌++◌, length, take}
use Rattle.checks.specs.declared.Number.{Number}
use Rattle.checks.specs.declared.Place.{Place}
use Rattle.checks.specs.declared.Refusal.{Refusal}
use Rattle.checks.specs.Check.{accepted}
use Rattle.lines.specs.Writing.{onto}
use Rattle.numbers.specs.Limits.{most_precision, limbs_for}
use Rattle.lines.specs.Reading.{number_in}
use Rattle.desklines.specs.declared.telling.Numbered.{Numbered}
use Rattle.desklines.specs.Answer.{Answered, numbered_line, numbered, longest_answer, limbs_of_line, number_refusal}

-- bytes at the start of a room, and their count
pub record Tells (told entry exit : List ℕ) (count : ℕ) : Type 0 where
  pub count_is : count ≡ length told
  pub exit_is : exit ≡ onto told entry

-- so many bytes more behind those that stand at the start of a room
abbrev pub Appends : List ℕ → ℕ → ℕ → List ℕ → List ℕ → ℕ → Type 0
Appends more size at entry exit end =
    (end ≡ at + size) × ((told room : List ℕ) → length told ≡ at → entry ≡ onto told room → exit ≡ onto (told ++ more) room)

-- the line of two numbers, where the room is long enough for any answer; a shorter room is left as it is
pub record RefusesNumbered (n : Numbered) (entry exit : List ℕ) (count : ℕ) : Type 0 where
  pub short : length entry < longest_answer → (count ≡ 0) × (exit ≡ entry)
  pub told : longest_answer ≤ length entry → Tells (numbered_line n) entry exit count

-- a refusal's line, the same way
abbrev pub Refuses : Refusal → List ℕ → List ℕ → ℕ → Type 0
Refuses r = RefusesNumbered (numbered r)

-- the answer of a group, where the room is long enough for any; a shorter room is left as it is
pub record Answers (first second third entry exit : List ℕ) (count : ℕ) : Type 0 where
  pub short : length entry < longest_answer → (count ≡ 0) × (exit ≡ entry)
  pub fits : longest_answer ≤ length entry → count ≤ longest_answer
  pub answered : longest_answer ≤ length entry → Answered first second third (take count exit)
  pub told : longest_answer ≤ length entry → exit ≡ onto (take count exit) entry

-- how many limbs the largest precision takes
unfoldable pub most_limbs : ℕ
most_limbs = limbs_for most_precision

-- a number's line is read: the number, and its limbs at the start of the room
pub record NumberRead (place : Place) (line exit : List ℕ) (x : Number) : Type 0 where
  pub refusal : number_refusal place line ≡ accepted
  pub number : x ≡ number_in line
  pub few : limbs_for (number_in line).precision ≤ most_limbs
  pub limbs : take (limbs_for (number_in line).precision) exit ≡ limbs_of_line line

-- a line's number, read and accepted
pub record NumberHeld (place : Place) (line : List ℕ) (x : Number) (limbs : List ℕ) : Type 0 where
  pub refusal : number_refusal place line ≡ accepted
  pub number : x ≡ number_in line
  pub limbs_are : limbs ≡ limbs_of_line line

-- the answer of a group, in a room that is long enough
pub record AnswerTold (first second third entry exit : List ℕ) (count : ℕ) : Type 0 where
  pub told : List ℕ
  pub tells : Tells told entry exit count
  pub few : length told ≤ longest_answer
  pub answered : Answered first second third told
