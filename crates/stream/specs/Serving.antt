-- Pieces of the input taken one after the other, and what is printed meanwhile. Definitions only.
use Rattle.std.specs.Prelude.{ℕ, ◌+◌, ◌-◌, ◌≤◌, ◌<◌, ◌≡◌, Bool, true, false, ◌&&◌, List, [], ◌++◌, ltb, leb, eqb, length, take, drop}
use Rattle.lines.specs.Writing.{onto}
use Rattle.checks.specs.declared.Place.TheVariants.{Second, Target}
use Rattle.desklines.specs.Answer.{Answered, longest_answer}
use Rattle.cutting.specs.declared.Lines.{Lines}
use Rattle.cutting.specs.Held.{counts_in}
use Rattle.stream.specs.declared.serving.Held.{Held as Lent}
use Rattle.stream.specs.declared.serving.Served.{Served}
use Rattle.cutting.specs.Lines.{line_room}
use Rattle.cutting.specs.Group.{Group, Held, no_group, is_whole, after, taken, group_in, held_of}
use Rattle.stream.specs.Desk.{cut_short}

-- what is held between two pieces: the counts, and a buffer for each line
pub record State : Type 0 where
  pub held : Held
  pub first : List ℕ
  pub second : List ℕ
  pub third : List ℕ

-- what the lent lines hold
abbrev pub state_of : Lines → State
state_of g = record { held = counts_in g; first = g.first.bytes.now; second = g.second.bytes.now; third = g.third.bytes.now }

-- what slices hold that are lent with counts beside them
abbrev pub state_held : Lent → List ℕ → List ℕ → List ℕ → State
state_held h first second third = record { held = record { lines = h.lines; first = h.first; second = h.second; third = h.third }; first = first; second = second; third = third }

unfoldable pub group_of : State → Group
group_of s = group_in s.held s.first s.second s.third

-- a group in the buffers, and how much of it counts
unfoldable pub keeping : Held → Group → State → State
keeping h g s = record { held = h; first = onto g.first s.first; second = onto g.second s.second; third = onto g.third s.third }

-- a piece of the input is taken, `count` of its bytes: `told` is printed, in a room of so many bytes, and a state is left
pub data Serves : ℕ → State → List ℕ → ℕ → List ℕ → State → Type 0 where
  -- the piece is at its end
  ended : {room : ℕ} {s : State} → Serves room s [] 0 [] s
  -- there may be no room for the next answer
  full : {room : ℕ} {s : State} {bytes : List ℕ} → 0 < length bytes → room < longest_answer → Serves room s bytes 0 [] s
  -- the piece ends within a group
  waits : {room : ℕ} {s : State} {bytes : List ℕ} → 0 < length bytes → longest_answer ≤ room → is_whole (after (group_of s) bytes) ≡ false
      → Serves room s bytes (taken (group_of s) bytes) [] (keeping (held_of (after (group_of s) bytes)) (after (group_of s) bytes) s)
  -- a group is whole: its answer, and then the next group
  answers : {room n : ℕ} {s t : State} {bytes told rest : List ℕ} → 0 < length bytes → longest_answer ≤ room → is_whole (after (group_of s) bytes) ≡ true
      → Answered (after (group_of s) bytes).first (after (group_of s) bytes).second (after (group_of s) bytes).third told
      → Serves (room - length told) (keeping (held_of no_group) (after (group_of s) bytes) s) (drop (taken (group_of s) bytes) bytes) n rest t
      → Serves room s bytes (taken (group_of s) bytes + n) (told ++ rest) t

-- what is printed at the end of the input: a line that is under way counts, if it has a byte
pub data Ends : Group → List ℕ → Type 0 where
  nothing : {g : Group} → g.lines ≡ 0 → g.first ≡ [] → Ends g []
  one_line : {g : Group} → g.lines ≡ 0 → (g.first ≡ [] → ⊥) → Ends g (cut_short Second)
  only_one : {g : Group} → g.lines ≡ 1 → g.second ≡ [] → Ends g (cut_short Second)
  two_lines : {g : Group} → g.lines ≡ 1 → (g.second ≡ [] → ⊥) → Ends g (cut_short Target)
  only_two : {g : Group} → g.lines ≡ 2 → g.third ≡ [] → Ends g (cut_short Target)
  three_lines : {g : Group} {told : List ℕ} → g.lines ≡ 2 → (g.third ≡ [] → ⊥) → Answered g.first g.second g.third told → Ends g told

-- a run of the program from a state on, however the input is split into pieces and the pieces are taken: all that comes, and all that is printed
pub data Runs : State → List ℕ → List ℕ → Type 0 where
  ends : {s : State} {told : List ℕ} → Ends (group_of s) told → Runs s [] told
  serves : {room n : ℕ} {s t : State} {bytes told rest out : List ℕ} → Serves room s bytes n told t → Runs t rest out → Runs s (take n bytes ++ rest) (told ++ out)

-- the program begins with nothing held, whatever stands in its buffers
unfoldable pub fresh : List ℕ → List ℕ → List ℕ → State
fresh first second third = record { held = held_of no_group; first = first; second = second; third = third }

-- ---- what is lent

-- no group is whole yet, the buffers have their size, and there is room for any answer
unfoldable pub is_ready : State → List ℕ → Bool
is_ready s out =
    ltb s.held.lines 3 && (eqb (length s.first) line_room && (eqb (length s.second) line_room && (eqb (length s.third) line_room && leb longest_answer (length out))))

-- `serve`: a piece is taken; nothing is done where it is not ready
pub record ServedBy (s : State) (bytes : List ℕ) (t : State) (entry exit : List ℕ) (r : Served) : Type 0 where
  pub unready : is_ready s entry ≡ false → (r ≡ record { taken = 0; told = 0 }) × (t ≡ s) × (exit ≡ entry)
  pub served : is_ready s entry ≡ true → Serves (length entry) s bytes r.taken (take r.told exit) t
  pub told : is_ready s entry ≡ true → exit ≡ onto (take r.told exit) entry
  pub fits : r.told ≤ length exit
  pub far : r.taken ≤ length bytes

-- `finish`: the end of the input
pub record Finished (s : State) (entry exit : List ℕ) (count : ℕ) : Type 0 where
  pub unready : is_ready s entry ≡ false → (count ≡ 0) × (exit ≡ entry)
  pub ended : is_ready s entry ≡ true → Ends (group_of s) (take count exit)
  pub told : is_ready s entry ≡ true → exit ≡ onto (take count exit) entry
  pub fits : count ≤ length exit
