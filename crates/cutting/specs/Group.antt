-- A group under way, byte by byte, and the buffers that hold it. Definitions only.
use Rattle.std.specs.Prelude.{ℕ, suc, ◌+◌, ◌≤◌, ◌≡◌, Bool, cond, List, [], ◌∷◌, ◌++◌, leb, eqb, length, take, drop}
use Rattle.lines.specs.Writing.{onto}
use Rattle.cutting.specs.Lines.{line_room, ends_line, cut_line}

-- the whole lines of a group so far are counted; the next one is under way, and lines after it are empty
pub record Group : Type 0 where
  pub lines : ℕ
  pub first : List ℕ
  pub second : List ℕ
  pub third : List ℕ

-- how many lines of a group are whole, and how many bytes of each line are held
pub record Held : Type 0 where
  pub lines : ℕ
  pub first : ℕ
  pub second : ℕ
  pub third : ℕ

-- what is held after some bytes, and how many of them were taken
pub record Progress : Type 0 where
  pub held : Held
  pub taken : ℕ

-- nothing of a group
unfoldable pub no_group : Group
no_group = record { lines = 0; first = []; second = []; third = [] }

-- "groups of three lines"
unfoldable pub is_whole : Group → Bool
is_whole g = leb 3 g.lines

-- a line with a byte more, as far as it is kept
unfoldable pub longer : List ℕ → ℕ → List ℕ
longer l b = cut_line (l ++ b ∷ [])

-- a byte goes to the line under way; LF ends it
unfoldable pub with_byte : Group → ℕ → Group
with_byte g b =
    cond (eqb g.lines 0) (record { lines = cond (ends_line b) 1 0; first = longer g.first b; second = g.second; third = g.third })
    (cond (eqb g.lines 1) (record { lines = cond (ends_line b) 2 1; first = g.first; second = longer g.second b; third = g.third })
    (record { lines = cond (ends_line b) 3 2; first = g.first; second = g.second; third = longer g.third b }))

-- the group after as many of these bytes as it takes: all, or those up to its third LF
unfoldable pub after : Group → List ℕ → Group
after g [] = g
after g (b ∷ bs) = cond (is_whole g) g (after (with_byte g b) bs)

-- how many of them that are
unfoldable pub taken : Group → List ℕ → ℕ
taken g [] = 0
taken g (b ∷ bs) = cond (is_whole g) 0 (suc (taken (with_byte g b) bs))

-- what the three buffers hold, as the counts say
unfoldable pub group_in : Held → List ℕ → List ℕ → List ℕ → Group
group_in h first second third = record { lines = h.lines; first = take h.first first; second = take h.second second; third = take h.third third }

-- the counts of a group
unfoldable pub held_of : Group → Held
held_of g = record { lines = g.lines; first = length g.first; second = length g.second; third = length g.third }

-- the bytes go to the buffers as far as the group takes them
pub record Cuts (h : Held) (bytes one two three one' two' three' : List ℕ) (r : Progress) : Type 0 where
  pub taken : r.taken ≡ taken (group_in h one two three) bytes
  pub held : r.held ≡ held_of (after (group_in h one two three) bytes)
  pub first : one' ≡ onto (after (group_in h one two three) bytes).first one
  pub second : two' ≡ onto (after (group_in h one two three) bytes).second two
  pub third : three' ≡ onto (after (group_in h one two three) bytes).third three

-- a buffer of which n bytes were held, and m are now
pub record Grown (n m : ℕ) (entry exit : List ℕ) : Type 0 where
  pub more : n ≤ m
  pub fits : m ≤ line_room
  pub rest : drop m exit ≡ drop m entry

-- no count passes a buffer
pub record Within (h : Held) : Type 0 where
  pub first : h.first ≤ line_room
  pub second : h.second ≤ line_room
  pub third : h.third ≤ line_room

-- another count of the same bytes
abbrev pub Counts : ℕ → ℕ → Type 0
Counts n m = (m ≤ line_room) × ((buffer : List ℕ) → length buffer ≡ line_room → take m buffer ≡ take n buffer)

-- each line has a buffer
pub record Rooms (one two three : List ℕ) : Type 0 where
  pub first : length one ≡ line_room
  pub second : length two ≡ line_room
  pub third : length three ≡ line_room

-- one byte goes to its buffer
pub record Takes (h : Held) (b : ℕ) (one two three one' two' three' : List ℕ) (r : Held) : Type 0 where
  pub group : group_in r one' two' three' ≡ with_byte (group_in h one two three) b
  pub first : Grown h.first r.first one one'
  pub second : Grown h.second r.second two two'
  pub third : Grown h.third r.third three three'
