-- A group's buffers as they are lent: what they hold, and that they stay the same buffers. Definitions only.
use Rattle.std.specs.Prelude.{ℕ, ◌≡◌, List}
use Rattle.cutting.specs.declared.Lines.{Lines}
use Rattle.cutting.specs.Group.{Held, Cuts, Within, Rooms, Takes}

-- how many lines are whole, and how many bytes of each are held
abbrev pub counts_in : Lines → Held
counts_in g = record { lines = g.whole; first = g.first.held; second = g.second.held; third = g.third.held }

-- each line has a buffer
abbrev pub Roomy : Lines → Type 0
Roomy g = Rooms g.first.bytes.now g.second.bytes.now g.third.bytes.now

-- no count passes a buffer
abbrev pub Bounded : Lines → Type 0
Bounded g = Within (counts_in g)

-- one byte goes to its buffer
abbrev pub Took : Lines → ℕ → Lines → Type 0
Took g b g' = Takes (counts_in g) b g.first.bytes.now g.second.bytes.now g.third.bytes.now g'.first.bytes.now g'.second.bytes.now g'.third.bytes.now (counts_in g')

-- the bytes go to the buffers as far as the group takes them
abbrev pub Cut : Lines → List ℕ → Lines → ℕ → Type 0
Cut g bytes g' taken = Cuts (counts_in g) bytes g.first.bytes.now g.second.bytes.now g.third.bytes.now g'.first.bytes.now g'.second.bytes.now g'.third.bytes.now (record { held = counts_in g'; taken = taken })

-- what is lent stays lent
abbrev pub SameBuffers : Lines → Lines → Type 0
SameBuffers g g' =
    (g'.first.bytes.ghost_name ≡ g.first.bytes.ghost_name) × (g'.second.bytes.ghost_name ≡ g.second.bytes.ghost_name) × (g'.third.bytes.ghost_name ≡ g.third.bytes.ghost_name)
