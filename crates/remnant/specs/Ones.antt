-- Whether the first digits of what a window shows are all 1. Definitions only.
use Rattle.std.specs.Prelude.{ℕ, suc, ◌+◌, ◌-◌, ◌*◌, ◌/◌, ◌^◌, ◌≤◌, ◌≡◌, Bool, List, eqb}
use Rattle.std.specs.Float.Ieee.{size}
use Rattle.walk.specs.declared.state.Window.{Window}
use Rattle.walk.specs.Window.{Shows}

-- the first `count` digits of D, none of them in the tail
abbrev pub OnesFirst : Window → List ℕ → ℕ → Bool → Type 0
OnesFirst w target count r = (k D : ℕ) (s : Shows w target k D) → count + 64 * s.below ≤ size D → r ≡ eqb (suc (D / 2 ^ (size D - count))) (2 ^ count)
