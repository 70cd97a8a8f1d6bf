-- A tail with one column more. Definitions only.
use Rattle.std.specs.Prelude.{ℕ, suc, ◌+◌, ◌*◌, ◌^◌, ◌≡◌, Option, Some, None}
use Rattle.walk.specs.declared.state.Tail.{Tail}
use Rattle.walk.specs.declared.state.Tail.TheVariants.{Empty, Zeros, Ones, Mixed}
use Rattle.walk.specs.declared.change.Change.{Change}
use Rattle.walk.specs.declared.change.Change.TheVariants.{Rise, Fall}
use Rattle.walk.specs.Change.{Moved}
use Rattle.walk.specs.Window.{TailIs}

-- a walk goes on: nothing below the guard is open but a carry or a borrow
abbrev pub Unmixed : Tail → Type 0
Unmixed tail = tail ≡ Mixed → ⊥

-- nothing is carried into the tail
abbrev pub LongerTail : Tail → ℕ → Tail → Type 0
LongerTail tail low next = (t n : ℕ) → TailIs tail t n → TailIs next (suc t) (n * 2 ^ 64 + low)

-- what a change that goes on above a tail leaves of it, where it goes on
abbrev pub turned : Change → Tail → Option Tail
turned change Empty = Some Empty
turned Rise Ones = Some Zeros
turned Rise Zeros = None
turned Fall Zeros = Some Ones
turned Fall Ones = None
turned change Mixed = None

-- with the columns h above it, the tail is changed by one and gets a column more: h is changed as `up` says, and `next` stands below it
abbrev pub PassesTail : Option Change → Tail → ℕ → Option Change → Tail → Type 0
PassesTail change tail low up next =
    (t n h m : ℕ) → TailIs tail t n → Unmixed tail → Moved change (h * 2 ^ (64 * t) + n) m
    → (g q : ℕ) × (Moved up h g) × (m * 2 ^ 64 + low ≡ g * 2 ^ (64 * suc t) + q) × TailIs next (suc t) q
