-- A target with a carry above it and a guard below. Definitions only.
use Rattle.std.specs.Prelude.{ℕ, ◌+◌, ◌*◌, ◌^◌, ◌≡◌, List, length}
use Rattle.limb.specs.Carry.{bit}
use Rattle.limb.specs.Value.{value_of}
use Rattle.limb.specs.Column.{Column}
use Rattle.leap.specs.declared.guarded.Guarded.{Guarded}

-- the number that stands there: carry | target, top limb first | guard
abbrev pub Runs : ℕ → List ℕ → Guarded → Type 0
Runs D target r = D ≡ (bit r.carry * 2 ^ (64 * length target) + value_of target) * 2 ^ 64 + r.guard

-- what a step makes of two numbers stands there: their lowest limb's in the guard, and the carry on top of all
abbrev pub GuardedBy : Column → ℕ → ℕ → List ℕ → Guarded → Type 0
GuardedBy column x y target r = column (2 ^ 64 * 2 ^ (64 * length target)) y x 0 (r.guard + 2 ^ 64 * value_of target) (bit r.carry)
