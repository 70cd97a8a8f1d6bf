-- `kept::truncation::move_up` is right since after i turns the lowest i limbs, with the bits that left them on top, are what they were
-- moved up, with the guard's bits below. Assumes nothing.
use Rattle.std.proofs.Common.{◌≡◌, ℕ, ◌+◌, ◌-◌, ◌*◌, ◌/◌, ◌^◌, ◌≤◌, ◌<◌, length, get_or, take}
use Rattle.limb.specs.Value.{value_in}
use Rattle.kept.proofs.truncation.move_up.Given as goal

abbrev pub invariant-loop-limb : goal.invariant-loop-limb
invariant-loop-limb l =
    (length l.target ≡ length l.fn.target) × (l.up < 2 ^ l.k) × ((j : ℕ) → l.limb-index ≤ j → get_or l.target j 0 ≡ get_or l.fn.target j 0)
    × (value_in (2 ^ 64) (take l.limb-index l.target) < (2 ^ 64) ^ l.limb-index)
    × (value_in (2 ^ 64) (take l.limb-index l.target) + (2 ^ 64) ^ l.limb-index * l.up ≡ value_in (2 ^ 64) (take l.limb-index l.fn.target) * 2 ^ l.k + l.guard / 2 ^ (64 - l.k))
