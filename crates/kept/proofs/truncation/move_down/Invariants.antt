-- `kept::truncation::move_down` is right since from limb i on twice the limbs, with the bit that left them, are what they were with the 1
-- above them. Assumes nothing.
use Rattle.std.proofs.Common.{◌≡◌, ℕ, ◌+◌, ◌-◌, ◌*◌, ◌^◌, ◌≤◌, ◌<◌, length, get_or, drop}
use Rattle.limb.specs.Value.{value_in}
use Rattle.kept.proofs.truncation.move_down.Given as goal

abbrev pub invariant-loop-i : goal.invariant-loop-i
invariant-loop-i l =
    (l.down ≤ 1) × ((j : ℕ) → j < l.i → get_or l.target j 0 ≡ get_or l.fn.target j 0)
    × (value_in (2 ^ 64) (drop l.i l.target) * 2 + l.down ≡ value_in (2 ^ 64) (drop l.i l.fn.target) + (2 ^ 64) ^ (length l.fn.target - l.i))
