-- The end of a walk, and what is left of it in the target. Definitions only.
use Rattle.std.specs.Prelude.{ℕ, ◌+◌, ◌-◌, ◌*◌, ◌^◌, ◌≤◌, ◌<◌, ◌≡◌, Bool, cond, List, length, drop}
use Rattle.limb.specs.Value.{value_of}
use Rattle.numbers.specs.Limits.{most_exponent}
use Rattle.rounding.specs.Mode.{Way}
use Rattle.rounding.specs.Answer.{Answer, rounded}
use Rattle.place.specs.declared.Placed.{Placed}
use Rattle.place.specs.Placed.{placed_of, limbs_after}
use Rattle.settle.specs.declared.rows.Pair.{Pair}
use Rattle.walk.specs.declared.state.Window.{Window}
use Rattle.walk.specs.Window.{Fits}
use Rattle.bridge.specs.Verdict.{hole_way}
use Rattle.checks.specs.Room.{Room}

-- the lowest n limbs are 0, and the others stay
pub record Cleared (n : ℕ) (before after : List ℕ) : Type 0 where
  pub size : length after ≡ length before
  pub value : value_of after ≡ (2 ^ 64) ^ n * value_of (drop n before)

-- a target of p digits, a window that fits it, and a guard whose weight is in sight
pub record Ending (p top : ℕ) (w : Window) (target : List ℕ) : Type 0 where
  pub room : Room p (length target)
  pub fits : Fits w target
  pub above : 64 * (w.skipped + length target + 1) < top
  pub near : top ≤ 2 * most_exponent

-- the answer is told, and its limbs stand in the target
pub record Left (p : ℕ) (a : Answer) (exit : List ℕ) (r : Placed) : Type 0 where
  pub told : r ≡ placed_of a
  pub limbs : exit ≡ limbs_after p a

-- in a hole the answer is that of D, with a little more or a little less, and zeros below it as far as the digits asked for
abbrev pub HoleSays : Way → ℕ → Pair → Bool → ℕ → ℕ → Answer → Type 0
HoleSays w p pair negative k D a =
    (b : ℕ) → p + 1 < 64 * k + 64 * b → 64 * k + 64 * b + 1 ≤ pair.top
    → a ≡ rounded (hole_way w p pair) p (pair.top - 64 * k - 64 * b - 1) negative
    (cond pair.same (2 * (D * 2 ^ (64 * b)) + 1) (2 * (D * 2 ^ (64 * b)) - 1))
