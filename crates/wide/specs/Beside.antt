-- An operand's limbs as they are, or one less, and the guard below them. Definitions only.
use Rattle.std.specs.Prelude.{ℕ, suc, ◌<◌, ◌≡◌, Bool, true, false, List, length}
use Rattle.limb.specs.Value.{value_of}

-- a little more than `first` in a sum: its limbs, and a guard of zeros; a little less in a difference: one less, and a guard of ones
pub record Beside (same : Bool) (first exit : List ℕ) (guard : ℕ) : Type 0 where
  pub size : length exit ≡ length first
  pub more : same ≡ true → (value_of exit ≡ value_of first) × (guard ≡ 0)
  pub less : same ≡ false → (0 < value_of first → suc (value_of exit) ≡ value_of first) × (guard ≡ 18446744073709551615)
