-- Limbs on their way into a target of as many. Definitions only.
use Rattle.std.specs.Prelude.{◌≡◌, List, ℕ, length, take}

-- the lowest i limbs of the source are in the target
pub record CopiedTo (i : ℕ) (source target : List ℕ) : Type 0 where
  pub same_length : length target ≡ length source
  pub limbs : take i target ≡ take i source
