-- The four modes, and what each asks of a size without its sign. Definitions only.
use Rattle.std.specs.Prelude.{ℕ, zero, suc, Bool, true, false}
use Rattle.rounding.specs.declared.Mode.{Mode}
use Rattle.rounding.specs.declared.Mode.TheVariants.{Nearest, Zeroward, Upward, Downward}

-- "Modes: 0 nearest, tie to even last bit; 1 toward zero; 2 up, toward plus infinity; 3 down."
-- the mode of a mode number that check 1 lets pass
unfoldable pub mode_of : ℕ → Mode
mode_of zero = Nearest
mode_of (suc zero) = Zeroward
mode_of (suc (suc zero)) = Upward
mode_of (suc (suc (suc n))) = Downward

-- of a size: to the closest, not above, not below
pub data Way : Type 0 where
  near under over : Way

-- up, for a negative number, is not above in size; and so on
unfoldable pub way : Mode → Bool → Way
way Nearest negative = near
way Zeroward negative = under
way Upward false = over
way Upward true = under
way Downward false = under
way Downward true = over
