-- The mode numbers are document 01's.
use mathlib.Core.Path.{◌≡◌, refl}
use Rattle.rounding.specs.Mode.{mode_of}
use Rattle.rounding.specs.declared.Mode.TheVariants.{Nearest, Zeroward, Upward, Downward}

pub mode_numbers : (mode_of 0 ≡ Nearest) × ((mode_of 1 ≡ Zeroward) × ((mode_of 2 ≡ Upward) × (mode_of 3 ≡ Downward)))
unfolding mode_of
mode_numbers = (refl, (refl, (refl, refl)))
