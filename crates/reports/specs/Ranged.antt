-- The exponent of what was placed. Definitions only.
use Rattle.std.specs.Prelude.{◌≤◌, ◌<◌, ◌≡◌}
use Rattle.numbers.specs.Limits.{least_exponent, most_exponent}
use Rattle.place.specs.declared.Placed.{Placed}

-- where nothing is refused, an exponent that is not 0 is that of a regular number
abbrev pub Ranged : Placed → Type 0
Ranged r = r.rule ≡ 0 → 0 < r.exponent → (least_exponent ≤ r.exponent) × (r.exponent ≤ most_exponent)
