-- The code's way as the theory's. Definitions only.
use Rattle.rounding.specs.Mode as mode
use Rattle.settle.specs.declared.rows.Way.{Way}
use Rattle.settle.specs.declared.rows.Way.TheVariants.{Near, Under, Over}

unfoldable pub theory_way : Way → mode.Way
theory_way Near = mode.near
theory_way Under = mode.under
theory_way Over = mode.over
