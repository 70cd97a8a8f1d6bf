-- `admission::is_ranged`: the exponent is compared as it is counted, and the kind is tested. Assumes nothing.
use mathlib.Core.Path.{◌≡◌}
use mir.Facts.{to_z-of_z}
use Rattle.numbers.specs.Limits.{counted}
use Rattle.admission.proofs.Quick.{ranged_told}
use Rattle.admission.proofs.is_ranged.Goals as goal

pub returns : goal.returns
returns c =
    let counted_back : c.counted_exponent-e.result ≡ counted c.args.x.exponent = rw (to_z-of_z (record { sfits = c.struct_told-1.given.1.1.1.0.1 })) at c.counted_exponent-e.ensures in
    ranged_told c.args.x _ counted_back c.is_zero.ensures
