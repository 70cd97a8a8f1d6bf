-- `checks::Place::number`: the numbers that the variants are declared with are those of the table. Assumes nothing.
use denote.Enum.Declared.{tag_of}
use Rattle.std.proofs.Common.{◌≡◌, refl}
use Rattle.checks.specs.contracts.Place.{the_type}
use Rattle.checks.specs.declared.Place.TheVariants.{Call, First, Second, Target}
use Rattle.checks.specs.Refusal.{place_number}
use Rattle.checks.proofs.Place.number.Goals as goal

pub returns : goal.returns
unfolding place_number
returns c = elim c.args.self as (λ x. tag_of the_type x ≡ place_number x) [ Call ↦ refl | First ↦ refl | Second ↦ refl | Target ↦ refl ]
