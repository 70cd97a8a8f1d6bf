-- `alone::look_alone`: the last limb of a regular operand is its top limb, and what is seen of that is told of it and any zero. Assumes nothing.
use mathlib.Core.Path.{◌≡◌, refl}
use Rattle.std.proofs.Common.{rules}
use Rattle.numbers.specs.Limits.{counted}
use Rattle.checks.specs.Number.{operand_of}
use Rattle.narrow.specs.Sighting.{top_limb}
use Rattle.narrow.proofs.Lone.{lone, alone_looked}
use Rattle.narrow.proofs.alone.look_alone_under.Goals as goal

pub see_alone-requires : goal.see_alone-requires
unfolding top_limb operand_of
see_alone-requires c =
    let x = c.args.x in
    let height : c.counted_exponent-top.result ≡ counted x.number.exponent = search rules in
    lone _ c.requires.0 c.requires.1 x.number x.limbs.now x.formed x.regular _ _ height refl

pub returns : goal.returns
unfolding top_limb operand_of
returns c =
    let x = c.args.x in
    let height : c.counted_exponent-top.result ≡ counted x.number.exponent = search rules in
    alone_looked _ c.requires.0 c.requires.1 x.number x.limbs.now x.formed x.regular _ _ height refl c.args.mode c.in_ok-seen.seen c.in_ok-seen.ensures
