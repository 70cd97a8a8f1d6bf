-- `remnant::rest::longer_rest` is right since each test of a longer rest is the old one with a test of the digits below. Assumes nothing.
use lib.Dec.{eqb}
use Rattle.remnant.proofs.Resting.{longer_is}
use Rattle.remnant.proofs.rest.longer_rest.Goals as goal

pub returns : goal.returns
returns c = longer_is c.args.x (eqb c.args.word 0) (eqb c.args.word 18446744073709551615)
