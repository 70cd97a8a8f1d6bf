-- `alone::has_rest` is right since a limb moved up by p digits and one more has left what is below the half. Assumes nothing.
use Rattle.narrow.proofs.Lone.{rest_some}
use Rattle.narrow.proofs.alone.has_rest.Goals as goal

pub returns : goal.returns
returns c = rest_some _ _ c.requires
