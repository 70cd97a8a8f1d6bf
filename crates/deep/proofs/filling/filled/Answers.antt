-- `deep::filled` is right since a target of one limb is then that limb, and more lies below where it is said so or the tail holds some. Assumes nothing.
use mathlib.Core.Path.{refl, ap}
use mathlib.Core.Bool.{Bool, ◌||◌}
use Rattle.limb.proofs.Value.{one_written}
use Rattle.deep.proofs.filling.filled.Goals as goal

pub returns : goal.returns
returns c =
    record {
      limbs = one_written c.args.target.now c.args.front.limb c.requires;
      carry = refl;
      guard = refl;
      more_is = λ t rest h. ap (λ (b : Bool). c.args.more || b) (c.holds_more.ensures t rest h);
      depth_is = refl;
    }
