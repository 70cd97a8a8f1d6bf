-- `kept::truncation::truncate` is right since the digits from the first on, less the spare ones, are the kept ones. Assumes nothing.
use mathlib.Core.Path.{ap, ◌∙◌}
use Prim.Native.Nat.{ℕ, ◌*◌, ◌/◌, ◌^◌}
use lib.Pow.{shr-shr}
use Rattle.kept.specs.Walk.{whole}
use Rattle.kept.proofs.truncation.truncate.Goals as goal

pub returns : goal.returns
returns c =
    let g = c.args in
    let a = c.bring_up.ensures in
    let z = c.clear_spare.ensures in
    record {
      size = z.size ∙ a.size;
      value =
          z.value ∙ ap (λ (m : ℕ). m / 2 ^ g.spare * 2 ^ g.spare) a.value
          ∙ ap (λ (m : ℕ). m * 2 ^ g.spare) (shr-shr (whole g.carry g.target.now g.guard) g.offset g.spare);
    }
