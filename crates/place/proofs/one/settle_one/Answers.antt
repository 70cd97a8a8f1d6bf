-- `place::one::settle_one` is right since a limb that is not 0 comes to its top by its zeros, and nothing is left to round. Assumes nothing.
use mathlib.Core.Path.{refl}
use mathlib.Core.Bool.{false}
use mathlib.Core.List.{[], ◌∷◌}
use native.Mathlib.Omega.{arith}
use lib.Count.{count_leading_zeros}
use Rattle.place.proofs.Normalized.{ToTop, brought_top}
use Rattle.place.proofs.ExactOne.{exact_one}
use Rattle.place.proofs.Rules.{Passed, passed}
use Rattle.place.proofs.one.settle_one.Goals as goal

pub overflow_cast-zeros : goal.overflow_cast-zeros
overflow_cast-zeros c =
    let run : Passed c.args.precision false (c.args.limb ∷ []) c.args.unit = passed _ _ _ _ c.requires in
    let top : ToTop c.args.limb (count_leading_zeros 64 c.args.limb) = brought_top c.args.limb (run.first refl) c.ranges.limb.fits in
    record { fits = omega (arith, top.few) }

pub overflow_shl-limb : goal.overflow_shl-limb
overflow_shl-limb c =
    let run : Passed c.args.precision false (c.args.limb ∷ []) c.args.unit = passed _ _ _ _ c.requires in
    let top : ToTop c.args.limb (count_leading_zeros 64 c.args.limb) = brought_top c.args.limb (run.first refl) c.ranges.limb.fits in
    top.few

pub overflow_add-unit : goal.overflow_add-unit
overflow_add-unit c =
    let run : Passed c.args.precision false (c.args.limb ∷ []) c.args.unit = passed _ _ _ _ c.requires in
    record { fits = omega (arith, run.small) }

pub overflow_sub-unit : goal.overflow_sub-unit
overflow_sub-unit c =
    let run : Passed c.args.precision false (c.args.limb ∷ []) c.args.unit = passed _ _ _ _ c.requires in
    let top : ToTop c.args.limb (count_leading_zeros 64 c.args.limb) = brought_top c.args.limb (run.first refl) c.ranges.limb.fits in
    omega (arith, top.few)

pub returns : goal.returns
returns c =
    let run : Passed c.args.precision false (c.args.limb ∷ []) c.args.unit = passed _ _ _ _ c.requires in
    let top : ToTop c.args.limb (count_leading_zeros 64 c.args.limb) = brought_top c.args.limb (run.first refl) c.ranges.limb.fits in
    let g = c.args in
    let r = c.settle_limb in
    λ clean. exact_one g.precision g.unit g.limb _ c.requires c.ranges.limb.fits top clean r.result.placed r.result.limb r.ensures
