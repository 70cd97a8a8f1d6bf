-- `place::round_limb_under` is right as `round_fit` is: the run reaches 64 digits below its limb, and the steps by value leave what those on a
-- target of one limb leave. Assumes nothing.
use mathlib.Core.Path.{refl, sym, ap, ◌∙◌}
use mathlib.Core.Bool.{false}
use mathlib.Core.List.{[], ◌∷◌}
use Prim.Native.Nat.{ℕ, ◌-◌, ◌*◌, ◌/◌, ◌%◌, ◌^◌}
use native.Mathlib.Omega.{arith}
use lib.Dec.{eqb}
use mir.Facts.{to_z-of_z}
use mir.Syntax.{w8}
use Rattle.limb.proofs.Value.{one_below}
use Rattle.limb.proofs.Carry.{byte_le}
use Rattle.place.proofs.Answer.{placed}
use Rattle.kept.proofs.OneLimb.{one_value, one_reaches, one_kept, one_clean}
use Rattle.place.proofs.Rules.{Passed, passed}
use borrow.Author.Rules.{rules}
use Rattle.place.proofs.round_limb_under.Goals as goal

pub overflow_sub-spare : goal.overflow_sub-spare
overflow_sub-spare c =
    let run : Passed c.args.precision false (c.args.limb ∷ []) c.args.unit = passed _ _ _ _ c.requires.0 in
    run.digits_fit

pub overflow_shr-kept : goal.overflow_shr-kept
overflow_shr-kept c =
    let run : Passed c.args.precision false (c.args.limb ∷ []) c.args.unit = passed _ _ _ _ c.requires.0 in
    run.spare_few

pub overflow_shl-kept : goal.overflow_shl-kept
overflow_shl-kept c =
    let run : Passed c.args.precision false (c.args.limb ∷ []) c.args.unit = passed _ _ _ _ c.requires.0 in
    run.spare_few

pub overflow_shr-kept-2 : goal.overflow_shr-kept-2
overflow_shr-kept-2 c =
    let run : Passed c.args.precision false (c.args.limb ∷ []) c.args.unit = passed _ _ _ _ c.requires.0 in
    run.spare_few

pub raise-raised-requires : goal.raise-raised-requires
raise-raised-requires c =
    let run : Passed c.args.precision false (c.args.limb ∷ []) c.args.unit = passed _ _ _ _ c.requires.0 in
    (run.spare_few, one_clean c.args.limb c.args.guard c.ranges.limb.fits c.ranges.guard.fits (64 - c.args.precision) run.spare_few)

pub overflow_add-unit : goal.overflow_add-unit
overflow_add-unit c =
    let run : Passed c.args.precision false (c.args.limb ∷ []) c.args.unit = passed _ _ _ _ c.requires.0 in
    let ok = run in omega arith

pub overflow_add-unit-2 : goal.overflow_add-unit-2
overflow_add-unit-2 c =
    let run : Passed c.args.precision false (c.args.limb ∷ []) c.args.unit = passed _ _ _ _ c.requires.0 in
    let ok = run in omega arith

pub overflow_add-unit-3 : goal.overflow_add-unit-3
overflow_add-unit-3 c =
    let run : Passed c.args.precision false (c.args.limb ∷ []) c.args.unit = passed _ _ _ _ c.requires.0 in
    let ok = run in omega arith

pub overflow_add-unit-4 : goal.overflow_add-unit-4
overflow_add-unit-4 c =
    let run : Passed c.args.precision false (c.args.limb ∷ []) c.args.unit = passed _ _ _ _ c.requires.0 in
    let ok = run in omega (arith, byte_le c.raise-raised.result.over)

pub returns : goal.returns
returns c =
    let run : Passed c.args.precision false (c.args.limb ∷ []) c.args.unit = passed _ _ _ _ c.requires.0 in
    let t = c.ternary in
    let r = c.raise-raised in
    let u = c.rounds_up-up in
    let l = c.locate-at in
    let g = c.args in
    let k = 64 - g.precision in
    let x = g.limb / 2 ^ k * 2 ^ k % 2 ^ 64 in
    let told = placed g.mode g.precision g.negative g.unit false (g.limb ∷ []) g.guard g.more 64 k
    c.requires.0 refl c.ranges.guard.fits (one_reaches g.limb g.guard c.ranges.limb.fits c.ranges.guard.fits c.requires.1)
    l.result (x ∷ []) (eqb (x / 2 ^ k % 2) 1) u.result (r.result.limb ∷ []) r.result.over _ _ _ _
    l.ensures (one_kept g.limb g.guard c.ranges.limb.fits c.ranges.guard.fits k run.spare_few)
    (ap (λ (m : ℕ). eqb (m / 2 ^ k % 2) 1) (sym (one_value x))) u.ensures r.ensures
    (one_below r.result.limb (search rules)) refl (to_z-of_z {w = w8} (record { sfits = t.type_inv }) ∙ t.ensures) c.settle_limb.ensures in
    record {
      placed_value = told.0;
      limb_value = told.1;
    }
