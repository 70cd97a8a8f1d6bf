-- `place::round_exact` is right since nothing lies below the digits kept: truncation drops nothing, and no mode adds a unit. Assumes nothing.
use mathlib.Core.Path.{refl}
use Rattle.rounding.specs.declared.Mode.{Mode}
use Prim.Native.Nat.{◌-◌, ◌*◌}
use mathlib.Core.Bool.{Bool}
use native.Mathlib.Omega.{arith}
use lib.ListN.{length}
use Rattle.place.proofs.Rules.{passed}
use Rattle.place.proofs.Exact.{exact}
use Rattle.place.proofs.round_exact.Goals as goal

pub overflow_mul-spare : goal.overflow_mul-spare
overflow_mul-spare c = let ok = passed _ _ _ _ c.requires.0 in omega arith

pub overflow_sub-spare : goal.overflow_sub-spare
overflow_sub-spare c = (passed _ _ _ _ c.requires.0).digits_fit

pub reach-offset-requires : goal.reach-offset-requires
reach-offset-requires c = let ok = passed _ _ _ _ c.requires.0 in (ok.some_limbs, ok.first)

pub truncate-requires : goal.truncate-requires
truncate-requires c = let ok = passed _ _ _ _ c.requires.0 in (c.reach-offset.ensures, ok.some_limbs, ok.spare_few)

pub overflow_add-unit : goal.overflow_add-unit
overflow_add-unit c = let ok = passed _ _ _ _ c.requires.0 in omega arith

pub overflow_add-unit-2 : goal.overflow_add-unit-2
overflow_add-unit-2 c = let ok = passed _ _ _ _ c.requires.0 in omega arith

pub overflow_add-unit-3 : goal.overflow_add-unit-3
overflow_add-unit-3 c = let ok = passed _ _ _ _ c.requires.0 in omega arith

pub returns : goal.returns
returns c =
    let g = c.args in
    let both = exact g.precision g.unit g.target.now c.reach-offset.result (64 * length g.target.now - g.precision) c.requires.0 refl c.reach-offset.ensures c.requires.1
    c.truncate.new.target _ _ _ c.truncate.ensures (λ i. (c.slice_known-2-1.given i).fits) refl c.settle.ensures in
    record {
      by_index = λ (mode : Mode) (negative : Bool). (both mode negative).0;
      by_index_2 = λ (mode : Mode) (negative : Bool). (both mode negative).1;
    }
