-- `remnant::rest::word_rest` is right since each test of the rest is one against half its weight. Assumes nothing.
use mathlib.Core.Path.{refl}
use Prim.Native.Nat.{◌-◌, ◌^◌}
use native.Mathlib.Omega.{arith}
use lib.Pow.{pow_pos}
use Rattle.limb.proofs.Powers.{one_moved}
use Rattle.remnant.proofs.Resting.{word_low, word_marks, twice_half, half_fits}
use Rattle.remnant.proofs.rest.word_rest.Goals as goal

pub overflow_sub-result : goal.overflow_sub-result
overflow_sub-result c = rw (one_moved (c.args.bits - 1) (omega arith)) (pow_pos _)

pub overflow_add-result : goal.overflow_add-result
overflow_add-result c = rw (one_moved (c.args.bits - 1) (omega arith)) (record { fits = half_fits c.args.bits c.requires.0 c.requires.1 })

pub overflow_sub-result-2 : goal.overflow_sub-result-2
overflow_sub-result-2 c = rw (one_moved (c.args.bits - 1) (omega arith)) (pow_pos _)

pub returns : goal.returns
returns c =
    let g = c.args in
    let p = c.requires in
    λ h e.
    record {
      enough = refl;
      empty = refl;
      marks = rw (word_low h g.word g.bits p.1, one_moved (g.bits - 1) (omega arith), ← c.low_bits-r.ensures)
          (word_marks _ _ (2 ^ (g.bits - 1)) _ (pow_pos _) (twice_half g.bits p.0) refl refl refl refl refl);
      odd = c.bit_above-odd.ensures h e;
    }
