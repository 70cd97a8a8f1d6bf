-- `unpack::regular`: the digits with as many zeros below them as stood above them, and the exponent lower by so much. Assumes nothing.
use native.Mathlib.Omega.{arith}
use mir.Syntax.{w32}
use mir.Facts.{to_z-of_z}
use Rattle.unpack.proofs.Reading.{scale_lt, regular_number, regular_limb}
use Rattle.unpack.proofs.regular.Goals as goal

pub overflow_add-scale : goal.overflow_add-scale
overflow_add-scale c = rw c.scale_of-scale.ensures (omega (arith, scale_lt c.args.bits))

pub returns : goal.returns
returns c = record {
  value = regular_number _ _ _ c.requires.2 c.zeros_above-zeros.ensures.0 _ _ _ c.requires.1 c.scale_of-scale.ensures c.exponent_of-exponent.ensures (rw (to_z-of_z {w = w32} {z = c.exponent_of-exponent.result} (record { sfits = c.exponent_of-exponent.type_inv }), c.requires.3) at c.read.ensures);
  target_after = regular_limb _ _ _ c.requires.2 c.zeros_above-zeros.ensures.0 c.args.target.now c.requires.0;
}
