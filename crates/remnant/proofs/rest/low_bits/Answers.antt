-- `remnant::rest::low_bits` is right since a word is its own low 64 bits, and fewer are what a division leaves. Assumes nothing.
use mathlib.Core.Path.{refl, sym}
use native.Mathlib.Nat.{mod-eq_of_lt}
use native.Mathlib.Omega.{arith}
use lib.Pow.{pow_pos}
use Rattle.limb.proofs.Powers.{one_moved}
use Rattle.remnant.proofs.rest.low_bits.Goals as goal

pub nonzero_rem-result : goal.nonzero_rem-result
nonzero_rem-result c = rw (one_moved c.args.bits (omega arith)) (pow_pos _)

pub returns-then-bits-eq64 : goal.returns-then-bits-eq64
returns-then-bits-eq64 c = rw c.if-bits-eq64.true (sym (mod-eq_of_lt (omega arith)))

pub returns-else-bits-eq64 : goal.returns-else-bits-eq64
returns-else-bits-eq64 c = rw (one_moved c.args.bits (omega arith)) refl
