-- `remnant::rest::bit_above` is right since the bit above stands in the word, unless all its bits are below. Assumes nothing.
use mathlib.Core.Path.{sym, ap}
use Prim.Native.Nat.{ℕ}
use native.Mathlib.Omega.{arith}
use lib.Dec.{eqb}
use lib.Pow.{high}
use Rattle.remnant.proofs.Resting.{word_above}
use Rattle.remnant.proofs.rest.bit_above.Goals as goal

pub returns-then-bits-eq64 : goal.returns-then-bits-eq64
returns-then-bits-eq64 c = λ h e. rw (c.if-bits-eq64.true, high h 64 {lo = c.args.word} (omega arith)) e

pub returns-else-bits-eq64 : goal.returns-else-bits-eq64
returns-else-bits-eq64 c = λ h e. ap (λ (x : ℕ). eqb x 1) (sym (word_above h c.args.word c.args.bits c.requires c.if-bits-eq64.false))
