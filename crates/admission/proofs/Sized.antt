-- Where nothing is refused, the sizes pass: sizes that do not are refused. Assumes nothing.
use mathlib.Core.Path.{◌≡◌}
use Prim.Native.Nat.{ℕ}
use lib.ListN.{length}
use Rattle.numbers.specs.Operand.{Operand}
use Rattle.checks.specs.Check.{accepted, pair_refusal}
use Rattle.checks.proofs.Tables.{accepted_all}
use Rattle.admission.specs.Sizes.{SizesPass}

pub accepted_sized : (mode : ℕ) (x y : Operand) (p n : ℕ) → pair_refusal mode x y p n ≡ accepted → SizesPass x.precision (length x.limbs) y.precision (length y.limbs) p n
unfolding pair_refusal
accepted_sized mode x y p n e =
    let h = accepted_all _ e in
    record {
      first = record { precision = h.1.0; limbs = h.1.1.1.1.0 };
      second = record { precision = h.1.1.0; limbs = h.1.1.1.1.1.0 };
      target = record { precision = h.1.1.1.0; limbs = h.1.1.1.1.1.1.0 };
    }
