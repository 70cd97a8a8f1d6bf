-- Two answers that meet a promise agree. Assumes nothing.
use mathlib.Core.Path.{◌≡◌, sym, ◌∙◌}
use mathlib.Core.List.{List}
use Prim.Native.Nat.{ℕ}
use lib.Ieee.{Float}
use lib.ListN.{length}
use Rattle.numbers.specs.Operand.{Operand}
use Rattle.doubles.specs.declared.Converted.{Converted}
use Rattle.doubles.specs.declared.Enclosing.{Enclosing}
use Rattle.std.specs.Prelude.{Result}
use Rattle.checks.specs.declared.Number.{Number}
use Rattle.checks.specs.declared.Refusal.{Refusal}
use Rattle.doubles.specs.Convert.{converted_of}
use Rattle.doubles.specs.Enclose.{enclosed_of}
use Rattle.unpack.specs.Read.{read_of, read_limbs}

pub converted_unique : (mode : ℕ) (x : Operand) (r s : Result Converted Refusal) → r ≡ converted_of mode x → s ≡ converted_of mode x → r ≡ s
converted_unique mode x r s e f = e ∙ sym f

pub enclosed_unique : (x : Operand) (r s : Result Enclosing Refusal) → r ≡ enclosed_of x → s ≡ enclosed_of x → r ≡ s
enclosed_unique x r s e f = e ∙ sym f

-- the answer and the state of the target
pub read_unique : (t : List ℕ) (d : Float) (r s : Result Number Refusal) (u v : List ℕ) → r ≡ read_of (length t) d → s ≡ read_of (length t) d → u ≡ read_limbs t d → v ≡ read_limbs t d → (r ≡ s) × (u ≡ v)
read_unique t d r s u v e f g h = (e ∙ sym f, g ∙ sym h)
