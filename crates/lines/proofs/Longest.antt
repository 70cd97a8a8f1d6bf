-- No line is longer than the longest, which has 1,039 bytes and is attained; none is shorter than the shortest. Assumes nothing.
use mathlib.Core.Path.{◌≡◌, refl, ◌∙◌}
use mathlib.Core.Bool.{Bool, true, false, cond}
use mathlib.Core.List.{List, [], ◌∷◌, ◌++◌}
use Prim.Native.Nat.{ℕ, ◌+◌, ◌-◌, ◌*◌, ◌^◌, ◌≤◌}
use native.Mathlib.Nat.{le_of_eq}
use native.Mathlib.Omega.{arith}
use lib.IntN.{pos}
use lib.ListN.{length, replicate}
use borrow.Author.Tests.{le-leb}
use Rattle.numbers.proofs.Limits.{limbs_more}
use Rattle.numbers.specs.Limits.{least_precision, most_precision, bias, counted, least_exponent, most_exponent, limbs_for}
use Rattle.numbers.specs.Operand.{spare_bits}
use Rattle.checks.specs.declared.Number.{Number}
use Rattle.checks.specs.declared.Kind.TheVariants.{Regular}
use Rattle.checks.specs.Number.{operand_of, is_zero_kind}
use Rattle.checks.specs.Check.{accepted, precision_holds, length_holds, exponent_holds, top_bit_holds, spare_bits_hold, form_holds}
use Rattle.checks.proofs.Tables.{accepted_all, all_accepted}
use Rattle.checks.proofs.Accepted.{precision_range, length_count}
use Rattle.lines.specs.Line.{line_of, shortest_line, line_size, longest_line}
use Rattle.lines.specs.Writing.{write_refusal}
use Rattle.lines.proofs.Size.{size_is}

-- "The longest line has 1,039 bytes."
pub longest_bytes : longest_line ≡ 1039
unfolding longest_line shortest_line most_precision limbs_for
longest_bytes = refl

pub line_fits : (x : Number) (l : List ℕ) → length l ≡ limbs_for x.precision → x.precision ≤ most_precision → length (line_of x l) ≤ longest_line
unfolding longest_line line_size
line_fits x l n h = rw (size_is x l n) (go (is_zero_kind x.kind) (limbs_more x.precision most_precision h))
  where
    go : (b : Bool) → limbs_for x.precision ≤ limbs_for most_precision → cond b shortest_line (shortest_line + 16 * limbs_for x.precision) ≤ shortest_line + 16 * limbs_for most_precision
    go true m = omega arith
    go false m = omega arith

module _ (x : Number) (l : List ℕ) (room : ℕ) (a : write_refusal x l room ≡ accepted) where
  pub at_most : length (line_of x l) ≤ longest_line
  unfolding write_refusal
  at_most = let h = accepted_all _ a in line_fits x l (length_count x.precision (length l) h.1.0) (precision_range x.precision h.0).1

-- attained by every regular number of the largest precision
pub attained : (x : Number) (l : List ℕ) → is_zero_kind x.kind ≡ false → x.precision ≡ most_precision → length l ≡ limbs_for x.precision → length (line_of x l) ≡ longest_line
unfolding longest_line line_size
attained x l z p n = size_is x l n ∙ rw (z, p)

-- of which there is one, 0.1 with all its other digits 0, that the writer accepts
pub half : Number
half = record { negative = false; kind = Regular; precision = most_precision; exponent = pos 0 }

pub half_limbs : List ℕ
half_limbs = replicate (limbs_for most_precision - 1) 0 ++ 2 ^ 63 ∷ []

pub longest_accepted : write_refusal half half_limbs longest_line ≡ accepted
unfolding write_refusal half half_limbs most_precision least_precision limbs_for precision_holds length_holds exponent_holds form_holds top_bit_holds spare_bits_hold spare_bits operand_of is_zero_kind counted bias least_exponent most_exponent
longest_accepted = all_accepted _ (refl, (refl, (refl, (refl, (le-leb (length (line_of half half_limbs)) longest_line (le_of_eq (attained half half_limbs refl refl refl)), tt)))))
