-- The checks of a line in their order: which one names the refusal. Assumes nothing.
use mathlib.Core.Path.{◌≡◌, refl, sym, ap, ◌∙◌}
use mathlib.Core.Bool.{Bool, true, false}
use mathlib.Core.List.{List, []}
use Prim.Native.Nat.{ℕ, ◌≤◌, ◌<◌}
use lib.ListN.{length}
use borrow.Author.Tests.{le-leb, lt-leb, eq-eqb, ne_eqb}
use Rattle.checks.specs.declared.Number.{Number}
use Rattle.checks.specs.declared.Rule.TheVariants.{Precision, Exponent, LineSize, LineByte, LineKind}
use Rattle.checks.specs.declared.Place.TheVariants.{First}
use Rattle.checks.specs.declared.Refusal.{Refusal}
use Rattle.std.specs.Prelude.{Ok, Err}
use Rattle.checks.specs.Number.{operand_of}
use Rattle.checks.specs.Check.{accepted, answered, first_refusal, precision_holds, exponent_holds}
use Rattle.lines.specs.Line.{shortest_line, line_size}
use Rattle.lines.specs.Reading.{kind_in, number_in, operand_in, digits_hold, head_tests, head_refusal, head_of}

module _ (line : List ℕ) where
  pub refused_head : (r : Refusal) → head_refusal line ≡ Err r → Err r ≡ head_of line
  unfolding head_of answered
  refused_head r e = rw e

  pub too_short : length line < shortest_line → head_refusal line ≡ Err (record { rule = LineSize; place = First })
  unfolding head_refusal head_tests first_refusal
  too_short h = rw (lt-leb shortest_line (length line) h)

  module _ (long : shortest_line ≤ length line) where
    pub no_digits : digits_hold line ≡ false → head_refusal line ≡ Err (record { rule = LineByte; place = First })
    unfolding head_refusal head_tests first_refusal
    no_digits h = rw (le-leb shortest_line (length line) long, h)

    module _ (digits : digits_hold line ≡ true) where
      pub no_kind : 3 < kind_in line → head_refusal line ≡ Err (record { rule = LineKind; place = First })
      unfolding head_refusal head_tests first_refusal
      no_kind h = rw (le-leb shortest_line (length line) long, digits, lt-leb (kind_in line) 3 h)

      module _ (kind : kind_in line ≤ 3) where
        pub no_precision : precision_holds (number_in line).precision ≡ false → head_refusal line ≡ Err (record { rule = Precision; place = First })
        unfolding head_refusal head_tests first_refusal
        no_precision h = rw (le-leb shortest_line (length line) long, digits, le-leb (kind_in line) 3 kind, h)

        module _ (precision : precision_holds (number_in line).precision ≡ true) where
          pub no_size : (length line ≡ line_size (number_in line) → ⊥) → head_refusal line ≡ Err (record { rule = LineSize; place = First })
          unfolding head_refusal head_tests first_refusal
          no_size h = rw (le-leb shortest_line (length line) long, digits, le-leb (kind_in line) 3 kind, precision, ne_eqb (length line) (line_size (number_in line)) h)

          module _ (size : length line ≡ line_size (number_in line)) where
            pub no_exponent : exponent_holds (operand_in line) ≡ false → head_refusal line ≡ Err (record { rule = Exponent; place = First })
            unfolding head_refusal head_tests first_refusal
            no_exponent h = rw (le-leb shortest_line (length line) long, digits, le-leb (kind_in line) 3 kind, precision, eq-eqb (length line) (line_size (number_in line)) size, h)

            pub head_accepted : exponent_holds (operand_in line) ≡ true → head_refusal line ≡ accepted
            unfolding head_refusal head_tests first_refusal
            head_accepted h = rw (le-leb shortest_line (length line) long, digits, le-leb (kind_in line) 3 kind, precision, eq-eqb (length line) (line_size (number_in line)) size, h)

-- a test that the code makes on the number it read is one of the line's number
pub at_line : (f : Number → Bool) {x y : Number} {b v : Bool} → b ≡ f x → x ≡ y → b ≡ v → f y ≡ v
at_line f h e g = ap f (sym e) ∙ sym h ∙ g

pub exponent_in : (line : List ℕ) → exponent_holds (operand_in line) ≡ exponent_holds (operand_of (number_in line) [])
unfolding exponent_holds operand_in operand_of
exponent_in line = refl

pub accepted_head : (line : List ℕ) (x : Number) → head_refusal line ≡ accepted → x ≡ number_in line → Ok x ≡ head_of line
unfolding head_of answered accepted
accepted_head line x h e = rw (h, e)
