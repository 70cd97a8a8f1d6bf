-- A line after its head: what holds where the head is accepted, and what each later check answers. Assumes nothing.
use mathlib.Core.Path.{◌≡◌, refl, sym, ap, ◌∙◌}
use mathlib.Core.Bool.{true, false}
use mathlib.Core.List.{List}
use Prim.Native.Nat.{ℕ, ◌+◌, ◌*◌, ◌<◌, ◌≤◌}
use native.Mathlib.Omega.{arith}
use lib.ListN.{length, replicate}
use borrow.Author.Tests.{eqb-true}
use Rattle.numbers.specs.Limits.{least_precision, limbs_for, most_precision}
use Rattle.numbers.proofs.Limits.{two_digits, limbs_hold}
use Rattle.checks.specs.declared.Number.{Number}
use Rattle.checks.specs.declared.Rule.TheVariants.{Limbs, Form}
use Rattle.checks.specs.declared.Place.TheVariants.{First, Target}
use Rattle.checks.specs.declared.Refusal.{Refusal}
use Rattle.std.specs.Prelude.{Result, Ok, Err}
use Rattle.checks.specs.Number.{operand_of, is_zero_kind}
use Rattle.checks.specs.Check.{accepted, then, left_by, answered, first_refusal, length_holds, form_holds}
use Rattle.checks.proofs.Tables.{AllHold, chained, accepted_all}
use Rattle.checks.proofs.Accepted.{precision_range, length_count}
use Rattle.lines.specs.Line.{shortest_line, line_size}
use Rattle.lines.specs.Reading.{number_in, limbs_in, operand_in, digits_hold, head_tests, limb_tests, head_refusal, read_refusal, head_of, read_of, limbs_read, target_after}

pub read_joined : (n : ℕ) (line : List ℕ) → read_refusal n line ≡ then (head_refusal line) (first_refusal (limb_tests n line))
unfolding read_refusal head_refusal head_tests
read_joined n line = chained (head_tests line) (limb_tests n line)

-- what a call answers and leaves, given its refusal
abbrev pub Left : List ℕ → List ℕ → List ℕ → Result Number Refusal → Type 0
Left line entry exit h = (h ≡ read_of (length entry) line) × (exit ≡ target_after line entry)

module _ (line entry : List ℕ) where
  pub refused_read : (r : Refusal) → read_refusal (length entry) line ≡ Err r → Left line entry entry (Err r)
  unfolding read_of answered target_after left_by
  refused_read r e = (rw e, rw e)

  pub accepted_read : (exit : List ℕ) (x : Number) → read_refusal (length entry) line ≡ accepted → x ≡ number_in line → exit ≡ limbs_read (length entry) line → Left line entry exit (Ok x)
  unfolding read_of answered target_after left_by accepted
  accepted_read exit x e f g = (rw (e, f), g ∙ rw e)

-- a form is looked at in regular numbers only
pub zero_form : (x : Number) (l : List ℕ) → is_zero_kind x.kind ≡ true → form_holds (operand_of x l) ≡ true
unfolding form_holds operand_of
zero_form x l z = rw z

abbrev number_or : Number → Result Number Refusal → Number
number_or x (Ok y) = y
number_or x (Err r) = x

-- a head is refused, or accepted
module _ (line : List ℕ) where
  pub head_err : (r : Refusal) → Err r ≡ head_of line → head_refusal line ≡ Err r
  unfolding head_of answered
  head_err r e = go (head_refusal line) refl
    where
      go : (s : Result (Unit {0}) Refusal) → head_refusal line ≡ s → s ≡ Err r
      go (Ok u) h = let none : Err r ≡ Ok (number_in line) = e ∙ rw h in cc none
      go (Err q) h = let same : Err r ≡ Err q = e ∙ rw h in cc same

  pub head_ok : (x : Number) → Ok x ≡ head_of line → head_refusal line ≡ accepted
  unfolding head_of answered accepted
  head_ok x e = go (head_refusal line) refl
    where
      go : (s : Result (Unit {0}) Refusal) → head_refusal line ≡ s → s ≡ Ok tt
      go (Ok u) h = refl
      go (Err q) h = let none : Ok x ≡ Err q = e ∙ rw h in cc none

  pub head_refused : (entry : List ℕ) (r : Refusal) → Err r ≡ head_of line → Left line entry entry (Err r)
  head_refused entry r e = refused_read line entry r (read_joined (length entry) line ∙ rw (head_err r e))

module _ (line : List ℕ) (x : Number) (e : Ok x ≡ head_of line) where
  pub unrefused : head_refusal line ≡ accepted
  unrefused = head_ok line x e

  pub number_is : x ≡ number_in line
  unfolding head_of answered accepted
  number_is = let k : Ok x ≡ Ok (number_in line) = e ∙ rw unrefused in ap (number_or x) k

  all_hold : AllHold (head_tests line)
  unfolding head_refusal
  all_hold = accepted_all (head_tests line) unrefused

  pub line_digits : digits_hold line ≡ true
  unfolding head_tests
  line_digits = all_hold.1.0

  pub line_size_lem : length line ≡ line_size (number_in line)
  unfolding head_tests
  line_size_lem = eqb-true (length line) (line_size (number_in line)) all_hold.1.1.1.1.0

  pub line_precision : (least_precision ≤ (number_in line).precision) × ((number_in line).precision ≤ most_precision)
  unfolding head_tests
  line_precision = precision_range (number_in line).precision all_hold.1.1.1.0

  -- the head is accepted, so the later tests decide
  later : (n : ℕ) → read_refusal n line ≡ first_refusal (limb_tests n line)
  unfolding accepted
  later n = read_joined n line ∙ rw unrefused

  module _ (entry : List ℕ) where
    pub wrong_length : length_holds x.precision (length entry) ≡ false → Left line entry entry (Err (record { rule = Limbs; place = Target }))
    unfolding limb_tests first_refusal
    wrong_length f =
        let k : length_holds (number_in line).precision (length entry) ≡ false = rw number_is at f in
        refused_read line entry _ (later (length entry) ∙ rw k)

    module _ (n : length_holds x.precision (length entry) ≡ true) where
      right : length_holds (number_in line).precision (length entry) ≡ true
      right = rw number_is at n

      count : length entry ≡ limbs_for (number_in line).precision
      count = length_count (number_in line).precision (length entry) right

      pub some_limbs : 0 < length entry
      some_limbs = omega (arith, count, line_precision.0, two_digits, limbs_hold (number_in line).precision)

      read_form : form_holds (operand_of x (limbs_in (length entry) line)) ≡ form_holds (operand_in line)
      unfolding operand_in
      read_form = rw (number_is, count)

      pub wrong_form : form_holds (operand_of x (limbs_in (length entry) line)) ≡ false → Left line entry entry (Err (record { rule = Form; place = First }))
      unfolding limb_tests first_refusal
      wrong_form f = refused_read line entry _ (later (length entry) ∙ rw (right, sym read_form ∙ f))

      all_pass : form_holds (operand_of x (limbs_in (length entry) line)) ≡ true → read_refusal (length entry) line ≡ accepted
      unfolding limb_tests first_refusal
      all_pass f = later (length entry) ∙ rw (right, sym read_form ∙ f)

      pub zero_read : (exit : List ℕ) → is_zero_kind x.kind ≡ true → exit ≡ replicate (length entry) 0 → Left line entry exit (Ok x)
      unfolding limbs_read
      zero_read exit k f =
          let y : is_zero_kind (number_in line).kind ≡ true = rw number_is at k in
          accepted_read line entry exit x (all_pass (zero_form x (limbs_in (length entry) line) k)) number_is (f ∙ rw y)

      module _ (k : is_zero_kind x.kind ≡ false) where
        regular : is_zero_kind (number_in line).kind ≡ false
        regular = rw number_is at k

        pub limbs_fill : length line ≡ shortest_line + 16 * length entry
        unfolding line_size
        limbs_fill = line_size_lem ∙ rw (regular, count)

        pub regular_read : (exit : List ℕ) → form_holds (operand_of x (limbs_in (length entry) line)) ≡ true → exit ≡ limbs_in (length entry) line → Left line entry exit (Ok x)
        unfolding limbs_read
        regular_read exit f g = accepted_read line entry exit x (all_pass f) number_is (g ∙ rw regular)
