-- Each accepted line is what the writer gives for the number read: a number has one line. Assumes nothing.
use mathlib.Core.Path.{◌≡◌, refl, sym, ap, ◌∙◌}
use mathlib.Core.Bool.{Bool, true, false, cond}
use mathlib.Core.List.{List, [], ◌∷◌, ◌++◌}
use Prim.Native.Nat.{ℕ, zero, suc, ◌+◌, ◌-◌, ◌*◌, ◌^◌, ◌<◌, ◌≤◌}
use native.Mathlib.Nat.{lt_of_not-le}
use native.Mathlib.Decide.{dec_le}
use native.Mathlib.Omega.{arith}
use lib.ListN.{length, take, drop, get_or, replicate, length-replicate, take-append-drop, drop_of_length-le}
use lib.Seq.{take-add, drop-drop, drop-cons}
use borrow.Author.Tests.{lt-ltb, le-ltb, le-leb, leb-true, eqb-true}
use Rattle.numbers.specs.Limits.{limbs_for}
use Rattle.checks.specs.Number.{operand_of, is_zero_kind}
use Rattle.checks.specs.Check.{accepted, left_by, precision_holds, length_holds, exponent_holds, form_holds}
use Rattle.checks.proofs.Tables.{AllHold, accepted_all, all_accepted}
use Rattle.checks.proofs.Accepted.{length_count}
use Rattle.text.specs.Digits.{numeral}
use Rattle.text.proofs.Numeral.{numeral_of_worth}
use Rattle.lines.specs.Line.{kind_byte, twos_complement, head_digits, limb_digits, line_feed, line_of, shortest_line, line_size}
use Rattle.lines.specs.Reading.{field, kind_in, signed_of, negative_of, kind_of, number_in, limbs_in, operand_in, digits_hold, head_tests, limb_tests, read_refusal, limbs_read}
use Rattle.lines.specs.Writing.{write_refusal, room_after}
use Rattle.lines.proofs.Fields.{ends, field_digits, field_length, field_lt, length_limbs, shortest_is}
use Rattle.lines.proofs.Room.{onto_all}
use Rattle.lines.proofs.Size.{zero_line, regular_line}
use Rattle.lines.proofs.Accepted.{zero_form}

-- ---- the kind and the exponent

kind_whole : (k : ℕ) → k ≤ 3 → kind_byte (kind_of k) (negative_of k) ≡ k
unfolding kind_byte kind_of negative_of
kind_whole zero h = refl
kind_whole (suc zero) h = refl
kind_whole (suc (suc zero)) h = refl
kind_whole (suc (suc (suc zero))) h = refl
kind_whole (suc (suc (suc (suc k)))) h = absurd (omega arith)

complement_whole : (w : ℕ) → w < 2 ^ 32 → twos_complement (signed_of w) ≡ w
unfolding twos_complement signed_of
complement_whole w h =
    elim (dec_le 2147483648 w) [
      | yes g ↦ simp (le-ltb w 2147483648 g, lt-ltb w 4294967296 h) (omega arith)
      | no g ↦ simp (lt-ltb w 2147483648 (lt_of_not-le g))
    ]

-- ---- the parts of a line of digits

module _ (line : List ℕ) (digits : digits_hold line ≡ true) where
  pub field_back : (at n : ℕ) → at + n < length line → numeral n (field at n line) ≡ take n (drop at line)
  unfolding field
  field_back at n h = ap (λ (m : ℕ). numeral m (field at n line)) (sym (field_length line at n h)) ∙ numeral_of_worth (take n (drop at line)) (field_digits line at n digits h)

  head_whole : kind_in line ≤ 3 → 14 < length line → head_digits (number_in line) ≡ take 14 line
  unfolding head_digits number_in kind_in
  head_whole k h =
      rw (kind_whole (field 0 2 line) k, complement_whole (field 6 8 line) (field_lt line 6 8 digits (omega arith)), field_back 0 2 (omega arith), field_back 2 4 (omega arith), field_back 6 8 (omega arith))
      (sym (take-add 6 8 line ∙ ap (λ (l : List ℕ). l ++ take 8 (drop 6 line)) (take-add 2 4 line)))

  limbs_whole : (m : ℕ) → 14 + 16 * m < length line → limb_digits (limbs_in m line) ≡ take (16 * m) (drop 14 line)
  unfolding limb_digits limbs_in
  limbs_whole zero h = refl
  limbs_whole (suc m) h =
      let n : 16 * suc m ≡ 16 * m + 16 = omega arith in
      rw (limbs_whole m (omega arith), field_back (14 + 16 * m) 16 (omega arith), n, take-add (16 * m) 16 (drop 14 line), drop-drop (16 * m) 14 line)

  last_byte : 0 < length line → drop (length line - 1) line ≡ line_feed ∷ []
  last_byte h =
      let n : length line - 1 < length line = omega arith in
      rw (drop-cons line (length line - 1) 0 n, eqb-true (get_or line (length line - 1) 0) line_feed (ends line digits).0, drop_of_length-le line {i = suc (length line - 1)} (omega arith))

  all_bytes : 0 < length line → line ≡ take (length line - 1) line ++ line_feed ∷ []
  all_bytes h = sym (take-append-drop (length line - 1) line) ∙ ap (λ (l : List ℕ). take (length line - 1) line ++ l) (last_byte h)

-- ---- an accepted line

module _ (line : List ℕ) (n : ℕ) (a : read_refusal n line ≡ accepted) where
  tests : AllHold (head_tests line ++ limb_tests n line)
  unfolding read_refusal head_tests limb_tests
  tests = accepted_all (head_tests line ++ limb_tests n line) a

  long : shortest_line ≤ length line
  unfolding head_tests limb_tests
  long = leb-true shortest_line (length line) tests.0

  digits : digits_hold line ≡ true
  unfolding head_tests limb_tests
  digits = tests.1.0

  kind : kind_in line ≤ 3
  unfolding head_tests limb_tests
  kind = leb-true (kind_in line) 3 tests.1.1.0

  precision : precision_holds (number_in line).precision ≡ true
  unfolding head_tests limb_tests
  precision = tests.1.1.1.0

  size : length line ≡ line_size (number_in line)
  unfolding head_tests limb_tests
  size = eqb-true (length line) (line_size (number_in line)) tests.1.1.1.1.0

  exponent : exponent_holds (operand_in line) ≡ true
  unfolding head_tests limb_tests
  exponent = tests.1.1.1.1.1.0

  limbs : length_holds (number_in line).precision n ≡ true
  unfolding head_tests limb_tests
  limbs = tests.1.1.1.1.1.1.0

  form : form_holds (operand_in line) ≡ true
  unfolding head_tests limb_tests
  form = tests.1.1.1.1.1.1.1.0

  count : n ≡ limbs_for (number_in line).precision
  count = length_count (number_in line).precision n limbs

  length_read : length (limbs_read n line) ≡ n
  unfolding limbs_read
  length_read = go (is_zero_kind (number_in line).kind)
    where
      go : (b : Bool) → length (cond b (replicate n 0) (limbs_in n line)) ≡ n
      go true = length-replicate n 0
      go false = length_limbs line n

  head_same : head_digits (number_in line) ≡ take 14 line
  head_same = head_whole line digits kind (omega (arith, long, shortest_is))

  -- "Each accepted line is what the writer gives for the number read."
  pub written_again : line_of (number_in line) (limbs_read n line) ≡ line
  unfolding line_size limbs_read
  written_again = go (is_zero_kind (number_in line).kind) refl ∙ sym (all_bytes line digits (omega (arith, long, shortest_is)))
    where
      go : (b : Bool) → is_zero_kind (number_in line).kind ≡ b → line_of (number_in line) (limbs_read n line) ≡ take (length line - 1) line ++ line_feed ∷ []
      go true z =
          let s : length line ≡ shortest_line = rw z at size in
          let m : length line - 1 ≡ 14 = omega (arith, s, shortest_is) in
          rw (zero_line (number_in line) (limbs_read n line) z, head_same, m)
      go false z =
          let s : length line ≡ shortest_line + 16 * limbs_for (number_in line).precision = rw z at size in
          let m : length line - 1 ≡ 14 + 16 * n = omega (arith, s, shortest_is, count) in
          let r : limbs_read n line ≡ limbs_in n line = rw z in
          rw (r, regular_line (number_in line) (limbs_in n line) z, head_same, limbs_whole line digits n (omega (arith, long, shortest_is, m)), m, take-add 14 (16 * n) line)

  form_again : form_holds (operand_of (number_in line) (limbs_read n line)) ≡ true
  unfolding limbs_read operand_in
  form_again = go (is_zero_kind (number_in line).kind) refl
    where
      go : (b : Bool) → is_zero_kind (number_in line).kind ≡ b → form_holds (operand_of (number_in line) (limbs_read n line)) ≡ true
      go true z = zero_form (number_in line) (limbs_read n line) z
      go false z = let r : limbs_read n line ≡ limbs_in n line = rw z in rw (r, count) form

  exponent_again : exponent_holds (operand_of (number_in line) (limbs_read n line)) ≡ true
  unfolding exponent_holds operand_in operand_of
  exponent_again = exponent

  -- and the writer accepts it, in a room that holds the line
  pub write_again : (room : ℕ) → length line ≤ room → write_refusal (number_in line) (limbs_read n line) room ≡ accepted
  unfolding write_refusal
  write_again room h = all_accepted _ (precision, (rw length_read limbs, (exponent_again, (form_again, (le-leb _ room (rw written_again h), tt)))))

  -- so a room of the line's size holds that line afterwards
  pub room_again : (room : List ℕ) → length room ≡ length line → room_after (number_in line) (limbs_read n line) room ≡ line
  unfolding room_after left_by accepted
  room_again room h = rw (write_again (length room) (omega arith), written_again) (onto_all line room (omega arith))
