-- Lines put one behind the other at the start of a room. Assumes nothing.
use mathlib.Core.Path.{◌≡◌, refl, sym, ap, ◌∙◌}
use mathlib.Core.Bool.{true, false, cond}
use mathlib.Core.List.{List, [], ◌∷◌, ◌++◌, append_assoc}
use Prim.Native.Nat.{ℕ, zero, suc, ◌+◌, ◌-◌, ◌≤◌, ◌<◌}
use native.Mathlib.Omega.{arith}
use borrow.Author.Tests.{ltb-true, ltb-false}
use lib.IntN.{ℤ, pos, negsuc}
use lib.Signed.{lt_z}
use lib.ListN.{length, take, drop, set, length-append, length-drop}
use borrow.Rule.Slice.PartMut.{put_mid}
use Rattle.lines.proofs.Longest.{line_fits}
use Rattle.numbers.specs.Operand.{WellFormed}
use Rattle.checks.specs.declared.Number.{Number}
use Rattle.checks.specs.declared.Refusal.{Refusal}
use Rattle.std.specs.Prelude.{Result, Ok, Err, IfOk}
use Rattle.checks.specs.Number.{operand_of}
use Rattle.checks.specs.Check.{accepted, answered, left_by}
use Rattle.checks.proofs.Accepted.{alone_accepted}
use Rattle.text.specs.Digits.{numeral}
use Rattle.text.proofs.Numeral.{length_numeral}
use Rattle.lines.specs.Line.{line_feed, line_of, longest_line}
use Rattle.lines.specs.Writing.{onto, write_refusal, written_of, room_after}
use Rattle.lines.proofs.Answered.{write_accepted}
use Rattle.lines.proofs.Room.{onto_nothing, put_numeral, set_onto}
use Rattle.reports.specs.declared.report.Rounded.{Rounded}
use Rattle.reports.specs.declared.report.Sum.{Sum}
use Rattle.desklines.specs.declared.telling.Numbered.{Numbered}
use Rattle.desklines.specs.Answer.{numbered_line, numbered, refusal_line, ternary_byte, report_line, answer_lines, sum_lines, report_size, longest_answer}
use Rattle.desklines.specs.Written.{Tells, Appends}

pub refusal_fits : 7 ≤ longest_answer
unfolding longest_answer report_size
refusal_fits = omega arith

pub report_is : report_size ≡ 11
unfolding report_size
report_is = refl

longer : (told room : List ℕ) (at : ℕ) → length told ≡ at → at < length (onto told room) → at < length room
unfolding onto
longer told room at e h = let k : at < length told + (length room - length told) = (simp (length-append, length-drop) at h) in omega arith

-- one part more
pub put_more : (out t : List ℕ) (at n v : ℕ) → at + n ≤ length out → t ≡ numeral (length (take (at + n - at) (drop at out))) v
    → Appends (numeral n v) n at out (put_mid at (at + n - at) out t) (at + n)
put_more out t at n v h e = (refl, λ told room l f. put_numeral out told room t at (at + n) n v f (sym l) refl h e)

pub end_more : (out : List ℕ) (at : ℕ) → at < length out → Appends (line_feed ∷ []) 1 at out (set out at 10) (at + 1)
unfolding line_feed
end_more out at h = (
  refl,
  λ told room l f.
      let k : at < length (onto told room) = omega (arith, ap length f) in
      ap (λ (x : List ℕ). set x at 10) f ∙ set_onto told room at 10 (sym l) (longer told room at l k),
)

-- ee, number, place, LF
module _ (r : Numbered) (o a b c d : List ℕ) (i j k n v w : ℕ) (rule : v ≡ r.rule) (place : w ≡ r.place) where
  pub refusal_told : Appends (numeral 2 238) 2 0 o a i → Appends (numeral 2 v) 2 i a b j → Appends (numeral 2 w) 2 j b c k → Appends (line_feed ∷ []) 1 k c d n → Tells (numbered_line r) o d n
  unfolding numbered_line
  refusal_told p q s t =
      let x = p.1 [] o refl (onto_nothing o) in
      let y = q.1 (numeral 2 238) o (length_numeral 2 238 ∙ sym p.0) x in
      let z = s.1 (numeral 2 238 ++ numeral 2 v) o (simp (length-append, length_numeral) (omega (arith, p.0, q.0))) y in
      let m = t.1 ((numeral 2 238 ++ numeral 2 v) ++ numeral 2 w) o (simp (length-append, length_numeral) (omega (arith, p.0, q.0, s.0))) z in
      record {
        count_is = simp (length-append, length_numeral) (omega (arith, p.0, q.0, s.0, t.0));
        exit_is = m ∙ ap (λ (l : List ℕ). onto l o) (simp (append_assoc, rule, place));
      }

-- ternary value, depth, limbs of first, limbs of second, LF
module _ (s : Sum) (ternary : ℤ) (at v : ℕ) (o a b c d e : List ℕ) (i j k l n : ℕ) where
  pub report_told : v ≡ ternary_byte ternary → Appends (numeral 2 v) 2 at o a i → Appends (numeral 4 s.depth) 4 i a b j → Appends (numeral 2 s.first) 2 j b c k → Appends (numeral 2 s.second) 2 k c d l → Appends (line_feed ∷ []) 1 l d e n
      → Appends (report_line ternary s) report_size at o e n
  unfolding report_line report_size
  report_told g p q r t u = (
    omega (arith, p.0, q.0, r.0, t.0, u.0),
    λ told room h f.
        let w = p.1 told room h f in
        let x = q.1 (told ++ numeral 2 v) room (simp (length-append, length_numeral) (omega (arith, p.0))) w in
        let y = r.1 ((told ++ numeral 2 v) ++ numeral 4 s.depth) room (simp (length-append, length_numeral) (omega (arith, p.0, q.0))) x in
        let z = t.1 (((told ++ numeral 2 v) ++ numeral 4 s.depth) ++ numeral 2 s.first) room (simp (length-append, length_numeral) (omega (arith, p.0, q.0, r.0))) y in
        let m = u.1 ((((told ++ numeral 2 v) ++ numeral 4 s.depth) ++ numeral 2 s.first) ++ numeral 2 s.second) room (simp (length-append, length_numeral) (omega (arith, p.0, q.0, r.0, t.0))) z in
        m ∙ ap (λ (x : List ℕ). onto x room) (simp (append_assoc, g)),
  )

numbered_length : (r : Numbered) → length (numbered_line r) ≡ 7
unfolding numbered_line
numbered_length r = simp (length-append, length_numeral)

pub refusal_length : (r : Refusal) → length (refusal_line r) ≡ 7
refusal_length r = numbered_length (numbered r)

report_length : (t : ℤ) (s : Sum) → length (report_line t s) ≡ report_size
unfolding report_line report_size
report_length t s = simp (length-append, length_numeral)

-- -1, 0, 1
pub below_zero : (t : ℤ) → lt_z t (pos 0) ≡ true → 255 ≡ ternary_byte t
unfolding ternary_byte
below_zero (pos n) e = absurd (omega (arith, ltb-true n 0 e))
below_zero (negsuc n) e = refl

pub above_zero : (t : ℤ) → lt_z (pos 0) t ≡ true → 1 ≡ ternary_byte t
unfolding ternary_byte
above_zero (pos zero) e = let z : ◌≡◌ {A = ℕ} 0 1 = cc in absurd (omega arith)
above_zero (pos (suc n)) e = refl
above_zero (negsuc n) e = let z : ◌≡◌ {A = ℕ} 0 1 = cc in absurd (omega arith)

pub just_zero : (t : ℤ) → lt_z t (pos 0) ≡ false → lt_z (pos 0) t ≡ false → 0 ≡ ternary_byte t
unfolding ternary_byte
just_zero (pos zero) e f = refl
just_zero (pos (suc n)) e f = absurd (omega (arith, ltb-false 0 (suc n) f))
just_zero (negsuc n) e f = let z : ◌≡◌ {A = ℕ} 0 1 = cc in absurd (omega arith)

-- a sum that is refused, and one that is not
pub refused_told : (s : Sum) (limbs o e : List ℕ) (n : ℕ) (r : Refusal) → s.answer ≡ Err r → Tells (refusal_line r) o e n → Tells (sum_lines s limbs) o e n
unfolding sum_lines answer_lines
refused_told s limbs o e n r h t = rw h t

pub result_told : (s : Sum) (limbs o e : List ℕ) (n : ℕ) (a : Rounded) → s.answer ≡ Ok a → Tells (line_of a.number limbs ++ report_line a.ternary s) o e n → Tells (sum_lines s limbs) o e n
unfolding sum_lines answer_lines report_line
result_told s limbs o e n a h t = rw h t

number_fits : (x : Number) (limbs : List ℕ) → WellFormed (operand_of x limbs) → length (line_of x limbs) ≤ longest_line
unfolding operand_of
number_fits x limbs formed = line_fits x limbs formed.count formed.most

abbrev count_or : ℕ → Result ℕ Refusal → ℕ
count_or n (Ok m) = m
count_or n (Err r) = n

-- a number of good form is written, and the report comes behind it
module _ (s : Sum) (a : Rounded) (limbs o : List ℕ) (formed : WellFormed (operand_of a.number limbs)) (room : longest_answer ≤ length o) where
  is_written : write_refusal a.number limbs (length o) ≡ accepted
  unfolding longest_answer
  is_written = write_accepted a.number limbs (alone_accepted (operand_of a.number limbs) formed) (length o) (omega (arith, number_fits a.number limbs formed))

  written_is : written_of a.number limbs (length o) ≡ Ok (length (line_of a.number limbs))
  unfolding written_of answered accepted
  written_is = rw is_written

  pub never_refused : (r : Refusal) → Err r ≡ written_of a.number limbs (length o) → ⊥
  never_refused r e = let none : Err r ≡ Ok (length (line_of a.number limbs)) = e ∙ written_is in cc none

  count_is_size : (n : ℕ) → Ok n ≡ written_of a.number limbs (length o) → n ≡ length (line_of a.number limbs)
  count_is_size n e = let k : Ok n ≡ Ok (length (line_of a.number limbs)) = e ∙ written_is in ap (count_or n) k

  pub count_fits : (n : ℕ) → Ok n ≡ written_of a.number limbs (length o) → n + report_size ≤ length o
  unfolding longest_answer
  count_fits n e = omega (arith, number_fits a.number limbs formed, count_is_size n e)

  pub sum_told : (count : ℕ) (b c : List ℕ) (n : ℕ) → Ok count ≡ written_of a.number limbs (length o) → b ≡ room_after a.number limbs o → Appends (report_line a.ternary s) report_size count b c n
      → Tells (line_of a.number limbs ++ report_line a.ternary s) o c n
  unfolding room_after left_by accepted
  sum_told count b c n e f p =
      let g : b ≡ onto (line_of a.number limbs) o = f ∙ rw is_written in
      record {
        count_is = p.0 ∙ simp (length-append, report_length a.ternary s, count_is_size count e);
        exit_is = p.1 (line_of a.number limbs) o (sym (count_is_size count e)) g;
      }

-- no answer is longer than the longest
pub sum_few : (s : Sum) (limbs : List ℕ) → IfOk s.answer (λ a. WellFormed (operand_of a.number limbs)) → length (sum_lines s limbs) ≤ longest_answer
unfolding sum_lines longest_answer answer_lines
sum_few s limbs f = go s.answer f
  where
    go : (r : Result Rounded Refusal) → IfOk r (λ a. WellFormed (operand_of a.number limbs)) → length (answer_lines r s limbs) ≤ longest_line + report_size
    go (Ok a) h = simp (length-append, report_length a.ternary s) (omega (arith, number_fits a.number limbs h))
    go (Err r) h = simp (refusal_length r) (omega (arith, refusal_fits))
