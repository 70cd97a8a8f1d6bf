-- A line written whole, and what the writer answers. Assumes nothing.
use mathlib.Core.Path.{◌≡◌, refl, sym, ap, ◌∙◌}
use mathlib.Core.Bool.{true, false}
use mathlib.Core.List.{List, [], ◌∷◌, ◌++◌}
use Prim.Native.Nat.{ℕ, ◌+◌, ◌-◌, ◌*◌, ◌<◌, ◌≤◌}
use lib.Dec.{leb}
use lib.ListN.{length, set, length-append}
use borrow.Author.Tests.{le-leb, lt-leb}
use borrow.Rule.Slice.PartMut.{put_mid}
use Rattle.checks.specs.declared.Number.{Number}
use Rattle.checks.specs.declared.Rule.TheVariants.{Precision, Limbs, Exponent, Form}
use Rattle.checks.specs.declared.Place.TheVariants.{First, Target}
use Rattle.checks.specs.declared.Refusal.{Refusal}
use Rattle.std.specs.Prelude.{Ok, Err}
use Rattle.checks.specs.Number.{operand_of, is_zero_kind}
use Rattle.checks.specs.Check.{test, accepted, then, left_by, answered, first_refusal, precision_holds, length_holds, exponent_holds, form_holds, alone_refusal}
use Rattle.numbers.specs.Limits.{limbs_for}
use Rattle.checks.proofs.Tables.{chained, accepted_all}
use Rattle.checks.proofs.Accepted.{length_count}
use Rattle.lines.specs.Line.{head_digits, limb_digits, line_feed, line_of, line_size}
use Rattle.lines.specs.Writing.{write_refusal, written_of, onto, room_after}
use Rattle.lines.proofs.Room.{put_onto, set_onto, length_limb_digits}
use Rattle.lines.proofs.Size.{length_head, zero_line, regular_line, size_is}

-- ---- the bytes

module _ (x : Number) (l r room : List ℕ) (head : room ≡ onto (head_digits x) r) where
  pub zero_written : is_zero_kind x.kind ≡ true → 14 < length r → set room 14 10 ≡ onto (line_of x l) r
  unfolding line_feed
  zero_written z h = rw (head, zero_line x l z) (set_onto (head_digits x) r 14 10 (sym (length_head x)) h)

  pub regular_written : (part : List ℕ) (last : ℕ) → is_zero_kind x.kind ≡ false → last ≡ 14 + 16 * length l → last < length r → part ≡ limb_digits l → set (put_mid 14 (last - 14) room part) last 10 ≡ onto (line_of x l) r
  unfolding line_feed
  regular_written part last z e h d =
      let a : last ≡ 14 + length (limb_digits l) = e ∙ ap (λ (n : ℕ). 14 + n) (sym (length_limb_digits l)) in
      let f : last ≡ length (head_digits x ++ limb_digits l) = a ∙ sym (length-append (head_digits x) (limb_digits l) ∙ ap (λ (n : ℕ). n + length (limb_digits l)) (length_head x)) in
      rw (d, head, put_onto (head_digits x) (limb_digits l) r 14 last (sym (length_head x)) a, set_onto (head_digits x ++ limb_digits l) r last 10 f h, regular_line x l z)

-- ---- the answer

module _ (x : Number) (l : List ℕ) where
  -- checks 2 to 5 of the number alone, then the room
  pub write_joined : (n : ℕ) → write_refusal x l n ≡ then (alone_refusal (operand_of x l)) (first_refusal (test (leb (length (line_of x l)) n) Limbs Target ∷ []))
  unfolding write_refusal alone_refusal operand_of
  write_joined n =
      chained
      (test (precision_holds x.precision) Precision First ∷ test (length_holds x.precision (length l)) Limbs First ∷ test (exponent_holds (operand_of x l)) Exponent First ∷ test (form_holds (operand_of x l)) Form First ∷ [])
      (test (leb (length (line_of x l)) n) Limbs Target ∷ [])

  pub refused_alone : (r : Refusal) (room : List ℕ) → alone_refusal (operand_of x l) ≡ Err r → (Err r ≡ written_of x l (length room)) × (room ≡ room_after x l room)
  unfolding written_of room_after answered left_by
  refused_alone r room e =
      let w : write_refusal x l (length room) ≡ Err r = write_joined (length room) ∙ rw e in
      (rw w, rw w)

  module _ (a : alone_refusal (operand_of x l) ≡ accepted) where
    pub alone_length : length l ≡ limbs_for x.precision
    unfolding alone_refusal operand_of
    alone_length = length_count x.precision (length l) (accepted_all _ a).1.0

    joined : (n : ℕ) → write_refusal x l n ≡ first_refusal (test (leb (length (line_of x l)) n) Limbs Target ∷ [])
    unfolding accepted
    joined n = write_joined n ∙ rw a

    pub short_room : (room : List ℕ) → length room < line_size x → (Err (record { rule = Limbs; place = Target }) ≡ written_of x l (length room)) × (room ≡ room_after x l room)
    unfolding written_of room_after first_refusal answered left_by
    short_room room h =
        let f : length room < length (line_of x l) = rw (size_is x l alone_length) h in
        let w : write_refusal x l (length room) ≡ Err (record { rule = Limbs; place = Target }) = joined (length room) ∙ rw (lt-leb (length (line_of x l)) (length room) f) in
        (rw w, rw w)

    pub room_holds : (n size : ℕ) → size ≡ line_size x → size ≤ n → length (line_of x l) ≤ n
    room_holds n size e h = rw (size_is x l alone_length, sym e) h

    pub write_accepted : (n : ℕ) → length (line_of x l) ≤ n → write_refusal x l n ≡ accepted
    unfolding first_refusal
    write_accepted n h = joined n ∙ rw (le-leb (length (line_of x l)) n h)

    pub all_written : (room exit : List ℕ) (size : ℕ) → size ≡ line_size x → size ≤ length room → exit ≡ onto (line_of x l) room → (Ok size ≡ written_of x l (length room)) × (exit ≡ room_after x l room)
    unfolding written_of room_after accepted answered left_by
    all_written room exit size s h f =
        let w = write_accepted (length room) (room_holds (length room) size s h) in
        (rw (w, s, size_is x l alone_length), f ∙ rw w)
