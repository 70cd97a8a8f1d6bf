-- A line over the longest is refused, so that one byte over it serves for all of it. Assumes nothing.
use mathlib.Core.Path.{◌≡◌, refl, sym, ap, ◌∙◌}
use mathlib.Core.List.{List}
use Prim.Native.Nat.{ℕ, ◌≤◌, ◌<◌}
use native.Mathlib.Omega.{arith}
use native.Mathlib.Decide.{dec_le}
use borrow.Author.Tests.{lt-ltb}
use lib.ListN.{length}
use lib.Seq.{take_all, length-take-le}
use Rattle.desklines.proofs.Orders.{refused_size}
use Rattle.std.specs.Prelude.{Result, Ok, Err}
use Rattle.checks.specs.declared.Rule.TheVariants.{LineSize}
use Rattle.checks.specs.declared.Place.{Place}
use Rattle.checks.specs.declared.Place.TheVariants.{First, Second, Target}
use Rattle.checks.specs.declared.Refusal.{Refusal}
use Rattle.checks.specs.Check.{accepted, then}
use Rattle.lines.specs.Line.{longest_line, shortest_line}
use Rattle.desklines.specs.Order.{order_size, order_refusal}
use Rattle.desklines.specs.Answer.{number_refusal, lines_refusal, group_refusal, Answered}
use Rattle.cutting.specs.Lines.{line_room, cut_line}

short_cut : (l : List ℕ) → length l ≤ line_room → cut_line l ≡ l
unfolding cut_line
short_cut l h = take_all line_room l h

long_cut : (l : List ℕ) → line_room ≤ length l → length (cut_line l) ≡ line_room
unfolding cut_line
long_cut l h = length-take-le line_room l h

room_over : longest_line < line_room
unfolding line_room
room_over = omega arith

order_under : order_size < line_room
unfolding order_size line_room longest_line shortest_line
order_under = omega arith

module _ (place : Place) (l : List ℕ) where
  long_number : longest_line < length l → number_refusal place l ≡ Err (record { rule = LineSize; place = place })
  unfolding number_refusal
  long_number h = rw (lt-ltb longest_line (length l) h)

  accepted_short : number_refusal place l ≡ accepted → length l ≤ longest_line
  unfolding accepted
  accepted_short z = go (dec_le (length l) longest_line)
    where
      go : Dec (length l ≤ longest_line) → length l ≤ longest_line
      go (yes h) = h
      go (no h) = let none : ◌≡◌ {A = Result (Unit {0}) Refusal} (Err (record { rule = LineSize; place = place })) (Ok tt) = sym (long_number (omega arith)) ∙ z in cc none

cut_number : (place : Place) (l : List ℕ) → number_refusal place (cut_line l) ≡ number_refusal place l
cut_number place l = go (dec_le (length l) line_room)
  where
    go : Dec (length l ≤ line_room) → number_refusal place (cut_line l) ≡ number_refusal place l
    go (yes h) = ap (number_refusal place) (short_cut l h)
    go (no h) =
        let e : length (cut_line l) ≡ line_room = long_cut l (omega arith) in
        long_number place (cut_line l) (omega (arith, e, room_over)) ∙ sym (long_number place l (omega (arith, room_over)))

cut_order : (l : List ℕ) → order_refusal (cut_line l) ≡ order_refusal l
cut_order l = go (dec_le (length l) line_room)
  where
    go : Dec (length l ≤ line_room) → order_refusal (cut_line l) ≡ order_refusal l
    go (yes h) = ap order_refusal (short_cut l h)
    go (no h) =
        let e : length (cut_line l) ≡ line_room = long_cut l (omega arith) in
        refused_size (cut_line l) (λ k. omega (arith, e, k, order_under)) ∙ sym (refused_size l (λ k. omega (arith, k, order_under)))

accepted_order : (l : List ℕ) → order_refusal l ≡ accepted → length l ≤ line_room
unfolding accepted
accepted_order l z = go (dec_le (length l) line_room)
  where
    go : Dec (length l ≤ line_room) → length l ≤ line_room
    go (yes h) = h
    go (no h) = let none : ◌≡◌ {A = Result (Unit {0}) Refusal} (Err (record { rule = LineSize; place = Target })) (Ok tt) = sym (refused_size l (λ k. omega (arith, k, order_under))) ∙ z in cc none

-- nothing is refused of a chain where nothing is refused of its parts
then_ok : (r s : Result (Unit {0}) Refusal) → then r s ≡ accepted → (r ≡ accepted) × (s ≡ accepted)
unfolding accepted
then_ok (Ok u) s z = (refl, z)
then_ok (Err q) s z = cc z

module _ (a b c : List ℕ) where
  cut_lines : lines_refusal (cut_line a) (cut_line b) (cut_line c) ≡ lines_refusal a b c
  unfolding lines_refusal
  cut_lines = rw (cut_number First a, cut_number Second b, cut_order c) refl

  group_refused : (r : Refusal) → lines_refusal a b c ≡ Err r → group_refusal a b c ≡ Err r
  unfolding group_refusal
  group_refused r n = rw n

  all_short : lines_refusal a b c ≡ accepted → (cut_line a ≡ a) × (cut_line b ≡ b) × (cut_line c ≡ c)
  unfolding lines_refusal
  all_short z =
      let p = then_ok (number_refusal First a) (then (number_refusal Second b) (order_refusal c)) z in
      let q = then_ok (number_refusal Second b) (order_refusal c) p.1 in
      (short_cut a (omega (arith, accepted_short First a p.0, room_over)), short_cut b (omega (arith, accepted_short Second b q.0, room_over)), short_cut c (accepted_order c q.1))

module _ (a b c : List ℕ) {told : List ℕ} where
  pub answered_cut : Answered (cut_line a) (cut_line b) (cut_line c) told → Answered a b c told
  unfolding accepted
  answered_cut k = go (lines_refusal a b c) refl
    where
      go : (r : Result (Unit {0}) Refusal) → lines_refusal a b c ≡ r → Answered a b c told
      go (Ok u) z = let e = all_short a b c z in rw (e.0, e.1, e.2) at k
      go (Err r) z =
          let g : group_refusal a b c ≡ Err r = group_refused a b c r z in
          let h : group_refusal (cut_line a) (cut_line b) (cut_line c) ≡ Err r = group_refused (cut_line a) (cut_line b) (cut_line c) r (cut_lines a b c ∙ z) in
          record {
            refused = λ q i. k.refused q (h ∙ sym g ∙ i);
            summed = λ q. let none : ◌≡◌ {A = Result (Unit {0}) Refusal} (Err r) (Ok tt) = sym g ∙ q in cc none;
          }
