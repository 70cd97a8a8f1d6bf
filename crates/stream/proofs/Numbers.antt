-- A number's line: too long, refused by its head, refused with its limbs, or read. Assumes nothing.
use mathlib.Core.Path.{◌≡◌, refl, sym, ap, ◌∙◌}
use mathlib.Core.List.{List}
use Prim.Native.Nat.{ℕ, ◌-◌, ◌≤◌, ◌<◌, min}
use native.Mathlib.Omega.{arith}
use borrow.Author.Tests.{lt-ltb, le-ltb}
use lib.ListN.{length, take, drop}
use lib.Seq.{take_at, length-take-le}
use borrow.Rule.Slice.PartMut.{put_mid}
use Rattle.lines.proofs.Accepted.{read_joined, number_is, line_precision}
use Rattle.numbers.proofs.Limits.{limbs_more}
use Rattle.numbers.specs.Limits.{limbs_for, most_precision}
use Rattle.checks.specs.declared.Number.{Number}
use Rattle.std.specs.Prelude.{Result, Ok, Err, MatchResult}
use Rattle.checks.specs.declared.Rule.TheVariants.{LineSize}
use Rattle.checks.specs.declared.Place.{Place}
use Rattle.checks.specs.declared.Refusal.{Refusal}
use Rattle.checks.specs.Check.{accepted, answered, left_by}
use Rattle.lines.specs.Line.{longest_line}
use Rattle.lines.specs.Reading.{number_in, limbs_read, head_refusal, read_refusal, head_of, read_of, target_after}
use Rattle.desklines.specs.Answer.{limbs_of_line, placed, number_refusal}
use Rattle.desklines.specs.Written.{most_limbs, NumberRead, NumberHeld}

pub part_length : (room : List ℕ) (n : ℕ) → n ≤ length room → length (take (n - 0) (drop 0 room)) ≡ n
part_length room n h =
    let e : n - 0 ≡ n = omega arith in
    length-take-le (n - 0) room (omega arith) ∙ e

abbrev error_or : {A : Type 0} → Refusal → Result A Refusal → Refusal
error_or r (Ok a) = r
error_or r (Err q) = q

abbrev number_or : Number → Result Number Refusal → Number
number_or x (Ok y) = y
number_or x (Err r) = x

placed_ok : (place : Place) (x : Number) (r : Result Number Refusal) → Ok x ≡ placed place r → Ok x ≡ r
unfolding placed
placed_ok place x (Ok y) e = e
placed_ok place x (Err q) e = let none : Ok x ≡ Err (record { rule = q.rule; place = place }) = e in cc none

module _ (place : Place) (line : List ℕ) where
  pub too_long : longest_line < length line → number_refusal place line ≡ Err (record { rule = LineSize; place = place })
  unfolding number_refusal
  too_long h = rw (lt-ltb longest_line (length line) h)

  module _ (short : length line ≤ longest_line) where
    placed_is : number_refusal place line ≡ placed place (read_refusal (limbs_for (number_in line).precision) line)
    unfolding number_refusal
    placed_is = rw (le-ltb longest_line (length line) short)

    -- what is refused is refused with the line's place
    refused_by : {A : Type 0} (a : A) (q : Refusal) → Err q ≡ placed place (answered (read_refusal (limbs_for (number_in line).precision) line) a) → number_refusal place line ≡ Err q
    unfolding placed answered
    refused_by {A} a q e = placed_is ∙ go (read_refusal (limbs_for (number_in line).precision) line) refl
      where
        go : (s : Result (Unit {0}) Refusal) → read_refusal (limbs_for (number_in line).precision) line ≡ s → placed place s ≡ Err q
        go (Ok u) h = let none : ◌≡◌ {A = Result A Refusal} (Err q) (Ok a) = e ∙ rw h in cc none
        go (Err r) h = let same : ◌≡◌ {A = Result A Refusal} (Err q) (Err (record { rule = r.rule; place = place })) = e ∙ rw h in ap (λ (x : Refusal). Err x) (sym (ap (error_or q) same))

    pub head_refused : (q : Refusal) (r : Result Number Refusal) → r ≡ head_of line → Err q ≡ placed place r → number_refusal place line ≡ Err q
    unfolding placed head_of answered
    head_refused q r f e = go (head_refusal line) refl
      where
        go : (s : Result (Unit {0}) Refusal) → head_refusal line ≡ s → number_refusal place line ≡ Err q
        go (Ok u) h = let none : Err q ≡ Ok (number_in line) = e ∙ rw (f, h) in cc none
        go (Err p) h =
            let j : read_refusal (limbs_for (number_in line).precision) line ≡ Err p = read_joined (limbs_for (number_in line).precision) line ∙ rw h in
            let same : ◌≡◌ {A = Result Number Refusal} (Err q) (Err (record { rule = p.rule; place = place })) = e ∙ rw (f, h) in
            placed_is ∙ rw j (ap (λ (x : Refusal). Err x) (sym (ap (error_or q) same)))

    -- where the head is accepted
    module _ (x : Number) (h : Result Number Refusal) (head : h ≡ head_of line) (ok : Ok x ≡ placed place h) where
      head_is : Ok x ≡ head_of line
      head_is = placed_ok place x h ok ∙ head

      pub head_few : limbs_for (number_in line).precision ≤ most_limbs
      unfolding most_limbs
      head_few = limbs_more (number_in line).precision most_precision (line_precision line x head_is).1

      module _ (n : ℕ) (c : n ≡ min (limbs_for x.precision) most_limbs) (room part last : List ℕ) (count : length part ≡ n) (r : Result Number Refusal) (f : r ≡ read_of (length part) line) where
        n_is : n ≡ limbs_for (number_in line).precision
        n_is = let k : n ≡ min (limbs_for (number_in line).precision) most_limbs = c ∙ ap (λ (y : Number). min (limbs_for y.precision) most_limbs) (number_is line x head_is) in omega (arith, k, head_few)

        read_is : r ≡ answered (read_refusal (limbs_for (number_in line).precision) line) (number_in line)
        unfolding read_of
        read_is = f ∙ ap (λ (m : ℕ). answered (read_refusal m line) (number_in line)) (count ∙ n_is)

        read_ok : (y : Number) → Ok y ≡ r → (read_refusal (limbs_for (number_in line).precision) line ≡ accepted) × (y ≡ number_in line)
        unfolding answered accepted
        read_ok y e = go (read_refusal (limbs_for (number_in line).precision) line) refl
          where
            go : (s : Result (Unit {0}) Refusal) → read_refusal (limbs_for (number_in line).precision) line ≡ s → (s ≡ Ok tt) × (y ≡ number_in line)
            go (Ok u) k = let same : Ok y ≡ Ok (number_in line) = e ∙ read_is ∙ rw k in (refl, ap (number_or y) same)
            go (Err q) k = let none : Ok y ≡ Err q = e ∙ read_is ∙ rw k in cc none

        pub line_refused : (q : Refusal) → Err q ≡ placed place r → number_refusal place line ≡ Err q
        line_refused q e = refused_by (number_in line) q (e ∙ ap (placed place) read_is)

        pub line_read : (exit : List ℕ) (y : Number) → Ok y ≡ placed place r → last ≡ target_after line part → length last ≡ length part → exit ≡ put_mid 0 (n - 0) room last → NumberRead place line exit y
        unfolding accepted placed target_after left_by limbs_of_line
        line_read exit y m t k z =
            let l : limbs_for (number_in line).precision ≡ length last = sym n_is ∙ sym count ∙ sym k in
            let q = read_ok y (placed_ok place y r m) in
            let w : read_refusal (length part) line ≡ accepted = ap (λ (i : ℕ). read_refusal i line) (count ∙ n_is) ∙ q.0 in
            let u : target_after line part ≡ limbs_read (length part) line = rw w in
            record {
              refusal = placed_is ∙ rw q.0;
              number = q.1;
              few = head_few;
              limbs = ap (take (limbs_for (number_in line).precision)) z ∙ take_at last _ (limbs_for (number_in line).precision) (sym l) ∙ t ∙ u ∙ ap (λ (i : ℕ). limbs_read i line) (count ∙ n_is);
            }

        pub line_told : (exit : List ℕ) (s : Result Number Refusal) → s ≡ placed place r → last ≡ target_after line part → length last ≡ length part → exit ≡ put_mid 0 (n - 0) room last
            → MatchResult s (λ y. NumberRead place line exit y) (λ q. number_refusal place line ≡ Err q)
        line_told exit (Ok y) m t k z = line_read exit y m t k z
        line_told exit (Err q) m t k z = line_refused q m

-- what was read is held
pub number_held : (place : Place) (line exit : List ℕ) (x : Number) (n : ℕ) → NumberRead place line exit x → n ≡ min (limbs_for x.precision) most_limbs → NumberHeld place line x (take (n - 0) (drop 0 exit))
number_held place line exit x n k c = record {
  refusal = k.refusal;
  number = k.number;
  limbs_are =
      let e : n ≡ min (limbs_for (number_in line).precision) most_limbs = c ∙ ap (λ (y : Number). min (limbs_for y.precision) most_limbs) k.number in
      let m : n - 0 ≡ limbs_for (number_in line).precision = omega (arith, e, k.few) in
      ap (λ (j : ℕ). take j exit) m ∙ k.limbs;
}
