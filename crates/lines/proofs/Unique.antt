-- Two answers that meet a promise agree, in what they say and in what they leave. Assumes nothing.
use mathlib.Core.Path.{◌≡◌, sym, ap, ◌∙◌}
use mathlib.Core.Bool.{false}
use mathlib.Core.List.{List}
use Prim.Native.Nat.{ℕ, ◌^◌}
use lib.ListN.{length}
use Rattle.limb.specs.Value.{Below}
use Rattle.checks.specs.declared.Number.{Number}
use Rattle.checks.specs.declared.Refusal.{Refusal}
use Rattle.std.specs.Prelude.{Result}
use Rattle.checks.specs.Number.{is_zero_kind}
use Rattle.checks.specs.Check.{accepted}
use Rattle.numbers.specs.Limits.{limbs_for}
use Rattle.lines.specs.Line.{line_of}
use Rattle.lines.specs.Reading.{head_of, read_of, target_after}
use Rattle.lines.specs.Writing.{write_refusal, written_of, room_after}
use Rattle.lines.proofs.RoundTrip.{number_back, regular_back, count}

pub head_unique : (line : List ℕ) (r s : Result Number Refusal) → r ≡ head_of line → s ≡ head_of line → r ≡ s
head_unique line r s e f = e ∙ sym f

pub read_unique : (line t : List ℕ) (r s : Result Number Refusal) (u v : List ℕ) → r ≡ read_of (length t) line → s ≡ read_of (length t) line → u ≡ target_after line t → v ≡ target_after line t → (r ≡ s) × (u ≡ v)
read_unique line t r s u v e f g h = (e ∙ sym f, g ∙ sym h)

pub written_unique : (x : Number) (l room : List ℕ) (r s : Result ℕ Refusal) (u v : List ℕ) → r ≡ written_of x l (length room) → s ≡ written_of x l (length room) → u ≡ room_after x l room → v ≡ room_after x l room → (r ≡ s) × (u ≡ v)
written_unique x l room r s u v e f g h = (e ∙ sym f, g ∙ sym h)

-- a line has one number: two that the writer accepts and that have one line are the same
module _ (x y : Number) (l m : List ℕ) (wx : Below (2 ^ 64) l) (wy : Below (2 ^ 64) m) (n k : ℕ) (ax : write_refusal x l n ≡ accepted) (ay : write_refusal y m k ≡ accepted) (e : line_of x l ≡ line_of y m) where
  pub one_number : x ≡ y
  one_number = sym (number_back x l wx n ax) ∙ rw e (number_back y m wy k ay)

  pub one_limbs : is_zero_kind x.kind ≡ false → l ≡ m
  one_limbs z =
      let c : length l ≡ length m = count x l wx n ax ∙ ap (λ (o : Number). limbs_for o.precision) one_number ∙ sym (count y m wy k ay) in
      sym (regular_back x l wx n ax z) ∙ rw (c, e) (regular_back y m wy k ay (rw one_number at z))
