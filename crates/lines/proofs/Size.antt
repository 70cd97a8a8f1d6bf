-- The size of a line: what the code counts, and the length of what is written. Assumes nothing.
use mathlib.Core.Path.{◌≡◌, refl, ◌∙◌}
use mathlib.Core.Bool.{Bool, true, false}
use mathlib.Core.List.{List, [], ◌∷◌, ◌++◌, append-nil}
use Prim.Native.Nat.{ℕ, ◌+◌, ◌*◌, ◌≤◌}
use native.Mathlib.Omega.{arith}
use lib.ListN.{length, length-append}
use Rattle.numbers.specs.Limits.{limbs_for}
use Rattle.checks.specs.declared.Number.{Number}
use Rattle.checks.specs.Number.{is_zero_kind}
use Rattle.text.proofs.Numeral.{length_numeral}
use Rattle.lines.specs.Line.{head_digits, limb_digits, line_feed, line_of, shortest_line, line_size}
use Rattle.lines.proofs.Room.{length_limb_digits}

pub zero_size : (x : Number) → is_zero_kind x.kind ≡ true → 15 ≡ line_size x
unfolding line_size shortest_line
zero_size x z = rw z

pub regular_size : (x : Number) (n : ℕ) → is_zero_kind x.kind ≡ false → n ≡ limbs_for x.precision → 15 + 16 * n ≡ line_size x
unfolding line_size shortest_line
regular_size x n z e = rw (z, e)

pub size_fits : (p : ℕ) → 64 * limbs_for p ≤ p + 63
unfolding limbs_for
size_fits p = omega arith

pub length_head : (x : Number) → length (head_digits x) ≡ 14
unfolding head_digits
length_head x = simp (length-append, length_numeral)

module _ (x : Number) (l : List ℕ) where
  pub zero_line : is_zero_kind x.kind ≡ true → line_of x l ≡ head_digits x ++ line_feed ∷ []
  unfolding line_of
  zero_line z = rw (z, append-nil (head_digits x))

  pub regular_line : is_zero_kind x.kind ≡ false → line_of x l ≡ head_digits x ++ limb_digits l ++ line_feed ∷ []
  unfolding line_of
  regular_line z = rw z

  pub zero_length : is_zero_kind x.kind ≡ true → length (line_of x l) ≡ 15
  zero_length z = rw (zero_line z, length-append (head_digits x) (line_feed ∷ []), length_head x)

  pub regular_length : is_zero_kind x.kind ≡ false → length (line_of x l) ≡ 15 + 16 * length l
  regular_length z =
      rw (regular_line z, length-append (head_digits x ++ limb_digits l) (line_feed ∷ []), length-append (head_digits x) (limb_digits l), length_head x, length_limb_digits l) (omega arith)

  pub at_least : shortest_line ≤ length (line_of x l)
  unfolding shortest_line
  at_least = go (is_zero_kind x.kind) refl
    where
      go : (b : Bool) → is_zero_kind x.kind ≡ b → shortest_line ≤ length (line_of x l)
      go true z = omega (arith, zero_length z)
      go false z = omega (arith, regular_length z)

  -- what is counted by kind and precision is what is written
  pub size_is : length l ≡ limbs_for x.precision → length (line_of x l) ≡ line_size x
  size_is n = go (is_zero_kind x.kind) refl
    where
      go : (b : Bool) → is_zero_kind x.kind ≡ b → length (line_of x l) ≡ line_size x
      go true z = zero_length z ∙ zero_size x z
      go false z = regular_length z ∙ regular_size x (length l) z n
