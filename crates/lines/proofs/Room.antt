-- Bytes put over the start of a room, part by part. Assumes nothing.
use mathlib.Core.Path.{◌≡◌, refl, sym, ap, ◌∙◌}
use mathlib.Core.List.{List, [], ◌∷◌, ◌++◌, append_assoc, append-nil}
use Prim.Native.Nat.{ℕ, suc, ◌+◌, ◌-◌, ◌*◌, ◌<◌, ◌≤◌}
use native.Mathlib.Numerals.{add-one}
use native.Mathlib.Omega.{arith}
use lib.ListN.{length, take, drop, set, get_or, length-append, length-drop, drop_of_length-le}
use lib.Seq.{length-take-le, take_at, drop-append-add, drop-drop, drop-cons, set_at}
use borrow.Rule.Slice.PartMut.{put_mid, Post-is}
use lib.IntN.{ℤ, pos, negsuc}
use mir.Syntax.{w32}
use mir.Val.{SFits}
use Rattle.numbers.specs.Limits.{bias, counted}
use Rattle.checks.specs.declared.Number.{Number}
use Rattle.text.specs.Digits.{numeral}
use Rattle.text.proofs.Numeral.{length_numeral, numeral_low}
use Rattle.lines.specs.Line.{kind_byte, twos_complement, head_digits, limb_digits}
use Rattle.lines.specs.Writing.{onto}

pub onto_nothing : (r : List ℕ) → r ≡ onto [] r
unfolding onto
onto_nothing r = refl

-- the next part
pub put_onto : (s t r : List ℕ) (a e : ℕ) → a ≡ length s → e ≡ a + length t → put_mid a (e - a) (onto s r) t ≡ onto (s ++ t) r
unfolding onto
put_onto s t r a e h g =
    rw (Post-is a e (s ++ drop (length s) r) (omega arith), h, take_at s (drop (length s) r) (length s) refl, g, h, drop-append-add s (drop (length s) r) (length t), drop-drop (length t) (length s) r, length-append s t)
    (sym (append_assoc s t (drop (length s + length t) r)))

-- the next part, as digits of a number
pub put_numeral : (room s r t : List ℕ) (a e k v : ℕ) → room ≡ onto s r → a ≡ length s → e ≡ a + k → e ≤ length room → t ≡ numeral (length (take (e - a) (drop a room))) v → put_mid a (e - a) room t ≡ onto (s ++ numeral k v) r
put_numeral room s r t a e k v h l g f d =
    let n : length (take (e - a) (drop a room)) ≡ k = length-take-le (e - a) (drop a room) (simp length-drop (omega arith)) ∙ omega arith in
    rw (d, n, h) (put_onto s (numeral k v) r a e l (rw length_numeral g))

-- the next byte
pub set_onto : (s r : List ℕ) (a v : ℕ) → a ≡ length s → a < length r → set (onto s r) a v ≡ onto (s ++ v ∷ []) r
unfolding onto
set_onto s r a v h g =
    let k : length s < length r = omega arith in
    rw (drop-cons r (length s) 0 k, set_at s (get_or r (length s) 0) (drop (suc (length s)) r) v a (sym h), length-append s (v ∷ []), add-one (length s)) (sym (append_assoc s (v ∷ []) (drop (suc (length s)) r)))

-- over the whole of it
pub onto_all : (s r : List ℕ) → length r ≤ length s → onto s r ≡ s
unfolding onto
onto_all s r h = rw (drop_of_length-le r h) (append-nil s)

pub length_limb_digits : (l : List ℕ) → length (limb_digits l) ≡ 16 * length l
unfolding limb_digits
length_limb_digits [] = refl
length_limb_digits (v ∷ l) = simp (length-append, length_limb_digits l, length_numeral) (omega arith)

-- the next limb down
pub limbs_more : (l : List ℕ) (i j : ℕ) → j < length l → i ≡ suc j → limb_digits (drop j l) ≡ limb_digits (drop i l) ++ numeral 16 (get_or l j 0)
unfolding limb_digits
limbs_more l i j h e = rw (drop-cons l j 0 h, e)

-- an exponent's last 32 bits, however it is counted
pub counted_word : (e : ℤ) → SFits w32 e → numeral 8 (counted e) ≡ numeral 8 (twos_complement e)
unfolding counted bias twos_complement
counted_word (pos n) h = numeral_low 8 256 n
counted_word (negsuc n) h = ap (numeral 8) below ∙ numeral_low 8 255 (4294967296 - suc n)
  where
    below : 1099511627776 - suc n ≡ 255 * 4294967296 + (4294967296 - suc n)
    below = omega arith

pub two_lengths : (k p : ℕ) → 6 ≡ length (numeral 2 k ++ numeral 4 p)
two_lengths k p = sym (length-append (numeral 2 k) (numeral 4 p) ∙ rw (length_numeral 2 k, length_numeral 4 p))

pub head_parts : (x : Number) (r : List ℕ) (k e : ℕ) → SFits w32 x.exponent → k ≡ kind_byte x.kind x.negative → e ≡ counted x.exponent → onto ((numeral 2 k ++ numeral 4 x.precision) ++ numeral 8 e) r ≡ onto (head_digits x) r
unfolding head_digits
head_parts x r k e f g h = rw (g, h, counted_word x.exponent f)
