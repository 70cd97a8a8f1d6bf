-- A line's buffer: one byte more is kept, or the buffer is full and stays as it is. Assumes nothing.
use mathlib.Core.Path.{◌≡◌, refl, sym, ap, ◌∙◌}
use mathlib.Core.List.{List, [], ◌∷◌, ◌++◌}
use Prim.Native.Nat.{ℕ, ◌+◌, ◌-◌, ◌≤◌, ◌<◌}
use native.Mathlib.Omega.{arith}
use native.Mathlib.Numerals.{add-one}
use lib.ListN.{length, take, drop, set, length-append, length-take, take-append-drop}
use lib.Seq.{take_all, take-append-le, take-suc-set, drop-set-lt, drop-drop, length-take-le}
use Rattle.lines.specs.Writing.{onto}
use Rattle.cutting.specs.Lines.{line_room, cut_line}
use Rattle.cutting.specs.Group.{longer, Grown}

module _ (l : List ℕ) (n b : ℕ) (whole : length l ≡ line_room) where
  pub kept : n < length l → take (n + 1) (set l n b) ≡ longer (take n l) b
  unfolding longer cut_line
  kept h =
      rw add-one
      (take-suc-set l n b h
      ∙ sym (take_all line_room (take n l ++ b ∷ []) (simp (length-append, length-take) (omega arith))))

  pub grown : n < length l → Grown n (n + 1) l (set l n b)
  grown h = record { more = omega arith; fits = omega arith; rest = drop-set-lt (n + 1) l n b (omega arith) }

  pub full : length l ≤ n → take n l ≡ longer (take n l) b
  unfolding longer cut_line
  full h =
      rw (take_all n l)
      (sym (take-append-le line_room l (b ∷ []) (omega arith) ∙ take_all line_room l (omega arith)))

-- what stays behind n bytes stays behind more
pub rest_later : (n m : ℕ) (a b : List ℕ) → n ≤ m → drop n a ≡ drop n b → drop m a ≡ drop m b
rest_later n m a b h e =
    let k : n + (m - n) ≡ m = omega arith in
    rw (← k) (rw (← drop-drop, ← drop-drop) (ap (drop (m - n)) e))

pub grown_none : (n : ℕ) (l : List ℕ) → n ≤ line_room → Grown n n l l
grown_none n l h = record { more = omega arith; fits = h; rest = refl }

pub grown_twice : {n m k : ℕ} {a b c : List ℕ} → Grown n m a b → Grown m k b c → Grown n k a c
grown_twice {n} {m} {k} {a} {b} {c} g h =
    record { more = omega arith; fits = h.fits; rest = h.rest ∙ rest_later m k b a h.more g.rest }

-- a buffer of which n bytes are held is those bytes, over what it held before
pub held_is : (n m : ℕ) (a b : List ℕ) → length b ≡ line_room → Grown n m a b → b ≡ onto (take m b) a
unfolding onto
held_is n m a b e g =
    let fits : m ≤ length b = omega (arith, g.fits) in
    rw (length-take-le m b fits, ← g.rest) (sym (take-append-drop m b))
