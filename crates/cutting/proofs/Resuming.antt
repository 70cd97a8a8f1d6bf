-- A group under way and what follows it: the lines of both are those of the whole. Assumes nothing.
use mathlib.Core.Path.{◌≡◌, refl, sym, ap, ◌∙◌}
use mathlib.Core.Bool.{Bool, true, false, cond}
use mathlib.Core.List.{List, [], ◌∷◌, ◌++◌, map, append_assoc}
use Prim.Native.Nat.{ℕ, zero, suc, ◌+◌, ◌-◌, ◌≤◌, ◌<◌}
use native.Mathlib.Omega.{arith}
use native.Mathlib.Decide.{dec_le}
use borrow.Author.Tests.{leb-true, leb-false}
use lib.ListN.{length, take}
use lib.Seq.{take_all, take-append-le, length-take-le}
use Rattle.cutting.specs.Lines.{line_room, ends_line, before, lines_of, cut_line}
use Rattle.cutting.specs.Group.{Group, no_group, is_whole, longer, with_byte, after, taken}

-- a line that is under way counts, if it has a byte
unfoldable pub some : List ℕ → List (List ℕ)
some [] = []
some (b ∷ l) = (b ∷ l) ∷ []

-- the lines of a part of a line with the bytes that follow it, each as far as it is kept
unfoldable pub lines_from : List ℕ → List ℕ → List (List ℕ)
lines_from part [] = some part
lines_from part (b ∷ bs) = cond (ends_line b) (longer part b ∷ lines_from [] bs) (lines_from (longer part b) bs)

-- a part of a line in front of the first line
unfoldable joined : List ℕ → List (List ℕ) → List (List ℕ)
joined part [] = some part
joined part (l ∷ ls) = (part ++ l) ∷ ls

-- ---- cutting as it goes, and cutting at the end

cut_longer : (part : List ℕ) (b : ℕ) → longer (cut_line part) b ≡ cut_line (part ++ b ∷ [])
unfolding longer cut_line
cut_longer part b = go (dec_le (length part) line_room)
  where
    go : Dec (length part ≤ line_room) → take line_room (take line_room part ++ b ∷ []) ≡ take line_room (part ++ b ∷ [])
    go (yes h) = rw (take_all line_room part h)
    go (no h) =
        let k : line_room ≤ length part = omega arith in
        let e : length (take line_room part) ≡ line_room = length-take-le line_room part k in
        let j : line_room ≤ length (take line_room part) = omega (arith, e) in
        take-append-le line_room (take line_room part) (b ∷ []) j
        ∙ take_all line_room (take line_room part) (omega (arith, e))
        ∙ sym (take-append-le line_room part (b ∷ []) k)

cut_none : cut_line [] ≡ []
unfolding cut_line line_room
cut_none = refl

some_cut : (part : List ℕ) → some (cut_line part) ≡ map cut_line (some part)
unfolding some cut_line line_room
some_cut [] = refl
some_cut (b ∷ l) = refl

some_snoc : (part : List ℕ) (b : ℕ) → some (part ++ b ∷ []) ≡ (part ++ b ∷ []) ∷ []
unfolding some
some_snoc [] b = refl
some_snoc (a ∷ l) b = refl

joined_none : (ls : List (List ℕ)) → joined [] ls ≡ ls
unfolding joined some
joined_none [] = refl
joined_none (l ∷ ls) = refl

joined_before : (part : List ℕ) (b : ℕ) (ls : List (List ℕ)) → joined part (before b ls) ≡ joined (part ++ b ∷ []) ls
unfolding joined before
joined_before part b [] = sym (some_snoc part b)
joined_before part b (l ∷ ls) = ap (λ (x : List ℕ). x ∷ ls) (sym (append_assoc part (b ∷ []) l))

module _ (b : ℕ) (bs part : List ℕ) (none : lines_from [] bs ≡ map cut_line (lines_of bs)) (more : lines_from (cut_line (part ++ b ∷ [])) bs ≡ map cut_line (joined (part ++ b ∷ []) (lines_of bs))) where
  line_cut : (c : Bool) → ends_line b ≡ c → lines_from (cut_line part) (b ∷ bs) ≡ map cut_line (joined part (lines_of (b ∷ bs)))
  unfolding lines_from lines_of joined
  line_cut true e = simp (e, cut_longer part b, none)
  line_cut false e = simp (e, cut_longer part b, joined_before part b (lines_of bs)) more

lines_cut : (bs part : List ℕ) → lines_from (cut_line part) bs ≡ map cut_line (joined part (lines_of bs))
unfolding lines_from lines_of joined
lines_cut [] part = some_cut part
lines_cut (b ∷ bs) part =
    line_cut b bs part
    (ap (λ (x : List ℕ). lines_from x bs) (sym cut_none) ∙ lines_cut bs [] ∙ ap (map cut_line) (joined_none (lines_of bs)))
    (lines_cut bs (part ++ b ∷ []))
    (ends_line b) refl

pub lines_kept : (input : List ℕ) → lines_from [] input ≡ map cut_line (lines_of input)
lines_kept input = ap (λ (x : List ℕ). lines_from x input) (sym cut_none) ∙ lines_cut input [] ∙ ap (map cut_line) (joined_none (lines_of input))

-- ---- a group under way

-- the lines of a group with the bytes that follow
unfoldable pub resumed : ℕ → Group → List ℕ → List (List ℕ)
resumed zero g rest = lines_from g.first rest
resumed (suc zero) g rest = g.first ∷ lines_from g.second rest
resumed (suc (suc zero)) g rest = g.first ∷ g.second ∷ lines_from g.third rest
resumed (suc (suc (suc n))) g rest = g.first ∷ g.second ∷ g.third ∷ lines_from [] rest

unfoldable pub resume : Group → List ℕ → List (List ℕ)
resume g rest = resumed g.lines g rest

-- lines after the one under way are empty
pub record Tidy (g : Group) : Type 0 where
  pub second : g.lines ≡ 0 → g.second ≡ []
  pub third : g.lines ≤ 1 → g.third ≡ []

pub tidy_none : Tidy no_group
unfolding no_group
tidy_none = record { second = λ e. refl; third = λ e. refl }

nonzero : (c : Bool) (n m : ℕ) → 0 < n → 0 < m → cond c n m ≡ 0 → ⊥
nonzero true n m p q e = omega arith
nonzero false n m p q e = omega arith

above : (c : Bool) (n m : ℕ) → 1 < n → 1 < m → cond c n m ≤ 1 → ⊥
above true n m p q e = omega arith
above false n m p q e = omega arith

module _ (g : Group) (b : ℕ) (t : Tidy g) where
  module _ (rest : List ℕ) where
    at_first : (c : Bool) → ends_line b ≡ c → g.lines ≡ 0 → resume (with_byte g b) rest ≡ resume g (b ∷ rest)
    unfolding with_byte resume resumed lines_from
    at_first true e z = simp (z, e, t.second z)
    at_first false e z = simp (z, e)

    at_second : (c : Bool) → ends_line b ≡ c → g.lines ≡ 1 → resume (with_byte g b) rest ≡ resume g (b ∷ rest)
    unfolding with_byte resume resumed lines_from
    at_second true e z = let k : g.third ≡ [] = t.third (omega arith) in simp (z, e, k)
    at_second false e z = simp (z, e)

    at_third : (c : Bool) → ends_line b ≡ c → g.lines ≡ 2 → resume (with_byte g b) rest ≡ resume g (b ∷ rest)
    unfolding with_byte resume resumed lines_from
    at_third true e z = simp (z, e)
    at_third false e z = simp (z, e)

    resume_byte : is_whole g ≡ false → resume (with_byte g b) rest ≡ resume g (b ∷ rest)
    unfolding is_whole
    resume_byte w = go g.lines refl (leb-false 3 g.lines w)
      where
        go : (n : ℕ) → g.lines ≡ n → n < 3 → resume (with_byte g b) rest ≡ resume g (b ∷ rest)
        go zero z k = at_first (ends_line b) refl z
        go (suc zero) z k = at_second (ends_line b) refl z
        go (suc (suc zero)) z k = at_third (ends_line b) refl z
        go (suc (suc (suc n))) z k = absurd (omega arith)

  tidy_byte : is_whole g ≡ false → Tidy (with_byte g b)
  unfolding is_whole with_byte
  tidy_byte w = go g.lines refl (leb-false 3 g.lines w)
    where
      go : (n : ℕ) → g.lines ≡ n → n < 3 → Tidy (with_byte g b)
      go zero z k = simp z (record { second = λ e. t.second z; third = λ e. t.third (omega arith) })
      go (suc zero) z k = simp z (record { second = λ e. absurd (nonzero (ends_line b) 2 1 (omega arith) (omega arith) e); third = λ e. t.third (omega arith) })
      go (suc (suc zero)) z k = simp z (record { second = λ e. absurd (nonzero (ends_line b) 3 2 (omega arith) (omega arith) e); third = λ e. absurd (above (ends_line b) 3 2 (omega arith) (omega arith) e) })
      go (suc (suc (suc n))) z k = absurd (omega arith)

-- the bytes that a group takes are in it, and the rest follows
module _ (b : ℕ) (bs rest : List ℕ) (g : Group) (t : Tidy g) where
  resume_next : ((w : is_whole g ≡ false) → resume (with_byte g b) (take (taken (with_byte g b) bs) bs ++ rest) ≡ resume (after (with_byte g b) bs) rest)
      → (c : Bool) → is_whole g ≡ c → resume g (take (taken g (b ∷ bs)) (b ∷ bs) ++ rest) ≡ resume (after g (b ∷ bs)) rest
  unfolding after taken
  resume_next more true w = simp w
  resume_next more false w = simp w (sym (resume_byte g b t (take (taken (with_byte g b) bs) bs ++ rest) w) ∙ more w)

  tidy_next : ((w : is_whole g ≡ false) → Tidy (after (with_byte g b) bs)) → (c : Bool) → is_whole g ≡ c → Tidy (after g (b ∷ bs))
  unfolding after
  tidy_next more true w = simp w t
  tidy_next more false w = simp w (more w)

pub resume_after : (bytes : List ℕ) (g : Group) (rest : List ℕ) → Tidy g → resume g (take (taken g bytes) bytes ++ rest) ≡ resume (after g bytes) rest
unfolding after taken
resume_after [] g rest t = refl
resume_after (b ∷ bs) g rest t = resume_next b bs rest g t (λ w. resume_after bs (with_byte g b) rest (tidy_byte g b t w)) (is_whole g) refl

pub tidy_after : (bytes : List ℕ) (g : Group) → Tidy g → Tidy (after g bytes)
unfolding after
tidy_after [] g t = t
tidy_after (b ∷ bs) g t = tidy_next b bs [] g t (λ w. tidy_after bs (with_byte g b) (tidy_byte g b t w)) (is_whole g) refl

-- behind a whole group the next one begins
pub resume_whole : (g : Group) (rest : List ℕ) → is_whole g ≡ true → resume g rest ≡ g.first ∷ g.second ∷ g.third ∷ resume no_group rest
unfolding is_whole resume resumed no_group
resume_whole g rest w =
    let k : 3 ≤ g.lines = leb-true 3 g.lines w in
    let e : g.lines ≡ suc (suc (suc (g.lines - 3))) = omega arith in
    rw e
