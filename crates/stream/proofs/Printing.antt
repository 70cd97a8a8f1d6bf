-- Whatever way the input is split into pieces, what is printed in all is what the definition says of the whole input. Assumes nothing.
use mathlib.Core.Path.{◌≡◌, refl, subst}
use mathlib.Core.List.{List, [], ◌∷◌, ◌++◌, map, append-nil, append_assoc}
use Prim.Native.Nat.{ℕ, ◌+◌}
use lib.ListN.{length, take, drop}
use lib.Seq.{take-add, take_at}
use Rattle.lines.specs.Writing.{onto}
use Rattle.cutting.specs.Lines.{lines_of, cut_line}
use Rattle.cutting.specs.Group.{Group, no_group, after, taken, group_in, held_of}
use Rattle.stream.specs.Desk.{Printed, nothing, no_second, no_third, group, Desk}
use Rattle.stream.specs.Serving.{State, group_of, keeping, fresh, Serves, ended, full, waits, answers, Ends, one_line, only_one, two_lines, only_two, three_lines, Runs, ends, serves}
use Rattle.stream.specs.Serving as serving
use Rattle.stream.proofs.Cuts.{answered_cut}
use Rattle.cutting.proofs.Resuming.{some, lines_from, resumed, resume, Tidy, tidy_none, tidy_after, resume_after, resume_whole, lines_kept}

-- what is kept is what was to be kept
kept_group : (g : Group) (s : State) → group_of (keeping (held_of g) g s) ≡ g
unfolding group_of keeping group_in held_of onto
kept_group g s =
    simp
    (take_at g.first (drop (length g.first) s.first) (length g.first) refl, take_at g.second (drop (length g.second) s.second) (length g.second) refl, take_at g.third (drop (length g.third) s.third) (length g.third) refl)

kept_none : (g : Group) (s : State) → group_of (keeping (held_of no_group) g s) ≡ no_group
unfolding group_of keeping group_in held_of no_group
kept_none g s = refl

served_tidy : {room n : ℕ} {s t : State} {bytes told : List ℕ} → Serves room s bytes n told t → Tidy (group_of s) → Tidy (group_of t)
served_tidy ended t = t
served_tidy (full b r) t = t
served_tidy {s = s} {bytes = bytes} (waits b r w) t = rw (kept_group (after (group_of s) bytes) s) (tidy_after bytes (group_of s) t)
served_tidy {s = s} {bytes = bytes} (answers b r w a k) t = served_tidy k (rw (kept_none (after (group_of s) bytes) s) tidy_none)

-- what is printed for a piece comes before what is printed for the rest
served_printed : {room n : ℕ} {s t : State} {bytes told : List ℕ} (rest out : List ℕ) → Serves room s bytes n told t → Tidy (group_of s)
    → Printed (resume (group_of t) rest) out → Printed (resume (group_of s) (take n bytes ++ rest)) (told ++ out)
served_printed rest out ended t p = p
served_printed rest out (full b r) t p = p
served_printed {s = s} {bytes = bytes} rest out (waits b r w) t p =
    rw (resume_after bytes (group_of s) rest t) (rw (kept_group (after (group_of s) bytes) s) at p)
served_printed {s = s} {bytes = bytes} rest out (answers {n = n} {told = told} {rest = more} b r w a k) t p =
    let g = group_of s in
    let q = rw (kept_none (after (group_of s) bytes) s) at (served_printed rest out k (rw (kept_none (after (group_of s) bytes) s) tidy_none) p) in
    rw (take-add (taken (group_of s) bytes) n bytes, append_assoc (take (taken (group_of s) bytes) bytes) (take n (drop (taken (group_of s) bytes) bytes)) rest, resume_after bytes (group_of s) (take n (drop (taken (group_of s) bytes) bytes) ++ rest) t, resume_whole (after (group_of s) bytes) (take n (drop (taken (group_of s) bytes) bytes) ++ rest) w, append_assoc told more out)
    (group a q)

some_none : (l : List ℕ) → l ≡ [] → some l ≡ []
unfolding some
some_none l e = rw e

some_one : (l : List ℕ) → (l ≡ [] → ⊥) → some l ≡ l ∷ []
unfolding some
some_one [] n = absurd (n refl)
some_one (b ∷ l) n = refl

-- at the end of the input a line under way counts, if it has a byte
pub ended_printed : {g : Group} {told : List ℕ} → Ends g told → Printed (resume g []) told
unfolding resume resumed lines_from
ended_printed {g} (serving.nothing z e) = simp (z, some_none g.first e) nothing
ended_printed {g} (one_line z e) = simp (z, some_one g.first e) (no_second g.first)
ended_printed {g} (only_one z e) = simp (z, some_none g.second e) (no_second g.first)
ended_printed {g} (two_lines z e) = simp (z, some_one g.second e) (no_third g.first g.second)
ended_printed {g} (only_two z e) = simp (z, some_none g.third e) (no_third g.first g.second)
ended_printed {g} {told} (three_lines z e a) = simp (z, some_one g.third e) (subst (Printed (g.first ∷ g.second ∷ g.third ∷ [])) (append-nil told) (group a nothing))

run_printed : {s : State} {input output : List ℕ} → Runs s input output → Tidy (group_of s) → Printed (resume (group_of s) input) output
run_printed (ends e) t = ended_printed e
run_printed (serves {rest = rest} {out = out} s r) t = served_printed rest out s t (run_printed r (served_tidy s t))

fresh_none : (a b c : List ℕ) → group_of (fresh a b c) ≡ no_group
unfolding group_of fresh group_in held_of no_group
fresh_none a b c = refl

resume_none : (input : List ℕ) → resume no_group input ≡ map cut_line (lines_of input)
unfolding resume resumed no_group
resume_none input = lines_kept input

cut_printed : (ls : List (List ℕ)) {out : List ℕ} → Printed (map cut_line ls) out → Printed ls out
cut_printed [] nothing = nothing
cut_printed (a ∷ []) (no_second x) = no_second a
cut_printed (a ∷ b ∷ []) (no_third x y) = no_third a b
cut_printed (a ∷ b ∷ c ∷ ls) (group k p) = group (answered_cut a b c k) (cut_printed ls p)

-- "however the input is split into reads": all that is printed is what the definition says of all that came
pub desk_right : (first second third : List ℕ) {input output : List ℕ} → Runs (fresh first second third) input output → Desk input output
desk_right a b c {input} {output} r =
    cut_printed (lines_of input)
    (subst (λ (ls : List (List ℕ)). Printed ls output) (resume_none input)
    (subst (λ (g : Group). Printed (resume g input) output) (fresh_none a b c)
    (run_printed r (rw (fresh_none a b c) tidy_none))))
