-- Two outputs that the definition allows for one input agree, and so do two answers that meet a promise: of a group, of a piece, of the end of the input. Assumes nothing.
use mathlib.Core.Path.{◌≡◌, refl, sym, ap, ◌∙◌}
use mathlib.Core.Bool.{Bool, true, false}
use mathlib.Core.List.{List, [], ◌∷◌, ◌++◌}
use Prim.Native.Nat.{ℕ, ◌+◌, ◌≤◌, ◌<◌}
use native.Mathlib.Omega.{arith}
use native.Mathlib.Decide.{dec_le}
use lib.ListN.{length, take}
use lib.Seq.{length-take-le}
use Rattle.limb.proofs.Tests.{true_false}
use Rattle.checks.specs.Check.{accepted}
use Rattle.std.specs.Prelude.{Result, Ok, Err}
use Rattle.checks.specs.declared.Refusal.{Refusal}
use Rattle.reports.specs.declared.report.Sum.{Sum}
use Rattle.reports.proofs.Agree.{reported_unique}
use Rattle.lines.specs.Writing.{onto}
use Rattle.desklines.specs.Answer.{sum_lines, group_refusal, Answered, longest_answer}
use Rattle.desklines.specs.Written.{Answers}
use Rattle.stream.specs.declared.serving.Served.{Served}
use Rattle.cutting.specs.Group.{Group, after, taken}
use Rattle.stream.specs.Desk.{Printed, nothing, no_second, no_third, group}
use Rattle.stream.specs.Serving.{State, group_of, Serves, ended, full, waits, answers, Ends, is_ready, ServedBy, Finished}
use Rattle.cutting.proofs.Resuming.{resume}
use Rattle.stream.proofs.Printing.{ended_printed}
use Rattle.stream.proofs.Pieces.{onto_as_long}

pub answered_unique : (a b c o p : List ℕ) → Answered a b c o → Answered a b c p → o ≡ p
unfolding accepted
answered_unique a b c o p x y = go (group_refusal a b c) refl
  where
    go : (r : Result (Unit {0}) Refusal) → group_refusal a b c ≡ r → o ≡ p
    go (Err r) e = x.refused r e ∙ sym (y.refused r e)
    go (Ok u) e =
        let s = x.summed e in
        let t = y.summed e in
        let u = reported_unique _ _ _ _ _ s.sum t.sum s.limbs t.limbs s.summed t.summed in
        s.told_is ∙ ap (λ (q : Sum). sum_lines q s.limbs) u.0 ∙ ap (sum_lines t.sum) u.1 ∙ sym t.told_is

pub printed_unique : (lines : List (List ℕ)) {o p : List ℕ} → Printed lines o → Printed lines p → o ≡ p
printed_unique [] nothing nothing = refl
printed_unique (a ∷ []) (no_second x) (no_second y) = refl
printed_unique (a ∷ b ∷ []) (no_third x y) (no_third z w) = refl
printed_unique (a ∷ b ∷ c ∷ ls) (group {told = t} {rest = r} k p) (group {told = u} {rest = s} l q) =
    ap (λ (x : List ℕ). x ++ r) (answered_unique a b c t u k l) ∙ ap (λ (x : List ℕ). u ++ x) (printed_unique ls p q)

-- ---- what is written into a room

-- the same bytes at the start of one room: their count, and the room
same_told : (entry exit left : List ℕ) (n m : ℕ) → n ≤ length exit → m ≤ length left → exit ≡ onto (take n exit) entry → left ≡ onto (take m left) entry
    → take n exit ≡ take m left → (n ≡ m) × (exit ≡ left)
same_told entry exit left n m f g a b e =
    (sym (length-take-le n exit f) ∙ ap length e ∙ length-take-le m left g, a ∙ ap (λ (l : List ℕ). onto l entry) e ∙ sym b)

answer_fits : (a b c entry exit : List ℕ) (n : ℕ) → longest_answer ≤ length entry → Answers a b c entry exit n → n ≤ length exit
answer_fits a b c entry exit n h x = omega (arith, x.fits h, ap length (x.told h), onto_as_long (take n exit) entry)

-- `answer` of groups: the count and the room
pub answers_unique : (a b c entry exit left : List ℕ) (n m : ℕ) → Answers a b c entry exit n → Answers a b c entry left m → (n ≡ m) × (exit ≡ left)
answers_unique a b c entry exit left n m x y = go (dec_le longest_answer (length entry))
  where
    go : Dec (longest_answer ≤ length entry) → (n ≡ m) × (exit ≡ left)
    go (yes h) =
        same_told entry exit left n m (answer_fits a b c entry exit n h x) (answer_fits a b c entry left m h y) (x.told h) (y.told h)
        (answered_unique a b c (take n exit) (take m left) (x.answered h) (y.answered h))
    go (no h) =
        let k : length entry < longest_answer = omega arith in
        ((x.short k).0 ∙ sym (y.short k).0, (x.short k).1 ∙ sym (y.short k).1)

-- ---- a piece

-- the bytes taken, what is printed, and the state that is left
pub serves_unique : {room n m : ℕ} {s t u : State} {bytes told more : List ℕ} → Serves room s bytes n told t → Serves room s bytes m more u → (n ≡ m) × (told ≡ more) × (t ≡ u)
serves_unique ended ended = (refl, refl, refl)
serves_unique ended (full b r) = absurd (omega arith)
serves_unique ended (waits b r w) = absurd (omega arith)
serves_unique ended (answers b r w a k) = absurd (omega arith)
serves_unique (full b r) ended = absurd (omega arith)
serves_unique (full b r) (full c q) = (refl, refl, refl)
serves_unique (full b r) (waits c q w) = absurd (omega arith)
serves_unique (full b r) (answers c q w a k) = absurd (omega arith)
serves_unique (waits b r w) ended = absurd (omega arith)
serves_unique (waits b r w) (full c q) = absurd (omega arith)
serves_unique (waits b r w) (waits c q v) = (refl, refl, refl)
serves_unique (waits b r w) (answers c q v a k) = absurd (true_false v w)
serves_unique (answers b r w a k) ended = absurd (omega arith)
serves_unique (answers b r w a k) (full c q) = absurd (omega arith)
serves_unique (answers b r w a k) (waits c q v) = absurd (true_false w v)
serves_unique {s = s} {bytes = bytes} (answers {told = o} {rest = x} b r w a k) (answers {told = p} c q v d l) =
    let g = after (group_of s) bytes in
    let e : o ≡ p = answered_unique g.first g.second g.third o p a d in
    let i = serves_unique k (rw (← e) at l) in
    (ap (λ (j : ℕ). taken (group_of s) bytes + j) i.0, ap (λ (z : List ℕ). z ++ x) e ∙ ap (λ (z : List ℕ). p ++ z) i.1, i.2)

same_served : (r q : Served) → r.taken ≡ q.taken → r.told ≡ q.told → r ≡ q
same_served r q a b =
    let x : r ≡ record { taken = r.taken; told = r.told } = refl in
    x ∙ ap (λ (n : ℕ). record { taken = n; told = r.told }) a ∙ ap (λ (n : ℕ). record { taken = q.taken; told = n }) b

-- `serve`: the answer, what is held and the room
module _ (s t u : State) (bytes entry exit left : List ℕ) (r q : Served) where
  abbrev Same : Type 0
  Same = (r ≡ q) × (t ≡ u) × (exit ≡ left)

  pub served_unique : ServedBy s bytes t entry exit r → ServedBy s bytes u entry left q → Same
  served_unique x y = go (is_ready s entry) refl
    where
      go : (c : Bool) → is_ready s entry ≡ c → Same
      go false e =
          let a = x.unready e in
          let b = y.unready e in
          (a.0 ∙ sym b.0, a.1 ∙ sym b.1, a.2 ∙ sym b.2)
      go true e =
          let a = serves_unique (x.served e) (y.served e) in
          let b = same_told entry exit left r.told q.told x.fits y.fits (x.told e) (y.told e) a.1 in
          (same_served r q a.0 b.0, a.2, b.1)

-- ---- the end of the input

pub ends_unique : {g : Group} {o p : List ℕ} → Ends g o → Ends g p → o ≡ p
ends_unique {g} x y = printed_unique (resume g []) (ended_printed x) (ended_printed y)

-- `finish`: the count and the room
pub finished_unique : (s : State) (entry exit left : List ℕ) (n m : ℕ) → Finished s entry exit n → Finished s entry left m → (n ≡ m) × (exit ≡ left)
finished_unique s entry exit left n m x y = go (is_ready s entry) refl
  where
    go : (c : Bool) → is_ready s entry ≡ c → (n ≡ m) × (exit ≡ left)
    go false e = ((x.unready e).0 ∙ sym (y.unready e).0, (x.unready e).1 ∙ sym (y.unready e).1)
    go true e = same_told entry exit left n m x.fits y.fits (x.told e) (y.told e) (ends_unique (x.ended e) (y.ended e))
