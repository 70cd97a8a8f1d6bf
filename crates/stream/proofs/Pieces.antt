-- A piece of the input, group by group: what was printed so far, and what is still to be taken. Assumes nothing.
use mathlib.Core.Path.{◌≡◌, refl, sym, ap, ◌∙◌}
use mathlib.Core.Bool.{Bool, true, false, cond}
use mathlib.Core.List.{List, [], ◌∷◌, ◌++◌, append-nil, append_assoc}
use Prim.Native.Nat.{ℕ, suc, ◌+◌, ◌-◌, ◌≤◌, ◌<◌, min}
use native.Mathlib.Omega.{arith}
use borrow.Author.Tests.{ltb-true, eqb-true, leb-true, le-ltb, lt-ltb, ne_eqb, eq-eqb, le-leb, lt-leb}
use borrow.Rule.Slice.PartMut.{put_mid}
use lib.Dec.{ltb, leb, eqb}
use lib.ListN.{length, take, drop, length-append, length-take, length-drop, drop_of_length-le}
use lib.Seq.{take_at, take-append-add, drop_at, drop-drop, length-take-le}
use Rattle.limb.proofs.Tests.{both_true, true_false}
use Rattle.parts.proofs.Parts.{part_is, put_is}
use Rattle.lines.specs.Writing.{onto}
use Rattle.checks.specs.declared.Place.TheVariants.{Second, Target}
use Rattle.desklines.specs.Answer.{Answered, longest_answer}
use Rattle.desklines.specs.Written.{Answers, Tells}
use Rattle.stream.specs.declared.serving.Served.{Served}
use Rattle.cutting.specs.Lines.{line_room}
use Rattle.cutting.specs.Group.{Group, Held, Progress, no_group, is_whole, with_byte, after, taken, group_in, held_of, Cuts, Within, Counts, Rooms}
use Rattle.stream.specs.Serving.{State, group_of, keeping, Serves, ended, full, waits, answers, Ends, nothing, one_line, only_one, two_lines, only_two, three_lines, is_ready, ServedBy, Finished}
use Rattle.stream.specs.Desk.{cut_short}

-- ---- ready

module _ (s : State) (out : List ℕ) where
  pub many_lines : 3 ≤ s.held.lines → false ≡ is_ready s out
  unfolding is_ready
  many_lines h = simp (le-ltb s.held.lines 3 h)

  module _ (l : s.held.lines < 3) where
    pub wrong_first : (length s.first ≡ line_room → ⊥) → false ≡ is_ready s out
    unfolding is_ready
    wrong_first n = simp (lt-ltb s.held.lines 3 l, ne_eqb (length s.first) line_room n)

    module _ (a : length s.first ≡ line_room) where
      pub wrong_second : (length s.second ≡ line_room → ⊥) → false ≡ is_ready s out
      unfolding is_ready
      wrong_second n = simp (lt-ltb s.held.lines 3 l, eq-eqb (length s.first) line_room a, ne_eqb (length s.second) line_room n)

      module _ (b : length s.second ≡ line_room) where
        pub wrong_third : (length s.third ≡ line_room → ⊥) → false ≡ is_ready s out
        unfolding is_ready
        wrong_third n = simp (lt-ltb s.held.lines 3 l, eq-eqb (length s.first) line_room a, eq-eqb (length s.second) line_room b, ne_eqb (length s.third) line_room n)

        pub room_left : (most : ℕ) → length s.third ≡ line_room → most ≡ longest_answer → leb most (length out) ≡ is_ready s out
        unfolding is_ready
        room_left most c e = simp (lt-ltb s.held.lines 3 l, eq-eqb (length s.first) line_room a, eq-eqb (length s.second) line_room b, eq-eqb (length s.third) line_room c, e)

  pub record Ready : Type 0 where
    pub few : s.held.lines < 3
    pub rooms : Rooms s.first s.second s.third
    pub room : longest_answer ≤ length out

  pub is_ready_lem : is_ready s out ≡ true → Ready
  unfolding is_ready
  is_ready_lem e =
      let a = both_true (ltb s.held.lines 3) _ e in
      let b = both_true (eqb (length s.first) line_room) _ a.1 in
      let c = both_true (eqb (length s.second) line_room) _ b.1 in
      let d = both_true (eqb (length s.third) line_room) _ c.1 in
      record {
        few = ltb-true s.held.lines 3 a.0;
        rooms = record { first = eqb-true _ _ b.0; second = eqb-true _ _ c.0; third = eqb-true _ _ d.0 };
        room = leb-true longest_answer (length out) d.1;
      }

taken_le : (g : Group) (bytes : List ℕ) → taken g bytes ≤ length bytes
unfolding taken
taken_le g [] = omega arith
taken_le g (b ∷ bs) = taken_next (is_whole g) (taken (with_byte g b) bs) (length bs) (taken_le (with_byte g b) bs)
  where
    taken_next : (c : Bool) (n m : ℕ) → n ≤ m → cond c 0 (suc n) ≤ suc m
    taken_next true n m h = omega arith
    taken_next false n m h = omega arith

taken_pos : (g : Group) (bytes : List ℕ) → 0 < length bytes → g.lines < 3 → 0 < taken g bytes
unfolding taken is_whole
taken_pos g [] h k = absurd (omega arith)
taken_pos g (b ∷ bs) h k = rw (lt-leb 3 g.lines k) (omega arith)

onto_longer : (a b : List ℕ) → length a ≤ length (onto a b)
unfolding onto
onto_longer a b = simp length-append (omega arith)

pub onto_as_long : (a b : List ℕ) → length b ≤ length (onto a b)
unfolding onto
onto_as_long a b = simp (length-append, length-drop) (omega arith)

none_few : (k : Held) → k ≡ held_of no_group → k.lines < 3
unfolding held_of no_group
none_few k e = rw e (omega arith)

-- ---- a piece

-- after `count` bytes, of which `told` were printed for
pub record Serving (most : ℕ) (start : State) (bytes entry : List ℕ) (s : State) (out : List ℕ) (count told : ℕ) : Type 0 where
  pub most_is : most ≡ longest_answer
  pub ready : is_ready start entry ≡ true
  pub goes : (n : ℕ) (rest : List ℕ) (t : State) → Serves (length entry - told) s (drop count bytes) n rest t → Serves (length entry) start bytes (count + n) (take told out ++ rest) t
  pub far : count ≤ length bytes
  pub fits : told ≤ length out
  pub same : length out ≡ length entry
  pub told_is : out ≡ onto (take told out) entry
  pub few : s.held.lines < 3
  pub rooms : Rooms s.first s.second s.third

pub serving_begins : (most : ℕ) (s : State) (bytes entry : List ℕ) → most ≡ longest_answer → is_ready s entry ≡ true → Serving most s bytes entry s entry 0 0
unfolding onto
serving_begins most s bytes entry e r =
    let y = is_ready_lem s entry r in
    record {
      most_is = e;
      ready = r;
      goes = λ n rest t k. let z : length entry - 0 ≡ length entry = omega arith in let i : 0 + n ≡ n = omega arith in rw i (rw z at k);
      far = omega arith;
      fits = omega arith;
      same = refl;
      told_is = refl;
      few = y.few;
      rooms = y.rooms;
    }

module _ (most : ℕ) (start : State) (bytes entry : List ℕ) (s : State) (out : List ℕ) (count told : ℕ) (v : Serving most start bytes entry s out count told) where
  -- nothing more is taken, or a part of a group
  stops : (n : ℕ) (t : State) (r : Served) → Serves (length entry - told) s (drop count bytes) n [] t → r ≡ record { taken = count + n; told = told } → count + n ≤ length bytes → ServedBy start bytes t entry out r
  stops n t r k e f = record {
    unready = λ z. absurd (true_false v.ready z);
    served = λ z. rw (e, ← (append-nil (take told out))) (v.goes n [] t k);
    told = λ z. rw e v.told_is;
    fits = rw e v.fits;
    far = rw e f;
  }

  pub stops_full : count < length bytes → length out - told < most → ServedBy start bytes s entry out (record { taken = count; told = told })
  stops_full m f =
      let z : count + 0 ≡ count = omega arith in
      let l : 0 < length (drop count bytes) = simp length-drop (omega arith) in
      stops 0 s _ (full l (omega (arith, v.same, v.most_is))) (ap (λ (i : ℕ). record { taken = i; told = told }) (sym z)) (omega (arith, v.far))

  pub stops_ended : length bytes ≤ count → ServedBy start bytes s entry out (record { taken = count; told = told })
  stops_ended m =
      let z : count + 0 ≡ count = omega arith in
      let l : drop count bytes ≡ [] = drop_of_length-le bytes m in
      stops 0 s _ (rw l ended) (ap (λ (i : ℕ). record { taken = i; told = told }) (sym z)) (omega (arith, v.far))

  module _ (more : count < length bytes) (room : most ≤ length out - told) (p : Progress) (x y z : List ℕ) (c : Cuts s.held (take (length bytes - count) (drop count bytes)) s.first s.second s.third x y z p) where
    h : Group
    h = after (group_of s) (drop count bytes)

    some : 0 < length (drop count bytes)
    some = simp length-drop (omega arith)

    wide : longest_answer ≤ length entry - told
    wide = omega (arith, v.same, v.most_is)

    cuts : Cuts s.held (drop count bytes) s.first s.second s.third x y z p
    cuts = rw (part_is bytes count) at c

    taken_is : p.taken ≡ taken (group_of s) (drop count bytes)
    unfolding group_of
    taken_is = cuts.taken

    held_is : p.held ≡ held_of h
    unfolding group_of h
    held_is = cuts.held

    lines_are : p.held.lines ≡ h.lines
    unfolding held_of
    lines_are = ap (λ (k : Held). k.lines) held_is

    first_is : x ≡ onto h.first s.first
    unfolding group_of h
    first_is = cuts.first

    second_is : y ≡ onto h.second s.second
    unfolding group_of h
    second_is = cuts.second

    third_is : z ≡ onto h.third s.third
    unfolding group_of h
    third_is = cuts.third

    kept : (k : Held) → record { held = k; first = x; second = y; third = z } ≡ keeping k h s
    unfolding keeping
    kept k = simp (first_is, second_is, third_is)

    -- bytes are taken, and no more than there are
    pub taken_far : count + p.taken ≤ length bytes
    taken_far = omega (arith, taken_is, taken_le (group_of s) (drop count bytes), length-drop count bytes)

    pub waits_served : p.held.lines < 3 → ServedBy start bytes (record { held = p.held; first = x; second = y; third = z }) entry out (record { taken = count + p.taken; told = told })
    unfolding is_whole h
    waits_served f =
        let w : is_whole h ≡ false = lt-leb 3 h.lines (omega (arith, lines_are)) in
        let k = waits {room = length entry - told} {s = s} {bytes = drop count bytes} some wide w in
        let e : keeping (held_of h) h s ≡ record { held = p.held; first = x; second = y; third = z } = ap (λ (i : Held). keeping i h s) (sym held_is) ∙ sym (kept p.held) in
        stops p.taken (record { held = p.held; first = x; second = y; third = z }) _ (rw (taken_is, ← e) k) refl taken_far

    first_taken : take p.held.first x ≡ h.first
    unfolding held_of onto
    first_taken = ap (take p.held.first) first_is ∙ take_at h.first _ p.held.first (sym (ap (λ (k : Held). k.first) held_is))

    second_taken : take p.held.second y ≡ h.second
    unfolding held_of onto
    second_taken = ap (take p.held.second) second_is ∙ take_at h.second _ p.held.second (sym (ap (λ (k : Held). k.second) held_is))

    third_taken : take p.held.third z ≡ h.third
    unfolding held_of onto
    third_taken = ap (take p.held.third) third_is ∙ take_at h.third _ p.held.third (sym (ap (λ (k : Held). k.third) held_is))

    -- a group is whole, and its answer is printed behind what was printed
    module _ (many : 3 ≤ p.held.lines) (r : ℕ) (last : List ℕ)
        (a : Answers (take p.held.first x) (take p.held.second y) (take p.held.third z) (take (length out - told) (drop told out)) last r) (size : length last ≡ length (take (length out - told) (drop told out))) where
      part_size : length (take (length out - told) (drop told out)) ≡ length out - told
      part_size = ap length (part_is out told) ∙ length-drop told out

      long : longest_answer ≤ length (take (length out - told) (drop told out))
      long = omega (arith, part_size, v.most_is)

      pub r_fits : told + r ≤ length out
      r_fits = omega (arith, a.fits long, long, part_size, v.fits)

      answer : List ℕ
      answer = take r last

      answer_size : length (take r last) ≡ r
      answer_size = length-take-le r last (omega (arith, size, a.fits long, long))

      next : List ℕ
      next = put_mid told (length out - told) out last

      next_told : take (told + r) (put_mid told (length out - told) out last) ≡ take told out ++ take r last
      next_told =
          let e : length (take told out) ≡ told = length-take-le told out v.fits in
          ap (take (told + r)) (put_is out last told v.fits) ∙ ap (λ (i : ℕ). take (i + r) (take told out ++ last)) (sym e) ∙ take-append-add (take told out) last r

      rest_same : drop told out ≡ drop told entry
      unfolding onto
      rest_same =
          let e : length (take told out) ≡ told = length-take-le told out v.fits in
          ap (drop told) v.told_is ∙ drop_at (take told out) (drop (length (take told out)) entry) told e ∙ ap (λ (i : ℕ). drop i entry) e

      last_is : last ≡ take r last ++ drop (told + r) entry
      unfolding onto
      last_is =
          a.told long
          ∙ ap (λ (i : ℕ). take r last ++ drop i (take (length out - told) (drop told out))) answer_size
          ∙ ap (λ (l : List ℕ). take r last ++ drop r l) (part_is out told ∙ rest_same)
          ∙ ap (λ (l : List ℕ). take r last ++ l) (drop-drop r told entry)

      next_onto : put_mid told (length out - told) out last ≡ onto (take (told + r) (put_mid told (length out - told) out last)) entry
      unfolding onto
      next_onto =
          let e : length (take told out) ≡ told = length-take-le told out v.fits in
          let f : length (take told out ++ take r last) ≡ told + r = simp length-append (omega (arith, e, answer_size)) in
          rw next_told (put_is out last told v.fits ∙ ap (λ (l : List ℕ). take told out ++ l) last_is ∙ sym (append_assoc (take told out) (take r last) (drop (told + r) entry)) ∙ ap (λ (i : ℕ). (take told out ++ take r last) ++ drop i entry) (sym f))

      next_size : length (put_mid told (length out - told) out last) ≡ length entry
      next_size = ap length (put_is out last told v.fits) ∙ simp length-append (omega (arith, length-take-le told out v.fits, size, part_size, v.same, v.fits))

      group_goes : (k : Held) → k ≡ held_of no_group → (n : ℕ) (rest : List ℕ) (t : State) → Serves (length entry - (told + r)) (record { held = k; first = x; second = y; third = z }) (drop (count + p.taken) bytes) n rest t
          → Serves (length entry) start bytes (count + p.taken + n) (take (told + r) (put_mid told (length out - told) out last) ++ rest) t
      unfolding is_whole h
      group_goes k e n rest t q =
          let w : is_whole h ≡ true = le-leb 3 h.lines (omega (arith, lines_are, many)) in
          let b : Answered h.first h.second h.third (take r last) = rw (first_taken, second_taken, third_taken) at (a.answered long) in
          let d : drop (count + p.taken) bytes ≡ drop (taken (group_of s) (drop count bytes)) (drop count bytes) = ap (λ (i : ℕ). drop (count + i) bytes) taken_is ∙ sym (drop-drop (taken (group_of s) (drop count bytes)) count bytes) in
          let m : length entry - (told + r) ≡ length entry - told - length (take r last) = omega (arith, answer_size) in
          let u : record { held = k; first = x; second = y; third = z } ≡ keeping (held_of no_group) h s = kept k ∙ ap (λ (i : Held). keeping i h s) e in
          let j : Serves (length entry - told - length (take r last)) (keeping (held_of no_group) h s) (drop (taken (group_of s) (drop count bytes)) (drop count bytes)) n rest t = rw (m, u, d) at q in
          let o = v.goes (taken (group_of s) (drop count bytes) + n) (take r last ++ rest) t (answers {room = length entry - told} {s = s} {bytes = drop count bytes} some wide w b j) in
          let i : count + p.taken + n ≡ count + (taken (group_of s) (drop count bytes) + n) = omega (arith, taken_is) in
          rw (i, next_told, append_assoc (take told out) (take r last) rest) o

      pub serving_next : (k : Held) → k ≡ held_of no_group → Rooms x y z → count + p.taken ≤ length bytes
          → Serving most start bytes entry (record { held = k; first = x; second = y; third = z }) (put_mid told (length out - told) out last) (count + p.taken) (told + r)
      serving_next k e rooms far = record {
        most_is = v.most_is;
        ready = v.ready;
        goes = group_goes k e;
        far = far;
        fits = omega (arith, r_fits, next_size, v.same);
        same = next_size;
        told_is = next_onto;
        few = none_few k e;
        rooms = rooms;
      }

    group_few : (group_of s).lines < 3
    unfolding group_of group_in
    group_few = v.few

    pub taken_some : 0 < p.taken
    taken_some = omega (arith, taken_is, taken_pos (group_of s) (drop count bytes) some group_few)

    pub held_within : Rooms x y z → Within p.held
    unfolding held_of
    held_within r = record {
      first = omega (arith, r.first, ap length first_is, onto_longer h.first s.first, ap (λ (k : Held). k.first) held_is);
      second = omega (arith, r.second, ap length second_is, onto_longer h.second s.second, ap (λ (k : Held). k.second) held_is);
      third = omega (arith, r.third, ap length third_is, onto_longer h.third s.third, ap (λ (k : Held). k.third) held_is);
    }

pub serve_unready : (s : State) (bytes out : List ℕ) → is_ready s out ≡ false → ServedBy s bytes s out out (record { taken = 0; told = 0 })
serve_unready s bytes out r = record {
  unready = λ f. (refl, refl, refl);
  served = λ f. absurd (true_false f r);
  told = λ f. absurd (true_false f r);
  fits = omega arith;
  far = omega arith;
}

-- ---- the end of the input

some_byte : (n : ℕ) (l : List ℕ) → (n ≡ 0 → ⊥) → length l ≡ line_room → take n l ≡ [] → ⊥
unfolding line_room
some_byte n l z e f = let k : min n (length l) ≡ 0 = sym (length-take n l) ∙ ap length f in omega arith

no_byte : (n : ℕ) (l : List ℕ) → n ≡ 0 → take n l ≡ []
no_byte n l z = rw z refl

module _ (s : State) (out exit : List ℕ) (n : ℕ) where
  pub finish_unready : is_ready s out ≡ false → n ≡ 0 → exit ≡ out → Finished s out exit n
  finish_unready r z e = record {
    unready = λ f. (z, e);
    ended = λ f. absurd (true_false f r);
    told = λ f. absurd (true_false f r);
    fits = omega arith;
  }

  module _ (r : is_ready s out ≡ true) where
    finish_told : (told : List ℕ) → Tells told out exit n → Ends (group_of s) told → Finished s out exit n
    unfolding onto
    finish_told told t e =
        let k : take n exit ≡ told = ap (take n) t.exit_is ∙ take_at told (drop (length told) out) n (sym t.count_is) in
        record {
          unready = λ f. absurd (true_false r f);
          ended = λ f. rw k e;
          told = λ f. rw k t.exit_is;
          fits = omega (arith, t.count_is, ap length t.exit_is, onto_longer told out);
        }

    rooms : Rooms s.first s.second s.third
    rooms = (is_ready_lem s out r).rooms

    pub finish_nothing : s.held.lines ≡ 0 → s.held.first ≡ 0 → n ≡ 0 → exit ≡ out → Finished s out exit n
    unfolding group_of group_in onto
    finish_nothing l f z e = finish_told [] (record { count_is = z; exit_is = e }) (nothing l (no_byte s.held.first s.first f))

    pub finish_one : s.held.lines ≡ 0 → (s.held.first ≡ 0 → ⊥) → Tells (cut_short Second) out exit n → Finished s out exit n
    unfolding group_of group_in
    finish_one l f t = finish_told (cut_short Second) t (one_line l (some_byte s.held.first s.first f rooms.first))

    pub finish_only_one : s.held.lines ≡ 1 → s.held.second ≡ 0 → Tells (cut_short Second) out exit n → Finished s out exit n
    unfolding group_of group_in
    finish_only_one l f t = finish_told (cut_short Second) t (only_one l (no_byte s.held.second s.second f))

    pub finish_two : s.held.lines ≡ 1 → (s.held.second ≡ 0 → ⊥) → Tells (cut_short Target) out exit n → Finished s out exit n
    unfolding group_of group_in
    finish_two l f t = finish_told (cut_short Target) t (two_lines l (some_byte s.held.second s.second f rooms.second))

    two_lines_lem : (s.held.lines ≡ 0 → ⊥) → (s.held.lines ≡ 1 → ⊥) → s.held.lines ≡ 2
    two_lines_lem a b = omega (arith, (is_ready_lem s out r).few)

    pub finish_only_two : (s.held.lines ≡ 0 → ⊥) → (s.held.lines ≡ 1 → ⊥) → s.held.third ≡ 0 → Tells (cut_short Target) out exit n → Finished s out exit n
    unfolding group_of group_in
    finish_only_two a b f t = finish_told (cut_short Target) t (only_two (two_lines_lem a b) (no_byte s.held.third s.third f))

    pub finish_three : (s.held.lines ≡ 0 → ⊥) → (s.held.lines ≡ 1 → ⊥) → (s.held.third ≡ 0 → ⊥)
        → Answers (take s.held.first s.first) (take s.held.second s.second) (take s.held.third s.third) out exit n → Finished s out exit n
    unfolding group_of group_in onto
    finish_three a b f t =
        let long : longest_answer ≤ length out = (is_ready_lem s out r).room in
        let e : n ≤ length exit = omega (arith, t.fits long, ap length (t.told long), onto_longer (take n exit) out, onto_as_long (take n exit) out) in
        let m : length (take n exit) ≡ n = length-take-le n exit e in
        finish_told (take n exit) (record { count_is = sym m; exit_is = t.told long }) (three_lines (two_lines_lem a b) (some_byte s.held.third s.third f rooms.third) (t.answered long))
