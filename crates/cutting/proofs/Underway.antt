-- The bytes of a piece go to a group one by one, up to its third LF or to the end of the piece. Assumes nothing.
use mathlib.Core.Path.{◌≡◌, refl, sym, ap, ◌∙◌}
use mathlib.Core.Bool.{true, false}
use mathlib.Core.List.{List, [], ◌∷◌}
use Prim.Native.Nat.{ℕ, suc, ◌+◌, ◌≤◌, ◌<◌}
use native.Mathlib.Omega.{arith}
use native.Mathlib.Numerals.{add-one}
use borrow.Author.Tests.{le-leb, lt-leb}
use lib.ListN.{length, take, drop, get_or, drop_of_length-le}
use lib.Seq.{drop-cons, length-take-le}
use Rattle.lines.specs.Writing.{onto}
use Rattle.cutting.specs.Group.{Held}
use Rattle.cutting.specs.Group.{Group, is_whole, with_byte, after, taken, group_in, held_of, Cuts, Grown, Within, Counts, Rooms, Takes}
use Rattle.cutting.proofs.Keeping.{grown_none, grown_twice, held_is}

-- a whole group takes nothing
pub after_whole : (g : Group) (bs : List ℕ) → is_whole g ≡ true → after g bs ≡ g
unfolding after
after_whole g [] e = refl
after_whole g (b ∷ bs) e = rw e

pub taken_whole : (g : Group) (bs : List ℕ) → is_whole g ≡ true → taken g bs ≡ 0
unfolding taken
taken_whole g [] e = refl
taken_whole g (b ∷ bs) e = rw e

-- one that is not takes the next byte
pub after_byte : (g : Group) (b : ℕ) (bs : List ℕ) → is_whole g ≡ false → after g (b ∷ bs) ≡ after (with_byte g b) bs
unfolding after
after_byte g b bs e = rw e

pub taken_byte : (g : Group) (b : ℕ) (bs : List ℕ) → is_whole g ≡ false → taken g (b ∷ bs) ≡ suc (taken (with_byte g b) bs)
unfolding taken
taken_byte g b bs e = rw e

after_none : (g : Group) → after g [] ≡ g
unfolding after
after_none g = refl

taken_none : (g : Group) → taken g [] ≡ 0
unfolding taken
taken_none g = refl

whole_is : (h : Held) (a b c : List ℕ) → 3 ≤ h.lines → is_whole (group_in h a b c) ≡ true
unfolding is_whole group_in
whole_is h a b c e = le-leb 3 h.lines e

open_is : (h : Held) (a b c : List ℕ) → h.lines < 3 → is_whole (group_in h a b c) ≡ false
unfolding is_whole group_in
open_is h a b c e = lt-leb 3 h.lines e

-- the same bytes, however they are counted
pub same_group : (n h : Held) (a b c : List ℕ) → Rooms a b c → h.lines ≡ n.lines → Counts n.first h.first → Counts n.second h.second → Counts n.third h.third
    → group_in h a b c ≡ group_in n a b c
unfolding group_in
same_group n h a b c r l x y z = simp (l, x.1 a r.first, y.1 b r.second, z.1 c r.third)

counts_back : (h : Held) (a b c : List ℕ) → Rooms a b c → Within h → held_of (group_in h a b c) ≡ h
unfolding held_of group_in
counts_back h a b c r w =
    let p : h.first ≤ length a = omega (arith, r.first, w.first) in
    let q : h.second ≤ length b = omega (arith, r.second, w.second) in
    let s : h.third ≤ length c = omega (arith, r.third, w.third) in
    simp (length-take-le h.first a p, length-take-le h.second b q, length-take-le h.third c s)

-- what each buffer holds of a group
module _ (k : Held) (x y z : List ℕ) where
  one_of : take k.first x ≡ (group_in k x y z).first
  unfolding group_in
  one_of = refl

  two_of : take k.second y ≡ (group_in k x y z).second
  unfolding group_in
  two_of = refl

  three_of : take k.third z ≡ (group_in k x y z).third
  unfolding group_in
  three_of = refl

-- after i bytes of a piece
pub record Going (start : Held) (bytes one two three one' two' three' : List ℕ) (h : Held) (i : ℕ) : Type 0 where
  pub far : i ≤ length bytes
  pub group : after (group_in h one' two' three') (drop i bytes) ≡ after (group_in start one two three) bytes
  pub took : i + taken (group_in h one' two' three') (drop i bytes) ≡ taken (group_in start one two three) bytes
  pub first : Grown start.first h.first one one'
  pub second : Grown start.second h.second two two'
  pub third : Grown start.third h.third three three'
  pub rooms : Rooms one' two' three'

pub within_all : {start h : Held} {bytes a b c x y z : List ℕ} {i : ℕ} → Going start bytes a b c x y z h i → Within h
within_all g = record { first = g.first.fits; second = g.second.fits; third = g.third.fits }

pub begins : (h : Held) (bytes a b c : List ℕ) → Within h → Rooms a b c → Going h bytes a b c a b c h 0
begins h bytes a b c w r = record {
  far = omega arith;
  group = refl;
  took = omega arith;
  first = grown_none h.first a w.first;
  second = grown_none h.second b w.second;
  third = grown_none h.third c w.third;
  rooms = r;
}

module _ (start h : Held) (bytes a b c x y z : List ℕ) (i : ℕ) (g : Going start bytes a b c x y z h i) where
  module _ (u v w : List ℕ) (r : Held) (more : i < length bytes) (few : h.lines < 3) (rooms : Rooms u v w) (t : Takes h (get_or bytes i 0) x y z u v w r) where
    next : drop i bytes ≡ get_or bytes i 0 ∷ drop (i + 1) bytes
    next = rw add-one (drop-cons bytes i 0 more)

    pub goes : Going start bytes a b c u v w r (i + 1)
    goes =
        let o : is_whole (group_in h x y z) ≡ false = open_is h x y z few in
        record {
          far = omega arith;
          group =
              ap (λ (k : Group). after k (drop (i + 1) bytes)) t.group
              ∙ sym (after_byte (group_in h x y z) (get_or bytes i 0) (drop (i + 1) bytes) o)
              ∙ ap (after (group_in h x y z)) (sym next)
              ∙ g.group;
          took =
              let e : taken (group_in r u v w) (drop (i + 1) bytes) ≡ taken (with_byte (group_in h x y z) (get_or bytes i 0)) (drop (i + 1) bytes) = ap (λ (k : Group). taken k (drop (i + 1) bytes)) t.group in
              let f : taken (group_in h x y z) (drop i bytes) ≡ suc (taken (with_byte (group_in h x y z) (get_or bytes i 0)) (drop (i + 1) bytes)) =
              ap (taken (group_in h x y z)) next ∙ taken_byte (group_in h x y z) (get_or bytes i 0) (drop (i + 1) bytes) o in
              omega (arith, e, f, g.took);
          first = grown_twice g.first t.first;
          second = grown_twice g.second t.second;
          third = grown_twice g.third t.third;
          rooms = rooms;
        }

  module _ (n : Held) (same : group_in start a b c ≡ group_in n a b c) where
    -- where nothing more is taken
    done : after (group_in h x y z) (drop i bytes) ≡ group_in h x y z → taken (group_in h x y z) (drop i bytes) ≡ 0
        → Cuts n bytes a b c x y z (record { held = h; taken = i })
    done e f =
        let all : group_in h x y z ≡ after (group_in n a b c) bytes = sym e ∙ g.group ∙ ap (λ (k : Group). after k bytes) same in
        record {
          taken = (let q : i ≡ taken (group_in start a b c) bytes = omega (arith, f, g.took) in q ∙ ap (λ (k : Group). taken k bytes) same);
          held = sym (counts_back h x y z g.rooms (within_all g)) ∙ ap held_of all;
          first = held_is start.first h.first a x g.rooms.first g.first ∙ ap (λ (l : List ℕ). onto l a) (one_of h x y z ∙ ap (λ (k : Group). k.first) all);
          second = held_is start.second h.second b y g.rooms.second g.second ∙ ap (λ (l : List ℕ). onto l b) (two_of h x y z ∙ ap (λ (k : Group). k.second) all);
          third = held_is start.third h.third c z g.rooms.third g.third ∙ ap (λ (l : List ℕ). onto l c) (three_of h x y z ∙ ap (λ (k : Group). k.third) all);
        }

    pub stops_whole : 3 ≤ h.lines → Cuts n bytes a b c x y z (record { held = h; taken = i })
    stops_whole e =
        let o : is_whole (group_in h x y z) ≡ true = whole_is h x y z e in
        done (after_whole (group_in h x y z) (drop i bytes) o) (taken_whole (group_in h x y z) (drop i bytes) o)

    pub stops_empty : length bytes ≤ i → Cuts n bytes a b c x y z (record { held = h; taken = i })
    stops_empty e =
        let none : drop i bytes ≡ [] = drop_of_length-le bytes e in
        done (ap (after (group_in h x y z)) none ∙ after_none (group_in h x y z)) (ap (taken (group_in h x y z)) none ∙ taken_none (group_in h x y z))
