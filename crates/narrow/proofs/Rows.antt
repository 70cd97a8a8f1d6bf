-- The rows of a pair after one column, by the tests that the code makes. Assumes nothing.
use mathlib.Core.Path.{◌≡◌, refl, sym, ◌∙◌}
use mathlib.Core.Bool.{Bool, true, false, not, ◌&&◌, true≢false}
use Prim.Native.Nat.{◌+◌, ◌<◌}
use native.Mathlib.Omega.{arith}
use borrow.Author.Tests.{leb-true, leb-false, lt-ltb, le-ltb, ne_eqb}
use lib.Dec.{ltb, leb, eqb}
use Rattle.limb.proofs.Tests.{both_true}
use Rattle.settle.specs.Rows.{row_of}
use Rattle.settle.specs.declared.rows.Pair.{Pair}
use Rattle.settle.specs.declared.rows.Row.TheVariants.{Exact, Plus, Minus, Hole}
use Rattle.narrow.specs.Column.{is_whole, is_hole, has_more}

pub data SumCase (s : Pair) : Type 0 where
  read : row_of s 1 ≡ Exact → leb 64 s.gap ≡ false → SumCase s
  apart : row_of s 1 ≡ Hole → leb 64 s.gap ≡ true → SumCase s
  inner : (next most : Bool) → row_of s 1 ≡ Plus (leb 64 s.gap) next most → is_whole s ≡ false → is_hole s ≡ false → SumCase s

pub data DifferenceCase (s : Pair) : Type 0 where
  read : row_of s 1 ≡ Exact → has_more s ≡ false → DifferenceCase s
  short : row_of s 1 ≡ Plus false false true → has_more s ≡ false → is_whole s ≡ false → DifferenceCase s
  less : row_of s 1 ≡ Minus (has_more s) → is_whole s ≡ false → DifferenceCase s

module _ (s : Pair) (some : 0 < s.second) where
  there : eqb s.second 0 ≡ false
  there = ne_eqb s.second 0 (λ e. omega arith)

  clash : leb (s.gap + s.second) 64 ≡ true → leb 64 s.gap ≡ true → ⊥
  clash b f = omega (arith, leb-true (s.gap + s.second) 64 b, leb-true 64 s.gap f)

  -- all of both is read; or all of the first, and nothing of the second
  pub whole_row : is_whole s ≡ true → row_of s 1 ≡ Exact
  unfolding row_of
  whole_row h = let t = both_true (leb s.first 64) (leb (s.gap + s.second) 64) h in rw (there, t.0, t.1) refl

  pub hole_row : is_hole s ≡ true → row_of s 1 ≡ Hole
  unfolding row_of
  hole_row h =
      let t = both_true (leb s.first 64) (leb 64 s.gap) h in
      go (leb (s.gap + s.second) 64) refl t.0 t.1
    where
      go : (b : Bool) → leb (s.gap + s.second) 64 ≡ b → leb s.first 64 ≡ true → leb 64 s.gap ≡ true → row_of s 1 ≡ Hole
      go true eb ea ef = absurd (clash eb ef)
      go false eb ea ef = rw (there, ea, eb, ef) refl

  pub sum_case : s.same ≡ true → SumCase s
  unfolding row_of
  sum_case same = go (leb s.first 64) (leb (s.gap + s.second) 64) (leb 64 s.gap) (ltb 64 s.first && ltb 64 (s.gap + s.second)) refl refl refl refl
    where
      go : (a b f t : Bool) → leb s.first 64 ≡ a → leb (s.gap + s.second) 64 ≡ b → leb 64 s.gap ≡ f → (ltb 64 s.first && ltb 64 (s.gap + s.second)) ≡ t → SumCase s
      go true true true t ea eb ef et = absurd (clash eb ef)
      go true true false t ea eb ef et = read (rw (there, ea, eb) refl) ef
      go true false true t ea eb ef et = apart (rw (there, ea, eb, ef) refl) ef
      go true false false true ea eb ef et = inner true (not (eqb s.first 65 && eqb (s.gap + s.second) 65)) (rw (there, ea, eb, ef, same, et) refl) (rw (ea, eb) refl) (rw (ea, ef) refl)
      go true false false false ea eb ef et = inner false true (rw (there, ea, eb, ef, same, et) refl) (rw (ea, eb) refl) (rw (ea, ef) refl)
      go false b true t ea eb ef et = inner (ltb s.gap s.first) true (rw (there, ea, ef, same) refl) (rw ea refl) (rw ea refl)
      go false b false true ea eb ef et = inner true (not (eqb s.first 65 && eqb (s.gap + s.second) 65)) (rw (there, ea, ef, same, et) refl) (rw ea refl) (rw ea refl)
      go false b false false ea eb ef et = inner false true (rw (there, ea, ef, same, et) refl) (rw ea refl) (rw ea refl)

  pub difference_case : s.same ≡ false → is_hole s ≡ false → DifferenceCase s
  unfolding row_of
  difference_case same none = go (leb s.first 64) (leb (s.gap + s.second) 64) (leb 64 s.gap) (eqb s.first 65 && eqb s.gap 64) refl refl refl refl
    where
      first_read : leb s.first 64 ≡ true → ltb 64 s.first ≡ false
      first_read e = le-ltb 64 s.first (leb-true s.first 64 e)

      first_long : leb s.first 64 ≡ false → ltb 64 s.first ≡ true
      first_long e = lt-ltb 64 s.first (leb-false s.first 64 e)

      second_read : leb (s.gap + s.second) 64 ≡ true → ltb 64 (s.gap + s.second) ≡ false
      second_read e = le-ltb 64 (s.gap + s.second) (leb-true (s.gap + s.second) 64 e)

      second_long : leb (s.gap + s.second) 64 ≡ false → ltb 64 (s.gap + s.second) ≡ true
      second_long e = lt-ltb 64 (s.gap + s.second) (leb-false (s.gap + s.second) 64 e)

      go : (a b f t : Bool) → leb s.first 64 ≡ a → leb (s.gap + s.second) 64 ≡ b → leb 64 s.gap ≡ f → (eqb s.first 65 && eqb s.gap 64) ≡ t → DifferenceCase s
      go true true true t ea eb ef et = absurd (clash eb ef)
      go true true false t ea eb ef et = read (rw (there, ea, eb) refl) (rw (ef, first_read ea) refl)
      go true false true t ea eb ef et = absurd (true≢false (sym (rw (ea, ef) refl) ∙ none))
      go true false false t ea eb ef et = less (rw (there, ea, eb, ef, same, second_long eb, first_read ea) refl) (rw (ea, eb) refl)
      go false b true true ea eb ef et = less (rw (there, ea, ef, same, et) refl) (rw ea refl)
      go false b true false ea eb ef et = less (rw (there, ea, ef, same, et) refl) (rw ea refl)
      go false true false t ea eb ef et = short (rw (there, ea, ef, same, second_read eb) refl) (rw (ef, first_long ea, second_read eb) refl) (rw ea refl)
      go false false false t ea eb ef et = less (rw (there, ea, ef, same, second_long eb, first_long ea) refl) (rw ea refl)
