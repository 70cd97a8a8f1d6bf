-- What a row says where all is read, where there is a hole, and where something is unread and there is none, by the tests that the code makes. Assumes nothing.
use mathlib.Core.Path.{◌≡◌, refl, sym, ◌∙◌}
use mathlib.Core.Bool.{Bool, true, false, not, cond, ◌&&◌}
use Prim.Native.Nat.{ℕ, ◌+◌, ◌*◌, ◌<◌}
use native.Mathlib.Omega.{arith}
use borrow.Author.Tests.{ne_eqb, leb-true, lt-leb}
use lib.Dec.{ltb, leb, eqb}
use Rattle.limb.proofs.Tests.{both_true}
use Rattle.settle.specs.Rows.{row_of, far_row, seen_row}
use Rattle.settle.specs.declared.rows.Pair.{Pair}
use Rattle.settle.specs.declared.rows.Row.TheVariants.{Exact, Plus, Minus, Hole}
use Rattle.bridge.specs.Verdict.{inner?, more_of}

module _ (s : Pair) (k : ℕ) (some : 0 < s.second) where
  abbrev c : ℕ
  c = 64 * k

  two : eqb s.second 0 ≡ false
  two = ne_eqb s.second 0 (λ e. omega arith)

  pub row_read : (leb s.first c && leb (s.gap + s.second) c) ≡ true → row_of s k ≡ Exact
  unfolding row_of
  row_read e = rw (two, e) refl

  pub row_hole : (leb c s.gap && leb s.first c) ≡ true → row_of s k ≡ Hole
  unfolding row_of
  row_hole e =
      let t = both_true (leb c s.gap) (leb s.first c) e in
      rw (two, t.0, t.1, lt-leb (s.gap + s.second) c (omega (arith, leb-true c s.gap t.0))) refl

  abbrev Below : Bool → Type 0
  Below more = (inner? (row_of s k) ≡ true) × (more_of (row_of s k) ≡ more)

  module _ (unread : (leb s.first c && leb (s.gap + s.second) c) ≡ false) (filled : (leb c s.gap && leb s.first c) ≡ false) where
    row_far_lem : leb c s.gap ≡ true → row_of s k ≡ far_row s c
    unfolding row_of
    row_far_lem f = rw (two, unread, f) refl

    row_seen : leb c s.gap ≡ false → row_of s k ≡ seen_row s c
    unfolding row_of
    row_seen f = rw (two, unread, f) refl

    first_open : leb c s.gap ≡ true → leb s.first c ≡ false
    first_open f = sym (rw f refl) ∙ filled

    pub far_same_lem : leb c s.gap ≡ true → s.same ≡ true → Below true
    unfolding inner? more_of
    far_same_lem f e = rw (row_far_lem f, first_open f, e) (refl, refl)

    pub far_unlike_lem : leb c s.gap ≡ true → s.same ≡ false → Below (not (eqb s.first (c + 1) && eqb s.gap c))
    unfolding inner? more_of
    far_unlike_lem f e = rw (row_far_lem f, first_open f, e) (refl, refl)

    pub seen_same : leb c s.gap ≡ false → s.same ≡ true → Below false
    unfolding inner? more_of
    seen_same f e = rw (row_seen f, e) (go (ltb c s.first && ltb c (s.gap + s.second)) (not (eqb s.first (c + 1) && eqb (s.gap + s.second) (c + 1))))
      where
        go : (a b : Bool) → (inner? (cond a (Plus false true b) (Plus false false true)) ≡ true) × (more_of (cond a (Plus false true b) (Plus false false true)) ≡ false)
        go true b = (refl, refl)
        go false b = (refl, refl)

    pub seen_unlike : leb c s.gap ≡ false → s.same ≡ false → Below (ltb c (s.gap + s.second) && ltb c s.first)
    unfolding inner? more_of
    seen_unlike f e = rw (row_seen f, e) (go (ltb c (s.gap + s.second)) (ltb c s.first))
      where
        go : (a b : Bool) → (inner? (cond a (Minus b) (Plus false false true)) ≡ true) × (more_of (cond a (Minus b) (Plus false false true)) ≡ (a && b))
        go true b = (refl, refl)
        go false b = (refl, refl)
