-- Each return of the ways and the rows is a case of the definition.
use mathlib.Core.Path.{◌≡◌, refl, sym, ap, ◌∙◌}
use mathlib.Core.Bool.{Bool, true, false, not, cond, ◌&&◌, beq}
use Prim.Native.Nat.{ℕ, zero, suc, ◌+◌, ◌*◌, ◌≤◌, ◌<◌}
use native.Mathlib.Omega.{arith}
use borrow.Author.Tests.{le-leb, lt-leb, eq-eqb, ne_eqb}
use lib.Dec.{ltb, leb, eqb}
use Rattle.rounding.specs.Mode.{near, under, over, way, mode_of}
use Rattle.settle.specs.Rows.{seen_row, far_row, row_of}
use Rattle.settle.specs.declared.rows.Pair.{Pair}
use Rattle.settle.specs.declared.rows.Row.TheVariants.{Exact, Plus, Minus, Hole}

-- ---- ways, by the numbers of the modes

module _ (mode : ℕ) (negative : Bool) where
  pub way_nearest : mode ≡ 0 → near ≡ way (mode_of mode) negative
  unfolding way mode_of
  way_nearest e = rw e

  pub way_zeroward : mode ≡ 1 → under ≡ way (mode_of mode) negative
  unfolding way mode_of
  way_zeroward e = rw e

-- up and down, by the sign
way_directed : (mode : ℕ) (negative : Bool) → (mode ≡ 0 → ⊥) → (mode ≡ 1 → ⊥) → cond (beq (eqb mode 2) negative) under over ≡ way (mode_of mode) negative
unfolding way mode_of
way_directed zero g n m = absurd (n refl)
way_directed (suc zero) g n m = absurd (m refl)
way_directed (suc (suc zero)) true n m = refl
way_directed (suc (suc zero)) false n m = refl
way_directed (suc (suc (suc k))) g n m = rw (ne_eqb (suc (suc (suc k))) 2 (λ e. omega arith)) (go g)
  where
    go : (g : Bool) → cond (beq false g) under over ≡ way (mode_of (suc (suc (suc k)))) g
    go true = refl
    go false = refl

module _ (mode : ℕ) (negative : Bool) (n : mode ≡ 0 → ⊥) (m : mode ≡ 1 → ⊥) where
  pub way_under : beq (eqb mode 2) negative ≡ true → under ≡ way (mode_of mode) negative
  way_under e = ap (λ (b : Bool). cond b under over) (sym e) ∙ way_directed mode negative n m

  pub way_over : beq (eqb mode 2) negative ≡ false → over ≡ way (mode_of mode) negative
  way_over e = ap (λ (b : Bool). cond b under over) (sym e) ∙ way_directed mode negative n m

-- ---- rows

module _ (s : Pair) (c : ℕ) where
  pub far_hole : s.first ≤ c → Hole ≡ far_row s c
  far_hole h = rw (le-leb s.first c h)

  pub far_same_lem : c < s.first → s.same ≡ true → Plus true (ltb s.gap s.first) true ≡ far_row s c
  far_same_lem h e = rw (lt-leb s.first c h, e)

  pub far_unlike_lem : c < s.first → s.same ≡ false → Minus (not (eqb s.first (c + 1) && eqb s.gap c)) ≡ far_row s c
  far_unlike_lem h e = rw (lt-leb s.first c h, e)

  pub seen_both : s.same ≡ true → (ltb c s.first && ltb c (s.gap + s.second)) ≡ true → Plus false true (not (eqb s.first (c + 1) && eqb (s.gap + s.second) (c + 1))) ≡ seen_row s c
  seen_both e f = rw (e, f)

  pub seen_one : s.same ≡ true → (ltb c s.first && ltb c (s.gap + s.second)) ≡ false → Plus false false true ≡ seen_row s c
  seen_one e f = rw (e, f)

  pub seen_less : s.same ≡ false → ltb c (s.gap + s.second) ≡ true → Minus (ltb c s.first) ≡ seen_row s c
  seen_less e f = rw (e, f)

  pub seen_more : s.same ≡ false → ltb c (s.gap + s.second) ≡ false → Plus false false true ≡ seen_row s c
  seen_more e f = rw (e, f)

module _ (s : Pair) (k : ℕ) where
  pub alone_exact : s.second ≡ 0 → s.first ≤ 64 * k → Exact ≡ row_of s k
  unfolding row_of
  alone_exact e h = rw (eq-eqb s.second 0 e, le-leb s.first (64 * k) h)

  pub alone_seen : s.second ≡ 0 → 64 * k < s.first → seen_row s (64 * k) ≡ row_of s k
  unfolding row_of
  alone_seen e h = rw (eq-eqb s.second 0 e, lt-leb s.first (64 * k) h)

  module _ (n : s.second ≡ 0 → ⊥) where
    pub pair_exact : (leb s.first (64 * k) && leb (s.gap + s.second) (64 * k)) ≡ true → Exact ≡ row_of s k
    unfolding row_of
    pair_exact e = rw (ne_eqb s.second 0 n, e)

    pub pair_far : (leb s.first (64 * k) && leb (s.gap + s.second) (64 * k)) ≡ false → 64 * k ≤ s.gap → far_row s (64 * k) ≡ row_of s k
    unfolding row_of
    pair_far e h = rw (ne_eqb s.second 0 n, e, le-leb (64 * k) s.gap h)

    pub pair_seen : (leb s.first (64 * k) && leb (s.gap + s.second) (64 * k)) ≡ false → s.gap < 64 * k → seen_row s (64 * k) ≡ row_of s k
    unfolding row_of
    pair_seen e h = rw (ne_eqb s.second 0 n, e, lt-leb (64 * k) s.gap h)
