-- One column more than fill the target: the columns before it carry what it carries, and it stands below them. Assumes nothing.
use mathlib.Core.Path.{◌≡◌, refl, sym, ap, ◌∙◌}
use mathlib.Core.Bool.{Bool, true, false, cond}
use mathlib.Core.List.{List}
use Prim.Native.Nat.{ℕ, ◌+◌, ◌-◌, ◌*◌, ◌^◌, ◌≤◌, ◌<◌}
use native.Mathlib.Numerals.{add-one}
use native.Mathlib.Omega.{arith}
use lib.ListN.{length}
use Rattle.limb.specs.Value.{value_of, Below}
use Rattle.limb.specs.Carry.{bit}
use Rattle.limb.specs.Column.{Column, Joins, Summed, TakenFrom}
use Rattle.limb.proofs.Value.{value_lt, base_pow}
use Rattle.columns.specs.Column.{read_to, column_of}
use Rattle.columns.proofs.Reading.{read_more}
use Rattle.leap.specs.Leap.{Columns}
use Rattle.leap.specs.Runs.{Runs, GuardedBy}
use Rattle.leap.specs.declared.guarded.Guarded.{Guarded}
use Rattle.leap.proofs.Leaping.{all_low}

one_more : (k gap : ℕ) (l : List ℕ) → read_to (k + 1) gap l ≡ read_to k gap l * 2 ^ 64 + column_of k gap l
one_more k gap l = ap (λ (m : ℕ). read_to m gap l) (add-one k) ∙ read_more gap l k

-- the columns before the guard, and the guard below them
pub guard_below : (column : Column) → Joins column → (gap k : ℕ) (first second before after : List ℕ) → Below (2 ^ 64) first → Below (2 ^ 64) second → k ≡ length before → (guard : ℕ) (c out : Bool)
    → column (2 ^ 64) (column_of k gap second) (column_of k 0 first) (bit false) guard (bit c) → Columns column (read_to k 0 first) (read_to k gap second) c (length before) after out
    → column (2 ^ 64 * 2 ^ (64 * length after)) (read_to (k + 1) gap second) (read_to (k + 1) 0 first) 0 (guard + 2 ^ 64 * value_of after) (bit out)
guard_below column joins gap k first second before after hx hy all guard c out l u =
    let z : bit false ≡ 0 = unfold bit in refl in
    let v = rw (all_low k gap second hy, all_low k 0 first hx) at (rw (sym all) at u.value) in
    let one = joins (2 ^ 64) (2 ^ (64 * k)) (column_of k gap second) (column_of k 0 first) (bit false) guard (bit c) (read_to k gap second) (read_to k 0 first) (value_of after) (bit out) l v in
    let x : column_of k 0 first + 2 ^ 64 * read_to k 0 first ≡ read_to (k + 1) 0 first = omega (arith, one_more k 0 first) in
    let y : column_of k gap second + 2 ^ 64 * read_to k gap second ≡ read_to (k + 1) gap second = omega (arith, one_more k gap second) in
    rw (u.size, sym all) (rw (x, y, z) at one)

module _ (X Y : ℕ) (after : List ℕ) (r : Guarded) (same : Bool) where
  pub sum_guarded : same ≡ true → GuardedBy Summed X Y after r → Runs (cond same (X + Y) (X - Y)) after r
  sum_guarded s e = rw s (omega arith)

  pub difference_guarded : same ≡ false → r.guard < 2 ^ 64 → Below (2 ^ 64) after → Y ≤ X → GuardedBy TakenFrom X Y after r → Runs (cond same (X + Y) (X - Y)) after r
  difference_guarded s fits h le e = rw s (go (2 ^ (64 * length after)) (value_of after) r.guard r.carry fits (rw (base_pow (length after)) at (value_lt (2 ^ 64) after h)) e)
    where
      go : (P v g : ℕ) (out : Bool) → g < 2 ^ 64 → v < P → g + 2 ^ 64 * v + Y + 0 ≡ X + 2 ^ 64 * P * bit out → X - Y ≡ (bit out * P + v) * 2 ^ 64 + g
      go P v g true a b e = let o : bit true ≡ 1 = unfold bit in refl in absurd (omega (arith, rw o at e))
      go P v g false a b e = let o : bit false ≡ 0 = unfold bit in refl in rw o (omega (arith, rw o at e))
