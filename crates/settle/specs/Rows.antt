-- What is known of a sum D of read parts after k columns. Definitions only.
use Rattle.std.specs.Prelude.{ℕ, ◌+◌, ◌*◌, ◌≤◌, ◌^◌, true, false, not, cond, ◌&&◌, ltb, leb, eqb}
use Rattle.settle.specs.declared.rows.Pair.{Pair}
use Rattle.settle.specs.declared.rows.Row.{Row}
use Rattle.settle.specs.declared.rows.Row.TheVariants.{Exact, Plus, Minus, Hole}

-- the first operand begins at the top of column 0 and has `first` digits, the second `gap` digits below and has `second`; 0 digits is no operand.
-- c is the number of digits in the columns read
abbrev pub seen_row : Pair → ℕ → Row
seen_row s c =
    cond s.same
    (cond (ltb c s.first && ltb c (s.gap + s.second))
    (Plus false true (not (eqb s.first (c + 1) && eqb (s.gap + s.second) (c + 1))))
    (Plus false false true))
    (cond (ltb c (s.gap + s.second)) (Minus (ltb c s.first)) (Plus false false true))

abbrev pub far_row : Pair → ℕ → Row
far_row s c =
    cond (leb s.first c) Hole
    (cond s.same (Plus true (ltb s.gap s.first) true) (Minus (not (eqb s.first (c + 1) && eqb s.gap c))))

unfoldable pub row_of : Pair → ℕ → Row
row_of s k =
    let c = 64 * k in
    cond (eqb s.second 0) (cond (leb s.first c) Exact (seen_row s c))
    (cond (leb s.first c && leb (s.gap + s.second) c) Exact
    (cond (leb c s.gap) (far_row s c) (seen_row s c)))

-- the numbers stay far below 2 ^ 64
pub record Modest (s : Pair) (k : ℕ) : Type 0 where
  pub first : s.first ≤ 2 ^ 20
  pub second : s.second ≤ 2 ^ 20
  pub gap : s.gap ≤ 2 ^ 42
  pub top : s.top ≤ 2 ^ 42
  pub columns : k ≤ 2 ^ 20
  pub above : 64 * k ≤ s.top
