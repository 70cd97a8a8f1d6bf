-- The columns read reach down to the last digit of the target, where the class test settles the sum; and every weight in sight is counted.
use mathlib.Core.Path.{◌≡◌, refl, sym, ap, ◌∙◌, subst}
use mathlib.Core.Logic.{◌⊎◌, inl, inr}
use mathlib.Core.Bool.{Bool, true, false, true≢false}
use Prim.Native.Nat.{ℕ, zero, suc, ◌+◌, ◌-◌, ◌*◌, ◌/◌, ◌%◌, ◌^◌, ◌≤◌, ◌<◌, Ordering}
use native.Mathlib.Nat.{le_trans, le_antisymm, mod-lt, pow-succ'}
use native.Mathlib.Omega.{arith}
use borrow.Author.Tests.{ltb-true}
use lib.Dec.{ltb}
use lib.Pow.{pow_pos}
use lib.Ieee.{size}
use lib.Ieee.Digits.{size-le}
use Rattle.columns.proofs.Reading.{read_lt}
use Rattle.limb.proofs.Tests.{both_true}
use Rattle.limb.specs.Carry.{bit}
use Rattle.numbers.specs.Limits.{most_precision, bias, least_exponent}
use Rattle.numbers.specs.Operand.{Operand, WellFormed}
use Rattle.rounding.specs.Mode.{Way, way, near, under, over}
use Rattle.rounding.specs.declared.Mode.{Mode}
use Rattle.rounding.proofs.Order.{le_or_lt}
use Rattle.depth.specs.Bound.{columns_for, far_columns, deepest}
use Rattle.decide.specs.Class.{off, lean, alike, enough, settled}
use Rattle.decide.proofs.Lean.{lean_exact, lean_more}
use Rattle.decide.proofs.Settled.{Enough, enough_le}
use Rattle.columns.specs.Column.{read_to}
use Rattle.settle.specs.Rows.{row_of}
use Rattle.settle.specs.declared.rows.Row.{Row}
use Rattle.settle.specs.declared.rows.Row.TheVariants.{Exact, Plus, Minus, Hole}
use Rattle.bridge.specs.Verdict.{pair_of, Ordered, read_sum, settled_by, inner?}
use Rattle.bridge.proofs.Rows.{row_seen}
use Rattle.bridge.proofs.Told.{sum_alone, sum_same, sum_unlike, none_read, row_near}
use Rattle.bridge.proofs.Answers.{settled_digits}

-- ---- twice the deepest columns end above weight 0

pub columns_counted : 64 * (2 * deepest) + 1 ≤ least_exponent
unfolding deepest columns_for far_columns most_precision least_exponent bias
columns_counted = omega arith

pub columns_above : (x : Operand) → WellFormed x → x.is_zero ≡ false → (j : ℕ) → j ≤ 2 * deepest → 64 * j + 1 ≤ x.exponent
columns_above x g r j h = go (g.regular r).least h
  where
    go : least_exponent ≤ x.exponent → j ≤ 2 * deepest → 64 * j + 1 ≤ x.exponent
    go l h = omega (arith, columns_counted)

-- ---- a sum that carries out of column 0

-- what is unread may carry, or begins below it
abbrev Fresh : Row → Type 0
Fresh Exact = ⊥
Fresh (Plus false false true) = Unit {0}
Fresh (Plus false false false) = ⊥
Fresh (Plus false true most) = Unit {0}
Fresh (Plus true next most) = ⊥
Fresh (Minus most) = ⊥
Fresh Hole = ⊥

fresh_seen : (u v : ℕ) → 0 < u + v → Fresh (row_seen true u v)
unfolding row_seen
fresh_seen zero zero h = absurd (omega arith)
fresh_seen (suc u) zero h = tt
fresh_seen zero (suc v) h = tt
fresh_seen (suc u) (suc v) h = tt

-- with p digits in all nothing below them is settled
module _ (w : Way) (p D : ℕ) (dir : (q r : ℕ) → alike Ordering.eq (off w q 1 r true) ≡ false) (just : size D ≡ p) where
  unit_one : 2 ^ (size D - p) ≡ 1
  unit_one = ap (λ (z : ℕ). 2 ^ (z - p)) just ∙ ap (λ (z : ℕ). 2 ^ z) (none p)
    where
      none : (p : ℕ) → p - p ≡ 0
      none p = omega arith

  rest_none : D % 1 ≡ 0
  rest_none = go (D % 1) (mod-lt D (pow_pos 0))
    where
      go : (r : ℕ) → r < 1 → r ≡ 0
      go r h = omega arith

  at_one : (ml : Bool) (i : ℕ) (mg : Bool) → settled w p D ml i mg ≡ true → (0 + i < 1) × (alike (lean w (D / 1) 1 0 ml) (lean w (D / 1) 1 (0 + i) mg) ≡ true)
  unfolding settled
  at_one ml i mg e =
      let a = both_true (enough w p D) _ (rw (unit_one, rest_none) at e) in
      let b = both_true (ltb (0 + i) 1) _ a.1 in
      (ltb-true (0 + i) 1 b.0, b.1)

  pub not_fresh : (row : Row) → Fresh row → settled_by w p D row ≡ true → ⊥
  unfolding settled_by bit
  not_fresh (Plus false false true) f e = true≢false (sym (at_one false 0 true e).1 ∙ (ap (λ (z : Ordering). alike z (lean w (D / 1) 1 0 true)) (lean_exact w (D / 1) 1) ∙ ap (alike Ordering.eq) (lean_more w (D / 1) 1 0) ∙ dir (D / 1) 0))
  not_fresh (Plus false true most) f e = let h = (at_one false 1 most e).0 in omega arith
  not_fresh Exact f e = f
  not_fresh (Plus false false false) f e = f
  not_fresh (Plus true next most) f e = f
  not_fresh (Minus most) f e = f
  not_fresh Hole f e = f

digits_covered : (w : Way) (p c D : ℕ) (row : Row) → Enough w p D → settled_by w p D row ≡ true → (D < 2 ^ c) ⊎ ((D < 2 ^ suc c) × Fresh row) → p ≤ c
digits_covered w p c D row e s (inl h) = le_trans (enough_le w p D e) (size-le D c h)
digits_covered w p c D row e s (inr h) = elim (le_or_lt p c) [ inl l ↦ l | inr l ↦ absurd (never w e s (le_antisymm (le_trans (size-le D (suc c) h.0) l) (enough_le w p D e))) ]
  where
    never : (w : Way) → Enough w p D → settled_by w p D row ≡ true → size D ≡ p → ⊥
    never near e s j = omega arith
    never under e s j = not_fresh under p D (λ q r. unfold off in refl) j row h.1 s
    never over e s j = not_fresh over p D (λ q r. unfold off in refl) j row h.1 s

module _ (o : Mode) (p : ℕ) (P : 0 < p) (x y : Operand) (k : ℕ) (d : Ordered x y) (K : 1 ≤ k) where
  abbrev w : Way
  w = way o x.negative

  abbrev c : ℕ
  c = 64 * k

  abbrev gap : ℕ
  gap = x.exponent - y.exponent

  abbrev X : ℕ
  X = read_to k 0 x.limbs

  abbrev Y : ℕ
  Y = read_to k gap y.limbs

  abbrev D : ℕ
  D = read_sum x y k

  X_lt : X < 2 ^ c
  X_lt = read_lt 0 x.limbs d.first.limb k

  Y_lt : Y < 2 ^ c
  Y_lt = read_lt gap y.limbs d.second.limb k

  sum_small : (row : Row) → row_of (pair_of x y) k ≡ row → inner? row ≡ true → (D < 2 ^ c) ⊎ ((D < 2 ^ suc c) × Fresh row)
  sum_small row is inner = go y.is_zero (pair_of x y).same refl refl
    where
      less : (m n c : ℕ) → m < c → m - n < c
      less m n c h = omega arith

      twice : (m n c : ℕ) {g : ℕ} → m < c → n < c → g ≡ 2 * c → m + n < g
      twice m n c h i e = omega arith

      flat : (m : ℕ) → m + 0 ≡ m
      flat m = omega arith

      none_left : (u v : ℕ) → inner? (row_seen true u v) ≡ true → 0 < u + v
      none_left zero zero i = absurd (true≢false (sym (unfold row_seen inner? in i)))
      none_left (suc u) v i = omega arith
      none_left zero (suc v) i = omega arith

      go : (z s : Bool) → y.is_zero ≡ z → (pair_of x y).same ≡ s → (D < 2 ^ c) ⊎ ((D < 2 ^ suc c) × Fresh row)
      go true s e f = inl (rw (sum_alone o p P x y k d K e) X_lt)
      go false false e f = inl (rw (sum_unlike o p P x y k d K e f) (less X Y (2 ^ c) X_lt))
      go false true e f = elim (le_or_lt c gap) [
        | inl far ↦ inl (rw (sum_same o p P x y k d K e f, none_read o p P x y k d K e far, flat X) X_lt)
        | inr reach ↦
            let r : row ≡ row_seen true (x.precision - c) (gap + y.precision - c) = sym is ∙ row_near o p P x y k d K e reach ∙ ap (λ (b : Bool). row_seen b (x.precision - c) (gap + y.precision - c)) f in
            inr (rw (sum_same o p P x y k d K e f) (twice X Y (2 ^ c) X_lt Y_lt (pow-succ' 2 c)), subst Fresh (sym r) (fresh_seen (x.precision - c) (gap + y.precision - c) (none_left (x.precision - c) (gap + y.precision - c) (ap inner? (sym r) ∙ inner))))
      ]

  pub settled_covers : (row : Row) → row_of (pair_of x y) k ≡ row → inner? row ≡ true → settled_by w p D row ≡ true → p ≤ c
  settled_covers row is inner s = digits_covered w p c D row (settled_digits w p D row inner s) s (sum_small row is inner)
