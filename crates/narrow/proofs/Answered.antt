-- What the first column says on each row of the table, as a number two columns long. Assumes nothing.
use mathlib.Core.Path.{◌≡◌, refl, sym, ap, ◌∙◌}
use mathlib.Core.Bool.{Bool, true, false, true≢false}
use Prim.Native.Nat.{ℕ, ◌+◌, ◌-◌, ◌*◌, ◌^◌, ◌≤◌, ◌<◌}
use native.Mathlib.Omega.{arith}
use lib.Ieee.{size}
use Rattle.limb.proofs.Carry.{bit_le}
use Rattle.limb.specs.Carry.{bit}
use Rattle.numbers.specs.Operand.{Operand}
use Rattle.rounding.specs.Mode.{Way, way}
use Rattle.rounding.specs.declared.Mode.{Mode}
use Rattle.rounding.specs.Answer.{rounded}
use Rattle.rounding.specs.Sum.{add}
use Rattle.depth.proofs.Bounds.{deepest_today}
use Rattle.decide.specs.Decide.{decide_at}
use Rattle.decide.proofs.Settled.{Enough}
use Rattle.settle.specs.Rows.{row_of}
use Rattle.settle.specs.declared.rows.Row.{Row}
use Rattle.settle.specs.declared.rows.Row.TheVariants.{Exact, Plus, Minus, Hole}
use Rattle.bridge.specs.Verdict.{pair_of, Ordered, Leads, read_sum, settled_by, more_of, verdict, inner?}
use Rattle.bridge.proofs.Told.{pair_gap}
use Rattle.bridge.proofs.Decision.{decision}
use Rattle.bridge.proofs.Answers.{sum_pos, tests_are}
use Rattle.bridge.proofs.Refine.{enough_digits, scaled_up}
use Rattle.bridge.proofs.Theorems.{row_sum, hole_place}
use Rattle.bridge.proofs.FarHole.{far_fixed, far_sum, far_difference}
use Rattle.bridge.proofs.Covered.{columns_above}
use Rattle.descent.specs.Course.{Inside}
use Rattle.descent.proofs.Inside.{inside_plus, inside_minus}
use Rattle.narrow.specs.Lone.{Beyond}
use Rattle.narrow.proofs.Unread.{beyond_settles}

module _ (p : ℕ) (P : 0 < p) (o : Mode) (x y : Operand) (d : Ordered x y) (lead : Leads x y 1) where
  abbrev w : Way
  w = way o x.negative

  abbrev D : ℕ
  D = read_sum x y 1

  -- the answer is that of N, whose last digit is a half of the last of the second column
  abbrev pub Says : ℕ → Type 0
  Says N = (decide_at o p x y 1 ≡ true) × (add o p x y ≡ rounded w p (x.exponent - 128 - 1) x.negative N)

  one : 1 ≤ 1
  one = omega arith

  room : 64 * 2 + 1 ≤ x.exponent
  room = columns_above x d.first d.regular 2 (omega (arith, deepest_today))

  pub some : 0 < D
  some = sum_pos o p P x y 1 d one lead

  deeper : (m : Bool) → (m ≡ true → Enough w p D) → add o p x y ≡ rounded w p (x.exponent - 64 - 1) x.negative (2 * D + bit m)
      → add o p x y ≡ rounded w p (x.exponent - 128 - 1) x.negative (2 * (D * 2 ^ 64) + bit m)
  deeper m h e =
      e ∙ sym (scaled_up w p P x.negative (x.exponent - 64) D 1 m (omega (arith, room)) some h)
      ∙ ap (λ (n : ℕ). rounded w p n x.negative (2 * (D * 2 ^ 64) + bit m)) (under_two x.exponent)
    where
      under_two : (n : ℕ) → n - 64 - 64 - 1 ≡ n - 128 - 1
      under_two n = omega arith

  pub exact_says : row_of (pair_of x y) 1 ≡ Exact → Says (2 * (D * 2 ^ 64) + bit false)
  unfolding verdict settled_by more_of
  exact_says is = (
    decision o p P x y 1 d one lead ∙ ap (verdict o p x y 1) is,
    deeper false (λ e. absurd (true≢false (sym e))) (row_sum o p P x y 1 d one lead Exact is (omega (arith, room)) refl),
  )

  inner_says : p < size D → (row : Row) → row_of (pair_of x y) 1 ≡ row → inner? row ≡ true → settled_by w p D row ≡ true → Says (2 * (D * 2 ^ 64) + bit (more_of row))
  inner_says longer row is inner e = (
    tests_are o p P x y 1 d one lead row is inner ∙ rw e,
    deeper (more_of row) (λ m. enough_digits w p D longer) (row_sum o p P x y 1 d one lead row is (omega (arith, room)) e),
  )

  -- one operand alone, of which digits are unread
  pub unread_says : Beyond p D → row_of (pair_of x y) 1 ≡ Plus false false true → Says (2 * (D * 2 ^ 64) + bit false)
  unfolding settled_by more_of inner? bit
  unread_says beyond is = inner_says beyond.longer (Plus false false true) is refl (beyond_settles p D beyond w)

  module _ (inside : Inside p D) where
    pub plus_says : (least next most : Bool) → row_of (pair_of x y) 1 ≡ Plus least next most → Says (2 * (D * 2 ^ 64) + bit least)
    unfolding settled_by more_of inner?
    plus_says least next most is = inner_says inside.longer (Plus least next most) is refl (inside_plus p D inside w least (bit next) (bit_le next) most)

    pub minus_says : (most : Bool) → row_of (pair_of x y) 1 ≡ Minus most → Says (2 * (D * 2 ^ 64) + bit most)
    unfolding settled_by more_of inner?
    minus_says most is = inner_says inside.longer (Minus most) is refl (inside_minus p D inside P w most)

  module _ (few : p ≤ 62) (is : row_of (pair_of x y) 1 ≡ Hole) where
    far : 64 ≤ (pair_of x y).gap
    far = let h = hole_place o p P x y 1 d one is in rw (pair_gap x y h.0) h.1

    deep : p + 1 < (pair_of x y).gap
    deep = omega (arith, far)

    moved : (N : ℕ) → add o p x y ≡ rounded w p (x.exponent - 64 - 64 - 1) x.negative N → Says N
    moved N e = (far_fixed o p P x y 1 d one is deep, e ∙ ap (λ (n : ℕ). rounded w p n x.negative N) (under_two x.exponent))
      where
        under_two : (n : ℕ) → n - 64 - 64 - 1 ≡ n - 128 - 1
        under_two n = omega arith

    pub hole_sum_says : (pair_of x y).same ≡ true → Says (2 * (D * 2 ^ 64) + 1)
    hole_sum_says s = moved _ (far_sum o p P x y 1 d one is deep 1 (omega (arith, room)) (omega arith) s)

    pub hole_difference_says : (pair_of x y).same ≡ false → Says (2 * (D * 2 ^ 64) - 1)
    hole_difference_says s = moved _ (far_difference o p P x y 1 d one is deep 1 (omega (arith, room)) (omega arith) s)
