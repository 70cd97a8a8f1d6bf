-- The test of the hole on precisions and limbs: is x a power of two, and is its last digit 1.
use mathlib.Core.Path.{◌≡◌, refl, sym, ap, ◌∙◌}
use mathlib.Core.Bool.{Bool, true, false, not, cond, ◌&&◌, and_comm}
use mathlib.Core.List.{List}
use Prim.Native.Nat.{ℕ, suc, ◌+◌, ◌-◌, ◌*◌, ◌/◌, ◌%◌, ◌^◌, ◌≤◌, ◌<◌}
use native.Mathlib.Nat.{add-mul-div_left, add-mul-mod_self_left, mul_assoc, pow-succ'}
use native.Mathlib.Omega.{arith}
use lib.Dec.{eqb}
use lib.ListN.{length, get_or, drop}
use lib.Pow.{pow_pos, pow-add}
use lib.Ieee.{size}
use Rattle.decide.proofs.HoleTest.{eqb_none}
use Rattle.limb.specs.Value.{value_of}
use Rattle.limb.proofs.Value.{value_drop}
use Rattle.numbers.specs.Limits.{limbs_for}
use Rattle.numbers.specs.Operand.{Operand, mantissa, spare_bits, WellFormed}
use Rattle.numbers.proofs.Limits.{limbs_fewest}
use Rattle.rounding.specs.Mode.{way}
use Rattle.rounding.specs.declared.Mode.{Mode}
use Rattle.decide.specs.Table.{some?, odd?, hole?, hole_by_size}
use Rattle.decide.specs.Decide.{decide_at}
use Rattle.settle.specs.Rows.{row_of}
use Rattle.settle.specs.declared.rows.Row.TheVariants.{Hole}
use Rattle.bridge.specs.Verdict.{pair_of, Ordered}
use Rattle.bridge.proofs.Read.{width_is, size_mantissa}
use Rattle.bridge.proofs.Told.{pair_same, pair_gap}
use Rattle.bridge.proofs.Theorems.{hole_place, hole_decision}

module _ (z : Operand) (g : WellFormed z) (r : z.is_zero ≡ false) where
  abbrev l : List ℕ
  l = z.limbs

  abbrev m : ℕ
  m = z.precision

  abbrev b : ℕ
  b = spare_bits z.precision

  -- the last digit stands above the spare bits of the lowest limb
  pub last_digit : mantissa z % 2 ≡ get_or l 0 0 / 2 ^ (64 * length l - m) % 2
  last_digit = ap (λ (n : ℕ). n % 2) high ∙ even (get_or l 0 0 / 2 ^ b) (2 ^ (64 - b)) (2 ^ (63 - b)) (value_of (drop 1 l)) twice ∙ ap (λ (n : ℕ). get_or l 0 0 / 2 ^ n % 2) spare
    where
      spare : b ≡ 64 * length l - m
      spare = go (64 * length l) m b (width_is z g r)
        where
          go : (n m b : ℕ) → n ≡ m + b → b ≡ n - m
          go n m b e = omega arith

      few : b < 64
      few = go (length l) (limbs_for m) m b (width_is z g r) g.count (limbs_fewest m)
        where
          go : (n f m b : ℕ) → 64 * n ≡ m + b → n ≡ f → 64 * f < m + 64 → b < 64
          go n f m b e i h = omega arith

      twice : 2 ^ (64 - b) ≡ 2 * 2 ^ (63 - b)
      twice = ap (λ (n : ℕ). 2 ^ n) (go b few) ∙ pow-succ' 2 (63 - b)
        where
          go : (b : ℕ) → b < 64 → 64 - b ≡ suc (63 - b)
          go b h = omega arith

      base : 2 ^ 64 ≡ 2 ^ b * 2 ^ (64 - b)
      base = ap (λ (n : ℕ). 2 ^ n) (go b few) ∙ pow-add 2 b (64 - b)
        where
          go : (b : ℕ) → b < 64 → 64 ≡ b + (64 - b)
          go b h = omega arith

      high : mantissa z ≡ get_or l 0 0 / 2 ^ b + 2 ^ (64 - b) * value_of (drop 1 l)
      high =
          (unfold mantissa in ap (λ (n : ℕ). n / 2 ^ b) (value_drop (2 ^ 64) 0 l ∙ ap (λ (n : ℕ). get_or l 0 0 + n * value_of (drop 1 l)) base ∙ ap (λ (n : ℕ). get_or l 0 0 + n) (mul_assoc (2 ^ b) (2 ^ (64 - b)) (value_of (drop 1 l)))) ∙ add-mul-div_left (get_or l 0 0) (2 ^ (64 - b) * value_of (drop 1 l)) (pow_pos b))

      even : (a f h n : ℕ) → f ≡ 2 * h → (a + f * n) % 2 ≡ a % 2
      even a f h n e = ap (λ (z : ℕ). (a + z * n) % 2) e ∙ ap (λ (z : ℕ). (a + z) % 2) (mul_assoc 2 h n) ∙ add-mul-mod_self_left a 2 (h * n)

-- ---- the decision in a hole

module _ (o : Mode) (p : ℕ) (P : 0 < p) (x y : Operand) (k : ℕ) (d : Ordered x y) (K : 1 ≤ k) (is : row_of (pair_of x y) k ≡ Hole) where
  abbrev gap : ℕ
  gap = (pair_of x y).gap

  abbrev M : ℕ
  M = mantissa x

  pub hole_test : decide_at o p x y k ≡ hole? (way o x.negative) p (gap + 1 - cond (not (pair_of x y).same && eqb M (2 ^ (x.precision - 1))) 1 0) (eqb gap x.precision && odd? M)
  hole_test = hole_decision o p P x y k d K is ∙ go (pair_of x y).same refl
    where
      place : (y.is_zero ≡ false) × (64 * k ≤ x.exponent - y.exponent) × (x.precision - 64 * k ≡ 0)
      place = hole_place o p P x y k d K is

      m_le : x.precision ≤ gap
      m_le = rw (pair_gap x y place.0) (le x.precision (64 * k) place.2 place.1)
        where
          le : (m c : ℕ) {n : ℕ} → m - c ≡ 0 → c ≤ n → m ≤ n
          le m c e h = omega arith

      odd_is : (odd? M && not (some? (gap - x.precision))) ≡ (eqb gap x.precision && odd? M)
      odd_is = ap (λ (b : Bool). odd? M && b) (sym (eqb_none gap x.precision m_le)) ∙ and_comm (odd? M) (eqb gap x.precision)

      digits_is : size M + (gap - x.precision) + 1 ≡ gap + 1
      digits_is = ap (λ (n : ℕ). n + (gap - x.precision) + 1) (size_mantissa x d.first d.regular) ∙ back x.precision gap m_le
        where
          back : (m n : ℕ) → m ≤ n → m + (n - m) + 1 ≡ n + 1
          back m n h = omega arith

      flat : (n : ℕ) → n ≡ n - 0
      flat n = omega arith

      go : (s : Bool) → (pair_of x y).same ≡ s → hole_by_size o p x.negative y.negative M (gap - x.precision) ≡ hole? (way o x.negative) p (gap + 1 - cond (not s && eqb M (2 ^ (x.precision - 1))) 1 0) (eqb gap x.precision && odd? M)
      go true s = unfold hole_by_size in rw (sym (pair_same x y place.0) ∙ s, digits_is, odd_is, ← flat (gap + 1))
      go false s = unfold hole_by_size in rw (sym (pair_same x y place.0) ∙ s, digits_is, odd_is, size_mantissa x d.first d.regular)
