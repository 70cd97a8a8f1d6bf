-- The hole: what is asked of the first operand's digits is read off its limbs.
use mathlib.Core.Path.{◌≡◌, sym, ap, ◌∙◌, subst}
use mathlib.Core.Logic.{inl, inr}
use mathlib.Core.Bool.{Bool, true, false, not, cond, ◌&&◌, beq, and_comm}
use mathlib.Core.List.{List}
use Prim.Native.Nat.{ℕ, suc, ◌+◌, ◌-◌, ◌*◌, ◌/◌, ◌%◌, ◌^◌, ◌≤◌, ◌<◌}
use native.Mathlib.Nat.{le_trans, le_of_eq, lt_of_lt_of_le, le-div_iff_mul-le, mod-eq-sub-mod, mod-eq_of_lt, pow-succ'}
use native.Mathlib.Omega.{arith}
use borrow.Author.Tests.{eq-eqb, ne_eqb}
use lib.Dec.{eqb}
use lib.ListN.{length, get_or}
use lib.Pow.{pow_pos, pow-add, shr_lt, mod-pow-add, field}
use lib.Ieee.{size}
use Rattle.decide.proofs.HoleTest.{eqb_none}
use Rattle.limb.proofs.Tests.{zero_times}
use Rattle.limb.specs.Value.{value_of, Below}
use Rattle.limb.proofs.Value.{value_lt, base_pow}
use Rattle.numbers.specs.Limits.{most_precision, limbs_for}
use Rattle.numbers.specs.Operand.{Operand, WellFormed, spare_bits}
use Rattle.numbers.proofs.Digits.{digits_and_spare, precision_two}
use Rattle.numbers.proofs.Limits.{limbs_fewest}
use Rattle.checks.proofs.Form.{spare_low}
use Rattle.checks.proofs.Tests.{spare_lt}
use Rattle.rounding.specs.Mode.{way}
use Rattle.rounding.specs.declared.Mode.{Mode}
use Rattle.rounding.specs.Mode as mode
use Rattle.rounding.proofs.Order.{le_or_lt}
use Rattle.limb.proofs.Sizes.{size_is}
use Rattle.decide.specs.Table.{some?, odd?, hole?, hole_by_size}
use Rattle.settle.specs.Ways.{theory_way}
use Rattle.hole.specs.Hole.{Formed, Signs}
use Rattle.settle.specs.declared.rows.Pair.{Pair}
use Rattle.settle.specs.declared.rows.Way.{Way}
use Rattle.settle.proofs.Units.{odd_even}

-- m has its first digit at P: the others are 0 where m is P
only_first : (m P : ℕ) → P ≤ m → m < 2 * P → eqb (m % P) 0 ≡ eqb m P
only_first m P l h = ap (λ (v : ℕ). eqb v 0) (mod-eq-sub-mod l ∙ mod-eq_of_lt (omega arith)) ∙ elim (le_or_lt m P) [
  | inl k ↦ eq-eqb (m - P) 0 (omega arith) ∙ sym (eq-eqb m P (omega arith))
  | inr k ↦ ne_eqb (m - P) 0 (λ e. omega arith) ∙ sym (ne_eqb m P (λ e. omega arith))
]

module _ (p : ℕ) (l : List ℕ) (f : Formed p l) where
  abbrev b : ℕ
  b = spare_bits p

  abbrev m : ℕ
  m = value_of l / 2 ^ b

  first_and_spare : p - 1 + b ≡ 64 * limbs_for p - 1
  first_and_spare = go b (64 * limbs_for p) f.least (digits_and_spare p)
    where
      go : (s n : ℕ) → 0 < p → p + s ≡ n → p - 1 + s ≡ n - 1
      go s n h e = omega arith

  pub limbs_some : 0 < length l
  limbs_some = go (length l) f.count f.least (digits_and_spare p)
    where
      go : (n : ℕ) → n ≡ limbs_for p → 0 < p → p + b ≡ 64 * limbs_for p → 0 < n
      go n e h k = omega arith

  pub limbs_few : length l ≤ 2 ^ 20
  limbs_few = go (length l) f.count f.most (limbs_fewest p)
    where
      go : (n : ℕ) → n ≡ limbs_for p → p ≤ 2 ^ 20 → 64 * limbs_for p < p + 64 → n ≤ 2 ^ 20
      go n e h k = omega arith

  pub spare_is : 64 * length l - p ≡ b
  unfolding spare_bits
  spare_is = ap (λ (n : ℕ). 64 * n - p) f.count

  pub digits_fit : p ≤ 64 * length l
  digits_fit = omega (arith, f.count, digits_and_spare p)

  pub spare_few : 64 * length l - p < 64
  spare_few = subst (λ (n : ℕ). n < 64) (sym spare_is) (spare_lt p)

  -- the lowest limb has the last digit
  pub last_digit : eqb (get_or l 0 0 / 2 ^ (64 * length l - p) % 2) 1 ≡ odd? m
  last_digit = ap (λ (n : ℕ). eqb (get_or l 0 0 / 2 ^ n % 2) 1) spare_is ∙ ap (λ (n : ℕ). eqb n 1) low ∙ odd_even m
    where
      low : get_or l 0 0 / 2 ^ b % 2 ≡ m % 2
      low = sym (field (get_or l 0 0) 1 b) ∙ ap (λ (n : ℕ). n / 2 ^ b) (sym (spare_low (1 + b) l (omega (arith, spare_lt p)))) ∙ field (value_of l) 1 b

  module _ (below : Below (2 ^ 64) l) where
    reaches : 2 ^ (p - 1) ≤ m
    reaches = (le-div_iff_mul-le (pow_pos b)).1 (le_trans (le_of_eq (sym (pow-add 2 (p - 1) b) ∙ ap (λ (n : ℕ). 2 ^ n) first_and_spare)) f.lead)

    fits : m < 2 ^ p
    fits = shr_lt p b (lt_of_lt_of_le (value_lt (2 ^ 64) l below) (le_of_eq (base_pow (length l) ∙ ap (λ (n : ℕ). 2 ^ (64 * n)) f.count ∙ ap (λ (n : ℕ). 2 ^ n) (sym (digits_and_spare p)))))

    one_more : p ≡ suc (p - 1)
    one_more = go f.least
      where
        go : 0 < p → p ≡ suc (p - 1)
        go h = omega arith

    pub size_formed : size m ≡ p
    size_formed = size_is m (p - 1) reaches (subst (λ (n : ℕ). m < 2 ^ n) one_more fits) ∙ sym one_more

    -- all digits but the first are 0
    pub power_is : eqb (value_of l % 2 ^ (64 * length l - 1)) 0 ≡ eqb m (2 ^ (size m - 1))
    power_is =
        ap (λ (n : ℕ). eqb (value_of l % 2 ^ (64 * n - 1)) 0) f.count
        ∙ ap (λ (n : ℕ). eqb (value_of l % 2 ^ n) 0) (sym first_and_spare)
        ∙ ap (λ (n : ℕ). eqb n 0) (mod-pow-add (value_of l) (p - 1) b ∙ ap (λ (n : ℕ). m % 2 ^ (p - 1) * 2 ^ b + n) f.spare ∙ flat (m % 2 ^ (p - 1) * 2 ^ b))
        ∙ zero_times (m % 2 ^ (p - 1)) (2 ^ b) (pow_pos b)
        ∙ only_first m (2 ^ (p - 1)) reaches (lt_of_lt_of_le fits (le_of_eq (ap (λ (n : ℕ). 2 ^ n) one_more ∙ pow-succ' 2 (p - 1))))
        ∙ ap (λ (n : ℕ). eqb m (2 ^ (n - 1))) (sym size_formed)
      where
        flat : (n : ℕ) → n + 0 ≡ n
        flat n = omega arith

-- ---- the test by sizes

module _ (o : Mode) (p : ℕ) (a b : Bool) (s : Pair) (w : Way) (signs : Signs o a b s w) (m : ℕ) (power last : Bool) where
  pub hole_is : size m ≡ s.first → s.first ≤ s.gap → power ≡ eqb m (2 ^ (size m - 1)) → last ≡ odd? m → (digits : ℕ) → digits ≡ s.gap + 1 - cond (not s.same && power) 1 0
      → hole? (theory_way w) p digits (eqb s.gap s.first && last) ≡ hole_by_size o p a b m (s.gap - s.first)
  unfolding hole_by_size
  hole_is z l pw la digits d =
      ap (λ (v : mode.Way). hole? v p digits (eqb s.gap s.first && last)) signs.toward
      ∙ ap (hole? (way o a) p digits) odd
      ∙ ap (λ (n : ℕ). hole? (way o a) p n (odd? m && not (some? (s.gap - s.first)))) (d ∙ ap (λ (c : Bool). s.gap + 1 - cond (not c && power) 1 0) signs.same)
      ∙ go (beq a b) (odd? m && not (some? (s.gap - s.first)))
    where
      odd : (eqb s.gap s.first && last) ≡ (odd? m && not (some? (s.gap - s.first)))
      odd = ap (λ (c : Bool). c && last) (eqb_none s.gap s.first l) ∙ and_comm (not (some? (s.gap - s.first))) last ∙ ap (λ (c : Bool). c && not (some? (s.gap - s.first))) la

      whole : s.gap + 1 ≡ size m + (s.gap - s.first) + 1
      whole = sum (size m) z
        where
          sum : (n : ℕ) → n ≡ s.first → s.gap + 1 ≡ n + (s.gap - s.first) + 1
          sum n e = omega arith

      go : (c y : Bool) → hole? (way o a) p (s.gap + 1 - cond (not c && power) 1 0) y
          ≡ cond c (hole? (way o a) p (size m + (s.gap - s.first) + 1) y) (hole? (way o a) p (size m + (s.gap - s.first) + 1 - cond (eqb m (2 ^ (size m - 1))) 1 0) y)
      go true y = ap (λ (n : ℕ). hole? (way o a) p n y) (less (s.gap + 1) ∙ whole)
        where
          less : (n : ℕ) → n - 0 ≡ n
          less n = omega arith
      go false y = ap (λ (c : Bool). hole? (way o a) p (s.gap + 1 - cond c 1 0) y) pw ∙ ap (λ (n : ℕ). hole? (way o a) p (n - cond (eqb m (2 ^ (size m - 1))) 1 0) y) whole

-- a regular number of good form has such limbs
pub formed_operand : (x : Operand) → WellFormed x → x.is_zero ≡ false → Formed x.precision x.limbs
unfolding most_precision
formed_operand x g r =
    record {
      least = lt_of_lt_of_le (omega arith) (precision_two x g);
      most = le_trans g.most (omega arith);
      count = g.count;
      lead = (g.regular r).lead;
      spare = (g.regular r).spare;
    }
