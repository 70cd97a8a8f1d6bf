-- Two numbers of one or two limbs as the code finds them: their difference by value, in either order. Assumes nothing.
use mathlib.Core.Path.{◌≡◌, refl, sym, ap, ◌∙◌, subst}
use mathlib.Core.Logic.{inl, inr}
use mathlib.Core.Bool.{Bool, true, false, not, cond, ◌&&◌, beq}
use mathlib.Core.List.{List}
use Prim.Native.Nat.{ℕ, ◌+◌, ◌-◌, ◌*◌, ◌/◌, ◌^◌, ◌≤◌, ◌<◌}
use native.Mathlib.Nat.{mul-pos}
use native.Mathlib.Omega.{arith}
use borrow.Author.Tests.{eqb-true, eq-eqb, leb-true}
use lib.Dec.{ltb, leb, eqb}
use lib.IntN.{pos}
use lib.ListN.{length}
use lib.Pow.{pow_pos}
use Rattle.limb.specs.Value.{value_of, Below}
use Rattle.limb.specs.Carry.{bit}
use Rattle.limb.proofs.Tests.{true_false, both_true, and_both, zero_times}
use Rattle.numbers.specs.Limits.{least_exponent}
use Rattle.numbers.specs.Operand.{Operand}
use Rattle.rounding.specs.declared.Mode.{Mode}
use Rattle.rounding.proofs.Order.{le_or_lt}
use Rattle.checks.specs.declared.Number.{Number}
use Rattle.checks.specs.Number.{operand_of}
use Rattle.twolimbs.specs.Two.{head_in, Brought}
use Rattle.twolimbs.specs.declared.Normal.{Normal}
use Rattle.bridge.proofs.Covered.{columns_above}
use Rattle.checks.specs.Room.{Room}
use Rattle.descent.proofs.Handed.{beq_turned}
use Rattle.descent.proofs.RegularEnd.{deep_enough}
use Rattle.wide.specs.Attempted.{Attempted}
use Rattle.aligned.specs.Aligned.{Aligned, Cancelling}
use Rattle.aligned.specs.Few.{Few, AbsoluteDifference}
use Rattle.aligned.specs.declared.few.Apart.{Apart}
use Rattle.aligned.proofs.Parting.{Parted, Parts, parts, unlike_told}
use Rattle.aligned.proofs.Stands.{aligned_turned, covered_parted}
use Rattle.aligned.proofs.ExactDifference.{exact_told}
use Rattle.aligned.proofs.AsFound.{either_limbs, either_few, sign_kept, difference_told}

-- a difference is some where one of its limbs is
pub difference_some : (high low : ℕ) → (eqb high 0 && eqb low 0) ≡ false → 0 < head_in (2 ^ 64) false high low
unfolding head_in bit
difference_some high low e = elim (le_or_lt low 0) [
  | inr l ↦ lower (2 ^ 64) l
  | inl l ↦ elim (le_or_lt high 0) [ inr h ↦ upper (2 ^ 64) (mul-pos h (pow_pos 64)) | inl h ↦ absurd (true_false (and_both (eq-eqb high 0 (omega arith)) (eq-eqb low 0 (omega arith))) e) ]
]
  where
    lower : (B : ℕ) → 0 < low → 0 < (0 * B + high) * B + low
    lower B l = omega arith

    upper : (B : ℕ) → 0 < high * B → 0 < (0 * B + high) * B + low
    upper B l = omega arith

-- where neither is, the runs are worth the same
pub difference_none : (a b : List ℕ) (d : Apart) → AbsoluteDifference a b d → (eqb d.high 0 && eqb d.low 0) ≡ true → value_of b ≡ value_of a
unfolding head_in bit
difference_none a b d t e = level d.swapped t.order (eqb-true _ 0 (sym (zero_times _ _ (pow_pos (64 * (2 - length a)))) ∙ eq-eqb _ 0 (sym t.worth ∙ empty (2 ^ 64))))
  where
    limbs : (eqb d.high 0 ≡ true) × (eqb d.low 0 ≡ true)
    limbs = both_true (eqb d.high 0) (eqb d.low 0) e

    empty : (B : ℕ) → (0 * B + d.high) * B + d.low ≡ 0
    empty B = rw (eqb-true d.high 0 limbs.0, eqb-true d.low 0 limbs.1) (omega arith)

    level : (s : Bool) → value_of (cond s a b) ≤ value_of (cond s b a) → value_of (cond s b a) - value_of (cond s a b) ≡ 0 → value_of b ≡ value_of a
    level true h k = omega arith
    level false h k = omega arith

-- the test that the code makes
pub few_tested : {r : Bool} (n i j p : ℕ) → r ≡ (leb n 2 && (leb i p && leb j p)) → r ≡ true → (n ≤ 2) × (i ≤ p) × (j ≤ p)
few_tested n i j p e f =
    let few = both_true (leb n 2) (leb i p && leb j p) (sym e ∙ f) in
    let kept = both_true (leb i p) (leb j p) few.1 in
    (leb-true n 2 few.0, leb-true i p kept.0, leb-true j p kept.1)

-- the operands are as long as the target
pub lengths_told : (x : Number) (xl : List ℕ) (y : Number) (yl : List ℕ) (n : ℕ) → Few n → Aligned (operand_of x xl) (operand_of y yl) n → Few (length xl) × (length yl ≡ length xl)
unfolding operand_of
lengths_told x xl y yl n f a = (subst Few (sym a.first_limbs) f, a.second_limbs ∙ sym a.first_limbs)

-- operands of unlike signs of which no limbs differ cancel
pub few_cancels : (x : Number) (xl : List ℕ) (y : Number) (yl : List ℕ) (n : ℕ) → Aligned (operand_of x xl) (operand_of y yl) n → beq x.negative y.negative ≡ false → (d : Apart) → AbsoluteDifference xl yl d → (eqb d.high 0 && eqb d.low 0) ≡ true
    → Cancelling (operand_of x xl) (operand_of y yl) n
unfolding operand_of
few_cancels x xl y yl n a unlike d t e = record { aligned = a; unlike = unlike; level = difference_none xl yl d t e }

-- the exponent of an operand leaves room for two columns
pub columns_two : (x y : Operand) (n top : ℕ) → Aligned x y n → top ≡ x.exponent → 128 ≤ top
columns_two x y n top a e = omega (arith, columns_above x a.first a.first_regular 2 (omega (arith, deep_enough)))

module _ (x : Number) (xl : List ℕ) (y : Number) (yl : List ℕ) (before : List ℕ) (top : ℕ) (a : Aligned (operand_of x xl) (operand_of y yl) (length before)) (unlike : beq x.negative y.negative ≡ false) (top_is : top ≡ (operand_of x xl).exponent)
    (d : Apart) (t : AbsoluteDifference xl yl d) (some : 0 < head_in (2 ^ 64) false d.high d.low) where
  abbrev n : ℕ
  n = length before

  abbrev s : Bool
  s = d.swapped

  abbrev X : Operand
  X = operand_of x xl

  abbrev Y : Operand
  Y = operand_of y yl

  abbrev larger : Operand
  larger = cond s Y X

  abbrev other : Operand
  other = cond s X Y

  first_many : length xl ≡ n
  unfolding operand_of
  first_many = a.first_limbs

  in_order : Aligned larger other n
  in_order = go s
    where
      go : (b : Bool) → Aligned (cond b Y X) (cond b X Y) n
      go true = aligned_turned X Y n a
      go false = a

  signs : beq larger.negative other.negative ≡ false
  unfolding operand_of
  signs = go s
    where
      go : (b : Bool) → beq (cond b Y X).negative (cond b X Y).negative ≡ false
      go true = beq_turned y.negative x.negative ∙ unlike
      go false = unlike

  exponent_is : top ≡ larger.exponent
  exponent_is = top_is ∙ go s
    where
      go : (b : Bool) → X.exponent ≡ (cond b Y X).exponent
      go true = sym a.even
      go false = refl

  -- the difference by value is that of the limbs
  head_is : head_in (2 ^ 64) false d.high d.low ≡ (value_of larger.limbs - value_of other.limbs) * 2 ^ (64 * (2 - n))
  head_is = t.worth ∙ rw (either_limbs x xl y yl s, either_limbs y yl x xl s, ← first_many) refl

  -- the larger is worth more
  strict : value_of other.limbs < value_of larger.limbs
  strict = positive _ _ (2 ^ (64 * (2 - n))) (subst (λ (m : ℕ). 0 < m) head_is some)
    where
      positive : (i j P : ℕ) → 0 < (i - j) * P → j < i
      positive i j P h = elim (le_or_lt i j) [ inl l ↦ absurd (none (i - j) (omega arith) h) | inr l ↦ l ]
        where
          none : (m : ℕ) → m ≡ 0 → 0 < m * P → ⊥
          none m e h = omega (arith, ap (λ (q : ℕ). q * P) e)

  place : Parts (2 ^ 64) larger.limbs other.limbs
  place = parts (2 ^ 64) larger.limbs other.limbs (in_order.second_limbs ∙ sym in_order.first_limbs) in_order.first.limb strict

  parted : Parted larger other n place.place
  parted = record { aligned = in_order; unlike = signs; within = rw in_order.first_limbs at place.within; level = rw in_order.first_limbs at place.level; larger = rw in_order.first_limbs at place.larger }

  module _ (low : ltb (top + 1) (least_exponent + 64 * n) ≡ false) (few : Few n) (r : Normal) (b : Brought (head_in (2 ^ 64) false d.high d.low) top r) (upper : r.high < 2 ^ 64) (lower : r.low < 2 ^ 64)
      (exit : List ℕ) (count : length exit ≡ n) (lim : Below (2 ^ 64) exit) (value : value_of exit ≡ head_in (2 ^ 64) false r.high r.low / 2 ^ (64 * (2 - n))) where
    -- what is told of it, whatever the mode and the digits kept
    pub few_told : (o : Mode) (p : ℕ) → Room p n → x.precision ≤ p → y.precision ≤ p → Attempted o p X Y exit (not (beq x.negative s)) (record { rule = 0; exponent = r.exponent; ternary = pos 0 }) n n n
    few_told o p room h k =
        difference_told p x xl y yl before top room a s o n n n refl
        (exact_told o p larger other n place.place top (covered_parted p larger other n place.place top room parted exponent_is low) (unlike_told larger other n in_order signs) few.1 (either_few p x xl y yl s h k) (either_few p y yl x xl s k h)
        r _ head_is b upper lower exit count lim value _ (sign_kept p x xl y yl before top room a unlike s))
