-- What stands in the target after an addition or a subtraction of limbs is all of the sum. Assumes nothing.
use mathlib.Core.Path.{◌≡◌, refl, sym, ap, ◌∙◌}
use mathlib.Core.Logic.{inl, inr}
use mathlib.Core.Bool.{Bool, true, false, not, cond, beq, true≢false}
use mathlib.Core.List.{List, [], ◌++◌}
use Prim.Native.Nat.{ℕ, zero, suc, ◌+◌, ◌-◌, ◌*◌, ◌^◌, ◌≤◌, ◌<◌}
use native.Mathlib.Nat.{mul_comm}
use native.Mathlib.Omega.{arith}
use borrow.Author.Tests.{ltb-true, ltb-false}
use lib.Dec.{ltb}
use lib.ListN.{length, take, drop, get_or, replicate, drop_of_length-le, take-append-drop, length-append, length-replicate}
use lib.Seq.{take_at, get_or-drop, length-take-le}
use borrow.Rule.Slice.PartMut.{put_mid, post_of, take_put}
use lib.Pow.{pow_mono}
use Rattle.limb.specs.Value.{value_of, Below}
use Rattle.limb.specs.Carry.{bit}
use Rattle.limb.proofs.Value.{value_nil, value_split, value_drop, value_lt, value_take_lt, base_pow}
use Rattle.parts.proofs.Parts.{drop_put}
use Rattle.fused.specs.Fused.{DifferenceOf}
use Rattle.numbers.specs.Limits.{least_exponent, most_exponent, limbs_for, most_precision}
use Rattle.numbers.specs.Operand.{Operand, WellFormed}
use Rattle.rounding.proofs.Order.{le_or_lt}
use Rattle.bridge.proofs.Told.{pair_top}
use Rattle.checks.specs.Room.{Room}
use Rattle.descent.proofs.GoingDown.{room_some}
use Rattle.descent.proofs.Finishing.{cleared}
use Rattle.descent.proofs.Handed.{beq_turned}
use Rattle.aligned.specs.Aligned.{Aligned, Alike, Reducible, Subtracted, Covered, Standing}
use Rattle.aligned.proofs.Parting.{Parted, same_told, sum_all, course_sum, apart, lower_less, course_parted, difference_below}

-- ---- a sum

-- limbs worth as much as a unit of the top one have something in it
top_some : (t : List ℕ) → Below (2 ^ 64) t → 0 < length t → 2 ^ (64 * length t - 1) ≤ value_of t → 0 < get_or t (length t - 1) 0
top_some t below some h = go (get_or t (length t - 1) 0) refl
  where
    go : (g : ℕ) → get_or t (length t - 1) 0 ≡ g → 0 < g
    go (suc g) e = omega arith
    go zero e =
        let none : drop (suc (length t - 1)) t ≡ [] = drop_of_length-le t {i = suc (length t - 1)} (omega arith) in
        let rest : value_of (drop (length t - 1) t) ≡ 0 = value_drop (2 ^ 64) (length t - 1) t ∙ rw (e, none, value_nil) (omega arith) in
        let lower : value_of t ≡ value_of (take (length t - 1) t) = value_split (2 ^ 64) (length t - 1) t ∙ rw rest (omega arith) in
        let small : value_of (take (length t - 1) t) < 2 ^ (64 * (length t - 1)) = rw (base_pow (length t - 1)) at (value_take_lt (2 ^ 64) (length t - 1) t below) in
        absurd (omega (arith, pow_mono {i = 64 * (length t - 1)} {j = 64 * length t - 1} (omega arith)))

lead_held : (x : Operand) (n : ℕ) → WellFormed x → x.is_zero ≡ false → length x.limbs ≡ n → 2 ^ (64 * n - 1) ≤ value_of x.limbs
lead_held x n g r e = rw (sym g.count ∙ e) at (g.regular r).lead

module _ (p : ℕ) (x y : Operand) (t : List ℕ) (carry : Bool) (top : ℕ) (room : Room p (length t)) (a : Aligned x y (length t)) (like : beq x.negative y.negative ≡ true) (top_is : top ≡ x.exponent)
    (high : ltb most_exponent (top + 2) ≡ false) (below : Below (2 ^ 64) t) (value : value_of t + 2 ^ (64 * length t) * bit carry ≡ value_of x.limbs + value_of y.limbs + bit false) where
  abbrev X : ℕ
  X = value_of x.limbs

  abbrev Y : ℕ
  Y = value_of y.limbs

  no_carry : bit false ≡ 0
  unfolding bit
  no_carry = refl

  pub standing_sum : Standing p x y t carry 0 top
  standing_sum =
      let same = same_told x y (length t) a like in
      record {
        covered = record { room = room; aligned = a; course = course_sum x y (length t) a same; within = room_some p (length t) room; top_is = top_is; inland = record { high = λ e. rw (pair_top x y, ← top_is) high; low = λ e. absurd (true≢false (sym same ∙ e)) } };
        value = rw (sum_all x y (length t) a same) (go (2 ^ (64 * length t)) (bit carry) value);
        led = λ e. top_some t below (room_some p (length t) room) (all (rw e at value));
      }
    where
      go : (P b : ℕ) → value_of t + P * b ≡ X + Y + bit false → b * P + value_of t ≡ (X + Y) * 2 ^ (64 * 0)
      go P b e = omega (arith, no_carry)

      all : value_of t + 2 ^ (64 * length t) * bit false ≡ X + Y + bit false → 2 ^ (64 * length t - 1) ≤ value_of t
      all e = omega (arith, no_carry, rw no_carry at e, lead_held x (length t) a.first a.first_regular a.first_limbs)

-- ---- a difference

-- the lowest limbs are cleared, and the others become the difference
module _ (t first second ys part : List ℕ) (z i m n : ℕ) (out : Bool) (q : Reducible first second (length t) z) (ie : i ≡ z) (me : m ≡ length t - z) (cleared_is : ys ≡ replicate (length (take i t)) 0)
    (d : DifferenceOf (value_of (take m first)) (value_of (take m second)) false n part out) where
  abbrev low : List ℕ
  low = ys ++ post_of 0 i t

  abbrev after : List ℕ
  after = put_mid z (length low - z) low part

  abbrev F : ℕ
  F = value_of (take (length t - z) first)

  abbrev S : ℕ
  S = value_of (take (length t - z) second)

  zeros : ys ≡ replicate z 0
  zeros = cleared_is ∙ ap (λ (j : ℕ). replicate j 0) (ap (λ (j : ℕ). length (take j t)) ie ∙ length-take-le z t q.within)

  zeros_many : length ys ≡ z
  zeros_many = ap length zeros ∙ length-replicate {A = ℕ} z 0

  room_low : z ≤ length low
  room_low = omega (arith, zeros_many, length-append ys (post_of 0 i t))

  low_is : take z after ≡ replicate z 0
  low_is = take_put z (length low - z) low part room_low ∙ take_at ys (post_of 0 i t) z zeros_many ∙ zeros

  part_is : drop z after ≡ part
  part_is = drop_put low part z room_low

  moved : value_of after ≡ (2 ^ 64) ^ z * value_of part
  moved = (cleared z after after refl (sym (take-append-drop z after) ∙ ap (λ (l : List ℕ). l ++ drop z after) low_is)).value ∙ ap (λ (l : List ℕ). (2 ^ 64) ^ z * value_of l) part_is

  module _ (below : Below (2 ^ 64) after) where
    part_below : Below (2 ^ 64) part
    part_below j = rw (← part_is, get_or-drop z after j 0) (below (z + j))

    part_worth : value_of part ≡ F - S
    unfolding bit
    part_worth = go out (rw me at d.value) (rw (base_pow (length part), d.size) at (value_lt (2 ^ 64) part part_below))
      where
        go : (b : Bool) → value_of part + S + bit false ≡ F + 2 ^ (64 * n) * bit b → value_of part < 2 ^ (64 * n) → value_of part ≡ F - S
        go true e h = absurd (omega (arith, q.less))
        go false e h = omega arith

    pub subtracted : length after ≡ length t → Subtracted first second t after z
    subtracted e = record { size = e; value = moved ∙ rw (base_pow z, part_worth) (mul_comm (2 ^ (64 * z)) (F - S)) }

pub limbs_modest : (p n : ℕ) → Room p n → n ≤ 64
unfolding limbs_for most_precision
limbs_modest p n room = omega (arith, room.count, room.most)

-- operands that part are read in all columns
pub covered_parted : (p : ℕ) (x y : Operand) (n z top : ℕ) → Room p n → Parted x y n z → top ≡ x.exponent → ltb (top + 1) (least_exponent + 64 * n) ≡ false → Covered p x y n z top
covered_parted p x y n z top room d e low =
    let few = limbs_modest p n room in
    record { room = room; aligned = d.aligned; course = course_parted x y n z d few; within = d.within; top_is = e; inland = record { high = λ f. absurd (true≢false (sym f ∙ apart x y n z d few)); low = λ f. rw (pair_top x y, ← e) low } }

module _ (p : ℕ) (x y : Operand) (t : List ℕ) (z top : ℕ) (room : Room p (length t)) (d : Parted x y (length t) z) (top_is : top ≡ x.exponent) (low : ltb (top + 1) (least_exponent + 64 * length t) ≡ false)
    (value : value_of t ≡ (value_of (take (length t - z) x.limbs) - value_of (take (length t - z) y.limbs)) * 2 ^ (64 * z)) (led : 0 < get_or t (length t - 1) 0) where
  few : length t ≤ 64
  few = limbs_modest p (length t) room

  pub standing_difference : Standing p x y t false z top
  unfolding bit
  standing_difference = record {
    covered = covered_parted p x y (length t) z top room d top_is low;
    value = rw (difference_below x y (length t) z d few) (flat (2 ^ (64 * length t)) (value_of t) ∙ value);
    led = λ e. led;
  }
    where
      flat : (P v : ℕ) → 0 * P + v ≡ v
      flat P v = omega arith

-- ---- which of them comes first

pub aligned_turned : (x y : Operand) (n : ℕ) → Aligned x y n → Aligned y x n
aligned_turned x y n a = record { first = a.second; second = a.first; first_regular = a.second_regular; second_regular = a.first_regular; even = sym a.even; first_limbs = a.second_limbs; second_limbs = a.first_limbs }

module _ (x y : Operand) (n z : ℕ) (a : Aligned x y n) (unlike : beq x.negative y.negative ≡ false) (within : z < n) (same : Alike x.limbs y.limbs z) where
  level : value_of (drop (n - z) y.limbs) ≡ value_of (drop (n - z) x.limbs)
  level = rw a.first_limbs at same.level

  next : get_or x.limbs (n - 1 - z) 0 ≡ get_or y.limbs (n - 1 - z) 0 → ⊥
  next = rw a.first_limbs at same.next within

  pub parted : (s : Bool) → s ≡ ltb (get_or x.limbs (n - 1 - z) 0) (get_or y.limbs (n - 1 - z) 0) → Parted (cond s y x) (cond s x y) n z
  parted true e = record { aligned = aligned_turned x y n a; unlike = beq_turned y.negative x.negative ∙ unlike; within = within; level = sym level; larger = ltb-true _ _ (sym e) }
  parted false e = record { aligned = a; unlike = unlike; within = within; level = level; larger = strict (get_or x.limbs (n - 1 - z) 0) (get_or y.limbs (n - 1 - z) 0) (ltb-false _ _ (sym e)) next }
    where
      strict : (u v : ℕ) → v ≤ u → (u ≡ v → ⊥) → v < u
      strict u v h k = elim (le_or_lt u v) [ inl l ↦ absurd (k (omega arith)) | inr l ↦ l ]

pub sign_told : (x y : Operand) → beq x.negative y.negative ≡ false → (s : Bool) → not (beq x.negative s) ≡ (cond s y x).negative
sign_told x y unlike s = go x.negative y.negative s refl refl unlike
  where
    go : (b c s : Bool) → x.negative ≡ b → y.negative ≡ c → beq b c ≡ false → not (beq b s) ≡ (cond s y x).negative
    go true true s e f u = absurd (true≢false u)
    go true false true e f u = sym f
    go true false false e f u = sym e
    go false true true e f u = sym f
    go false true false e f u = sym e
    go false false s e f u = absurd (true≢false u)

pub reducible : (x y : Operand) (n z : ℕ) → n ≤ 64 → Parted x y n z → Reducible x.limbs y.limbs n z
reducible x y n z few d = record { within = omega (arith, d.within); first_limbs = d.aligned.first_limbs; second_limbs = d.aligned.second_limbs; less = omega (arith, lower_less x y n z d few) }
