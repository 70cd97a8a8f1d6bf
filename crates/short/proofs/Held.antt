-- What is held of two operands of one limb each: their precisions, and what is read of them. Assumes nothing.
use mathlib.Core.Path.{◌≡◌, refl, sym, ap, ◌∙◌, subst}
use mathlib.Core.Bool.{Bool, true, false, cond, ◌||◌, true≢false}
use mathlib.Core.List.{List, [], ◌∷◌}
use Prim.Native.Nat.{ℕ, ◌+◌, ◌-◌, ◌*◌, ◌/◌, ◌^◌, ◌≤◌, ◌<◌}
use native.Mathlib.Nat.{mul_assoc, mul-pos, mul-div_cancel}
use native.Mathlib.Omega.{arith}
use lib.ListN.{length, get_or}
use lib.Pow.{pow-add, pow_pos}
use lib.Ieee.{size}
use lib.Ieee.Digits.{size-le}
use Rattle.limb.specs.Value.{Below}
use Rattle.numbers.specs.Limits.{bias, most_exponent, most_precision, limbs_for}
use Rattle.numbers.specs.Operand.{Operand}
use Rattle.columns.specs.Column.{read_to}
use Rattle.columns.proofs.Reading.{read_lt}
use Rattle.kept.proofs.OneLimb.{one_value}
use Rattle.settle.specs.declared.rows.Pair.{Pair}
use Rattle.bridge.specs.Verdict.{read_sum}
use Rattle.bridge.proofs.Told.{pair_first, pair_second, pair_top}
use Rattle.bridge.proofs.Read.{read_lead}
use Rattle.bridge.proofs.Covered.{columns_above}
use Rattle.checks.specs.Room.{Room}
use Rattle.descent.proofs.RegularEnd.{deep_enough}
use Rattle.wide.specs.Filling.{Holding, Offered}
use Rattle.wide.proofs.GuardBelow.{read_held, leads_held}

pub one_limb : (p : ℕ) → 1 ≡ limbs_for p → p ≤ 64
unfolding limbs_for
one_limb p e = omega arith

pub room_few : (p n : ℕ) → Room p n → n ≤ 2 ^ 20
unfolding most_precision limbs_for
room_few p n room = omega (arith, room.count, room.most)

pub neither : (a b : Bool) → (a || b) ≡ false → (a ≡ false) × (b ≡ false)
neither true b e = absurd (true≢false e)
neither false b e = (refl, e)

-- a list of one limb
single : (l : List ℕ) → length l ≡ 1 → l ≡ get_or l 0 0 ∷ []
single [] e = absurd (omega arith)
single (a ∷ []) e = refl
single (a ∷ b ∷ l) e = absurd (omega arith)

-- two operands in order, by their limbs
pub held_limbs : {z w : Operand} {pair : Pair} (a b : List ℕ) → length a ≡ 1 → length b ≡ 1 → Holding z w pair a b → Holding z w pair (get_or a 0 0 ∷ []) (get_or b 0 0 ∷ [])
held_limbs a b e f h = record { course = h.course; regular = h.regular; pair_is = h.pair_is; first_is = sym (single a e) ∙ h.first_is; second_is = sym (single b f) ∙ h.second_is }

pub offered_limbs : {pair : Pair} (a b : List ℕ) → length a ≡ 1 → length b ≡ 1 → Offered pair a b → Offered pair (get_or a 0 0 ∷ []) (get_or b 0 0 ∷ [])
offered_limbs a b e f o = record { larger = o.larger; other = o.other; holding = held_limbs a b e f o.holding }

-- a limb that begins gap digits below the top ends in the second column
pub read_two : (gap v : ℕ) → gap < 64 → read_to 2 gap (v ∷ []) ≡ v * 2 ^ (64 - gap)
unfolding read_to
read_two gap v near =
    ap (λ (m : ℕ). m * 2 ^ (64 * 2) / 2 ^ (64 * 1 + gap)) (one_value v)
    ∙ ap (λ (m : ℕ). m / 2 ^ (64 * 1 + gap)) (ap (λ (m : ℕ). v * m) (ap (λ (m : ℕ). 2 ^ m) (let z : 64 * 2 ≡ 64 - gap + (64 * 1 + gap) = omega arith in z) ∙ pow-add 2 (64 - gap) (64 * 1 + gap)) ∙ sym (mul_assoc v (2 ^ (64 - gap)) (2 ^ (64 * 1 + gap))))
    ∙ mul-div_cancel (v * 2 ^ (64 - gap)) (pow_pos (64 * 1 + gap))

-- a limb at the top is the first column
pub read_one : (u : ℕ) → read_to 1 0 (u ∷ []) ≡ u
unfolding read_to
read_one u = ap (λ (m : ℕ). m * 2 ^ (64 * 1) / 2 ^ (64 * 1 + 0)) (one_value u) ∙ mul-div_cancel u (pow_pos 64)

module _ (x y : Operand) (pair : Pair) (u v : ℕ) (h : Holding x y pair (u ∷ []) (v ∷ [])) where
  pub first_few : pair.first ≤ 64
  first_few = rw (h.pair_is, pair_first x y) (one_limb x.precision (ap length h.first_is ∙ h.course.ordered.first.count))

  pub second_few : pair.second ≤ 64
  second_few = rw (h.pair_is, pair_second x y h.regular) (one_limb y.precision (ap length h.second_is ∙ h.course.ordered.second.count))

  pub top_told : pair.top ≡ x.exponent
  top_told = ap (λ (s : Pair). s.top) h.pair_is ∙ pair_top x y

  pub sum_read : pair.gap < 64 → read_sum x y 2 ≡ cond pair.same (u * 2 ^ 64 + v * 2 ^ (64 - pair.gap)) (u * 2 ^ 64 - v * 2 ^ (64 - pair.gap))
  sum_read near = read_held x y pair (u ∷ []) (v ∷ []) h 2 ∙ rw (read_two 0 u (omega arith), read_two pair.gap v near) refl

  -- a difference is positive
  pub sum_leads : pair.gap < 64 → pair.same ≡ false → v * 2 ^ (64 - pair.gap) < u * 2 ^ 64
  sum_leads near e =
      let l = leads_held x y pair (u ∷ []) (v ∷ []) h 2 (omega arith) (rw h.pair_is at e) in
      let m = rw (← h.pair_is, ← h.first_is, ← h.second_is) at l in
      rw (read_two 0 u (omega arith), read_two pair.gap v near) at m

  pub first_large : 2 ^ 63 ≤ u
  first_large = rw (← h.first_is, read_one u) at (read_lead x h.course.ordered.first h.course.ordered.regular 1 (omega arith))

  -- a sum has a digit
  pub sum_some : pair.gap < 64 → 0 < cond pair.same (u * 2 ^ 64 + v * 2 ^ (64 - pair.gap)) (u * 2 ^ 64 - v * 2 ^ (64 - pair.gap))
  sum_some near = go pair.same (u * 2 ^ 64) (v * 2 ^ (64 - pair.gap)) (placed u first_large) (sum_leads near)
    where
      placed : (m : ℕ) → 2 ^ 63 ≤ m → 0 < m * 2 ^ 64
      placed m l = mul-pos (let i : 0 < m = omega arith in i) (pow_pos 64)

      go : (b : Bool) (m n : ℕ) → 0 < m → (b ≡ false → n < m) → 0 < cond b (m + n) (m - n)
      go true m n i l = omega arith
      go false m n i l = omega (arith, l refl)

  pub top_room : (128 ≤ pair.top) × (pair.top ≤ 2 ^ 42)
  unfolding most_exponent bias
  top_room = (omega (arith, top_told, columns_above x h.course.ordered.first h.course.ordered.regular 2 (omega (arith, deep_enough))), omega (arith, top_told, (h.course.ordered.first.regular h.course.ordered.regular).most))

  first_lim : Below (2 ^ 64) (u ∷ [])
  first_lim = subst (Below (2 ^ 64)) (sym h.first_is) h.course.ordered.first.limb

  pub second_lim : Below (2 ^ 64) (v ∷ [])
  second_lim = subst (Below (2 ^ 64)) (sym h.second_is) h.course.ordered.second.limb

  -- what is read has a digit more than the columns at most
  pub sum_lt : (k : ℕ) → read_sum x y k < 2 ^ (64 * k + 1)
  sum_lt k = rw (read_held x y pair (u ∷ []) (v ∷ []) h k) (go pair.same (read_to k 0 (u ∷ [])) (read_to k pair.gap (v ∷ [])) (2 ^ (64 * k)) (2 ^ (64 * k + 1)) (read_lt 0 (u ∷ []) first_lim k) (read_lt pair.gap (v ∷ []) second_lim k) (pow-add 2 (64 * k) 1))
    where
      go : (b : Bool) (m n P Q : ℕ) → m < P → n < P → Q ≡ P * 2 ^ 1 → cond b (m + n) (m - n) < Q
      go true m n P Q i j e = omega arith
      go false m n P Q i j e = omega arith

  pub sum_size : (k : ℕ) → size (read_sum x y k) ≤ 64 * k + 1
  sum_size k = size-le (read_sum x y k) (64 * k + 1) (sum_lt k)
