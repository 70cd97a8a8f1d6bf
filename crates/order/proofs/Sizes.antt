-- The order of two numbers of good form: signs, zeros, exponents and limbs decide it. Assumes nothing.
use mathlib.Core.Path.{◌≡◌, refl, sym, ap, ◌∙◌, subst}
use mathlib.Core.Logic.{inl, inr}
use mathlib.Core.Bool.{Bool, true, false, cond, ◌&&◌, beq, true≢false}
use Prim.Native.Nat.{ℕ, ◌+◌, ◌-◌, ◌*◌, ◌/◌, ◌^◌, ◌≤◌, ◌<◌, compare, Ordering}
use native.Mathlib.Nat.{le_trans, le_of_eq, lt_of_lt_of_le, mul_assoc, mul-le-mul_right, mul-lt-mul_of_pos_right, div-add-mod', add-zero, zero-add}
use native.Mathlib.Omega.{arith}
use lib.ListN.{length}
use lib.Pow.{pow_pos, pow-add, pow_mono}
use Rattle.rounding.proofs.Units.{scale_first, scale_second}
use Rattle.rounding.proofs.Zeros.{amount_zero, amount_is}
use Rattle.limb.specs.Value.{value_of}
use Rattle.limb.proofs.Value.{base_pow}
use Rattle.numbers.specs.Operand.{Operand, spare_bits, mantissa, last_weight, WellFormed}
use Rattle.numbers.proofs.Limits.{weights_counted}
use Rattle.numbers.proofs.Digits.{digits_and_spare, mantissa_lt, mantissa_ge, precision_two}
use Rattle.rounding.specs.Sum.{scale, amount, share}
use Rattle.rounding.proofs.Order.{le_or_lt, Cmp, cmp, compare_at}
use Rattle.order.specs.Order.{order_of}
use Rattle.order.specs.Steps.{or_else, aligned_order, regular_order, size_order, reversed, reversed_if, same_order, apart_order, signed_order}

-- ---- comparing in another unit

compare_shift : (a b k : ℕ) → compare (a * 2 ^ k) (b * 2 ^ k) ≡ compare a b
compare_shift a b k = compare_at (compare a b) (a * 2 ^ k) (b * 2 ^ k) (go (compare a b) (cmp a b))
  where
    go : (o : Ordering) → Cmp o a b → Cmp o (a * 2 ^ k) (b * 2 ^ k)
    go Ordering.lt h = mul-lt-mul_of_pos_right h (pow_pos k)
    go Ordering.eq h = ap (λ (n : ℕ). n * 2 ^ k) h
    go Ordering.gt h = mul-lt-mul_of_pos_right h (pow_pos k)

longer_unit : (a b u v k : ℕ) → compare (a * 2 ^ (u + k)) (b * 2 ^ (v + k)) ≡ compare (a * 2 ^ u) (b * 2 ^ v)
longer_unit a b u v k =
    ap (λ (n : ℕ). compare n (b * 2 ^ (v + k))) (more a u) ∙ ap (compare (a * 2 ^ u * 2 ^ k)) (more b v) ∙ compare_shift (a * 2 ^ u) (b * 2 ^ v) k
  where
    more : (n w : ℕ) → n * 2 ^ (w + k) ≡ n * 2 ^ w * 2 ^ k
    more n w = ap (λ (m : ℕ). n * m) (pow-add 2 w k) ∙ sym (mul_assoc n (2 ^ w) (2 ^ k))

-- two numbers that are p and q digits long, aligned at the top: how far the digits are from the unit does not matter
top_aligned : (a b p q u v c w z d : ℕ) → p + u ≡ c → q + v ≡ c → p + w ≡ d → q + z ≡ d → compare (a * 2 ^ u) (b * 2 ^ v) ≡ compare (a * 2 ^ w) (b * 2 ^ z)
top_aligned a b p q u v c w z d hu hv hw hz = elim (le_or_lt c d) [
  | inl h ↦ later u v w z (d - c) (omega arith) (omega arith)
  | inr h ↦ sym (later w z u v (c - d) (omega arith) (omega arith))
]
  where
    later : (u v w z k : ℕ) → w ≡ u + k → z ≡ v + k → compare (a * 2 ^ u) (b * 2 ^ v) ≡ compare (a * 2 ^ w) (b * 2 ^ z)
    later u v w z k hw hz = sym (ap (λ (n : ℕ). compare (a * 2 ^ n) (b * 2 ^ z)) hw ∙ ap (λ (n : ℕ). compare (a * 2 ^ (u + k)) (b * 2 ^ n)) hz ∙ longer_unit a b u v k)

-- ---- one regular number

module _ (x : Operand) (g : WellFormed x) (r : x.is_zero ≡ false) where
  -- every weight is counted: nothing is cut off below
  weight_is : x.precision + last_weight x ≡ x.exponent
  unfolding last_weight
  weight_is = omega (arith, weights_counted, g.most, (g.regular r).least)

  -- the limbs are the digits, with the spare bits below
  digits_whole : mantissa x * 2 ^ spare_bits x.precision ≡ value_of x.limbs
  unfolding mantissa
  digits_whole =
      sym (add-zero _) ∙ ap (λ (n : ℕ). value_of x.limbs / 2 ^ spare_bits x.precision * 2 ^ spare_bits x.precision + n) (sym (g.regular r).spare)
      ∙ div-add-mod' (value_of x.limbs) (2 ^ spare_bits x.precision)

  -- the limbs with n limbs of zeros below
  padded_is : (n : ℕ) → value_of x.limbs * (2 ^ 64) ^ n ≡ mantissa x * 2 ^ (spare_bits x.precision + 64 * n)
  padded_is n =
      ap (λ (m : ℕ). m * (2 ^ 64) ^ n) (sym digits_whole) ∙ mul_assoc (mantissa x) (2 ^ spare_bits x.precision) ((2 ^ 64) ^ n)
      ∙ ap (λ (m : ℕ). mantissa x * (2 ^ spare_bits x.precision * m)) (base_pow n) ∙ ap (λ (m : ℕ). mantissa x * m) (sym (pow-add 2 (spare_bits x.precision) (64 * n)))

  module _ (s : ℕ) (h : s ≤ last_weight x) where
    -- it lies between two powers of two that the exponent gives
    pub amount_lt : amount s x < 2 ^ (x.exponent - s)
    amount_lt =
        let e : x.precision + (last_weight x - s) ≡ x.exponent - s = omega (arith, weight_is) in
        subst (λ (n : ℕ). n < 2 ^ (x.exponent - s)) (sym (amount_is s x r))
        (lt_of_lt_of_le (mul-lt-mul_of_pos_right (mantissa_lt x g) (pow_pos (last_weight x - s))) (le_of_eq (sym (pow-add 2 x.precision (last_weight x - s)) ∙ ap (λ (n : ℕ). 2 ^ n) e)))

    pub amount_ge : 2 ^ (x.exponent - 1 - s) ≤ amount s x
    amount_ge =
        let e : x.exponent - 1 - s ≡ x.precision - 1 + (last_weight x - s) = omega (arith, weight_is, precision_two x g) in
        le_trans (le_of_eq (ap (λ (n : ℕ). 2 ^ n) e ∙ pow-add 2 (x.precision - 1) (last_weight x - s)))
        (le_trans (mul-le-mul_right (2 ^ (last_weight x - s)) (mantissa_ge x g r)) (le_of_eq (sym (amount_is s x r))))

    pub amount_pos : 0 < amount s x
    amount_pos = lt_of_lt_of_le (pow_pos (x.exponent - 1 - s)) amount_ge

-- ---- two regular numbers

lower_exponent : (x y : Operand) (s : ℕ) → WellFormed x → WellFormed y → x.is_zero ≡ false → y.is_zero ≡ false → s ≤ last_weight x → s ≤ last_weight y → x.exponent < y.exponent → amount s x < amount s y
lower_exponent x y s g k r q hx hy l =
    lt_of_lt_of_le (amount_lt x g r s hx) (le_trans (pow_mono (room x.exponent y.exponent s l)) (amount_ge y k q s hy))
  where
    room : (a b s : ℕ) → a < b → a - s ≤ b - 1 - s
    room a b s l = omega arith

module _ (x y : Operand) (g : WellFormed x) (k : WellFormed y) (r : x.is_zero ≡ false) (q : y.is_zero ≡ false) where
  same_exponent : (s : ℕ) → s ≤ last_weight x → s ≤ last_weight y → x.exponent ≡ y.exponent → compare (amount s x) (amount s y) ≡ aligned_order x.limbs y.limbs
  unfolding aligned_order
  same_exponent s hx hy e =
      let m = length x.limbs in
      let n = length y.limbs in
      ap (λ (a : ℕ). compare a (amount s y)) (amount_is s x r) ∙ ap (compare (mantissa x * 2 ^ (last_weight x - s))) (amount_is s y q)
      ∙ top_aligned (mantissa x) (mantissa y) x.precision y.precision (last_weight x - s) (last_weight y - s) (x.exponent - s) (spare_bits x.precision + 64 * n) (spare_bits y.precision + 64 * m) (64 * m + 64 * n)
      (omega (arith, weight_is x g r)) (omega (arith, weight_is y k q)) (omega (arith, digits_and_spare x.precision, g.count)) (omega (arith, digits_and_spare y.precision, k.count))
      ∙ sym (ap (λ (a : ℕ). compare a (value_of y.limbs * (2 ^ 64) ^ m)) (padded_is x g r n) ∙ ap (compare (mantissa x * 2 ^ (spare_bits x.precision + 64 * n))) (padded_is y k q m))

  pub regular_order_lem : (s : ℕ) → s ≤ last_weight x → s ≤ last_weight y → compare (amount s x) (amount s y) ≡ regular_order x y
  unfolding regular_order or_else
  regular_order_lem s hx hy = go (compare x.exponent y.exponent) (cmp x.exponent y.exponent)
    where
      go : (o : Ordering) → Cmp o x.exponent y.exponent → compare (amount s x) (amount s y) ≡ or_else o (aligned_order x.limbs y.limbs)
      go Ordering.lt h = compare_at Ordering.lt (amount s x) (amount s y) (lower_exponent x y s g k r q hx hy h)
      go Ordering.eq h = same_exponent s hx hy h
      go Ordering.gt h = compare_at Ordering.gt (amount s x) (amount s y) (lower_exponent y x s k g q r hy hx h)

-- ---- any two numbers, without their signs

-- the unit 2 ^ s is not above the last digit of x, where x has digits
abbrev pub Under : ℕ → Operand → Type 0
Under s x = x.is_zero ≡ false → s ≤ last_weight x

pub some_amount : (s : ℕ) (x : Operand) → WellFormed x → Under s x → x.is_zero ≡ false → 0 < amount s x
some_amount s x g u r = amount_pos x g r s (u r)

module _ (s : ℕ) (x y : Operand) (g : WellFormed x) (k : WellFormed y) (ux : Under s x) (uy : Under s y) where
  pub size_order_lem : compare (amount s x) (amount s y) ≡ size_order x y
  unfolding size_order
  size_order_lem = go x.is_zero y.is_zero refl refl
    where
      go : (a b : Bool) → x.is_zero ≡ a → y.is_zero ≡ b → compare (amount s x) (amount s y) ≡ cond a (cond b Ordering.eq Ordering.lt) (cond b Ordering.gt (regular_order x y))
      go true true z w = compare_at Ordering.eq _ _ (amount_zero s x z ∙ sym (amount_zero s y w))
      go true false z w = compare_at Ordering.lt _ _ (subst (λ (n : ℕ). n < amount s y) (sym (amount_zero s x z)) (some_amount s y k uy w))
      go false true z w = compare_at Ordering.gt _ _ (subst (λ (n : ℕ). n < amount s x) (sym (amount_zero s y w)) (some_amount s x g ux z))
      go false false z w = regular_order_lem x y g k z w s (ux z) (uy w)

  both_none : x.is_zero && y.is_zero ≡ true → amount s x + amount s y ≡ 0
  both_none h = go x.is_zero y.is_zero refl refl h
    where
      go : (a b : Bool) → x.is_zero ≡ a → y.is_zero ≡ b → a && b ≡ true → amount s x + amount s y ≡ 0
      go true true z w h = ap (λ (n : ℕ). n + amount s y) (amount_zero s x z) ∙ ap (λ (n : ℕ). 0 + n) (amount_zero s y w)
      go true false z w h = absurd (true≢false (sym h))
      go false b z w h = absurd (true≢false (sym h))

  either_some : x.is_zero && y.is_zero ≡ false → 0 < amount s x + amount s y
  either_some h = go x.is_zero y.is_zero refl refl h
    where
      go : (a b : Bool) → x.is_zero ≡ a → y.is_zero ≡ b → a && b ≡ false → 0 < amount s x + amount s y
      go true true z w h = absurd (true≢false h)
      go true false z w h = omega (arith, some_amount s y k uy w)
      go false b z w h = omega (arith, some_amount s x g ux z)

-- ---- with their signs

pub compare_reversed : (a b : ℕ) → compare b a ≡ reversed (compare a b)
unfolding reversed
compare_reversed a b = go (compare a b) (cmp a b)
  where
    go : (o : Ordering) → Cmp o a b → compare b a ≡ reversed o
    go Ordering.lt h = compare_at Ordering.gt b a h
    go Ordering.eq h = compare_at Ordering.eq b a (sym h)
    go Ordering.gt h = compare_at Ordering.lt b a h

module _ (x y : Operand) (g : WellFormed x) (k : WellFormed y) where
  two_positive : x.negative ≡ false → y.negative ≡ false → order_of x y ≡ size_order x y
  unfolding order_of share
  two_positive h i = simp (h, i, add-zero, zero-add) (size_order_lem (scale x y) x y g k (scale_first x y) (scale_second x y))

  two_negative : x.negative ≡ true → y.negative ≡ true → order_of x y ≡ reversed (size_order x y)
  unfolding order_of share
  two_negative h i = simp (h, i, add-zero, zero-add) (compare_reversed (amount (scale x y) x) (amount (scale x y) y) ∙ ap reversed (size_order_lem (scale x y) x y g k (scale_first x y) (scale_second x y)))

  above_zero : x.negative ≡ false → y.negative ≡ true → (b : Bool) → x.is_zero && y.is_zero ≡ b → order_of x y ≡ cond b Ordering.eq Ordering.gt
  unfolding order_of share
  above_zero h i true z = simp (h, i) (compare_at Ordering.eq _ _ (both_none (scale x y) x y g k (scale_first x y) (scale_second x y) z))
  above_zero h i false z = simp (h, i) (compare_at Ordering.gt _ _ (either_some (scale x y) x y g k (scale_first x y) (scale_second x y) z))

  below_zero : x.negative ≡ true → y.negative ≡ false → (b : Bool) → x.is_zero && y.is_zero ≡ b → order_of x y ≡ cond b Ordering.eq Ordering.lt
  unfolding order_of share
  below_zero h i true z = simp (h, i) (compare_at Ordering.eq _ _ (sym (both_none (scale x y) x y g k (scale_first x y) (scale_second x y) z)))
  below_zero h i false z = simp (h, i) (compare_at Ordering.lt _ _ (either_some (scale x y) x y g k (scale_first x y) (scale_second x y) z))

  -- the order as it is found is that of the exact values
  pub order_found : order_of x y ≡ signed_order x y
  unfolding signed_order same_order reversed_if apart_order
  order_found = go x.negative y.negative refl refl
    where
      go : (a b : Bool) → x.negative ≡ a → y.negative ≡ b → order_of x y ≡ cond (beq a b) (cond a (reversed (size_order x y)) (size_order x y)) (cond (x.is_zero && y.is_zero) Ordering.eq (cond a Ordering.lt Ordering.gt))
      go false false h i = two_positive h i
      go true true h i = two_negative h i
      go false true h i = above_zero h i (x.is_zero && y.is_zero) refl
      go true false h i = below_zero h i (x.is_zero && y.is_zero) refl
