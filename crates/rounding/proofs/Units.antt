-- The unit in which an exact sum is counted does not matter, and a power of two moves only the answer's exponent.
use mathlib.Core.Path.{◌≡◌, refl, sym, ap, ◌∙◌}
use mathlib.Core.Bool.{Bool, true, false, cond, beq, true≢false}
use Prim.Native.Nat.{ℕ, ◌+◌, ◌-◌, ◌*◌, ◌^◌, ◌≤◌, ◌<◌, compare, min, Ordering}
use native.Mathlib.Nat.{le_refl, mul_assoc, add-mul, min-le_left, min-le_right, le-min, mul-lt-mul_of_pos_right, le_trans}
use native.Mathlib.Omega.{arith}
use lib.Pow.{pow_pos, pow-add}
use lib.Ieee.{size}
use Rattle.numbers.specs.Limits.{most_exponent}
use Rattle.numbers.specs.Operand.{Operand, mantissa, last_weight}
use Rattle.rounding.specs.Mode.{Way, way}
use Rattle.rounding.specs.declared.Mode.{Mode}
use Rattle.rounding.specs.Select.{chosen}
use Rattle.rounding.specs.Answer.{number, digits, signed, rounded, answer}
use Rattle.rounding.specs.Sum.{scale, amount, share, zero_sign, sum_at, add}
use Rattle.rounding.proofs.Order.{Cmp, cmp, sub_mul}
use Rattle.rounding.proofs.Ends.{plus, minus, nought}
use Rattle.rounding.proofs.Scale.{rounded_shift}
use Rattle.rounding.proofs.Range.{accepted, accepted_only}

-- ---- the exact value a - b in units 2 ^ j times smaller

pub answer_shift : (z : Bool) (o : Mode) (p s a b j : ℕ) → 0 < p → answer z o p s (a * 2 ^ j) (b * 2 ^ j) ≡ answer z o p (j + s) a b
answer_shift z o p s a b j P = go (compare a b) (cmp a b)
  where
    some : (a b : ℕ) → b < a → 0 < a - b
    some a b h = omega arith

    go : (x : Ordering) → Cmp x a b → answer z o p s (a * 2 ^ j) (b * 2 ^ j) ≡ answer z o p (j + s) a b
    go Ordering.gt h =
        plus z o p s P (a * 2 ^ j) (b * 2 ^ j) (mul-lt-mul_of_pos_right h (pow_pos j)) ∙ ap (rounded (way o false) p s false) (sym (sub_mul a b (2 ^ j)))
        ∙ rounded_shift (way o false) p s false (a - b) j P (some a b h) ∙ sym (plus z o p (j + s) P a b h)
    go Ordering.lt h =
        minus z o p s P (a * 2 ^ j) (b * 2 ^ j) (mul-lt-mul_of_pos_right h (pow_pos j)) ∙ ap (rounded (way o true) p s true) (sym (sub_mul b a (2 ^ j)))
        ∙ rounded_shift (way o true) p s true (b - a) j P (some b a h) ∙ sym (minus z o p (j + s) P a b h)
    go Ordering.eq h = nought z o p s P (a * 2 ^ j) (b * 2 ^ j) (ap (λ (x : ℕ). x * 2 ^ j) h) ∙ sym (nought z o p (j + s) P a b h)

-- ---- the sum in any unit that is not above either operand's last weight

amount_unit : (s t : ℕ) (x : Operand) → s ≤ t → (x.is_zero ≡ false → t ≤ last_weight x) → amount s x ≡ amount t x * 2 ^ (t - s)
unfolding amount
amount_unit s t x h k = go x.is_zero k
  where
    steps : (w : ℕ) → t ≤ w → w - s ≡ w - t + (t - s)
    steps w l = omega arith

    go : (z : Bool) → (z ≡ false → t ≤ last_weight x) → cond z 0 (mantissa x * 2 ^ (last_weight x - s)) ≡ cond z 0 (mantissa x * 2 ^ (last_weight x - t)) * 2 ^ (t - s)
    go true k = omega arith
    go false k = ap (λ (e : ℕ). mantissa x * 2 ^ e) (steps (last_weight x) (k refl)) ∙ ap (λ (e : ℕ). mantissa x * e) (pow-add 2 (last_weight x - t) (t - s)) ∙ sym (mul_assoc (mantissa x) (2 ^ (last_weight x - t)) (2 ^ (t - s)))

share_unit : (b : Bool) (s t : ℕ) (x : Operand) → s ≤ t → (x.is_zero ≡ false → t ≤ last_weight x) → share b s x ≡ share b t x * 2 ^ (t - s)
unfolding share
share_unit b s t x h k = go (beq x.negative b)
  where
    go : (c : Bool) → cond c (amount s x) 0 ≡ cond c (amount t x) 0 * 2 ^ (t - s)
    go true = amount_unit s t x h k
    go false = omega arith

-- the unit of `add` is not above the last weight of an operand that is worth something, and is one of the two
pub scale_first : (x y : Operand) → x.is_zero ≡ false → scale x y ≤ last_weight x
unfolding scale
scale_first x y = go x.is_zero y.is_zero
  where
    go : (a b : Bool) → a ≡ false → cond a (last_weight y) (cond b (last_weight x) (min (last_weight x) (last_weight y))) ≤ last_weight x
    go true b r = absurd (true≢false r)
    go false true r = le_refl (last_weight x)
    go false false r = min-le_left (last_weight x) (last_weight y)

pub scale_second : (x y : Operand) → y.is_zero ≡ false → scale x y ≤ last_weight y
unfolding scale
scale_second x y = go x.is_zero y.is_zero
  where
    go : (a b : Bool) → b ≡ false → cond a (last_weight y) (cond b (last_weight x) (min (last_weight x) (last_weight y))) ≤ last_weight y
    go a true q = absurd (true≢false q)
    go true false q = le_refl (last_weight y)
    go false false q = min-le_right (last_weight x) (last_weight y)

scale_ge : (s : ℕ) (x y : Operand) → s ≤ last_weight x → s ≤ last_weight y → s ≤ scale x y
unfolding scale
scale_ge s x y h k = go x.is_zero y.is_zero
  where
    go : (a b : Bool) → s ≤ cond a (last_weight y) (cond b (last_weight x) (min (last_weight x) (last_weight y)))
    go true b = k
    go false true = h
    go false false = le-min h k

pub any_unit : (o : Mode) (p s : ℕ) (x y : Operand) → 0 < p → s ≤ last_weight x → s ≤ last_weight y → sum_at o p s x y ≡ add o p x y
unfolding add sum_at
any_unit o p s x y P h k =
    let g = scale_ge s x y h k in
    let z = zero_sign o x.negative y.negative in
    ap (λ (a : ℕ). answer z o p s a (share true s x + share true s y)) (shares false g) ∙ ap (answer z o p s ((share false t x + share false t y) * 2 ^ (t - s))) (shares true g)
    ∙ answer_shift z o p s (share false t x + share false t y) (share true t x + share true t y) (t - s) P
    ∙ ap (λ (u : ℕ). answer z o p u (share false t x + share false t y) (share true t x + share true t y)) (back t g)
  where
    t : ℕ
    t = scale x y

    back : (t : ℕ) → s ≤ t → t - s + s ≡ t
    back t g = omega arith

    shares : (b : Bool) → s ≤ t → share b s x + share b s y ≡ (share b t x + share b t y) * 2 ^ (t - s)
    shares b g =
        ap (λ (a : ℕ). a + share b s y) (share_unit b s t x g (scale_first x y)) ∙ ap (λ (a : ℕ). share b t x * 2 ^ (t - s) + a) (share_unit b s t y g (scale_second x y))
        ∙ sym (add-mul (share b t x) (share b t y) (2 ^ (t - s)))

-- ---- both operands times 2 ^ j

unfoldable pub raised : ℕ → Operand → Operand
raised j x = record { negative = x.negative; is_zero = x.is_zero; precision = x.precision; exponent = j + x.exponent; limbs = x.limbs }

raised_weight : (j : ℕ) (x : Operand) → x.precision ≤ x.exponent → last_weight (raised j x) ≡ j + last_weight x
unfolding last_weight raised
raised_weight j x h = omega arith

raised_share : (b : Bool) (j s : ℕ) (x : Operand) → x.precision ≤ x.exponent → share b (j + s) (raised j x) ≡ share b s x
unfolding share amount mantissa raised
raised_share b j s x h = ap (λ (e : ℕ). cond (beq x.negative b) (cond x.is_zero 0 (mantissa x * 2 ^ e)) 0) (ap (λ (e : ℕ). e - (j + s)) (raised_weight j x h) ∙ both (last_weight x))
  where
    both : (w : ℕ) → j + w - (j + s) ≡ w - s
    both w = omega arith

raised_scale : (j : ℕ) (x y : Operand) → x.precision ≤ x.exponent → y.precision ≤ y.exponent → scale (raised j x) (raised j y) ≡ j + scale x y
unfolding scale raised
raised_scale j x y h k = go x.is_zero y.is_zero
  where
    lowest : (v w : ℕ) → min (j + v) (j + w) ≡ j + min v w
    lowest v w = omega arith

    go : (a b : Bool) → cond a (last_weight (raised j y)) (cond b (last_weight (raised j x)) (min (last_weight (raised j x)) (last_weight (raised j y)))) ≡ j + cond a (last_weight y) (cond b (last_weight x) (min (last_weight x) (last_weight y)))
    go true b = raised_weight j y k
    go false true = raised_weight j x h
    go false false = ap (λ (w : ℕ). min w (last_weight (raised j y))) (raised_weight j x h) ∙ ap (min (j + last_weight x)) (raised_weight j y k) ∙ lowest (last_weight x) (last_weight y)

-- an accepted answer keeps sign, digits and ternary value while its exponent stays in range
module _ (j p s : ℕ) (n : Bool) (e d : ℕ) (t : Ordering) where
  rounded_raised : (w : Way) (b : Bool) (m : ℕ) → j + e ≤ most_exponent → rounded w p s b m ≡ number n e d t → rounded w p (j + s) b m ≡ number n (j + e) d t
  rounded_raised w b m h f =
      let c = chosen w p m in
      let g = accepted_only w p s b m n e d t f in
      let x : size c + s ≡ e = cc g.0 in
      let y : size c + (j + s) ≡ j + e = omega arith in
      let u : b ≡ n = cc g.0 in
      let v : digits p c ≡ d = cc g.0 in
      let q : signed b (compare c m) ≡ t = cc g.0 in
      accepted w p (j + s) b m (rw y (le_trans g.1.0 (more e))) (rw y h) ∙ cc
    where
      more : (e : ℕ) → e ≤ j + e
      more e = omega arith

  pub answer_raised : (z : Bool) (o : Mode) (a b : ℕ) → 0 < p → j + e ≤ most_exponent → answer z o p s a b ≡ number n e d t → answer z o p (j + s) a b ≡ number n (j + e) d t
  answer_raised z o a b P h f = go (compare a b) (cmp a b)
    where
      go : (x : Ordering) → Cmp x a b → answer z o p (j + s) a b ≡ number n (j + e) d t
      go Ordering.gt k = plus z o p (j + s) P a b k ∙ rounded_raised (way o false) false (a - b) h (sym (plus z o p s P a b k) ∙ f)
      go Ordering.lt k = minus z o p (j + s) P a b k ∙ rounded_raised (way o true) true (b - a) h (sym (minus z o p s P a b k) ∙ f)
      go Ordering.eq k = let g = nought z o p s P a b k in let x : ◌≡◌ {A = ℕ} 0 1 = cc in absurd (omega arith)

pub add_raised : (j : ℕ) (o : Mode) (p : ℕ) (x y : Operand) (n : Bool) (e d : ℕ) (t : Ordering)
    → 0 < p → x.precision ≤ x.exponent → y.precision ≤ y.exponent → j + e ≤ most_exponent → add o p x y ≡ number n e d t → add o p (raised j x) (raised j y) ≡ number n (j + e) d t
unfolding add sum_at raised
add_raised j o p x y n e d t P h k l f = same ∙ answer_raised j p (scale x y) n e d t (zero_sign o x.negative y.negative) o (both false) (both true) P l f
  where
    both : Bool → ℕ
    both b = share b (scale x y) x + share b (scale x y) y

    same : add o p (raised j x) (raised j y) ≡ answer (zero_sign o x.negative y.negative) o p (j + scale x y) (both false) (both true)
    same = rw (raised_scale j x y h k, raised_share false j (scale x y) x h, raised_share false j (scale x y) y k, raised_share true j (scale x y) x h, raised_share true j (scale x y) y k)
