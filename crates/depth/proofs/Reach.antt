-- Where only the first k columns are known: the least and the greatest digits that x can have, both attained.
use mathlib.Core.Path.{◌≡◌, sym, ap, ◌∙◌}
use mathlib.Core.Bool.{Bool, true, false, cond}
use Prim.Native.Nat.{ℕ, suc, ◌+◌, ◌-◌, ◌*◌, ◌/◌, ◌%◌, ◌^◌, ◌≤◌, ◌<◌, max}
use native.Mathlib.Nat.{le_refl, le_trans, le_of_eq, lt_of_lt_of_le, suc-mul, mul-le-mul_right, mod-lt, div-add-mod', div-mul-le_self, div-eq_of_lt-le, div-lt_iff_lt-mul}
use native.Mathlib.Omega.{arith}
use lib.Pow.{pow_pos, pow-add}
use Rattle.numbers.specs.Operand.{Operand, mantissa, WellFormed}
use Rattle.depth.specs.Columns.{Like}
use Rattle.depth.specs.Read.{unread}
use Rattle.depth.proofs.Columns.{read_of}
use Rattle.numbers.proofs.Digits.{mantissa_lt, mantissa_ge, put}

-- ---- the numbers with the same quotient by 2 ^ t

from_base : (n t : ℕ) → n / 2 ^ t * 2 ^ t ≤ n
from_base n t = div-mul-le_self n (2 ^ t)

to_base : (n t : ℕ) → n ≤ n / 2 ^ t * 2 ^ t + (2 ^ t - 1)
to_base n t = fit (n / 2 ^ t * 2 ^ t) (n % 2 ^ t) (2 ^ t) (div-add-mod' n (2 ^ t)) (mod-lt n (pow_pos t))
  where
    fit : (a r u : ℕ) → a + r ≡ n → r < u → n ≤ a + (u - 1)
    fit a r u e h = omega arith

same_quot : (q n t : ℕ) → q * 2 ^ t ≤ n → n ≤ q * 2 ^ t + (2 ^ t - 1) → n / 2 ^ t ≡ q
same_quot q n t h k = div-eq_of_lt-le (2 ^ t) h (up (2 ^ t) (pow_pos t) k)
  where
    up : (u : ℕ) → 0 < u → n ≤ q * u + (u - 1) → n < (q + 1) * u
    up u U k = omega arith

-- none reaches past the p digits
top_lt : (n p t : ℕ) → t ≤ p → n < 2 ^ p → n / 2 ^ t * 2 ^ t + (2 ^ t - 1) < 2 ^ p
top_lt n p t h k = fit (2 ^ t) (pow_pos t) (le_trans (mul-le-mul_right (2 ^ t) ((div-lt_iff_lt-mul (pow_pos t)).1 (lt_of_lt_of_le k (le_of_eq e)))) (le_of_eq (sym e)))
  where
    back : (p t : ℕ) → t ≤ p → p ≡ p - t + t
    back p t h = omega arith

    e : 2 ^ p ≡ 2 ^ (p - t) * 2 ^ t
    e = ap (λ (x : ℕ). 2 ^ x) (back p t h) ∙ pow-add 2 (p - t) t

    fit : (u : ℕ) → 0 < u → suc (n / u) * u ≤ 2 ^ p → n / u * u + (u - 1) < 2 ^ p
    fit u U l = omega (arith, suc-mul (n / u) u)

-- ---- the ends

module _ (t k : ℕ) (x : Operand) where
  abbrev pub base : ℕ
  base = mantissa x / 2 ^ unread t k x * 2 ^ unread t k x

  unfoldable pub digits_at : Bool → ℕ
  digits_at false = max (2 ^ (x.precision - 1)) base
  digits_at true = base + (2 ^ unread t k x - 1)

  unfoldable pub end : Bool → Operand
  end b = cond x.is_zero x (put x (digits_at b))

  module _ (g : WellFormed x) (r : x.is_zero ≡ false) where
    unread_le : unread t k x ≤ x.precision
    unfolding unread
    unread_le = omega arith

    pub at_least : (b : Bool) → 2 ^ (x.precision - 1) ≤ digits_at b
    unfolding digits_at
    at_least false = omega arith
    at_least true = le_trans (mantissa_ge x g r) (to_base (mantissa x) (unread t k x))

    pub at_most : (b : Bool) → digits_at b < 2 ^ x.precision
    unfolding digits_at
    at_most true = top_lt (mantissa x) x.precision (unread t k x) unread_le (mantissa_lt x g)
    at_most false = go (mantissa_ge x g r) (from_base (mantissa x) (unread t k x)) (mantissa_lt x g)
      where
        go : 2 ^ (x.precision - 1) ≤ mantissa x → base ≤ mantissa x → mantissa x < 2 ^ x.precision → max (2 ^ (x.precision - 1)) base < 2 ^ x.precision
        go a b c = omega arith

    pub read_at : (b : Bool) → digits_at b / 2 ^ unread t k x ≡ mantissa x / 2 ^ unread t k x
    unfolding digits_at
    read_at true = same_quot (mantissa x / 2 ^ unread t k x) (digits_at true) (unread t k x) (more base (2 ^ unread t k x - 1)) (le_refl (digits_at true))
      where
        more : (a b : ℕ) → a ≤ a + b
        more a b = omega arith
    read_at false = same_quot (mantissa x / 2 ^ unread t k x) (digits_at false) (unread t k x) (right (2 ^ (x.precision - 1)) base) (go (mantissa_ge x g r) (from_base (mantissa x) (unread t k x)) (to_base (mantissa x) (unread t k x)))
      where
        right : (a b : ℕ) → b ≤ max a b
        right a b = omega arith

        go : 2 ^ (x.precision - 1) ≤ mantissa x → base ≤ mantissa x → mantissa x ≤ base + (2 ^ unread t k x - 1) → max (2 ^ (x.precision - 1)) base ≤ base + (2 ^ unread t k x - 1)
        go a b c = omega arith

    pub between_ends : x.exponent ≤ t → (z : Operand) → Like t k x z → (digits_at false ≤ mantissa z) × (mantissa z ≤ digits_at true)
    unfolding digits_at
    between_ends top z l =
        let u = unread t k x in
        let e = read_of t k x g (λ v. top) z l r in
        let a : 2 ^ (x.precision - 1) ≤ mantissa z = rw (← l.precision) (mantissa_ge z l.well_formed (l.is_zero ∙ r)) in
        let b : base ≤ mantissa z = rw (← e) (from_base (mantissa z) u) in
        let c : mantissa z ≤ base + (2 ^ u - 1) = rw (← e) (to_base (mantissa z) u) in
        (omega arith, c)
