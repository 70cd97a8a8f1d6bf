-- Where a digit is unread, another number agrees in the columns read: what is unread is never known.
use mathlib.Core.Path.{◌≡◌, refl, sym, ap, ◌∙◌}
use mathlib.Core.Bool.{Bool, true, false}
use Prim.Native.Nat.{ℕ, zero, suc, ◌+◌, ◌-◌, ◌*◌, ◌/◌, ◌^◌, ◌≤◌, ◌<◌, max}
use native.Mathlib.Nat.{pow-succ', mul_left_comm}
use native.Mathlib.Decide.{ℕ_discrete}
use native.Mathlib.Omega.{arith}
use lib.Pow.{pow_pos}
use Rattle.numbers.specs.Operand.{Operand, mantissa, WellFormed}
use Rattle.numbers.proofs.Digits.{precision_two}
use Rattle.depth.specs.Columns.{Like}
use Rattle.depth.specs.Read.{unread}
use Rattle.depth.proofs.Reach.{end, digits_at}
use Rattle.depth.proofs.Amounts.{like_end, mantissa_end}

-- ---- the ends differ where a digit is unread

parity : (a b d : ℕ) → 0 < b → max (2 * d) (2 * a) ≡ 2 * a + (2 * b - 1) → ⊥
parity a b d B h = omega arith

pub ends_meet : (t k : ℕ) (x : Operand) → WellFormed x → digits_at t k x false ≡ digits_at t k x true → unread t k x ≡ 0
unfolding digits_at
ends_meet t k x g h = go (unread t k x) x.precision (precision_two x g) h
  where
    go : (u p : ℕ) → 2 ≤ p → max (2 ^ (p - 1)) (mantissa x / 2 ^ u * 2 ^ u) ≡ mantissa x / 2 ^ u * 2 ^ u + (2 ^ u - 1) → u ≡ 0
    go zero p P h = refl
    go (suc u) zero P h = absurd (omega arith)
    go (suc u) (suc zero) P h = absurd (omega arith)
    go (suc u) (suc (suc p)) P h =
        let q = mantissa x / 2 ^ suc u in
        let a : 2 ^ (suc (suc p) - 1) ≡ 2 * 2 ^ p = ap (λ (z : ℕ). 2 ^ z) (pred (suc p)) ∙ pow-succ' 2 p in
        let b : 2 ^ suc u ≡ 2 * 2 ^ u = pow-succ' 2 u in
        let c : q * 2 ^ suc u ≡ 2 * (q * 2 ^ u) = ap (λ (z : ℕ). q * z) b ∙ mul_left_comm q 2 (2 ^ u) in
        absurd (parity (q * 2 ^ u) (2 ^ u) (2 ^ p) (pow_pos u) (cc))
      where
        pred : (p : ℕ) → suc p - 1 ≡ p
        pred p = omega arith

pub another : (t k : ℕ) (x : Operand) → WellFormed x → x.is_zero ≡ false → x.exponent ≤ t → 0 < unread t k x → (z : Operand) × Like t k x z × (mantissa z ≡ mantissa x → ⊥)
another t k x g r top h = pick (ℕ_discrete (digits_at t k x false) (mantissa x))
  where
    at : (b : Bool) → (digits_at t k x b ≡ mantissa x → ⊥) → (z : Operand) × Like t k x z × (mantissa z ≡ mantissa x → ⊥)
    at b n = (end t k x b, like_end t k x g (λ e. top) b, λ e. n (sym (mantissa_end t k x g b r) ∙ e))

    none : unread t k x ≡ 0 → ⊥
    none e = omega arith

    pick : Dec (digits_at t k x false ≡ mantissa x) → (z : Operand) × Like t k x z × (mantissa z ≡ mantissa x → ⊥)
    pick (no n) = at false n
    pick (yes e) = at true (λ f. none (ends_meet t k x g (e ∙ sym f)))
