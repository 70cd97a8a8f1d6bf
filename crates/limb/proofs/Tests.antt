-- Laws of tests: two of them joined, and a product tested against 0. Assumes nothing.
use Rattle.std.proofs.Common.{◌≡◌, ℕ, zero, suc, ◌*◌, ◌<◌, ◌≤◌, Bool, true, false, ◌&&◌, ◌||◌, eqb, sym, refl, ◌∙◌, true≢false, mul-le-mul_right, arith, eq-eqb, ne_eqb}

-- no test both holds and fails
pub true_false : {b : Bool} → b ≡ true → b ≡ false → ⊥
true_false e f = true≢false (sym e ∙ f)

pub both_true : (a b : Bool) → (a && b) ≡ true → (a ≡ true) × (b ≡ true)
both_true true b e = (refl, e)
both_true false b e = absurd (true≢false (sym e))

pub and_both : {a b : Bool} → a ≡ true → b ≡ true → (a && b) ≡ true
and_both e f = rw (e, f)

-- where the first of two fails, the second holds
pub second_true : (a b : Bool) → (a || b) ≡ true → a ≡ false → b ≡ true
second_true true b e f = absurd (true≢false f)
second_true false b e f = e

pub zero_times : (a B : ℕ) → 0 < B → eqb (a * B) 0 ≡ eqb a 0
zero_times zero B h = eq-eqb (0 * B) 0 (omega arith)
zero_times (suc a) B h = ne_eqb (suc a * B) 0 (λ e. omega (arith, mul-le-mul_right B (one a))) ∙ sym (ne_eqb (suc a) 0 (λ e. omega arith))
  where
    one : (a : ℕ) → 1 ≤ suc a
    one a = omega arith
