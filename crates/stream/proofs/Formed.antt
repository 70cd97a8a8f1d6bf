-- An accepted sum is a number of good form. Assumes nothing.
use mathlib.Core.Path.{◌≡◌, refl, sym, ap, ◌∙◌}
use mathlib.Core.Bool.{Bool, true, false}
use mathlib.Core.List.{List}
use Prim.Native.Nat.{ℕ, zero, suc, ◌+◌, ◌-◌, ◌*◌, ◌^◌, ◌≤◌, ◌<◌, Ordering}
use native.Mathlib.Nat.{mul-mod_left, mul-le-mul_right, mul-lt-mul_of_pos_right}
use native.Mathlib.Omega.{arith}
use native.Mathlib.Decide.{dec_lt}
use lib.ListN.{replicate, length-replicate, get_or}
use lib.Pow.{pow-add, pow_pos}
use Rattle.limb.specs.Value.{value_of, Below}
use Rattle.numbers.specs.Limits.{least_precision, most_precision, counted, least_exponent, most_exponent, limbs_for}
use Rattle.numbers.specs.Limbs.{limbs_of}
use Rattle.numbers.specs.Operand.{Operand, spare_bits, WellFormed}
use Rattle.numbers.proofs.Limits.{two_digits}
use Rattle.numbers.proofs.Digits.{limbs_count, limbs_below, limbs_value, digits_and_spare}
use Rattle.rounding.specs.Mode.{way}
use Rattle.rounding.specs.declared.Mode.{Mode}
use Rattle.rounding.specs.Answer.{Answer, zero_of, number, too_large, too_small, rounded, answer}
use Rattle.rounding.specs.Sum.{sum_at, add, subtract}
use Rattle.rounding.proofs.Range.{accepted_only, accepted_written}
use Rattle.rounding.proofs.Ends as ends
use Rattle.depth.specs.Depth.{Operation, plus, minus, result}
use Rattle.checks.specs.Number.{is_zero_kind, operand_of}
use Rattle.checks.proofs.Signed.{counted_exponent_of}
use Rattle.place.specs.Placed.{limbs_after}
use Rattle.std.specs.Prelude.{IfOk}
use Rattle.reports.specs.declared.report.Sum.{Sum}
use Rattle.reports.specs.Summed.{sum_of, refused_sum, Reported}

-- the digits of a rounded number: p, of which the first is 1, and an exponent in range
record Normal (p e d : ℕ) : Type 0 where
  least : least_exponent ≤ e
  most : e ≤ most_exponent
  lead : 2 ^ (p - 1) ≤ d
  few : d < 2 ^ p

rounded_normal : (w : Rattle.rounding.specs.Mode.Way) (p s : ℕ) (n : Bool) (m : ℕ) (t : Bool) (e d : ℕ) (o : Ordering) → 0 < p → 0 < m → rounded w p s n m ≡ number t e d o → Normal p e d
rounded_normal w p s n m t e d o P M h =
    let a = (accepted_only w p s n m t e d o h).1 in
    let b = accepted_written w p s n m t e d o P M h in
    record { least = a.0; most = a.1; lead = b.first; few = b.few }

answer_normal : (z : Bool) (o : Mode) (p s a b : ℕ) (t : Bool) (e d : ℕ) (x : Ordering) → 0 < p → answer z o p s a b ≡ number t e d x → Normal p e d
answer_normal z o p s a b t e d x P h = go (dec_lt b a) (dec_lt a b)
  where
    go : Dec (b < a) → Dec (a < b) → Normal p e d
    go (yes k) m = rounded_normal (way o false) p s false (a - b) t e d x P (omega arith) (sym (ends.plus z o p s P a b k) ∙ h)
    go (no k) (yes m) = rounded_normal (way o true) p s true (b - a) t e d x P (omega arith) (sym (ends.minus z o p s P a b m) ∙ h)
    go (no k) (no m) =
        let q : zero_of z ≡ number t e d x = sym (ends.nought z o p s P a b (omega arith)) ∙ h in
        let r : ◌≡◌ {A = ℕ} 0 1 = cc in
        absurd (omega arith)

result_normal : (f : Operation) (o : Mode) (p : ℕ) (x y : Operand) (t : Bool) (e d : ℕ) (r : Ordering) → 0 < p → result f o p x y ≡ number t e d r → Normal p e d
unfolding result add subtract sum_at
result_normal plus o p x y t e d r P h = answer_normal _ o p _ _ _ t e d r P h
result_normal minus o p x y t e d r P h = answer_normal _ o p _ _ _ t e d r P h

-- its p digits, with the spare bits 0
module _ (p d : ℕ) (P : 0 < p) (lead : 2 ^ (p - 1) ≤ d) (few : d < 2 ^ p) where
  below : d * 2 ^ spare_bits p < 2 ^ (64 * limbs_for p)
  below = rw (← digits_and_spare p, pow-add) (mul-lt-mul_of_pos_right few (pow_pos (spare_bits p)))

  first : 2 ^ (64 * limbs_for p - 1) ≤ d * 2 ^ spare_bits p
  first =
      let e : p - 1 + spare_bits p ≡ 64 * limbs_for p - 1 = omega (arith, digits_and_spare p) in
      rw (← e, pow-add) (mul-le-mul_right (2 ^ spare_bits p) lead)

  worth : value_of (limbs_of (limbs_for p) (d * 2 ^ spare_bits p)) ≡ d * 2 ^ spare_bits p
  worth = limbs_value (limbs_for p) (d * 2 ^ spare_bits p) below

zeros_at : (n i : ℕ) → ◌≡◌ {A = ℕ} (get_or (replicate n 0) i 0) 0
zeros_at zero i = refl
zeros_at (suc n) zero = refl
zeros_at (suc n) (suc i) = zeros_at n i

zeros_below : (n : ℕ) → Below (2 ^ 64) (replicate n 0)
zeros_below n i = rw (zeros_at n i) (omega arith)

module _ (p : ℕ) (least : least_precision ≤ p) (most : p ≤ most_precision) where
  some : 0 < p
  some = omega (arith, two_digits, least)

  formed_at : (a : Answer) (k i j : ℕ) → ((t : Bool) (e d : ℕ) (r : Ordering) → a ≡ number t e d r → Normal p e d) → IfOk (sum_of a p k i j).answer (λ b. WellFormed (operand_of b.number (limbs_after p a)))
  unfolding sum_of refused_sum limbs_after operand_of is_zero_kind counted
  formed_at (zero_of n) k i j h = record {
    least = least;
    most = most;
    count = length-replicate (limbs_for p) 0;
    limb = zeros_below (limbs_for p);
    zero = λ e. omega arith;
    regular = λ e. let q : ◌≡◌ {A = ℕ} 0 1 = cc in absurd (omega arith);
  }
  formed_at (number t e d r) k i j h =
      let q = h t e d r refl in
      let v = worth p d some q.lead q.few in
      record {
        least = least;
        most = most;
        count = limbs_count (limbs_for p) (d * 2 ^ spare_bits p);
        limb = limbs_below (limbs_for p) (d * 2 ^ spare_bits p);
        zero = λ b. let o : ◌≡◌ {A = ℕ} 0 1 = cc in absurd (omega arith);
        regular = λ b. record {
          least = rw (counted_exponent_of e q.least q.most) q.least;
          most = rw (counted_exponent_of e q.least q.most) q.most;
          lead = rw v (first p d some q.lead q.few);
          spare = rw v (mul-mod_left d (2 ^ spare_bits p));
        };
      }
  formed_at too_large k i j h = tt
  formed_at too_small k i j h = tt

  pub reported_formed : (f : Operation) (o : Mode) (x y : Operand) (exit : List ℕ) (s : Sum) → Reported f o p x y exit s → IfOk s.answer (λ b. WellFormed (operand_of b.number exit))
  reported_formed f o x y exit s r =
      rw (r.answer, r.target)
      (formed_at (result f o p x y) s.depth _ _ (λ t e d w h. result_normal f o p x y t e d w some h))
