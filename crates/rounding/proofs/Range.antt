-- Refusals 6 and 7 go by the selected exponent, and what is not refused is the selected number, written with p digits of which the first is 1.
use mathlib.Core.Path.{◌≡◌, refl, sym, ap, ◌∙◌, subst}
use mathlib.Core.Logic.{◌⊎◌, inl, inr, ◌↔◌}
use mathlib.Core.Bool.{Bool}
use Prim.Native.Nat.{ℕ, zero, suc, ◌+◌, ◌-◌, ◌*◌, ◌^◌, ◌≤◌, ◌<◌, Ordering}
use native.Mathlib.Nat.{le_trans, le_of_eq, le_antisymm, lt_of_lt_of_le, mul_assoc, mul-le-mul_right, mul-lt-mul_of_pos_right, le-div_iff_mul-le, div-lt_iff_lt-mul}
use native.Mathlib.Omega.{arith}
use lib.Pow.{pow_pos, pow_mono, pow-add}
use lib.Ieee.{size}
use lib.Ieee.Digits.{size-lt, size_reaches}
use Rattle.numbers.specs.Limits.{bias, least_exponent, most_exponent}
use Rattle.rounding.specs.Mode.{Way, way}
use Rattle.rounding.specs.declared.Mode.{Mode}
use Rattle.rounding.specs.Select.{chosen}
use Rattle.rounding.specs.Answer.{Answer, number, too_large, too_small, ranged, digits, rounded}
use Rattle.rounding.specs.Paper.{Asks, Written, kept}
use Rattle.rounding.proofs.Order.{le_or_lt, mul_one_one}
use Rattle.rounding.proofs.Selection.{Rep, chosen_rep}
use Rattle.rounding.proofs.Scale.{chosen_pos}
use Rattle.rounding.proofs.Between.{is_large, is_small, is_in, digits_exact}
use Rattle.rounding.proofs.Paper.{selected, asked_unique}

-- ---- the digits of c

pub digits_few : (p c : ℕ) → digits p c < 2 ^ p
unfolding digits
digits_few p c = (div-lt_iff_lt-mul (pow_pos (size c))).1 (flip (mul-lt-mul_of_pos_right (size-lt c) (pow_pos p)))
  where
    flip : c * 2 ^ p < 2 ^ size c * 2 ^ p → c * 2 ^ p < 2 ^ p * 2 ^ size c
    flip h = omega arith

pub digits_first : (p c : ℕ) → 0 < p → 0 < c → 2 ^ (p - 1) ≤ digits p c
unfolding digits
digits_first p c P C = (le-div_iff_mul-le (pow_pos (size c))).1 (go (size c) (size-lt c) (size_reaches c))
  where
    around : (p z : ℕ) → 0 < p → p - 1 + suc z ≡ z + p
    around p z P = omega arith

    go : (z : ℕ) → c < 2 ^ z → ((i : ℕ) → i < z → 2 ^ i ≤ c) → 2 ^ (p - 1) * 2 ^ z ≤ c * 2 ^ p
    go zero h f = absurd (omega arith)
    go (suc z) h f = le_trans (le_of_eq (sym (pow-add 2 (p - 1) (suc z)) ∙ ap (λ (x : ℕ). 2 ^ x) (around p z P) ∙ pow-add 2 z p)) (mul-le-mul_right (2 ^ p) (f z (below z)))
      where
        below : (z : ℕ) → z < suc z
        below z = omega arith

-- ---- c as p digits and an exponent, and in no other way

pub written : (p s c : ℕ) → 0 < p → 0 < c → Rep p c → Written p s c (digits p c) (size c + s)
written p s c P C r =
    record {
      first = digits_first p c P C;
      few = digits_few p c;
      worth =
          ap (λ (x : ℕ). digits p c * x) (pow-add 2 (size c) s) ∙ sym (mul_assoc (digits p c) (2 ^ size c) (2 ^ s)) ∙ ap (λ (x : ℕ). x * 2 ^ s) (digits_exact p c r)
          ∙ mul_assoc c (2 ^ p) (2 ^ s) ∙ ap (λ (x : ℕ). c * x) (sym (pow-add 2 p s));
    }

-- of two ways the one with the lower exponent is worth less
lower : (p d e x y : ℕ) → 0 < p → d < 2 ^ p → 2 ^ (p - 1) ≤ e → x < y → d * 2 ^ x < e * 2 ^ y
lower p d e x y P h k l =
    lt_of_lt_of_le (mul-lt-mul_of_pos_right h (pow_pos x))
    (le_trans (le_of_eq (sym (pow-add 2 p x))) (le_trans (pow_mono (room p x y P l)) (le_trans (le_of_eq (pow-add 2 (p - 1) y)) (mul-le-mul_right (2 ^ y) k))))
  where
    room : (p x y : ℕ) → 0 < p → x < y → p + x ≤ p - 1 + y
    room p x y P l = omega arith

pub written_unique : (p s c d x e y : ℕ) → 0 < p → Written p s c d x → Written p s c e y → (d ≡ e) × (x ≡ y)
written_unique p s c d x e y P v w = go (le_or_lt x y) (le_or_lt y x)
  where
    same : d * 2 ^ x ≡ e * 2 ^ y
    same = v.worth ∙ sym w.worth

    clash : (a b : ℕ) → a < b → a ≡ b → ⊥
    clash a b h e = omega arith

    go : (x ≤ y) ⊎ (y < x) → (y ≤ x) ⊎ (x < y) → (d ≡ e) × (x ≡ y)
    go (inl h) (inl k) = let z = le_antisymm h k in (mul_one_one d e (2 ^ y) (pow_pos y) (ap (λ (a : ℕ). d * 2 ^ a) (sym z) ∙ same), z)
    go (inr h) k = absurd (clash (e * 2 ^ y) (d * 2 ^ x) (lower p e d y x P w.few v.first h) (sym same))
    go (inl h) (inr k) = absurd (clash (d * 2 ^ x) (e * 2 ^ y) (lower p d e x y P v.few w.first k) same)

-- ---- the range

-- where an exponent lies
data Place (e : ℕ) : Type 0 where
  above : most_exponent < e → Place e
  below : e < least_exponent → Place e
  inside : least_exponent ≤ e → e ≤ most_exponent → Place e

place : (e : ℕ) → Place e
place e = go (le_or_lt e most_exponent) (le_or_lt least_exponent e)
  where
    go : (e ≤ most_exponent) ⊎ (most_exponent < e) → (least_exponent ≤ e) ⊎ (e < least_exponent) → Place e
    go (inr h) k = above h
    go (inl h) (inr k) = below k
    go (inl h) (inl k) = inside k h

-- the ends of the range are in it, and one step further is out
pub range_ends : (a : Answer) → (ranged most_exponent a ≡ a) × ((ranged (suc most_exponent) a ≡ too_large) × ((ranged least_exponent a ≡ a) × (ranged (least_exponent - 1) a ≡ too_small)))
unfolding ranged most_exponent least_exponent bias
range_ends a = (refl, (refl, (refl, refl)))

module _ (w : Way) (p s : ℕ) (n : Bool) (m : ℕ) where
  c : ℕ
  c = chosen w p m

  is : rounded w p s n m ≡ ranged (size c + s) (kept p s n m c)
  unfolding rounded c
  is = refl

  -- refused 6
  pub refused_large : (rounded w p s n m ≡ too_large) ↔ (most_exponent < size (chosen w p m) + s)
  unfolding c
  refused_large = (λ e. go e (place (size c + s)), λ h. is ∙ is_large (size c + s) (kept p s n m c) h)
    where
      go : rounded w p s n m ≡ too_large → Place (size c + s) → most_exponent < size c + s
      go e (above h) = h
      go e (below h) = let f = is_small (size c + s) (kept p s n m c) h in let z : ◌≡◌ {A = ℕ} 0 1 = cc is in absurd (omega arith)
      go e (inside h k) = let f = is_in (size c + s) (kept p s n m c) h k in let z : ◌≡◌ {A = ℕ} 0 1 = cc is in absurd (omega arith)

  -- refused 7
  pub refused_small : (rounded w p s n m ≡ too_small) ↔ (size (chosen w p m) + s < least_exponent)
  unfolding c
  refused_small = (λ e. go e (place (size c + s)), λ h. is ∙ is_small (size c + s) (kept p s n m c) h)
    where
      go : rounded w p s n m ≡ too_small → Place (size c + s) → size c + s < least_exponent
      go e (above h) = let f = is_large (size c + s) (kept p s n m c) h in let z : ◌≡◌ {A = ℕ} 0 1 = cc is in absurd (omega arith)
      go e (below h) = h
      go e (inside h k) = let f = is_in (size c + s) (kept p s n m c) h k in let z : ◌≡◌ {A = ℕ} 0 1 = cc is in absurd (omega arith)

  -- accepted, with the number's own sign and the ternary value
  pub accepted : least_exponent ≤ size (chosen w p m) + s → size (chosen w p m) + s ≤ most_exponent → rounded w p s n m ≡ kept p s n m (chosen w p m)
  unfolding c
  accepted h k = is ∙ is_in (size c + s) (kept p s n m c) h k

  pub accepted_only : (t : Bool) (e d : ℕ) (o : Ordering) → rounded w p s n m ≡ number t e d o → (kept p s n m (chosen w p m) ≡ number t e d o) × ((least_exponent ≤ e) × (e ≤ most_exponent))
  unfolding c
  accepted_only t e d o h = go (place (size c + s))
    where
      go : Place (size c + s) → (kept p s n m c ≡ number t e d o) × ((least_exponent ≤ e) × (e ≤ most_exponent))
      go (above k) = let f = is_large (size c + s) (kept p s n m c) k in let z : ◌≡◌ {A = ℕ} 0 1 = cc is in absurd (omega arith)
      go (below k) = let f = is_small (size c + s) (kept p s n m c) k in let z : ◌≡◌ {A = ℕ} 0 1 = cc is in absurd (omega arith)
      go (inside k l) =
          let f : kept p s n m c ≡ number t e d o = sym (accepted k l) ∙ h in
          let z : size c + s ≡ e = cc in
          (f, (rw (← z) k, rw (← z) l))

-- an accepted number has p digits, the first of them 1, and is worth what is selected
pub accepted_written : (w : Way) (p s : ℕ) (n : Bool) (m : ℕ) (t : Bool) (e d : ℕ) (o : Ordering) → 0 < p → 0 < m → rounded w p s n m ≡ number t e d o → Written p s (chosen w p m) d e
accepted_written w p s n m t e d o P M h =
    let c = chosen w p m in
    let k = (accepted_only w p s n m t e d o h).0 in
    let x : size c + s ≡ e = cc in
    let y : digits p c ≡ d = cc in
    subst (λ (a : ℕ). Written p s c a e) y (subst (Written p s c (digits p c)) x (written p s c P (chosen_pos w p m P M) (chosen_rep w p m P)))

-- what a mode asks for in words is what the answer holds
pub rounded_by_paper : (o : Mode) (p s : ℕ) (n : Bool) (m c : ℕ) → 2 ≤ p → 0 < m → Asks o p n m n c → rounded (way o n) p s n m ≡ ranged (size c + s) (kept p s n m c)
unfolding rounded selected
rounded_by_paper o p s n m c P M a = rw (asked_unique o p n m n c P M a).1
