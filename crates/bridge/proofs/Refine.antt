-- What lies below the digits that matter is seen only as a half of their last unit, wherever the digits are cut.
use mathlib.Core.Path.{◌≡◌, refl, sym, ap, ◌∙◌, subst}
use mathlib.Core.Logic.{inl, inr}
use mathlib.Core.Bool.{Bool, true, false, not, ◌||◌}
use Prim.Native.Nat.{ℕ, suc, ◌+◌, ◌-◌, ◌*◌, ◌^◌, ◌≤◌, ◌<◌}
use native.Mathlib.Nat.{pow-succ', le_trans}
use native.Mathlib.Omega.{arith}
use borrow.Author.Tests.{eq-eqb, ne_eqb}
use lib.Dec.{eqb}
use lib.Pow.{pow_pos}
use lib.Ieee.{size}
use Rattle.rounding.proofs.Order.{zero_or}
use Rattle.limb.specs.Carry.{bit}
use Rattle.rounding.specs.Mode.{Way, near, under, over}
use Rattle.rounding.specs.Answer.{rounded}
use Rattle.rounding.proofs.Scale.{rounded_shift}
use Rattle.decide.specs.Answer.{settled_answer}
use Rattle.decide.proofs.Lean.{Part}
use Rattle.decide.proofs.Settled.{Enough, enough_le}
use Rattle.decide.proofs.Carry.{size_pos}
use Rattle.decide.proofs.Answered.{read_answer}

-- a digit more than p is enough for every way
pub enough_digits : (w : Way) (p n : ℕ) → p < size n → Enough w p n
enough_digits near p n h = h
enough_digits under p n h = omega arith
enough_digits over p n h = omega arith

module _ (w : Way) (p : ℕ) (P : 0 < p) (g : Bool) where
  half_part : (more : Bool) → Part more (2 ^ 1) (bit more)
  unfolding bit
  half_part true = (omega arith, omega arith)
  half_part false = refl

  -- n units of 2 ^ e and perhaps more, as n and a half
  pub half_answer : (e n : ℕ) (more : Bool) → 1 ≤ e → Enough w p n → rounded w p (e - 1) g (2 * n + bit more) ≡ settled_answer w p e g n more
  half_answer e n more E h =
      ap (λ (m : ℕ). rounded w p (e - 1) g (m + bit more)) (twice n)
      ∙ read_answer w p (e - 1) P g 1 n more (bit more) (half_part more) h
      ∙ ap (λ (m : ℕ). settled_answer w p m g n more) (back e E)
    where
      twice : (n : ℕ) → 2 * n ≡ n * 2 ^ 1
      twice n = omega arith

      back : (e : ℕ) → 1 ≤ e → 1 + (e - 1) ≡ e
      back e h = omega arith

  -- n units and nothing below
  pub whole_half : (e n : ℕ) → 1 ≤ e → 0 < n → rounded w p (e - 1) g (2 * n + bit false) ≡ rounded w p e g n
  unfolding bit
  whole_half e n E h = ap (rounded w p (e - 1) g) (twice n) ∙ rounded_shift w p (e - 1) g n 1 P h ∙ ap (λ (m : ℕ). rounded w p m g n) (back e E)
    where
      twice : (n : ℕ) → 2 * n + 0 ≡ n * 2 ^ 1
      twice n = omega arith

      back : (e : ℕ) → 1 ≤ e → 1 + (e - 1) ≡ e
      back e h = omega arith

  -- whatever lies below
  pub any_part : (s j n : ℕ) (more : Bool) (a : ℕ) → 1 ≤ j + s → Part more (2 ^ j) a → Enough w p n → rounded w p s g (n * 2 ^ j + a) ≡ rounded w p (j + s - 1) g (2 * n + bit more)
  any_part s j n more a E part h = read_answer w p s P g j n more a part h ∙ sym (half_answer (j + s) n more E h)

  -- ---- D = A * 2 ^ (64 b) + r: the digits of r are seen only as whether there are any

  module _ (e A b r : ℕ) (E : 1 ≤ e) (lt : r < 2 ^ (64 * b)) where
    abbrev C : ℕ
    C = 2 ^ (64 * b)

    abbrev J : ℕ
    J = suc (64 * b)

    cut_is : 2 ^ J ≡ 2 * C
    cut_is = pow-succ' 2 (64 * b)

    weight : J + (e - 1) ≡ e + 64 * b
    weight = go (64 * b) E
      where
        go : (c : ℕ) → 1 ≤ e → suc c + (e - 1) ≡ e + c
        go c h = omega arith

    room : 1 ≤ J + (e - 1)
    room = go (64 * b)
      where
        go : (c : ℕ) → 1 ≤ suc c + (e - 1)
        go c = omega arith

    rest_part : (m : Bool) → Part (m || not (eqb r 0)) (2 ^ J) (2 * r + bit m)
    rest_part m = elim (zero_or r) [ inl z ↦ none m z | inr h ↦ some m h ]
      where
        fits : {a : ℕ} → 0 < a → a < 2 * C → (0 < a) × (a < 2 ^ J)
        fits {a} h l = (h, subst (λ (n : ℕ). a < n) (sym cut_is) l)

        none : (m : Bool) → r ≡ 0 → Part (m || not (eqb r 0)) (2 ^ J) (2 * r + bit m)
        none true z = unfold bit in fits (omega arith) (omega arith)
        none false z = unfold bit in subst (λ (b : Bool). Part (not b) (2 ^ J) (2 * r + 0)) (sym (eq-eqb r 0 z)) (omega arith)

        nonzero : {r : ℕ} → 0 < r → r ≡ 0 → ⊥
        nonzero h e = omega arith

        some : (m : Bool) → 0 < r → Part (m || not (eqb r 0)) (2 ^ J) (2 * r + bit m)
        some true h = unfold bit in fits (omega arith) (omega arith)
        some false h = unfold bit in subst (λ (b : Bool). Part (not b) (2 ^ J) (2 * r + 0)) (sym (ne_eqb r 0 (nonzero h))) (fits (omega arith) (omega arith))

    pub refine : (m : Bool) → Enough w p A → rounded w p (e - 1) g (2 * (A * 2 ^ (64 * b) + r) + bit m) ≡ rounded w p (e + 64 * b - 1) g (2 * A + bit (m || not (eqb r 0)))
    refine m h =
        ap (rounded w p (e - 1) g) (spread C (2 ^ J) (bit m) cut_is)
        ∙ any_part (e - 1) J A (m || not (eqb r 0)) (2 * r + bit m) room (rest_part m) h
        ∙ ap (λ (n : ℕ). rounded w p (n - 1) g (2 * A + bit (m || not (eqb r 0)))) weight
      where
        spread : (c K i : ℕ) → K ≡ 2 * c → 2 * (A * c + r) + i ≡ A * K + (2 * r + i)
        spread c K i e = let f = ap (λ (n : ℕ). A * n) e in omega arith

    -- something is taken away below D
    pub refine_less : 0 < r → Enough w p A → rounded w p (e - 1) g (2 * (A * 2 ^ (64 * b) + r) - 1) ≡ rounded w p (e + 64 * b - 1) g (2 * A + 1)
    unfolding bit
    refine_less R h =
        ap (rounded w p (e - 1) g) (spread C (2 ^ J) cut_is R)
        ∙ any_part (e - 1) J A true (2 * r - 1) room (omega arith, subst (λ (n : ℕ). 2 * r - 1 < n) (sym cut_is) (below r C lt)) h
        ∙ ap (λ (n : ℕ). rounded w p (n - 1) g (2 * A + 1)) weight
      where
        spread : (c K : ℕ) → K ≡ 2 * c → 0 < r → 2 * (A * c + r) - 1 ≡ A * K + (2 * r - 1)
        spread c K e h = let f = ap (λ (n : ℕ). A * n) e in omega arith

        below : (r c : ℕ) → r < c → 2 * r - 1 < 2 * c
        below r c h = omega arith

    pub refine_borrow : r ≡ 0 → Enough w p (A - 1) → rounded w p (e - 1) g (2 * (A * 2 ^ (64 * b) + r) - 1) ≡ rounded w p (e + 64 * b - 1) g (2 * A - 1)
    unfolding bit
    refine_borrow R h =
        let some = size_pos (A - 1) (le_trans P (enough_le w p (A - 1) h)) in
        ap (rounded w p (e - 1) g) (spread C (2 ^ J) (A - 1) cut_is (back A some) R (pow_pos (64 * b)))
        ∙ any_part (e - 1) J (A - 1) true (2 ^ J - 1) room (rw cut_is (many C (pow_pos (64 * b)))) h
        ∙ ap (λ (n : ℕ). rounded w p (n - 1) g (2 * (A - 1) + 1)) weight
        ∙ ap (rounded w p (e + 64 * b - 1) g) (odd A some)
      where
        back : (A : ℕ) → 0 < A - 1 → A ≡ A - 1 + 1
        back A h = omega arith

        odd : (A : ℕ) → 0 < A - 1 → 2 * (A - 1) + 1 ≡ 2 * A - 1
        odd A h = omega arith

        many : (c : ℕ) → 0 < c → (0 < 2 * c - 1) × (2 * c - 1 < 2 * c)
        many c h = (omega arith, omega arith)

        spread : (c K B : ℕ) → K ≡ 2 * c → A ≡ B + 1 → r ≡ 0 → 0 < c → 2 * (A * c + r) - 1 ≡ B * K + (K - 1)
        spread c K B e f z h =
            let i : B * K ≡ 2 * (B * c) = ap (λ (n : ℕ). B * n) e ∙ omega arith in
            let l : A * c ≡ B * c + c = ap (λ (n : ℕ). n * c) f ∙ omega arith in
            omega arith

  -- ---- zeros below D

  pub scaled_up : (e D j : ℕ) (m : Bool) → 64 * j + 1 ≤ e → 0 < D → (m ≡ true → Enough w p D) → rounded w p (e - 64 * j - 1) g (2 * (D * 2 ^ (64 * j)) + bit m) ≡ rounded w p (e - 1) g (2 * D + bit m)
  scaled_up e D j false E pos h =
      unfold bit in
      ap (rounded w p (e - 64 * j - 1) g) (out D (2 ^ (64 * j)))
      ∙ rounded_shift w p (e - 64 * j - 1) g (2 * D + 0) (64 * j) P (omega arith)
      ∙ ap (λ (n : ℕ). rounded w p n g (2 * D + 0)) (back (64 * j) E)
    where
      out : (D C : ℕ) → 2 * (D * C) + 0 ≡ (2 * D + 0) * C
      out D C = omega arith

      back : (c : ℕ) → c + 1 ≤ e → c + (e - c - 1) ≡ e - 1
      back c h = omega arith
  scaled_up e D j true E pos h =
      ap (λ (n : ℕ). rounded w p (e - 64 * j - 1) g (2 * n + bit true)) (flat (D * 2 ^ (64 * j)))
      ∙ refine (e - 64 * j) D j 0 (some (64 * j) E) (pow_pos (64 * j)) true (h refl)
      ∙ ap (λ (n : ℕ). rounded w p (n - 1) g (2 * D + bit true)) (back (64 * j) E)
    where
      flat : (n : ℕ) → n ≡ n + 0
      flat n = omega arith

      some : (c : ℕ) → c + 1 ≤ e → 1 ≤ e - c
      some c h = omega arith

      back : (c : ℕ) → c + 1 ≤ e → e - c + c ≡ e
      back c h = omega arith
