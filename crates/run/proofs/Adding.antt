-- Laws of `Stepped`, `Added`, `Subtracted` and `Reversed`: two answers that meet the same promise agree, and what each says of the whole
-- target. Assumes nothing.
use mathlib.Core.Path.{◌≡◌, sym, ap, ◌∙◌}
use mathlib.Core.Bool.{Bool}
use mathlib.Core.List.{List, [], ◌++◌}
use Prim.Native.Nat.{ℕ, ◌+◌, ◌-◌, ◌*◌, ◌^◌, ◌≤◌, ◌<◌}
use native.Mathlib.Nat.{add_assoc}
use native.Mathlib.Omega.{arith}
use lib.ListN.{length, take, drop, take-append-drop, length-drop}
use Rattle.limb.proofs.Powers.{pow_split}
use Rattle.limb.specs.Carry.{bit}
use Rattle.limb.specs.Column.{Column, Summed, Taken, TakenFrom}
use Rattle.limb.specs.Value.{value_in, Below}
use Rattle.limb.proofs.Carry.{sum_unique, difference_unique}
use Rattle.limb.proofs.Column.{summed_begins, taken_begins}
use Rattle.limb.proofs.Value.{value_split, value_lt, value_unique, below_part, value_kept}
use Rattle.run.specs.Sum.{Added, Subtracted, Reversed, AddedAt, SubtractedAt}
use Rattle.run.specs.Walk.{Stepped}
use Rattle.run.proofs.Stepping.{nothing_stepped}

-- into no limbs, and off none, the carry goes straight out
pub nothing_added : (o : List ℕ) (carry : Bool) → Added [] o carry [] carry
nothing_added o carry = let s = nothing_stepped Summed summed_begins o carry in record { same_length = s.same_length; value = s.value }

pub nothing_subtracted : (o : List ℕ) (borrow : Bool) → Subtracted [] o borrow [] borrow
nothing_subtracted o borrow = let s = nothing_stepped Taken taken_begins o borrow in record { same_length = s.same_length; value = s.value }

-- a limb and a carry are fixed by the digits and the carry in, so two answers of a walk are one
module _ (column : Column) (fixed : (P x y k s t : ℕ) (p q : Bool) → s < P → t < P → column P x y k s (bit p) → column P x y k t (bit q) → (s ≡ t) × (p ≡ q)) where
  pub stepped_unique : (xs ys : List ℕ) (p q : Bool) → Below (2 ^ 64) xs → Below (2 ^ 64) ys → (before operand : List ℕ) (carry : Bool)
      → Stepped column before operand carry xs p → Stepped column before operand carry ys q → (xs ≡ ys) × (p ≡ q)
  stepped_unique xs ys p q hx hy before operand carry a b =
      let e = fixed ((2 ^ 64) ^ length before) _ _ _ (value_in (2 ^ 64) xs) (value_in (2 ^ 64) ys) p q (below_top xs hx a.same_length) (below_top ys hy b.same_length) a.value b.value in
      (value_unique (2 ^ 64) xs ys hx hy (a.same_length ∙ sym b.same_length) e.0, e.1)
    where
      below_top : (l : List ℕ) → Below (2 ^ 64) l → length l ≡ length before → value_in (2 ^ 64) l < (2 ^ 64) ^ length before
      below_top l h e = rw e at (value_lt (2 ^ 64) l h)

pub summed_fixed : (P x y k s t : ℕ) (p q : Bool) → s < P → t < P → Summed P x y k s (bit p) → Summed P x y k t (bit q) → (s ≡ t) × (p ≡ q)
summed_fixed P x y k s t p q hs ht a b = sum_unique P s t (x + y + k) p q hs ht a b

pub taken_fixed : (P x y k s t : ℕ) (p q : Bool) → s < P → t < P → Taken P x y k s (bit p) → Taken P x y k t (bit q) → (s ≡ t) × (p ≡ q)
taken_fixed P x y k s t p q hs ht a b = difference_unique P s t (y + k) x p q hs ht (sym (add_assoc s y k) ∙ a) (sym (add_assoc t y k) ∙ b)

pub taken_from_fixed : (P x y k s t : ℕ) (p q : Bool) → s < P → t < P → TakenFrom P x y k s (bit p) → TakenFrom P x y k t (bit q) → (s ≡ t) × (p ≡ q)
taken_from_fixed P x y k s t p q hs ht a b = taken_fixed P y x k s t p q hs ht a b

-- so two answers that meet the promise of a sum, or of a difference either way, are one
module _ (xs ys : List ℕ) (p q : Bool) (hx : Below (2 ^ 64) xs) (hy : Below (2 ^ 64) ys) (before operand : List ℕ) (carry : Bool) where
  pub stepped_sum_unique : Stepped Summed before operand carry xs p → Stepped Summed before operand carry ys q → (xs ≡ ys) × (p ≡ q)
  stepped_sum_unique a b = stepped_unique Summed summed_fixed xs ys p q hx hy before operand carry a b

  pub stepped_difference_unique : Stepped Taken before operand carry xs p → Stepped Taken before operand carry ys q → (xs ≡ ys) × (p ≡ q)
  stepped_difference_unique a b = stepped_unique Taken taken_fixed xs ys p q hx hy before operand carry a b

  pub stepped_reverse_unique : Stepped TakenFrom before operand carry xs p → Stepped TakenFrom before operand carry ys q → (xs ≡ ys) × (p ≡ q)
  stepped_reverse_unique a b = stepped_unique TakenFrom taken_from_fixed xs ys p q hx hy before operand carry a b

  pub added_unique : Added before operand carry xs p → Added before operand carry ys q → (xs ≡ ys) × (p ≡ q)
  added_unique a b = stepped_sum_unique record { same_length = a.same_length; value = a.value } record { same_length = b.same_length; value = b.value }

  pub subtracted_unique : Subtracted before operand carry xs p → Subtracted before operand carry ys q → (xs ≡ ys) × (p ≡ q)
  subtracted_unique a b = stepped_difference_unique record { same_length = a.same_length; value = a.value } record { same_length = b.same_length; value = b.value }

  pub reversed_unique : Reversed before operand carry xs p → Reversed before operand carry ys q → (xs ≡ ys) × (p ≡ q)
  reversed_unique a b = stepped_reverse_unique record { same_length = a.same_length; value = a.value } record { same_length = b.same_length; value = b.value }

-- the same where the part of the target from limb start on is worked on
module _ (start : ℕ) (xs ys : List ℕ) (p q : Bool) (hx : Below (2 ^ 64) xs) (hy : Below (2 ^ 64) ys) (before operand : List ℕ) (carry : Bool) where
  joined : take start xs ≡ take start ys → drop start xs ≡ drop start ys → xs ≡ ys
  joined e f = sym (take-append-drop start xs) ∙ ap (λ (l : List ℕ). l ++ drop start xs) e ∙ ap (λ (l : List ℕ). take start ys ++ l) f ∙ take-append-drop start ys

  pub added_at_unique : AddedAt start before operand carry xs p → AddedAt start before operand carry ys q → (xs ≡ ys) × (p ≡ q)
  added_at_unique a b =
      let e = added_unique (drop start xs) (drop start ys) p q (below_part (2 ^ 64) start xs hx) (below_part (2 ^ 64) start ys hy) (drop start before) operand carry a.part b.part in
      (joined (a.below ∙ sym b.below) e.0, e.1)

  pub subtracted_at_unique : SubtractedAt start before operand carry xs p → SubtractedAt start before operand carry ys q → (xs ≡ ys) × (p ≡ q)
  subtracted_at_unique a b =
      let e = subtracted_unique (drop start xs) (drop start ys) p q (below_part (2 ^ 64) start xs hx) (below_part (2 ^ 64) start ys hy) (drop start before) operand carry a.part b.part in
      (joined (a.below ∙ sym b.below) e.0, e.1)

-- the value of a target whose part from limb start on is worked on: l is what stays below, h and g the part before and after
module _ (P Q l h g o k out before after top : ℕ) (eb : before ≡ l + P * h) (ea : after ≡ l + P * g) (et : top ≡ P * Q) where
  raised_sum : g + Q * out ≡ h + o + k → after + top * out ≡ before + P * (o + k)
  raised_sum e = omega (arith, ap (λ (m : ℕ). P * m) e, ap (λ (m : ℕ). m * out) et)

  raised_difference : g + o + k ≡ h + Q * out → after + P * (o + k) ≡ before + top * out
  raised_difference e = omega (arith, ap (λ (m : ℕ). P * m) e, ap (λ (m : ℕ). m * out) et)

-- a sum into the part from limb start on, and a difference, said of the whole target
module _ (start : ℕ) (before operand : List ℕ) (carry : Bool) (after : List ℕ) (out : Bool) (fits : start ≤ length before) where
  abbrev B : ℕ
  B = 2 ^ 64

  pub added_at_value : AddedAt start before operand carry after out
      → value_in B after + B ^ length before * bit out ≡ value_in B before + B ^ start * (value_in B (take (length before - start) operand) + bit carry)
  added_at_value a =
      raised_sum (B ^ start) (B ^ (length before - start)) _ _ _ _ (bit carry) (bit out) _ _ _ (value_split B start before) (value_kept B start before after a.below) (pow_split B start (length before) fits)
      (rw length-drop at a.part.value)

  pub subtracted_at_value : SubtractedAt start before operand carry after out
      → value_in B after + B ^ start * (value_in B (take (length before - start) operand) + bit carry) ≡ value_in B before + B ^ length before * bit out
  subtracted_at_value a =
      raised_difference (B ^ start) (B ^ (length before - start)) _ _ _ _ (bit carry) (bit out) _ _ _ (value_split B start before) (value_kept B start before after a.below) (pow_split B start (length before) fits)
      (rw length-drop at a.part.value)
