-- The rules for zeros: which sums are a zero, and with which sign. Either order of the operands gives one answer.
use mathlib.Core.Path.{◌≡◌, refl, sym, ap, ◌∙◌}
use mathlib.Core.Logic.{◌⊎◌, inl, inr}
use mathlib.Core.Bool.{Bool, true, false, not, cond, beq, not-not, true≢false}
use Prim.Native.Nat.{ℕ, ◌+◌, ◌-◌, ◌*◌, ◌^◌, ◌<◌, compare, min, Ordering}
use native.Mathlib.Nat.{add_comm, min_comm}
use native.Mathlib.Omega.{arith}
use Rattle.numbers.specs.Operand.{Operand, mantissa, last_weight, turned, zero_like}
use Rattle.rounding.specs.Mode.{way}
use Rattle.rounding.specs.declared.Mode.{Mode}
use Rattle.rounding.specs.Answer.{zero_of}
use Rattle.rounding.specs.Sum.{scale, amount, share, cancelled, zero_sign, sum_at, add, subtract, reround}
use Rattle.rounding.proofs.Order.{Cmp, cmp}
use Rattle.rounding.proofs.Ends.{plus, minus, nought, regular}

-- ---- what an operand adds to either sign

pub amount_zero : (s : ℕ) (x : Operand) → x.is_zero ≡ true → amount s x ≡ 0
unfolding amount
amount_zero s x z = rw z

pub amount_is : (s : ℕ) (x : Operand) → x.is_zero ≡ false → amount s x ≡ mantissa x * 2 ^ (last_weight x - s)
unfolding amount
amount_is s x r = rw r

pub share_zero : (b : Bool) (s : ℕ) (x : Operand) → x.is_zero ≡ true → share b s x ≡ 0
unfolding share amount
share_zero b s x z = rw z (go (beq x.negative b))
  where
    go : (c : Bool) → cond {A = ℕ} c 0 0 ≡ 0
    go true = refl
    go false = refl

pub share_as : (b : Bool) (s : ℕ) (x : Operand) → x.negative ≡ b → share b s x ≡ amount s x
unfolding share
share_as true s x e = rw e
share_as false s x e = rw e

pub share_other : (b : Bool) (s : ℕ) (x : Operand) → x.negative ≡ not b → share b s x ≡ 0
unfolding share
share_other true s x e = rw e
share_other false s x e = rw e

-- a sum that is 0 is answered by a zero, with the sign of the one rule
pub zero_of_zero : (o : Mode) (p : ℕ) (x y : Operand) → 0 < p
    → share false (scale x y) x + share false (scale x y) y ≡ share true (scale x y) x + share true (scale x y) y → add o p x y ≡ zero_of (zero_sign o x.negative y.negative)
unfolding add sum_at
zero_of_zero o p x y P e = nought (zero_sign o x.negative y.negative) o p (scale x y) P _ _ e

-- ---- two zeros

zeros : (o : Mode) (p : ℕ) (x y : Operand) → 0 < p → x.is_zero ≡ true → y.is_zero ≡ true → add o p x y ≡ zero_of (zero_sign o x.negative y.negative)
zeros o p x y P u v = zero_of_zero o p x y P (simp (share_zero false (scale x y) x u, share_zero false (scale x y) y v, share_zero true (scale x y) x u, share_zero true (scale x y) y v))

-- "Two zeros of one sign give that zero"
pub zeros_of_one_sign : (o : Mode) (p : ℕ) (x y : Operand) → 0 < p → x.is_zero ≡ true → y.is_zero ≡ true → y.negative ≡ x.negative → add o p x y ≡ zero_of x.negative
unfolding zero_sign
zeros_of_one_sign o p x y P u v e = zeros o p x y P u v ∙ rw e (go x.negative)
  where
    go : (n : Bool) → zero_of (cond (beq n n) n (cancelled o)) ≡ zero_of n
    go true = refl
    go false = refl

unlike : (o : Mode) (x y : Operand) → y.negative ≡ not x.negative → zero_sign o x.negative y.negative ≡ false
unfolding zero_sign cancelled
unlike o x y e = rw e (go x.negative)
  where
    go : (n : Bool) → cond (beq n (not n)) n false ≡ false
    go true = refl
    go false = refl

-- "of two signs +0"
pub zeros_of_two_signs : (o : Mode) (p : ℕ) (x y : Operand) → 0 < p → x.is_zero ≡ true → y.is_zero ≡ true → y.negative ≡ not x.negative → add o p x y ≡ zero_of false
zeros_of_two_signs o p x y P u v e = zeros o p x y P u v ∙ ap zero_of (unlike o x y e)

-- "subtract (add with the second sign turned)", of zeros
pub zero_minus_zero_of_one_sign : (o : Mode) (p : ℕ) (x y : Operand) → 0 < p → x.is_zero ≡ true → y.is_zero ≡ true → y.negative ≡ x.negative → subtract o p x y ≡ zero_of false
unfolding subtract turned
zero_minus_zero_of_one_sign o p x y P u v e = zeros_of_two_signs o p x (turned y) P u v (ap not e)

pub zero_minus_zero_of_two_signs : (o : Mode) (p : ℕ) (x y : Operand) → 0 < p → x.is_zero ≡ true → y.is_zero ≡ true → y.negative ≡ not x.negative → subtract o p x y ≡ zero_of x.negative
unfolding subtract turned
zero_minus_zero_of_two_signs o p x y P u v e = zeros_of_one_sign o p x (turned y) P u v (ap not e ∙ not-not x.negative)

-- "Re-rounding keeps a zero's sign."
pub reround_zero : (o : Mode) (p : ℕ) (x : Operand) → 0 < p → x.is_zero ≡ true → reround o p x ≡ zero_of x.negative
unfolding reround zero_like
reround_zero o p x P u = zeros_of_one_sign o p x (zero_like x) P u refl refl

-- ---- cancellation

-- "Exact cancellation gives +0 in all four modes."
pub cancellation : (o : Mode) (p : ℕ) (x y : Operand) → 0 < p → y.negative ≡ not x.negative → amount (scale x y) x ≡ amount (scale x y) y → add o p x y ≡ zero_of false
cancellation o p x y P e a = zero_of_zero o p x y P (go x.negative refl) ∙ ap zero_of (unlike o x y e)
  where
    s : ℕ
    s = scale x y

    go : (n : Bool) → x.negative ≡ n → share false s x + share false s y ≡ share true s x + share true s y
    go false f =
        let g : y.negative ≡ true = e ∙ ap not f in
        let h = share_as false s x f in
        let i = share_other true s x f in
        let j = share_as true s y g in
        let k = share_other false s y g in
        omega arith
    go true f =
        let g : y.negative ≡ false = e ∙ ap not f in
        let h = share_as true s x f in
        let i = share_other false s x f in
        let j = share_as false s y g in
        let k = share_other true s y g in
        omega arith

pub self_cancels : (o : Mode) (p : ℕ) (x : Operand) → 0 < p → subtract o p x x ≡ zero_of false
unfolding subtract turned amount mantissa last_weight
self_cancels o p x P = cancellation o p x (turned x) P refl refl

-- a zero is the answer only of a sum that is 0
pub zero_only_of_zero : (o : Mode) (p : ℕ) (x y : Operand) (t : Bool) → 0 < p → add o p x y ≡ zero_of t
    → share false (scale x y) x + share false (scale x y) y ≡ share true (scale x y) x + share true (scale x y) y
unfolding add sum_at
zero_only_of_zero o p x y t P e = go (compare a b) (cmp a b)
  where
    z : Bool
    z = zero_sign o x.negative y.negative

    a : ℕ
    a = share false (scale x y) x + share false (scale x y) y

    b : ℕ
    b = share true (scale x y) x + share true (scale x y) y

    go : (c : Ordering) → Cmp c a b → a ≡ b
    go Ordering.eq h = h
    go Ordering.gt h = absurd (regular (way o false) p (scale x y) false t (a - b) (sym (plus z o p (scale x y) P a b h) ∙ e))
    go Ordering.lt h = absurd (regular (way o true) p (scale x y) true t (b - a) (sym (minus z o p (scale x y) P a b h) ∙ e))

-- ---- either order

pub sign_commutes : (o : Mode) (a b : Bool) → zero_sign o a b ≡ zero_sign o b a
unfolding zero_sign
sign_commutes o true true = refl
sign_commutes o true false = refl
sign_commutes o false true = refl
sign_commutes o false false = refl

pub scale_commutes : (x y : Operand) → (x.is_zero ≡ false) ⊎ (y.is_zero ≡ false) → scale x y ≡ scale y x
unfolding scale
scale_commutes x y h = go x.is_zero y.is_zero h
  where
    go : (a b : Bool) → (a ≡ false) ⊎ (b ≡ false) → cond a (last_weight y) (cond b (last_weight x) (min (last_weight x) (last_weight y))) ≡ cond b (last_weight x) (cond a (last_weight y) (min (last_weight y) (last_weight x)))
    go true true (inl e) = absurd (true≢false e)
    go true true (inr e) = absurd (true≢false e)
    go true false h = refl
    go false true h = refl
    go false false h = min_comm (last_weight x) (last_weight y)

pub add_commutes : (o : Mode) (p : ℕ) (x y : Operand) → 0 < p → add o p x y ≡ add o p y x
unfolding add sum_at
add_commutes o p x y P = go x.is_zero y.is_zero refl refl
  where
    one_unit : scale x y ≡ scale y x → add o p x y ≡ add o p y x
    one_unit e = rw (e, sign_commutes o x.negative y.negative, add_comm (share false (scale y x) x) (share false (scale y x) y), add_comm (share true (scale y x) x) (share true (scale y x) y))

    go : (a b : Bool) → x.is_zero ≡ a → y.is_zero ≡ b → add o p x y ≡ add o p y x
    go true true u v = zeros o p x y P u v ∙ ap zero_of (sign_commutes o x.negative y.negative) ∙ sym (zeros o p y x P v u)
    go true false u v = one_unit (scale_commutes x y (inr v))
    go false b u v = one_unit (scale_commutes x y (inl u))

-- "subtract (add with the second sign turned)": a sign turned twice is as it was
pub subtract_turned : (o : Mode) (p : ℕ) (x y : Operand) → subtract o p x (turned y) ≡ add o p x y
unfolding subtract turned
subtract_turned o p x y = rw (not-not y.negative)
