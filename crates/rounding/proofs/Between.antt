-- If two magnitudes give the same answer, each one between them gives it too.
use mathlib.Core.Path.{◌≡◌, refl, sym, ap, ◌∙◌}
use mathlib.Core.Logic.{◌⊎◌, inl, inr}
use mathlib.Core.Bool.{Bool, true, false}
use Prim.Native.Nat.{ℕ, ◌+◌, ◌-◌, ◌*◌, ◌/◌, ◌^◌, ◌≤◌, ◌<◌, compare, Ordering}
use native.Mathlib.Nat.{le_trans, le_of_eq, lt_of_lt_of_le, lt_of_le_of_lt, le_antisymm, mul_assoc, mul-lt-mul_of_pos_right, mul-div_cancel}
use native.Mathlib.Omega.{arith}
use borrow.Author.Tests.{lt-ltb, le-ltb}
use lib.Pow.{pow_pos, pow-add}
use lib.Ieee.{size}
use lib.Ieee.Digits.{size-le}
use Rattle.rounding.specs.Mode.{Way, under}
use Rattle.rounding.specs.Select.{chosen}
use Rattle.rounding.specs.Answer.{Answer, number, too_large, too_small, ranged, digits, signed, rounded}
use Rattle.numbers.specs.Limits.{least_exponent, most_exponent}
use Rattle.rounding.proofs.Selection.{Rep, chosen_rep, chosen_mono, multiple}
use Rattle.numbers.proofs.Limits.{range_some}
use Rattle.rounding.proofs.Order.{le_or_lt, Cmp, cmp, compare_at, mul_one_one, size_mono}

-- ---- range

pub is_large : (e : ℕ) (a : Answer) → most_exponent < e → ranged e a ≡ too_large
unfolding ranged
is_large e a h = simp (lt-ltb _ _ h)

pub is_small : (e : ℕ) (a : Answer) → e < least_exponent → ranged e a ≡ too_small
unfolding ranged
is_small e a h = simp (le-ltb _ _ (under e h), lt-ltb _ _ h)
  where
    under : (e : ℕ) → e < least_exponent → e ≤ most_exponent
    under e h = omega (arith, range_some)

pub is_in : (e : ℕ) (a : Answer) → least_exponent ≤ e → e ≤ most_exponent → ranged e a ≡ a
unfolding ranged
is_in e a h k = simp (le-ltb _ _ k, le-ltb _ _ h)

-- ---- the digits and the exponent are the number

fits_in : (p c : ℕ) (r : Rep p c) → size c ≤ r.shift + p
fits_in p c r = size-le c (r.shift + p) (rw (r.is, pow-add) (mul_comm' (mul-lt-mul_of_pos_right r.few (pow_pos r.shift))))
  where
    mul_comm' : r.digits * 2 ^ r.shift < 2 ^ p * 2 ^ r.shift → r.digits * 2 ^ r.shift < 2 ^ r.shift * 2 ^ p
    mul_comm' h = omega arith

scaled : (p c : ℕ) (r : Rep p c) → c * 2 ^ p ≡ r.digits * 2 ^ (r.shift + p - size c) * 2 ^ size c
scaled p c r =
    ap (λ (x : ℕ). x * 2 ^ p) r.is ∙ mul_assoc r.digits (2 ^ r.shift) (2 ^ p) ∙ ap (λ (x : ℕ). r.digits * x) (sym (pow-add 2 r.shift p))
    ∙ multiple r.digits (r.shift + p) (size c) (fits_in p c r)

pub digits_exact : (p c : ℕ) → Rep p c → digits p c * 2 ^ size c ≡ c * 2 ^ p
unfolding digits
digits_exact p c r =
    let a = r.digits * 2 ^ (r.shift + p - size c) in
    ap (λ (x : ℕ). x / 2 ^ size c * 2 ^ size c) (scaled p c r) ∙ ap (λ (x : ℕ). x * 2 ^ size c) (mul-div_cancel a (pow_pos (size c))) ∙ sym (scaled p c r)

pub digits_one : (p c d : ℕ) → Rep p c → Rep p d → size c ≡ size d → digits p c ≡ digits p d → c ≡ d
digits_one p c d r t e h =
    mul_one_one c d (2 ^ p) (pow_pos p) (sym (digits_exact p c r) ∙ ap (λ (x : ℕ). x * 2 ^ size c) h ∙ ap (λ (x : ℕ). digits p d * 2 ^ x) e ∙ digits_exact p d t)

-- ---- the ternary value

twice : (n : Bool) (a : Ordering) → signed n (signed n a) ≡ a
unfolding signed
twice false a = refl
twice true Ordering.lt = refl
twice true Ordering.eq = refl
twice true Ordering.gt = refl

pub turned_one : (n : Bool) (a b : Ordering) → signed n a ≡ signed n b → a ≡ b
turned_one n a b e = sym (twice n a) ∙ ap (signed n) e ∙ twice n b

-- the sign of s - m is one and the same at both ends, so in between
compare_between : (s lo m hi : ℕ) → lo ≤ m → m ≤ hi → compare s lo ≡ compare s hi → compare s m ≡ compare s lo
compare_between s lo m hi h k e = compare_at (compare s lo) s m (mid (compare s lo) (cmp s lo) (rw (← e) at (cmp s hi)))
  where
    mid : (o : Ordering) → Cmp o s lo → Cmp o s hi → Cmp o s m
    mid Ordering.lt a b = omega arith
    mid Ordering.eq a b = omega arith
    mid Ordering.gt a b = omega arith

-- ---- the answer

module _ (w : Way) (p s : ℕ) (n : Bool) (P : 0 < p) where
  abbrev pub at : ℕ → Answer
  at m = rounded w p s n m

  ex : ℕ → ℕ
  ex m = size (chosen w p m) + s

  ex_mono : (a b : ℕ) → a ≤ b → ex a ≤ ex b
  unfolding ex
  ex_mono a b h = add_le (size_mono (chosen w p a) (chosen w p b) (chosen_mono w p a b P h))
    where
      add_le : {x y : ℕ} → x ≤ y → x + s ≤ y + s
      add_le h = omega arith

  reg : ℕ → Answer
  reg m = number n (ex m) (digits p (chosen w p m)) (signed n (compare (chosen w p m) m))

  at_is : (m : ℕ) → at m ≡ ranged (ex m) (reg m)
  unfolding ex reg rounded
  at_is m = refl

  same : (lo hi : ℕ) → reg lo ≡ reg hi → (chosen w p lo ≡ chosen w p hi) × (compare (chosen w p lo) lo ≡ compare (chosen w p hi) hi)
  unfolding reg ex
  same lo hi e =
      let a : size (chosen w p lo) + s ≡ size (chosen w p hi) + s = cc in
      let d : digits p (chosen w p lo) ≡ digits p (chosen w p hi) = cc in
      let t : signed n (compare (chosen w p lo) lo) ≡ signed n (compare (chosen w p hi) hi) = cc in
      (digits_one p (chosen w p lo) (chosen w p hi) (chosen_rep w p lo P) (chosen_rep w p hi P) (omega arith) d, turned_one n _ _ t)

  one : (m lo : ℕ) → chosen w p m ≡ chosen w p lo → compare (chosen w p m) m ≡ compare (chosen w p lo) lo → reg m ≡ reg lo
  unfolding reg ex
  one m lo g t = cc

  pub between : (lo m hi : ℕ) → lo ≤ m → m ≤ hi → at lo ≡ at hi → at m ≡ at lo
  unfolding reg
  between lo m hi h k e = go (le_or_lt (ex lo) most_exponent) (le_or_lt least_exponent (ex lo)) (le_or_lt least_exponent (ex hi)) (le_or_lt (ex hi) most_exponent) (ex_mono lo m h) (ex_mono m hi k)
    where
      go : (ex lo ≤ most_exponent) ⊎ (most_exponent < ex lo) → (least_exponent ≤ ex lo) ⊎ (ex lo < least_exponent) → (least_exponent ≤ ex hi) ⊎ (ex hi < least_exponent) → (ex hi ≤ most_exponent) ⊎ (most_exponent < ex hi) → ex lo ≤ ex m → ex m ≤ ex hi → at m ≡ at lo
      go (inr l) b c d x y = at_is m ∙ is_large (ex m) (reg m) (lt_of_lt_of_le l x) ∙ sym (at_is lo ∙ is_large (ex lo) (reg lo) l)
      go (inl l) (inr b) (inr c) d x y = at_is m ∙ is_small (ex m) (reg m) (lt_of_le_of_lt y c) ∙ sym (at_is lo ∙ is_small (ex lo) (reg lo) b)
      go (inl l) (inr b) (inl c) (inl d) x y = let u = is_small (ex lo) (reg lo) b in let v = is_in (ex hi) (reg hi) c d in cc (at_is lo, at_is hi)
      go (inl l) (inr b) (inl c) (inr d) x y = let u = is_small (ex lo) (reg lo) b in let v = is_large (ex hi) (reg hi) d in cc (at_is lo, at_is hi)
      go (inl l) (inl b) c (inr d) x y = let u = is_in (ex lo) (reg lo) b l in let v = is_large (ex hi) (reg hi) d in cc (at_is lo, at_is hi)
      go (inl l) (inl b) c (inl d) x y =
          let f = same lo hi (sym (at_is lo ∙ is_in (ex lo) (reg lo) b l) ∙ e ∙ at_is hi ∙ is_in (ex hi) (reg hi) (le_trans b (le_trans x y)) d) in
          let g : chosen w p m ≡ chosen w p lo = le_antisymm (le_trans (chosen_mono w p m hi P k) (le_of_eq (sym f.0))) (chosen_mono w p lo m P h) in
          let t = compare_between (chosen w p lo) lo m hi h k (f.1 ∙ ap (λ (z : ℕ). compare z hi) (sym f.0)) in
          at_is m ∙ is_in (ex m) (reg m) (le_trans b x) (le_trans y d) ∙ one m lo g (ap (λ (z : ℕ). compare z m) g ∙ t) ∙ sym (at_is lo ∙ is_in (ex lo) (reg lo) b l)
