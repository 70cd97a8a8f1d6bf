-- Laws of carries and borrows: what one wrapping sum or difference drops, and that two in a row drop at most one 2^64. Assumes nothing.
use Rattle.std.proofs.Common.{◌≡◌, ℕ, ◌+◌, ◌-◌, ◌*◌, ◌/◌, ◌%◌, ◌^◌, ◌<◌, ◌≤◌, Bool, true, false, ◌||◌, ltb, sym, refl, ap, ◌∙◌, mod-eq_of_lt, zero-add, arith, le-ltb, lt-ltb}
use native.Mathlib.Decide.{dec_le}
use native.Mathlib.Nat.{add-mul-div_left, add-mul-mod_self_left, div-eq_of_lt}
use mir.Val.{bool_byte}
use Rattle.limb.specs.Carry.{bit}

pub bit_le : (p : Bool) → bit p ≤ 1
unfolding bit
bit_le true = omega arith
bit_le false = omega arith

-- a bool cast to a number is its bit
pub bit_byte : (p : Bool) → bit p ≡ bool_byte p
unfolding bit
bit_byte true = refl
bit_byte false = refl

pub byte_le : (p : Bool) → bool_byte p ≤ 1
byte_le p = rw bit_byte at (bit_le p)

-- a wrapping sum comes out below its first operand exactly when it dropped 2^64
pub sum_carry : (a b s : ℕ) → a < 2 ^ 64 → b < 2 ^ 64 → s ≡ (a + b) % 2 ^ 64 → s + 2 ^ 64 * bit (ltb s a) ≡ a + b
unfolding bit
sum_carry a b s ha hb e =
    elim (dec_le a s) [
      | yes h ↦ rw (le-ltb s a h) (omega arith)
      | no h ↦ rw (lt-ltb s a (omega arith)) (omega arith)
    ]

-- a wrapping difference borrows 2^64 exactly when its first operand is below its second
pub difference_borrow : (a b d : ℕ) → a < 2 ^ 64 → b < 2 ^ 64 → d < 2 ^ 64 → (d + b) % 2 ^ 64 ≡ a → d + b ≡ a + 2 ^ 64 * bit (ltb a b)
unfolding bit
difference_borrow a b d ha hb hd e =
    elim (dec_le b a) [
      | yes h ↦ rw (le-ltb a b h) (omega arith)
      | no h ↦ rw (lt-ltb a b (omega arith)) (omega arith)
    ]

-- so it does as the machine takes it
pub wrapped_lt : (a b : ℕ) → (a + (2 ^ 64 - b)) % 2 ^ 64 < 2 ^ 64
wrapped_lt a b = omega arith

pub wrapped_borrow : (a b : ℕ) → a < 2 ^ 64 → b < 2 ^ 64 → (a + (2 ^ 64 - b)) % 2 ^ 64 + b ≡ a + 2 ^ 64 * bit (ltb a b)
wrapped_borrow a b ha hb = difference_borrow a b _ ha hb (wrapped_lt a b) (omega arith)

module _ (B : ℕ) where
  -- two sums in a row, the second of them with 1 at most: one of the two at most carries
  pub two_sums : (a b x y c : ℕ) (p q : Bool) → a < B → b < B → c ≤ 1 → x + B * bit p ≡ a + b → y + B * bit q ≡ x + c
      → y + B * bit (p || q) ≡ a + b + c
  unfolding bit
  two_sums a b x y c true true ha hb hc ex ey = absurd (omega arith)
  two_sums a b x y c true false ha hb hc ex ey = omega arith
  two_sums a b x y c false true ha hb hc ex ey = omega arith
  two_sums a b x y c false false ha hb hc ex ey = omega arith

  -- two differences in a row
  pub two_differences : (a b x y c : ℕ) (p q : Bool) → b < B → y < B → c ≤ 1 → x + b ≡ a + B * bit p → y + c ≡ x + B * bit q
      → y + b + c ≡ a + B * bit (p || q)
  unfolding bit
  two_differences a b x y c true true hb hy hc ex ey = absurd (omega arith)
  two_differences a b x y c true false hb hy hc ex ey = omega arith
  two_differences a b x y c false true hb hy hc ex ey = omega arith
  two_differences a b x y c false false hb hy hc ex ey = omega arith

  -- a limb and a carry are fixed by the number that they stand for: two sums that meet the promise agree
  pub sum_unique : (s t n : ℕ) (p q : Bool) → s < B → t < B → s + B * bit p ≡ n → t + B * bit q ≡ n → (s ≡ t) × (p ≡ q)
  unfolding bit
  sum_unique s t n true true hs ht e f = (omega arith, refl)
  sum_unique s t n true false hs ht e f = absurd (omega arith)
  sum_unique s t n false true hs ht e f = absurd (omega arith)
  sum_unique s t n false false hs ht e f = (omega arith, refl)

  -- and so do two differences
  pub difference_unique : (s t n a : ℕ) (p q : Bool) → s < B → t < B → s + n ≡ a + B * bit p → t + n ≡ a + B * bit q → (s ≡ t) × (p ≡ q)
  unfolding bit
  difference_unique s t n a true true hs ht e f = (omega arith, refl)
  difference_unique s t n a true false hs ht e f = absurd (omega arith)
  difference_unique s t n a false true hs ht e f = absurd (omega arith)
  difference_unique s t n a false false hs ht e f = (omega arith, refl)

  -- the limb is what stays below the base, and the carry is 1 exactly when something was dropped
  pub sum_drops : (s n : ℕ) (p : Bool) → s < B → s + B * bit p ≡ n → (s ≡ n % B) × (bit p ≡ n / B)
  sum_drops s n p hs e = (
    sym (ap (λ (m : ℕ). m % B) (sym e) ∙ add-mul-mod_self_left s B (bit p) ∙ mod-eq_of_lt hs),
    sym (ap (λ (m : ℕ). m / B) (sym e) ∙ add-mul-div_left s (bit p) (omega arith) ∙ ap (λ (m : ℕ). m + bit p) (div-eq_of_lt hs) ∙ zero-add _),
  )
