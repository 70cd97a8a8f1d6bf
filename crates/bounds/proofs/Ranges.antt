-- The range tests: a carry makes the selected number one digit longer, and outside the near ranges no test holds.
use mathlib.Core.Path.{◌≡◌, refl, sym, ap, ◌∙◌}
use mathlib.Core.Logic.{inl, inr}
use mathlib.Core.Bool.{Bool, true, false, cond, ◌&&◌, and_comm}
use Prim.Native.Nat.{ℕ, zero, suc, ◌+◌, ◌-◌, ◌*◌, ◌/◌, ◌%◌, ◌^◌, ◌≤◌, ◌<◌, Ordering}
use native.Mathlib.Nat.{le_of_eq, lt_of_lt_of_le, div-one, pow-succ'}
use native.Mathlib.Omega.{arith}
use borrow.Author.Tests.{eq-eqb, ne_eqb, lt-ltb, le-ltb, ltb-false, leb-false}
use lib.Dec.{ltb, eqb}
use lib.Pow.{pow-lt}
use lib.Ieee.{size}
use lib.Ieee.Digits.{size-lt, size-le}
use Rattle.limb.specs.Carry.{bit}
use Rattle.numbers.specs.Limits.{bias, least_exponent, most_exponent}
use Rattle.rounding.specs.Mode.{Way, near, under, over}
use Rattle.rounding.proofs.Order.{le_or_lt}
use Rattle.decide.specs.Class.{lean, enough}
use Rattle.decide.specs.Range.{bump, carry, short_least, short_most, large?, small?}
use Rattle.bounds.specs.Ends.{Ones}

pub bit_cond : (b : Bool) → bit b ≡ cond b 1 0
unfolding bit
bit_cond true = refl
bit_cond false = refl

-- ---- enough digits: up to 2 ^ p

module _ (w : Way) (p D : ℕ) (more : Bool) where
  abbrev u : ℕ
  u = 2 ^ (size D - p)

  abbrev leaning : Ordering
  leaning = lean w (D / u) u (D % u) more

  bumped : (o : Ordering) → leaning ≡ o → bump o p (D / u) ≡ carry w p D more
  unfolding carry
  bumped o e = ap (λ (v : Ordering). bump v p (D / u)) (sym e)

  pub carry_high : (ones : Bool) → ones ≡ eqb (suc (D / u)) (2 ^ p) → leaning ≡ Ordering.gt → bit ones ≡ carry w p D more
  unfolding bump
  carry_high ones is e = bit_cond ones ∙ ap (λ (b : Bool). cond b 1 0) is ∙ bumped Ordering.gt e

  pub carry_low : leaning ≡ Ordering.lt → bit false ≡ carry w p D more
  unfolding bump
  carry_low e = bit_cond false ∙ bumped Ordering.lt e

  pub carry_even : leaning ≡ Ordering.eq → bit false ≡ carry w p D more
  unfolding bump
  carry_even e = bit_cond false ∙ bumped Ordering.eq e

-- ---- too few

module _ (p D : ℕ) (ones : Bool) (is : Ones p D ones) where
  -- all digits are 1
  all_ones : size D ≤ p → ones ≡ eqb (suc D) (2 ^ size D)
  all_ones h = elim (le_or_lt p (size D)) [
    | inr k ↦ is.short k
    | inl k ↦ is.long k ∙ ap (λ (v : ℕ). eqb (suc (D / 2 ^ v)) (2 ^ p)) (none (size D) h k) ∙ ap (λ (v : ℕ). eqb (suc v) (2 ^ p)) (div-one D) ∙ ap (λ (v : ℕ). eqb (suc D) (2 ^ v)) (omega arith)
  ]
    where
      none : (s : ℕ) → s ≤ p → p ≤ s → s - p ≡ 0
      none s h k = omega arith

  pub least_near : (digits : ℕ) (half : Bool) → digits ≡ size D → enough near p D ≡ false → bit ((half && eqb digits p) && ones) ≡ short_least near p D half
  unfolding enough short_least
  least_near digits half d e = bit_cond ((half && eqb digits p) && ones) ∙ ap (λ (b : Bool). cond b 1 0) (go half)
    where
      few : size D ≤ p
      few = ltb-false p (size D) e

      tie : (eqb digits p && ones) ≡ eqb (suc D) (2 ^ p)
      tie = elim (le_or_lt p (size D)) [
        | inl k ↦ rw (eq-eqb digits p (omega (arith, few))) (all_ones few ∙ ap (λ (v : ℕ). eqb (suc D) (2 ^ v)) (omega (arith, few)))
        | inr k ↦ rw (ne_eqb digits p (λ f. omega arith)) (sym (ne_eqb (suc D) (2 ^ p) (λ f. less (2 ^ size D) (2 ^ p) f (size-lt D) (pow-lt k))))
      ]
        where
          less : (a b : ℕ) → suc D ≡ b → D < a → a < b → ⊥
          less a b f g h = omega arith

      go : (half : Bool) → ((half && eqb digits p) && ones) ≡ (half && eqb (suc D) (2 ^ p))
      go true = tie
      go false = refl

  most_ones : (digits tail : ℕ) → digits ≡ size D → size D ≤ p → bit (ltb p (digits + tail) && ones) ≡ cond (eqb (suc D) (2 ^ size D) && ltb p (size D + tail)) 1 0
  most_ones digits tail d few =
      bit_cond (ltb p (digits + tail) && ones)
      ∙ ap (λ (b : Bool). cond b 1 0) (and_comm (ltb p (digits + tail)) ones ∙ ap (λ (b : Bool). b && ltb p (digits + tail)) (all_ones few) ∙ ap (λ (v : ℕ). eqb (suc D) (2 ^ size D) && ltb p (v + tail)) d)

  pub most_near : (digits tail : ℕ) → digits ≡ size D → enough near p D ≡ false → bit (ltb p (digits + tail) && ones) ≡ short_most near p D tail
  unfolding enough short_most
  most_near digits tail d e = most_ones digits tail d (ltb-false p (size D) e)

  pub most_over : (digits tail : ℕ) → digits ≡ size D → enough over p D ≡ false → bit (ltb p (digits + tail) && ones) ≡ short_most over p D tail
  unfolding enough short_most
  most_over digits tail d e = most_ones digits tail d (omega (arith, leb-false p (size D) e))

pub least_directed : (p D : ℕ) (half : Bool) → (bit false ≡ short_least under p D half) × (bit false ≡ short_least over p D half)
unfolding bit short_least
least_directed p D half = (refl, refl)

pub most_under : (p D tail : ℕ) → bit false ≡ short_most under p D tail
unfolding bit short_most
most_under p D tail = refl

-- which of the two
pub grown : (e : Bool) (a b n : ℕ) → e ≡ true → n ≡ a → n ≡ cond e a b
grown e a b n h k = rw h k

pub grown_short : (e : Bool) (a b n : ℕ) → e ≡ false → n ≡ b → n ≡ cond e a b
grown_short e a b n h k = rw h k

-- ---- against the ends of the range

ltb_shift : (a b c : ℕ) → ltb (a + c) (b + c) ≡ ltb a b
ltb_shift a b c = elim (le_or_lt b a) [
  | inl h ↦ le-ltb (a + c) (b + c) (omega arith) ∙ sym (le-ltb a b h)
  | inr h ↦ lt-ltb (a + c) (b + c) (omega arith) ∙ sym (lt-ltb a b h)
]

module _ (w : Way) (p D : ℕ) (digits n top c : ℕ) (d : digits ≡ size D) (l : c ≤ top) where
  sum : (s x : ℕ) → digits ≡ s → n ≡ x → digits + n + top ≡ s + x + (top - c) + c
  sum s x d e = omega arith

  pub large_is : (far half : Bool) → n ≡ cond (enough w p D) (carry w p D far) (short_least w p D half) → ltb (1100585369599 + c) (digits + n + top) ≡ large? w p (top - c) D far half
  unfolding large? most_exponent bias
  large_is far half e = ap (ltb (1100585369599 + c)) (sum (size D) _ d e) ∙ ltb_shift 1100585369599 _ c

  pub small_is : (more : Bool) (tail : ℕ) → n ≡ cond (enough w p D) (carry w p D more) (short_most w p D tail) → ltb (digits + n + top) (1098437885953 + c) ≡ small? w p (top - c) D more tail
  unfolding small? least_exponent bias
  small_is more tail e = ap (λ (v : ℕ). ltb v (1098437885953 + c)) (sum (size D) _ d e) ∙ ltb_shift _ 1098437885953 c

-- ---- outside the near ranges

one_at_most : (b : Bool) → cond b 1 0 ≤ 1
one_at_most true = omega arith
one_at_most false = omega arith

bump_le : (o : Ordering) (p q : ℕ) → bump o p q ≤ 1
unfolding bump
bump_le Ordering.lt p q = omega arith
bump_le Ordering.eq p q = omega arith
bump_le Ordering.gt p q = one_at_most (eqb (suc q) (2 ^ p))

pub carry_le : (w : Way) (p D : ℕ) (more : Bool) → carry w p D more ≤ 1
unfolding carry
carry_le w p D more = bump_le _ p _

pub short_le : (w : Way) (p D : ℕ) (half : Bool) → short_least w p D half ≤ 1
unfolding short_least
short_le near p D half = one_at_most (half && eqb (suc D) (2 ^ p))
short_le under p D half = omega arith
short_le over p D half = omega arith

-- of so many digits, D lies below 2 * 2 ^ (64 * k): then a sum is not too large
pub not_large : (w : Way) (p top k D : ℕ) (more half : Bool) → 64 * k ≤ top → ltb most_exponent (top + 2) ≡ false → D < 2 * 2 ^ (64 * k) → large? w p (top - 64 * k) D more half ≡ false
unfolding large?
not_large w p top k D more half l h b = le-ltb most_exponent _ (go (size D) (64 * k) most_exponent (enough w p D) (size-le D (suc (64 * k)) (lt_of_lt_of_le b (le_of_eq (sym (pow-succ' 2 (64 * k)))))) l (ltb-false most_exponent (top + 2) h))
  where
    either : (e : Bool) → cond e (carry w p D more) (short_least w p D half) ≤ 1
    either true = carry_le w p D more
    either false = short_le w p D half

    sum : (s x c M : ℕ) → x ≤ 1 → s ≤ suc c → c ≤ top → top + 2 ≤ M → s + x + (top - c) ≤ M
    sum s x c M i j k h = omega arith

    go : (s c M : ℕ) (e : Bool) → s ≤ suc c → c ≤ top → top + 2 ≤ M → s + cond e (carry w p D more) (short_least w p D half) + (top - c) ≤ M
    go s c M e i j h = sum s _ c M (either e) i j h

-- and a difference that is not 0 is not too small
pub not_small : (w : Way) (p top k D : ℕ) (more : Bool) (tail : ℕ) → 64 * k ≤ top → ltb (top + 1) (least_exponent + 64 * k) ≡ false → 0 < D → small? w p (top - 64 * k) D more tail ≡ false
unfolding small?
not_small w p top k D more tail l h b = le-ltb _ least_exponent (go (size D) _ (64 * k) least_exponent (some (size D) (size-lt D)) l (ltb-false (top + 1) (least_exponent + 64 * k) h))
  where
    some : (s : ℕ) → D < 2 ^ s → 1 ≤ s
    some zero h = absurd (omega arith)
    some (suc s) h = omega arith

    go : (s x c m : ℕ) → 1 ≤ s → c ≤ top → m + c ≤ top + 1 → m ≤ s + x + (top - c)
    go s x c m i j h = omega arith

-- a tail by its number
pub small_tail : (w : Way) (p e D : ℕ) (r : Bool) (m n : ℕ) → m ≡ n → r ≡ small? w p e D (ltb 0 m) m → r ≡ small? w p e D (ltb 0 n) n
small_tail w p e D r m n h k = k ∙ ap (λ (v : ℕ). small? w p e D (ltb 0 v) v) h
