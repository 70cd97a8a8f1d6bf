-- Laws of a rest: one word of it, digits more below it, and the rest of what a window shows. Assumes nothing.
use mathlib.Core.Path.{◌≡◌, refl, sym, ap, ◌∙◌, subst}
use mathlib.Core.Bool.{Bool, true, false, not, ◌&&◌, ◌||◌}
use Prim.Native.Nat.{ℕ, zero, suc, ◌+◌, ◌-◌, ◌*◌, ◌/◌, ◌%◌, ◌^◌, ◌≤◌, ◌<◌}
use native.Mathlib.Decide.{dec_le}
use native.Mathlib.Nat.{mul-le-mul_right, add-mul-mod_self_left, add-mul-div_left, pos_of_ne-zero}
use native.Mathlib.Omega.{arith}
use lib.Dec.{ltb, eqb}
use lib.Pow.{pow-add, pow_pos, pow_mono, shr-shr, mod-pow-add, high, low}
use borrow.Author.Tests.{eqb-true, eqb-false, ltb-true, ltb-false, eq-eqb, ne_eqb, lt-ltb, le-ltb}
use Rattle.limb.proofs.Powers.{pow_split}
use Rattle.walk.specs.declared.state.Tail.TheVariants.{Empty, Zeros, Ones, Mixed}
use Rattle.remnant.specs.declared.rest.Rest.{Rest}
use Rattle.remnant.specs.Rest.{Marks, RestAt, LongerRest, TailedRest}
use Rattle.walk.proofs.Tails.{weight_large}

-- ---- tests that say the same

pub eqb_same : (a b c d : ℕ) → (a ≡ b → c ≡ d) → (c ≡ d → a ≡ b) → eqb a b ≡ eqb c d
eqb_same a b c d f g = go (eqb a b) refl
  where
    go : (t : Bool) → eqb a b ≡ t → eqb a b ≡ eqb c d
    go true e = e ∙ sym (eq-eqb c d (f (eqb-true a b e)))
    go false e = e ∙ sym (ne_eqb c d (λ q. eqb-false a b e (g q)))

ltb_same : (a b c d : ℕ) → (a < b → c < d) → (b ≤ a → d ≤ c) → ltb a b ≡ ltb c d
ltb_same a b c d f g = go (ltb a b) refl
  where
    go : (t : Bool) → ltb a b ≡ t → ltb a b ≡ ltb c d
    go true e = e ∙ sym (lt-ltb c d (f (ltb-true a b e)))
    go false e = e ∙ sym (le-ltb c d (g (ltb-false a b e)))

pub both_same : (a b c d m n : ℕ) → (a ≡ b → c ≡ d → m ≡ n) → (m ≡ n → (a ≡ b) × (c ≡ d)) → eqb a b && eqb c d ≡ eqb m n
both_same a b c d m n h k = go (eqb a b) refl (eqb c d) refl
  where
    go : (s : Bool) → eqb a b ≡ s → (t : Bool) → eqb c d ≡ t → s && t ≡ eqb m n
    go true e true f = sym (eq-eqb m n (h (eqb-true a b e) (eqb-true c d f)))
    go true e false f = sym (ne_eqb m n (λ q. eqb-false c d f (k q).1))
    go false e t f = sym (ne_eqb m n (λ q. eqb-false a b e (k q).0))

-- ---- a digit s below M, under r

module _ (r g M s : ℕ) (l : s < M) where
  pub whole_is : r * M + s ≡ g * M → (r ≡ g) × (s ≡ 0)
  whole_is e =
      let most : r ≤ g = le_of_not_lt (λ (h : suc g ≤ r). omega (arith, mul-le-mul_right M h)) in
      let least : g ≤ r = le_of_not_lt (λ (h : suc r ≤ g). omega (arith, mul-le-mul_right M h)) in
      let same : r ≡ g = omega arith in
      (same, omega (arith, ap (λ (x : ℕ). x * M) same))
    where
      le_of_not_lt : {a b : ℕ} → (suc b ≤ a → ⊥) → a ≤ b
      le_of_not_lt h = omega (arith, h)

  pub next_is : suc (r * M + s) ≡ g * M → (suc r ≡ g) × (suc s ≡ M)
  next_is e =
      let most : suc r ≤ g = le_of_not_lt (λ (h : suc g ≤ suc r). omega (arith, mul-le-mul_right M h)) in
      let least : g ≤ suc r = le_of_not_lt (λ (h : suc (suc r) ≤ g). omega (arith, mul-le-mul_right M h)) in
      let same : suc r ≡ g = omega arith in
      (same, omega (arith, ap (λ (x : ℕ). x * M) same))
    where
      le_of_not_lt : {a b : ℕ} → (suc b ≤ a → ⊥) → a ≤ b
      le_of_not_lt h = omega (arith, h)

module _ (r h M s : ℕ) (l : s < M) where
  zero_more : eqb r 0 && eqb s 0 ≡ eqb (r * M + s) 0
  zero_more = both_same r 0 s 0 (r * M + s) 0 (λ e f. omega (arith, ap (λ (x : ℕ). x * M) e)) (λ e. whole_is r 0 M s l (omega arith))

  ones_more : eqb (suc r) (2 * h) && eqb (suc s) M ≡ eqb (suc (r * M + s)) (2 * h * M)
  ones_more = both_same (suc r) (2 * h) (suc s) M (suc (r * M + s)) (2 * h * M) (λ e f. omega (arith, ap (λ (x : ℕ). x * M) e)) (λ e. next_is r (2 * h) M s l e)

  almost_more : eqb (suc r * 2) (2 * h) && eqb (suc s) M ≡ eqb (suc (r * M + s) * 2) (2 * h * M)
  almost_more =
      both_same (suc r * 2) (2 * h) (suc s) M (suc (r * M + s) * 2) (2 * h * M) (λ e f. let g : suc r ≡ h = omega arith in omega (arith, ap (λ (x : ℕ). x * M) g))
      (λ e. let n = next_is r h M s l (omega arith) in (omega (arith, n.0), n.1))

  half_more : eqb (r * 2) (2 * h) && eqb s 0 ≡ eqb ((r * M + s) * 2) (2 * h * M)
  half_more =
      both_same (r * 2) (2 * h) s 0 ((r * M + s) * 2) (2 * h * M) (λ e f. let g : r ≡ h = omega arith in omega (arith, ap (λ (x : ℕ). x * M) g))
      (λ e. let n = whole_is r h M s l (omega arith) in (omega (arith, n.0), n.1))

  above_more : ltb (2 * h) (r * 2) || (eqb (r * 2) (2 * h) && not (eqb s 0)) ≡ ltb (2 * h * M) ((r * M + s) * 2)
  above_more = go (ltb (2 * h) (r * 2)) refl (eqb (r * 2) (2 * h)) refl (eqb s 0) refl
    where
      go : (a : Bool) → ltb (2 * h) (r * 2) ≡ a → (b : Bool) → eqb (r * 2) (2 * h) ≡ b → (c : Bool) → eqb s 0 ≡ c → a || (b && not c) ≡ ltb (2 * h * M) ((r * M + s) * 2)
      go true e b f c g = sym (lt-ltb (2 * h * M) ((r * M + s) * 2) (let up : suc h ≤ r = omega (arith, ltb-true (2 * h) (r * 2) e) in omega (arith, mul-le-mul_right M up)))
      go false e true f true g = sym (le-ltb (2 * h * M) ((r * M + s) * 2) (let same : r ≡ h = omega (arith, eqb-true (r * 2) (2 * h) f) in omega (arith, eqb-true s 0 g, ap (λ (x : ℕ). x * M) same)))
      go false e true f false g =
          sym (lt-ltb (2 * h * M) ((r * M + s) * 2) (let same : r ≡ h = omega (arith, eqb-true (r * 2) (2 * h) f) in let some : 0 < s = pos_of_ne-zero (eqb-false s 0 g) in omega (arith, ap (λ (x : ℕ). x * M) same)))
      go false e false f c g =
          sym (le-ltb (2 * h * M) ((r * M + s) * 2)
          (let most : r ≤ h = omega (arith, ltb-false (2 * h) (r * 2) e) in
          let less : r < h = elim (dec_le h r) [ yes q ↦ absurd (eqb-false (r * 2) (2 * h) f (omega arith)) | no q ↦ omega (arith, q) ] in
          omega (arith, mul-le-mul_right M less)))

-- ---- digits more below

module _ (n d e s : ℕ) (l : s < 2 ^ e) where
  pub rest_longer : (n * 2 ^ e + s) % 2 ^ (d + e) ≡ n % 2 ^ d * 2 ^ e + s
  rest_longer =
      mod-pow-add (n * 2 ^ e + s) d e ∙ ap (λ (x : ℕ). x % 2 ^ d * 2 ^ e + (n * 2 ^ e + s) % 2 ^ e) (high n e l) ∙ ap (λ (x : ℕ). n % 2 ^ d * 2 ^ e + x) (low n e l)

  pub kept_longer : (n * 2 ^ e + s) / 2 ^ (d + e) ≡ n / 2 ^ d
  kept_longer =
      ap (λ (x : ℕ). (n * 2 ^ e + s) / 2 ^ x) (omega arith) ∙ sym (shr-shr (n * 2 ^ e + s) e d) ∙ ap (λ (x : ℕ). x / 2 ^ d) (high n e l)

pub twice_half : (d : ℕ) → 0 < d → 2 ^ d ≡ 2 * 2 ^ (d - 1)
twice_half d h = ap (λ (x : ℕ). 2 ^ x) (omega arith) ∙ pow-add 2 1 (d - 1)

pub longer_is : (x : Rest) (z o : Bool) (n d e s : ℕ) → 0 < d → RestAt n d x → s < 2 ^ e → eqb s 0 ≡ z → eqb (suc s) (2 ^ e) ≡ o
    → RestAt (n * 2 ^ e + s) (d + e) (record {
      enough = true;
      empty = false;
      zero = x.zero && z;
      ones = x.ones && o;
      almost = x.almost && o;
      half = x.half && z;
      above = x.above || (x.half && not z);
      odd = x.odd;
    })
longer_is x z o n d e s some r l ez eo =
    let h : ℕ = 2 ^ (d - 1) in
    let M : ℕ = 2 ^ e in
    let q : ℕ = n % 2 ^ d in
    let u : 2 ^ d ≡ 2 * h = twice_half d some in
    let v : 2 ^ (d + e) ≡ 2 * h * M = pow-add 2 d e ∙ ap (λ (y : ℕ). y * M) u in
    let w : (n * 2 ^ e + s) % 2 ^ (d + e) ≡ q * M + s = rest_longer n d e s l in
    let m = r.marks in
    record {
      enough = refl;
      empty = refl;
      marks = record {
        zero = ap (λ (b : Bool). b && z) m.zero ∙ ap (λ (b : Bool). eqb q 0 && b) (sym ez) ∙ zero_more q h M s l ∙ ap (λ (y : ℕ). eqb y 0) (sym w);
        ones = ap (λ (b : Bool). b && o) (m.ones ∙ ap (λ (y : ℕ). eqb (suc q) y) u) ∙ ap (λ (b : Bool). eqb (suc q) (2 * h) && b) (sym eo) ∙ ones_more q h M s l
            ∙ ap (λ (y : ℕ). eqb (suc y) (2 * h * M)) (sym w) ∙ ap (λ (y : ℕ). eqb (suc ((n * 2 ^ e + s) % 2 ^ (d + e))) y) (sym v);
        almost = ap (λ (b : Bool). b && o) (m.almost ∙ ap (λ (y : ℕ). eqb (suc q * 2) y) u) ∙ ap (λ (b : Bool). eqb (suc q * 2) (2 * h) && b) (sym eo) ∙ almost_more q h M s l
            ∙ ap (λ (y : ℕ). eqb (suc y * 2) (2 * h * M)) (sym w) ∙ ap (λ (y : ℕ). eqb (suc ((n * 2 ^ e + s) % 2 ^ (d + e)) * 2) y) (sym v);
        half = ap (λ (b : Bool). b && z) (m.half ∙ ap (λ (y : ℕ). eqb (q * 2) y) u) ∙ ap (λ (b : Bool). eqb (q * 2) (2 * h) && b) (sym ez) ∙ half_more q h M s l
            ∙ ap (λ (y : ℕ). eqb (y * 2) (2 * h * M)) (sym w) ∙ ap (λ (y : ℕ). eqb ((n * 2 ^ e + s) % 2 ^ (d + e) * 2) y) (sym v);
        above = ap (λ (b : Bool). b || (x.half && not z)) (m.above ∙ ap (λ (y : ℕ). ltb y (q * 2)) u) ∙ ap (λ (b : Bool). ltb (2 * h) (q * 2) || (b && not z)) (m.half ∙ ap (λ (y : ℕ). eqb (q * 2) y) u)
            ∙ ap (λ (b : Bool). ltb (2 * h) (q * 2) || (eqb (q * 2) (2 * h) && not b)) (sym ez) ∙ above_more q h M s l
            ∙ ap (λ (y : ℕ). ltb (2 * h * M) (y * 2)) (sym w) ∙ ap (λ (y : ℕ). ltb y ((n * 2 ^ e + s) % 2 ^ (d + e) * 2)) (sym v);
      };
      odd = r.odd ∙ ap (λ (y : ℕ). eqb (y % 2) 1) (sym (kept_longer n d e s l));
    }

-- ---- one word

module _ (h word bits : ℕ) (few : bits ≤ 64) where
  word_split : (Q P : ℕ) → 2 ^ 64 ≡ Q * P → h * 2 ^ 64 + word ≡ word + Q * (P * h)
  word_split Q P e = omega (arith, ap (λ (x : ℕ). h * x) e)

  pub word_low : (h * 2 ^ 64 + word) % 2 ^ bits ≡ word % 2 ^ bits
  word_low = ap (λ (x : ℕ). x % 2 ^ bits) (word_split (2 ^ bits) (2 ^ (64 - bits)) (pow_split 2 bits 64 few)) ∙ add-mul-mod_self_left word (2 ^ bits) (2 ^ (64 - bits) * h)

  -- the bits above them
  pub word_high : (h * 2 ^ 64 + word) / 2 ^ bits ≡ word / 2 ^ bits + 2 ^ (64 - bits) * h
  word_high = ap (λ (x : ℕ). x / 2 ^ bits) (word_split (2 ^ bits) (2 ^ (64 - bits)) (pow_split 2 bits 64 few)) ∙ add-mul-div_left word (2 ^ (64 - bits) * h) (pow_pos bits)

  -- the bit above the low bits stands in the word
  pub word_above : (bits ≡ 64 → ⊥) → (h * 2 ^ 64 + word) / 2 ^ bits % 2 ≡ word / 2 ^ bits % 2
  word_above ne =
      let even : 2 ^ (64 - bits) ≡ 2 * 2 ^ (64 - bits - 1) = twice_half (64 - bits) (omega arith) in
      even_part (word / 2 ^ bits) ((h * 2 ^ 64 + word) / 2 ^ bits) (2 ^ (64 - bits)) (2 ^ (64 - bits - 1)) even word_high
    where
      even_part : (a b P Q : ℕ) → P ≡ 2 * Q → b ≡ a + P * h → b % 2 ≡ a % 2
      even_part a b P Q e f = let g : b ≡ a + 2 * (Q * h) = f ∙ ap (λ (x : ℕ). a + x) (omega (arith, ap (λ (x : ℕ). x * h) e)) in omega arith

-- twice half a weight, less one, fits a word
pub half_fits : (bits : ℕ) → 0 < bits → bits ≤ 64 → 2 ^ (bits - 1) - 1 + 2 ^ (bits - 1) < 2 ^ 64
half_fits bits h l = omega (arith, pow_mono {i = bits} {j = 64} l, twice_half bits h, pow_pos (bits - 1))

-- the tests of a word's rest r, against half its weight u
pub word_marks : (r u h : ℕ) (x : Rest) → 0 < h → u ≡ 2 * h → x.zero ≡ eqb r 0 → x.ones ≡ eqb r (h - 1 + h) → x.almost ≡ eqb r (h - 1) → x.half ≡ eqb r h → x.above ≡ ltb h r → Marks r u x
word_marks r u h x some e z o a f g = record {
  zero = z;
  ones = o ∙ eqb_same r (h - 1 + h) (suc r) u (λ q. omega arith) (λ q. omega arith);
  almost = a ∙ eqb_same r (h - 1) (suc r * 2) u (λ q. omega arith) (λ q. omega arith);
  half = f ∙ eqb_same r h (r * 2) u (λ q. omega arith) (λ q. omega arith);
  above = g ∙ ltb_same h r u (r * 2) (λ q. omega arith) (λ q. omega arith);
}

-- ---- a tail

pub tail_none : (x : Rest) → TailedRest x Empty x
tail_none x n d t s some r (e, f) =
    let same : n ≡ n * 2 ^ (64 * t) + s = rw (e, f) (omega arith) in
    let far : d ≡ d + 64 * t = omega arith in
    subst (λ (y : ℕ). RestAt (n * 2 ^ (64 * t) + s) y x) far (subst (λ (y : ℕ). RestAt y d x) same r)

module _ (x next : Rest) where
  pub tail_zeros : LongerRest x 0 next → TailedRest x Zeros next
  tail_zeros l n d t s some r (e, f) =
      let large = weight_large t e in
      l n d (64 * t) s some r (omega arith) (eq-eqb s 0 f) (ne_eqb (suc s) (2 ^ (64 * t)) (λ q. omega arith))

  pub tail_ones : LongerRest x 18446744073709551615 next → TailedRest x Ones next
  tail_ones l n d t s some r (e, f) =
      let large = weight_large t e in
      l n d (64 * t) s some r (omega arith) (ne_eqb s 0 (λ q. omega arith)) (eq-eqb (suc s) (2 ^ (64 * t)) f)

  pub tail_mixed : LongerRest x 1 next → TailedRest x Mixed next
  tail_mixed l n d t s some r (e, f, g) =
      l n d (64 * t) s some r (omega arith) (ne_eqb s 0 (λ q. omega arith)) (ne_eqb (suc s) (2 ^ (64 * t)) (λ q. omega arith))

  -- a whole word
  pub word_longer : (word n d : ℕ) → LongerRest x word next → word < 2 ^ 64 → 0 < d → RestAt n d x → RestAt (n * 2 ^ 64 + word) (d + 64) next
  word_longer word n d l h some r = l n d 64 word some r h refl (eqb_same (suc word) (2 ^ 64) word 18446744073709551615 (λ q. omega arith) (λ q. omega arith))
