-- Laws of what is read of a sum by value: its first column, changed by one, and one column more below it. Assumes nothing.
use mathlib.Core.Path.{◌≡◌, refl, sym, ap, ◌∙◌, subst}
use mathlib.Core.Bool.{Bool, true, false, not, ◌&&◌, ◌||◌}
use Prim.Native.Nat.{ℕ, zero, suc, ◌+◌, ◌-◌, ◌*◌, ◌^◌, ◌≤◌, ◌<◌}
use native.Mathlib.Nat.{mul-le-mul_right, lt_of_not-le, lt_of_mul-lt-mul_left}
use native.Mathlib.Omega.{arith}
use lib.Count.{count_leading_zeros, leading_top}
use lib.Ieee.{size}
use Rattle.limb.specs.Carry.{bit}
use Rattle.limb.proofs.Sizes.{size_is, size_zero}
use Rattle.limb.proofs.Tests.{true_false}
use Rattle.walk.specs.declared.state.Tail.{Tail}
use Rattle.walk.specs.declared.change.Change.{Change}
use Rattle.walk.specs.declared.change.Change.TheVariants.{Rise, Fall}
use Rattle.std.specs.Prelude.{Option, Some, None}
use Rattle.std.specs.Bool.{then_some}
use Rattle.walk.specs.Change.{Moved}
use Rattle.walk.specs.Tail.{Unmixed, PassesTail}
use Rattle.walk.proofs.Tails.{column_weight}
use Rattle.front.specs.declared.showing.Front.{Front}
use Rattle.front.specs.Front.{first_of, ShowsFront, Changed, FrontGrown, Stepped}

abbrev pub front_of : Bool → ℕ → Tail → Front
front_of carry limb tail = record { carry = carry; limb = limb; tail = tail }

-- ---- the first column alone

-- a limb and a carry stand for the sum that they came from
pub first_sum : (carry : Bool) (limb u low : ℕ) (tail : Tail) → limb + 2 ^ 64 * bit carry ≡ u + low + bit false → first_of (front_of carry limb tail) ≡ u + low
unfolding first_of bit
first_sum carry limb u low tail e = omega arith

-- and without a carry the limb is all of it
pub first_limb : (limb : ℕ) (tail : Tail) → first_of (front_of false limb tail) ≡ limb
unfolding first_of bit
first_limb limb tail = omega arith

-- ---- its digits

-- a carry is the first of 65
pub digits_carry : (f : Front) → f.limb < 2 ^ 64 → f.carry ≡ true → 65 ≡ size (first_of f)
unfolding first_of bit
digits_carry f l c = rw c (sym (size_is (1 * 2 ^ 64 + f.limb) 64 (omega arith) (omega arith)))

limb_digits : (x : ℕ) → x < 2 ^ 64 → 64 - count_leading_zeros 64 x ≡ size x
unfolding count_leading_zeros
limb_digits zero l = sym size_zero
limb_digits (suc x) l =
    let t = leading_top 64 (suc x) (omega arith) l in
    let z : 64 - count_leading_zeros 64 (suc x) ≡ suc t.0 = omega (arith, t.1) in
    z ∙ sym (size_is (suc x) t.0 t.2 t.3)

-- without one the limb has them all
pub digits_limb : (f : Front) → f.limb < 2 ^ 64 → f.carry ≡ false → 64 - count_leading_zeros 64 f.limb ≡ size (first_of f)
unfolding first_of bit
digits_limb f l c = limb_digits f.limb l ∙ rw c (ap size (omega arith))

-- ---- changed by one

module _ (carry : Bool) (limb : ℕ) (tail : Tail) where
  pub first_stays : Changed carry limb tail None (front_of carry limb tail)
  unfolding first_of
  first_stays = record { same_tail = refl; first = λ m e small. sym e }

  -- a carry out of the limb is the carry above it, which was 0
  pub first_rises : (s : ℕ) (out : Bool) → s + 2 ^ 64 * bit out ≡ limb + 1 + bit false → Changed carry limb tail (Some Rise) (front_of (carry || out) s tail)
  unfolding first_of bit
  first_rises s out e = record { same_tail = refl; first = λ m f small. risen carry out m e f small }
    where
      risen : (p q : Bool) (m : ℕ) → s + 2 ^ 64 * bit q ≡ limb + 1 + bit false → m ≡ suc (bit p * 2 ^ 64 + limb) → m < 2 * 2 ^ 64 → bit (p || q) * 2 ^ 64 + s ≡ m
      risen true true m e f small = absurd (omega arith)
      risen true false m e f small = omega arith
      risen false true m e f small = omega arith
      risen false false m e f small = omega arith

  -- a borrow out of the limb takes the carry above it, which was 1
  pub first_falls : (d : ℕ) (out : Bool) → d < 2 ^ 64 → d + 1 + bit false ≡ limb + 2 ^ 64 * bit out → Changed carry limb tail (Some Fall) (front_of (carry && not out) d tail)
  unfolding first_of bit
  first_falls d out l e = record { same_tail = refl; first = λ m f small. fallen carry out m e f }
    where
      fallen : (p q : Bool) (m : ℕ) → d + 1 + bit false ≡ limb + 2 ^ 64 * bit q → suc m ≡ bit p * 2 ^ 64 + limb → bit (p && not q) * 2 ^ 64 + d ≡ m
      fallen true true m e f = omega arith
      fallen true false m e f = omega arith
      fallen false true m e f = absurd (omega arith)
      fallen false false m e f = omega arith

-- ---- one column more

-- M weighs the columns below; there is room for m, so for what stands above them
room_above : (B M m low g q : ℕ) → low < B → m * B + low ≡ g * (B * M) + q → m < 2 * (B * M) → g < 2 * B
room_above B M m low g q s e l =
    lt_of_not-le (λ (far : 2 * B ≤ g).
    let most : 2 * B * M ≤ g * M = mul-le-mul_right M far in
    let more : (m + 1) * B ≤ g * M * B = mul-le-mul_right B (omega arith) in
    omega arith)

pub column_below : (f r : Front) (low : ℕ) (change up : Option Change) (next : Tail) → low < 2 ^ 64 → PassesTail change f.tail low up next → Changed f.carry f.limb next up r
    → FrontGrown f low change r
unfolding first_of
column_below f r low change up next small pass change_first t D m s unmixed moved room =
    let a = pass t s.rest (first_of f) m s.tail unmixed (subst (λ (x : ℕ). Moved change x m) s.value moved) in
    let sum : m * 2 ^ 64 + low ≡ a.0 * (2 ^ 64 * 2 ^ (64 * t)) + a.1 = rw (column_weight t) at a.3 in
    let high : a.0 < 2 * 2 ^ 64 = room_above (2 ^ 64) (2 ^ (64 * t)) m low a.0 a.1 small sum (rw (column_weight t) at room) in
    let first : first_of r ≡ a.0 = change_first.first a.0 (first_was up a.0 a.2) high in
    record {
      rest = a.1;
      tail = rw change_first.same_tail a.4;
      value = a.3 ∙ ap (λ (x : ℕ). x * 2 ^ (64 * suc t) + a.1) (sym first);
    }
  where
    first_was : (up : Option Change) (g : ℕ) → Moved up (first_of f) g → Moved up (bit f.carry * 2 ^ 64 + f.limb) g
    first_was up g e = e

-- ---- of a sum

module _ (f r : Front) (a b low : ℕ) where
  -- room for a column more is room for what stands above it
  sum_column : (change : Option Change) → FrontGrown f low change r → (t D m : ℕ) → ShowsFront f t D → Unmixed f.tail → Moved change D m → m * 2 ^ 64 + low ≡ D * 2 ^ 64 + a + b
      → D * 2 ^ 64 + a + b < 2 * 2 ^ (64 * suc (suc t)) → ShowsFront r (suc t) (D * 2 ^ 64 + a + b)
  sum_column change p t D m s unmixed moved e room =
      let fits : m * 2 ^ 64 + low < 2 * (2 ^ 64 * 2 ^ (64 * suc t)) = rw e (rw (column_weight (suc t)) at room) in
      subst (λ (x : ℕ). ShowsFront r (suc t) x) e (p t D m s unmixed moved (lt_of_mul-lt-mul_left (2 ^ 64) (omega arith)))

  pub sum_rises : low + 2 ^ 64 * 1 ≡ a + b + 0 → FrontGrown f low (Some Rise) r → Stepped true f a b r
  sum_rises e p = record {
    sum = λ y t D s unmixed room. sum_column (Some Rise) p t D (suc D) s unmixed refl (omega arith) room;
    difference = λ y. absurd (true_false refl y);
  }

  pub sum_stays : low + 2 ^ 64 * 0 ≡ a + b + 0 → FrontGrown f low None r → Stepped true f a b r
  sum_stays e p = record {
    sum = λ y t D s unmixed room. sum_column None p t D D s unmixed refl (omega arith) room;
    difference = λ y. absurd (true_false refl y);
  }

  pub sum_steps : (out : Bool) → low + 2 ^ 64 * bit out ≡ a + b + bit false → FrontGrown f low (then_some out Rise) r → Stepped true f a b r
  unfolding bit
  sum_steps true e p = sum_rises e p
  sum_steps false e p = sum_stays e p

  -- ---- of a difference

  pub difference_stays : low + b + 0 ≡ a + 2 ^ 64 * 0 → FrontGrown f low None r → Stepped false f a b r
  difference_stays e p = record {
    sum = λ y. absurd (true_false y refl);
    difference = λ y t D s unmixed room h.
        let ev : D * 2 ^ 64 + low ≡ D * 2 ^ 64 + a - b = omega arith in
        subst (λ (x : ℕ). ShowsFront r (suc t) x) ev (p t D D s unmixed refl room);
  }

  -- a borrow is met by what stands above, which is not 0
  pub difference_falls : low < 2 ^ 64 → low + b + 0 ≡ a + 2 ^ 64 * 1 → FrontGrown f low (Some Fall) r → Stepped false f a b r
  difference_falls l e p = record {
    sum = λ y. absurd (true_false y refl);
    difference = λ y t D s unmixed room h.
        let m : ℕ = D - 1 in
        let moved : suc m ≡ D = omega arith in
        let ev : m * 2 ^ 64 + low ≡ D * 2 ^ 64 + a - b = omega arith in
        subst (λ (x : ℕ). ShowsFront r (suc t) x) ev (p t D m s unmixed moved (omega arith));
  }

  pub difference_steps : low < 2 ^ 64 → (out : Bool) → low + b + bit false ≡ a + 2 ^ 64 * bit out → FrontGrown f low (then_some out Fall) r → Stepped false f a b r
  unfolding bit
  difference_steps l true e p = difference_falls l e p
  difference_steps l false e p = difference_stays e p
