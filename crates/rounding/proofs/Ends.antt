-- Two exact values of one sign with one answer: every exact value between them has it too. What is not zero is never answered by a zero.
use mathlib.Core.Path.{◌≡◌, sym, ◌∙◌}
use mathlib.Core.Bool.{Bool, true, false, cond}
use Prim.Native.Nat.{ℕ, ◌+◌, ◌-◌, ◌≤◌, ◌<◌, compare, Ordering}
use native.Mathlib.Nat.{le_antisymm, le_trans, le_of_eq, le_of_lt, lt_of_lt_of_le, lt_of_le_of_lt}
use native.Mathlib.Omega.{arith}
use borrow.Author.Tests.{lt-ltb, le-ltb}
use lib.Dec.{ltb}
use Rattle.rounding.specs.Mode.{Way, way}
use Rattle.rounding.specs.declared.Mode.{Mode}
use Rattle.rounding.specs.Answer.{zero_of, number, too_large, too_small, digits, signed, ranged, rounded, answer}
use Rattle.numbers.specs.Limits.{least_exponent, most_exponent}
use Rattle.rounding.specs.Select.{chosen}
use Rattle.rounding.proofs.Order.{Cmp, cmp}
use Rattle.rounding.proofs.Between.{between}
use lib.Ieee.{size}

sub_le : (a b c d : ℕ) → a ≤ c → d ≤ b → a - b ≤ c - d
sub_le a b c d h k = omega arith

-- z is the sign that a zero has
module _ (z : Bool) (o : Mode) (p s : ℕ) (P : 0 < p) where
  pub plus : (a b : ℕ) → b < a → answer z o p s a b ≡ rounded (way o false) p s false (a - b)
  unfolding answer
  plus a b h = simp (lt-ltb _ _ h)

  pub minus : (a b : ℕ) → a < b → answer z o p s a b ≡ rounded (way o true) p s true (b - a)
  unfolding answer
  minus a b h = simp (le-ltb _ _ (le_of_lt h), lt-ltb _ _ h)

  pub nought : (a b : ℕ) → a ≡ b → answer z o p s a b ≡ zero_of z
  unfolding answer
  nought a b h = simp (le-ltb _ _ (le_of_eq h), le-ltb _ _ (le_of_eq (sym h)))

  -- (a, b) is the number a - b; the least is (i, j), the greatest (k, l)
  pub all_between : (i j a b k l : ℕ) → i ≤ a → a ≤ k → l ≤ b → b ≤ j → compare i j ≡ compare k l → answer z o p s i j ≡ answer z o p s k l → answer z o p s a b ≡ answer z o p s i j
  all_between i j a b k l ia ak lb bj c e = go (compare i j) (cmp i j) (rw (← c) at (cmp k l))
    where
      go : (x : Ordering) → Cmp x i j → Cmp x k l → answer z o p s a b ≡ answer z o p s i j
      go Ordering.gt u v =
          plus a b (lt_of_le_of_lt bj (lt_of_lt_of_le u ia))
          ∙ between (way o false) p s false P (i - j) (a - b) (k - l) (sub_le i j a b ia bj) (sub_le a b k l ak lb) (sym (plus i j u) ∙ e ∙ plus k l v)
          ∙ sym (plus i j u)
      go Ordering.lt u v =
          minus a b (lt_of_le_of_lt ak (lt_of_lt_of_le v lb))
          ∙ between (way o true) p s true P (l - k) (b - a) (j - i) (sub_le l k b a lb ak) (sub_le b a j i bj ia) (sym (minus k l v) ∙ sym e ∙ minus i j u)
          ∙ sym (minus k l v) ∙ sym e
      go Ordering.eq u v = nought a b (le_antisymm (le_trans ak (le_trans (le_of_eq v) lb)) (le_trans bj (le_trans (le_of_eq (sym u)) ia))) ∙ sym (nought i j u)

-- what is not zero is never answered by a zero
never : (x y n t : Bool) (e d : ℕ) (o : Ordering) → cond x too_large (cond y too_small (number n e d o)) ≡ zero_of t → ⊥
never true y n t e d o h = let z : ◌≡◌ {A = ℕ} 0 1 = cc in omega arith
never false true n t e d o h = let z : ◌≡◌ {A = ℕ} 0 1 = cc in omega arith
never false false n t e d o h = let z : ◌≡◌ {A = ℕ} 0 1 = cc in omega arith

pub regular : (w : Way) (p s : ℕ) (n t : Bool) (m : ℕ) → rounded w p s n m ≡ zero_of t → ⊥
unfolding rounded ranged
regular w p s n t m e =
    let c = chosen w p m in
    never (ltb most_exponent (size c + s)) (ltb (size c + s) least_exponent) n t (size c + s) (digits p c) (signed n (compare c m)) e
