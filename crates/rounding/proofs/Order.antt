-- Order, comparison and distance of whole numbers, as the other files use them. Assumes nothing.
use mathlib.Core.Path.{◌≡◌, refl, sym, ap, ◌∙◌, subst}
use mathlib.Core.Logic.{◌⊎◌, inl, inr}
use mathlib.Core.Bool.{Bool, true, false, not}
use Prim.Native.Nat.{ℕ, zero, suc, ◌+◌, ◌-◌, ◌*◌, ◌/◌, ◌%◌, ◌≤◌, ◌<◌, compare, Ordering}
use native.Mathlib.Nat.{le_antisymm, le_of_eq, le_of_mul-le-mul_right, lt_of_le_of_lt, div-eq_of_lt-le, div-add-mod', mul_comm, mul-sub}
use native.Mathlib.Omega.{arith}
use lib.Dec.{T, is_le, compare_is_eq, leb, leb→le, nleb→lt, eqb, eqb→eq, eqb_refl}
use lib.Arith.{lt_of_le-ne}
use lib.Ieee.{size}
use lib.Ieee.Digits.{size-lt, size-le}
pub use Rattle.rounding.specs.Paper.{dist}

pub le_or_lt : (a b : ℕ) → (a ≤ b) ⊎ (b < a)
le_or_lt a b = go (leb a b) (leb→le a b) (nleb→lt a b)
  where
    go : (t : Bool) → (T t → a ≤ b) → (T (not t) → b < a) → (a ≤ b) ⊎ (b < a)
    go true h k = inl (h tt)
    go false h k = inr (k tt)

pub zero_or : (r : ℕ) → (r ≡ 0) ⊎ (0 < r)
zero_or zero = inl refl
zero_or (suc r) = inr (omega arith)

-- q units and r more
module _ (q u r : ℕ) (lt : r < u) where
  pub units : (q * u + r) / u ≡ q
  units = div-eq_of_lt-le u (omega arith) (omega arith)

  pub remainder : (q * u + r) % u ≡ r
  remainder = go ((q * u + r) % u) (ap (λ (z : ℕ). z * u + (q * u + r) % u) (sym units) ∙ div-add-mod' (q * u + r) u)
    where
      go : (v : ℕ) → q * u + v ≡ q * u + r → v ≡ r
      go v e = omega arith

pub sub_mul : (a b c : ℕ) → (a - b) * c ≡ a * c - b * c
sub_mul a b c = let e = mul_comm c a in let f = mul_comm c b in mul_comm (a - b) c ∙ mul-sub c a b ∙ cc

pub mul_one_one : (a b u : ℕ) → 0 < u → a * u ≡ b * u → a ≡ b
mul_one_one a b u U e = le_antisymm (le_of_mul-le-mul_right (le_of_eq e) U) (le_of_mul-le-mul_right (le_of_eq (sym e)) U)

pub size_mono : (a b : ℕ) → a ≤ b → size a ≤ size b
size_mono a b h = size-le a (size b) (lt_of_le_of_lt h (size-lt b))

-- what each outcome of a comparison says
abbrev pub Cmp : Ordering → ℕ → ℕ → Type 0
Cmp Ordering.lt a b = a < b
Cmp Ordering.eq a b = a ≡ b
Cmp Ordering.gt a b = b < a

pub cmp : (a b : ℕ) → Cmp (compare a b) a b
cmp a b = go (compare a b) (leb→le a b) (nleb→lt a b) (eqb→eq a b) (λ (e : a ≡ b). subst (λ (x : ℕ). T (eqb a x)) e (eqb_refl a))
  where
    go : (o : Ordering) → (T (is_le o) → a ≤ b) → (T (not (is_le o)) → b < a) → (T (compare_is_eq o) → a ≡ b) → (a ≡ b → T (compare_is_eq o)) → Cmp o a b
    go Ordering.lt h k e n = lt_of_le-ne (h tt) n
    go Ordering.eq h k e n = e tt
    go Ordering.gt h k e n = k tt

pub compare_at : (o : Ordering) (a b : ℕ) → Cmp o a b → compare a b ≡ o
compare_at o a b h = go (compare a b) o (cmp a b) h
  where
    go : (x y : Ordering) → Cmp x a b → Cmp y a b → x ≡ y
    go Ordering.lt Ordering.lt h k = refl
    go Ordering.lt Ordering.eq h k = absurd (omega arith)
    go Ordering.lt Ordering.gt h k = absurd (omega arith)
    go Ordering.eq Ordering.lt h k = absurd (omega arith)
    go Ordering.eq Ordering.eq h k = refl
    go Ordering.eq Ordering.gt h k = absurd (omega arith)
    go Ordering.gt Ordering.lt h k = absurd (omega arith)
    go Ordering.gt Ordering.eq h k = absurd (omega arith)
    go Ordering.gt Ordering.gt h k = refl
