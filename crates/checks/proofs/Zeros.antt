-- A number has at least s zeros below its lowest set digit exactly where 2 to s divides it. Assumes nothing.
use mathlib.Core.Path.{◌≡◌, refl, sym, ap, ◌∙◌}
use Prim.Native.Nat.{ℕ, zero, suc, ◌+◌, ◌*◌, ◌/◌, ◌%◌, ◌^◌, ◌≤◌}
use native.Mathlib.Nat.{le_of_suc-le-suc, not-suc-le-zero}
use native.Mathlib.Numerals.{add-one}
use native.Mathlib.Omega.{arith}
use lib.Count.{count_trailing_zeros, under}
use lib.Dec.{leb, eqb, leb-zero, leb-suc-zero, leb-suc-suc, eqb-suc-zero}
use lib.Pow.{mod-pow-add}
use borrow.Author.Tests.{eq-eqb, ne_eqb}

-- twice a number is 0 exactly where the number is
twice_zero : (r : ℕ) → eqb r 0 ≡ eqb (r * 2 + 0) 0
twice_zero zero = refl
twice_zero (suc r) = eqb-suc-zero r ∙ sym (ne_eqb (suc r * 2 + 0) 0 (λ (e : suc r * 2 + 0 ≡ 0). omega arith))

-- a digit d below: one zero more where it is 0; where it is set, no zero, and no remainder 0
zeros_under : (d r s t : ℕ) → leb s t ≡ eqb r 0 → leb (suc s) (under d t) ≡ eqb (r * 2 + d) 0
zeros_under zero r s t h = leb-suc-suc s t ∙ h ∙ twice_zero r
zeros_under (suc d) r s t h = leb-suc-zero s ∙ sym (ne_eqb (r * 2 + suc d) 0 (λ (e : r * 2 + suc d ≡ 0). omega arith))

-- a remainder by its lowest digit and the rest
digit_below : (n s : ℕ) → (n / 2 % 2 ^ s) * 2 + n % 2 ≡ n % 2 ^ suc s
digit_below n s = rw (sym (add-one s)) (sym (mod-pow-add n s 1))

-- with the zeros counted among the k lowest digits, all k of 0
pub zeros_divide : (k n s : ℕ) → s ≤ k → leb s (count_trailing_zeros k n) ≡ eqb (n % 2 ^ s) 0
unfolding count_trailing_zeros
zeros_divide k n zero h = leb-zero (count_trailing_zeros k n) ∙ sym (eq-eqb (n % 1) 0 (omega arith))
zeros_divide zero n (suc s) h = absurd (not-suc-le-zero h)
zeros_divide (suc k) n (suc s) h =
    zeros_under (n % 2) (n / 2 % 2 ^ s) s (count_trailing_zeros k (n / 2)) (zeros_divide k (n / 2) s (le_of_suc-le-suc h)) ∙ ap (λ (m : ℕ). eqb m 0) (digit_below n s)
