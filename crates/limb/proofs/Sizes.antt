-- Laws of how many binary digits a number has. Assumes nothing.
use Rattle.std.proofs.Common.{◌≡◌, ℕ, zero, suc, ◌+◌, ◌*◌, ◌^◌, ◌<◌, ◌≤◌, refl, ◌∙◌, subst, mul-le-mul_right, le_antisymm, lt_of_not-le, arith, pow_mono, pow-add}
use lib.Ieee.{size}
use lib.Ieee.Digits.{size-lt, size-le, size_reaches}

pub size_ge : (n z : ℕ) → 2 ^ z ≤ n → z < size n
size_ge n z h = lt_of_not-le (λ (g : size n ≤ z). omega (arith, size-lt n, pow_mono {i = size n} {j = z} g))

pub size_is : (n z : ℕ) → 2 ^ z ≤ n → n < 2 ^ suc z → size n ≡ suc z
size_is n z l h = le_antisymm (size-le n (suc z) h) (size_ge n z l)

pub size_zero : size 0 ≡ 0
size_zero = let z : size 0 ≤ 0 = size-le 0 0 (omega arith) in omega arith

-- the place of the first digit
pub top_digit : (n : ℕ) → 0 < n → (z : ℕ) × (size n ≡ suc z) × (2 ^ z ≤ n) × (n < 2 ^ suc z)
top_digit n h = go (size n) refl
  where
    go : (s : ℕ) → size n ≡ s → (z : ℕ) × (size n ≡ suc z) × (2 ^ z ≤ n) × (n < 2 ^ suc z)
    go zero e = absurd (omega (arith, subst (λ (x : ℕ). n < 2 ^ x) e (size-lt n)))
    go (suc z) e = (z, e, size_reaches n z (omega arith), subst (λ (x : ℕ). n < 2 ^ x) e (size-lt n))

-- x with e digits more below it
pub part_least : (x y P : ℕ) → y ≤ x → y * P ≤ x * P
part_least x y P h = mul-le-mul_right P h

pub part_most : (x y P q : ℕ) → x < y → q < P → x * P + q < y * P
part_most x y P q h l = omega (arith, mul-le-mul_right P h)

pub size_part : (x e q : ℕ) → 0 < x → q < 2 ^ e → size (x * 2 ^ e + q) ≡ size x + e
size_part x e q h l =
    let t = top_digit x h in
    let z : ℕ = t.0 in
    let low : 2 ^ (z + e) ≤ x * 2 ^ e + q = rw (pow-add 2 z e) (omega (arith, part_least x (2 ^ z) (2 ^ e) t.2)) in
    let high : x * 2 ^ e + q < 2 ^ suc (z + e) =
    (let n : suc (z + e) ≡ suc z + e = omega arith in rw (n, pow-add 2 (suc z) e) (part_most x (2 ^ suc z) (2 ^ e) q t.3 l)) in
    size_is (x * 2 ^ e + q) (z + e) low high ∙ omega (arith, t.1)
