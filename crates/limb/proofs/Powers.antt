-- Laws of powers as weights. Assumes nothing.
use Rattle.std.proofs.Common.{◌≡◌, ℕ, ◌+◌, ◌-◌, ◌*◌, ◌%◌, ◌^◌, ◌<◌, ◌≤◌, sym, ap, ◌∙◌, mul_assoc, add-sub_of_le, one-mul, arith, lit<, pow-add, shl_exact}

-- a weight cut in two
pub pow_split : (B i n : ℕ) → i ≤ n → B ^ n ≡ B ^ i * B ^ (n - i)
pow_split B i n h = ap (λ (m : ℕ). B ^ m) (sym (add-sub_of_le h)) ∙ pow-add B i (n - i)

pub moved_twice : (x m n : ℕ) → x * 2 ^ (m + n) ≡ x * 2 ^ m * 2 ^ n
moved_twice x m n = ap (λ (p : ℕ). x * p) (pow-add 2 m n) ∙ sym (mul_assoc x (2 ^ m) (2 ^ n))

-- 1 moved up by less than 64 loses no bit
pub one_moved : (k : ℕ) → k < 64 → 1 * 2 ^ k % 2 ^ 64 ≡ 2 ^ k
one_moved k h = shl_exact 1 k 64 (lit< tt) (omega arith) ∙ one-mul _
