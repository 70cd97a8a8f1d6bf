-- One column of a sum or a difference in any base, and that such columns join. Definitions only. What each says in base 2 ^ 64 is the
-- promise of `add_carry` and `sub_borrow`.
use Rattle.std.specs.Prelude.{◌≡◌, ℕ, ◌+◌, ◌*◌}

-- in base B, digits x and y and the carry in k give the digit s and the carry out n: `column B x y k s n`
abbrev pub Column : Type 1
Column = ℕ → ℕ → ℕ → ℕ → ℕ → ℕ → Type 0

-- through no limbs, a column of base 1, the carry goes as it came
abbrev pub Begins : Column → Type 0
Begins column = (k : ℕ) → column 1 0 0 k 0 k

-- one column above another is one column of both
abbrev pub Joins : Column → Type 0
Joins column = (P Q x y k s m u v t n : ℕ) → column P x y k s m → column Q u v m t n → column (P * Q) (x + P * u) (y + P * v) k (s + P * t) n

-- x + y + k is s with the carry n on top
abbrev pub Summed : Column
Summed B x y k s n = s + B * n ≡ x + y + k

-- x - y - k is s, with the borrow n on top of x
abbrev pub Taken : Column
Taken B x y k s n = s + y + k ≡ x + B * n

-- y - x - k is s, with the borrow n on top of y
abbrev pub TakenFrom : Column
TakenFrom B x y k s n = Taken B y x k s n
