-- Laws of `FusedOf`: the lowest limbs of two numbers, stepped through one after the other, since columns join. Assumes nothing.
use mathlib.Core.Path.{◌≡◌, refl, sym, ap, ◌∙◌}
use mathlib.Core.Bool.{Bool}
use mathlib.Core.List.{List}
use Prim.Native.Nat.{ℕ, suc, ◌+◌, ◌*◌, ◌/◌, ◌%◌, ◌^◌, ◌<◌}
use native.Mathlib.Nat.{pow-zero, pow-succ', mod-eq_of_lt, mod-one, mul_comm}
use native.Mathlib.Numerals.{add-one}
use native.Mathlib.Omega.{arith}
use lib.ListN.{length, take, set, get_or, length-set}
use lib.Pow.{mod-pow-add}
use lib.Seq.{take-length, take-set-le, get_or-set_same}
use Rattle.limb.specs.Carry.{bit}
use Rattle.limb.specs.Column.{Column, Begins, Joins}
use Rattle.limb.specs.Value.{value_in, Below}
use Rattle.limb.proofs.Value.{value_nil, value_take, base_pow}
use Rattle.shifts.proofs.Windows.{limb_bits}
use Rattle.fused.specs.Fused.{LimbFused, FusedTo, FusedOf}

-- limb i of y comes on top of its lowest i limbs
limb_more : (y i w : ℕ) → w ≡ y / 2 ^ (64 * i) % 2 ^ 64 → y % (2 ^ 64) ^ (i + 1) ≡ y % (2 ^ 64) ^ i + (2 ^ 64) ^ i * w
limb_more y i w e =
    let next : (2 ^ 64) ^ (i + 1) ≡ 2 ^ (64 + 64 * i) = base_pow (i + 1) ∙ ap (λ (m : ℕ). 2 ^ m) (omega arith) in
    rw (next, mod-pow-add y 64 (64 * i), base_pow i) (omega (arith, ap (λ (m : ℕ). 2 ^ (64 * i) * m) e))

power : (B i : ℕ) → B ^ suc i ≡ B ^ i * B
power B i = pow-succ' B i ∙ mul_comm B (B ^ i)

module _ (column : Column) (joins : Joins column) (B : ℕ) (t : List ℕ) (i k first x y u v s n : ℕ) (h : i < length t) where
  fused_value : column B u v k s n → column (B ^ i) x y first (value_in B (take i t)) k
      → column (B ^ (i + 1)) (x + B ^ i * u) (y + B ^ i * v) first (value_in B (take (i + 1) (set t i s))) n
  fused_value e inv =
      rw (add-one i, power B i, value_take B i (set t i s), take-set-le i t i s (omega arith), get_or-set_same t i s 0 h)
      (joins (B ^ i) B _ _ _ _ k _ _ _ _ inv e)

module _ (column : Column) (x y : ℕ) (first : Bool) (n : ℕ) where
  pub none_fused : Begins column → (t : List ℕ) → length t ≡ n → FusedTo column 0 x y first n t first
  none_fused begins t e = record { size = e; value = rw (value_nil, pow-zero, mod-one x, mod-one y) (begins (bit first)) }

  pub limb_fused : Joins column → (t after : List ℕ) (i u v : ℕ) (k out : Bool) → i < n → u ≡ x / 2 ^ (64 * i) % 2 ^ 64 → v ≡ y / 2 ^ (64 * i) % 2 ^ 64
      → LimbFused column i u v k t after out → FusedTo column i x y first n t k → FusedTo column (i + 1) x y first n after out
  limb_fused joins t after i u v k out h eu ev l a = record {
    size = ap length l.others ∙ length-set t i _ ∙ a.size;
    value =
        rw (limb_more x i u eu, limb_more y i v ev, l.others)
        (fused_value column joins (2 ^ 64) t i (bit k) (bit first) _ _ u v _ (bit out) (omega (arith, a.size)) l.limb a.value);
  }

  -- all limbs of two numbers that pass the top nowhere
  pub all_fused : (t : List ℕ) (k : Bool) (i : ℕ) → i ≡ n → x < (2 ^ 64) ^ n → y < (2 ^ 64) ^ n → FusedTo column i x y first n t k → FusedOf column x y first n t k
  all_fused t k i e hx hy a =
      let all : take i t ≡ t = ap (λ (m : ℕ). take m t) (e ∙ sym a.size) ∙ take-length t in
      record { size = a.size; value = rw (all, e, mod-eq_of_lt hx, mod-eq_of_lt hy, base_pow n) at a.value }

-- limb i of two runs, and four limbs of them in a row
module _ (column : Column) (joins : Joins column) (a b : List ℕ) (ha : Below (2 ^ 64) a) (hb : Below (2 ^ 64) b) (first : Bool) (n : ℕ) where
  abbrev x : ℕ
  x = value_in (2 ^ 64) a

  abbrev y : ℕ
  y = value_in (2 ^ 64) b

  pub fused_by : (t after : List ℕ) (i j : ℕ) (k out : Bool) → j ≡ i + 1 → i < n → LimbFused column i (get_or a i 0) (get_or b i 0) k t after out
      → FusedTo column i x y first n t k → FusedTo column j x y first n after out
  fused_by t after i j k out ej h l inv = rw ej (limb_fused column x y first n joins t after i _ _ k out h (limb_bits a i ha) (limb_bits b i hb) l inv)

  pub four_fused : (t c d e after : List ℕ) (i j : ℕ) (k p q r out : Bool) → j ≡ i + 4 → i + 3 < n
      → LimbFused column i (get_or a i 0) (get_or b i 0) k t c p → LimbFused column (i + 1) (get_or a (i + 1) 0) (get_or b (i + 1) 0) p c d q
      → LimbFused column (i + 2) (get_or a (i + 2) 0) (get_or b (i + 2) 0) q d e r → LimbFused column (i + 3) (get_or a (i + 3) 0) (get_or b (i + 3) 0) r e after out
      → FusedTo column i x y first n t k → FusedTo column j x y first n after out
  four_fused t c d e after i j k p q r out ej h l₀ l₁ l₂ l₃ inv =
      fused_by e after (i + 3) j r out (omega (arith, ej)) (omega arith) l₃
      (fused_by d e (i + 2) (i + 3) q r (omega arith) (omega arith) l₂
      (fused_by c d (i + 1) (i + 2) p q (omega arith) (omega arith) l₁
      (fused_by t c i (i + 1) k p refl (omega arith) l₀ inv)))
