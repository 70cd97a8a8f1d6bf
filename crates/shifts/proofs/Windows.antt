-- Laws of a run read at any bit: 64 bits lie in one limb or across two, and a run moved by bits is made of such windows. Assumes nothing.
use mathlib.Core.Path.{◌≡◌, refl, sym, ap, ◌∙◌, subst}
use Prim.Native.Nat.{ℕ, zero, suc, ◌+◌, ◌-◌, ◌*◌, ◌/◌, ◌%◌, ◌^◌, ◌≤◌, ◌<◌}
use native.Mathlib.Nat.{add-mul-div_left, add-mul-mod_self_left, add-mod-mod, mod-add-div, mod-eq_of_lt, mod-lt, mul-mod_left, mul-one, add_comm, add-zero, zero-add, div-one, mod-one}
use native.Mathlib.Omega.{arith}
use native.Mathlib.Numerals.{add-one}
use mathlib.Core.List.{List, [], ◌∷◌}
use lib.ListN.{length, take, drop, get_or, set, length-set, length-drop}
use lib.Arith.{digits_lt, mod-mul}
use lib.Pow.{pow_pos, pow-add, mod-pow-add, shl-shr, shr-shr, shr_lt}
use lib.Seq.{take-length, length-take-le, take-set-le, get_or-set_same}
use lib.Bits.{bit_or, or_shifted_r}
use borrow.Rule.Slice.PartMut.{put_mid, same_len_mid}
use Rattle.limb.proofs.Powers.{moved_twice}
use Rattle.limb.specs.Value.{value_in, Below}
use Rattle.limb.proofs.Value.{value_nil, value_unique, value_take, value_drop, value_low, value_shr, base_pow}
use Rattle.shifts.specs.LowLimbs.{LowLimbs}
use Rattle.parts.proofs.Parts.{part_is, put_value}

-- what a left shift by u keeps at j + u bits: the low j bits of h, moved up
kept : (h j u : ℕ) → h * 2 ^ u % 2 ^ (j + u) ≡ h % 2 ^ j * 2 ^ u
kept h j u =
    mod-pow-add (h * 2 ^ u) j u ∙ ap (λ (m : ℕ). m % 2 ^ j * 2 ^ u + h * 2 ^ u % 2 ^ u) (shl-shr h u)
    ∙ ap (λ (m : ℕ). h % 2 ^ j * 2 ^ u + m) (mul-mod_left h (2 ^ u)) ∙ add-zero _

-- the window at bit t of l + 2 ^ (t + u) * (h + 2 ^ (t + u) * r)
window_bits : (t u l h r : ℕ) → l < 2 ^ (t + u)
    → (l + 2 ^ (t + u) * (h + 2 ^ (t + u) * r)) / 2 ^ t % 2 ^ (t + u) ≡ bit_or (l / 2 ^ t) (h * 2 ^ u % 2 ^ (t + u))
window_bits t u l h r hl =
    let p : ℕ = 2 ^ t in
    let q : ℕ = 2 ^ u in
    let b : ℕ = 2 ^ (t + u) in
    let x : ℕ = l / p in
    let y : ℕ = h % p in
    let eb : b ≡ p * q = pow-add 2 t u in
    let hx : x < q = shr_lt u t (subst (λ (n : ℕ). l < 2 ^ n) (add_comm t u) hl) in
    let hy : y < p = mod-lt h (pow_pos t) in
    let small : y * q + x < b = subst (λ (n : ℕ). y * q + x < n) (sym eb) (digits_lt hy hx) in
    let spread : l + b * (h + b * r) ≡ l + p * (h * q + b * (q * r)) = omega (arith, ap (λ (m : ℕ). m * h) eb, ap (λ (m : ℕ). m * (b * r)) eb) in
    let moved : (l + b * (h + b * r)) / p ≡ x + (h * q + b * (q * r)) = ap (λ (m : ℕ). m / p) spread ∙ add-mul-div_left l (h * q + b * (q * r)) (pow_pos t) in
    let dropped : (x + (h * q + b * (q * r))) % b ≡ (x + h * q) % b = ap (λ (m : ℕ). m % b) (omega arith) ∙ add-mul-mod_self_left (x + h * q) b (q * r) in
    let pieces : (x + h * q) % b ≡ y * q + x = sym (add-mod-mod x (h * q) b) ∙ ap (λ (m : ℕ). (x + m) % b) (kept h t u) ∙ ap (λ (m : ℕ). m % b) (add_comm x (y * q)) ∙ mod-eq_of_lt small in
    ap (λ (m : ℕ). m % b) moved ∙ dropped ∙ pieces ∙ sym (ap (λ (m : ℕ). bit_or x m) (kept h t u) ∙ or_shifted_r y u x hx)

-- a limb moved up by 1 bit and then by 63 - t bits
kept_times : (B x p : ℕ) → x % B * p % B ≡ x * p % B
kept_times B x p = sym (ap (λ (m : ℕ). m % B) (omega (arith, ap (λ (m : ℕ). m * p) (mod-add-div x B))) ∙ add-mul-mod_self_left (x % B * p) B (x / B * p))

pub moved_up_twice : (x t : ℕ) → t < 64 → x * 2 ^ 1 % 2 ^ 64 * 2 ^ (63 - t) % 2 ^ 64 ≡ x * 2 ^ (64 - t) % 2 ^ 64
moved_up_twice x t h =
    let e : 1 + (63 - t) ≡ 64 - t = omega arith in
    kept_times (2 ^ 64) (x * 2 ^ 1) (2 ^ (63 - t)) ∙ ap (λ (m : ℕ). m % 2 ^ 64) (sym (moved_twice x 1 (63 - t)) ∙ ap (λ (m : ℕ). x * 2 ^ m) e)

-- the 64 bits from bit t of limb q on
module _ (l : List ℕ) (q t : ℕ) (ht : t < 64) (h : Below (2 ^ 64) l) where
  from_limb : value_in (2 ^ 64) l / 2 ^ (64 * q + t) ≡ value_in (2 ^ 64) (drop q l) / 2 ^ t
  from_limb =
      sym (shr-shr (value_in (2 ^ 64) l) (64 * q) t) ∙ ap (λ (m : ℕ). value_in (2 ^ 64) l / m / 2 ^ t) (sym (base_pow q))
      ∙ ap (λ (m : ℕ). m / 2 ^ t) (value_shr (2 ^ 64) q l h)

  two_limbs : value_in (2 ^ 64) (drop q l) ≡ get_or l q 0 + 2 ^ 64 * (get_or l (q + 1) 0 + 2 ^ 64 * value_in (2 ^ 64) (drop (suc (q + 1)) l))
  two_limbs = value_drop (2 ^ 64) q l ∙ ap (λ (m : ℕ). get_or l q 0 + 2 ^ 64 * m) (rw (add-one q) (value_drop (2 ^ 64) (suc q) l))

  -- at a limb's own start they are the limb
  pub whole : t ≡ 0 → get_or l q 0 ≡ value_in (2 ^ 64) l / 2 ^ (64 * q + t) % 2 ^ 64
  whole z =
      sym (ap (λ (m : ℕ). m % 2 ^ 64) (from_limb ∙ ap (λ (m : ℕ). value_in (2 ^ 64) (drop q l) / 2 ^ m) z ∙ div-one _ ∙ value_drop (2 ^ 64) q l)
      ∙ add-mul-mod_self_left (get_or l q 0) (2 ^ 64) _ ∙ mod-eq_of_lt (h q))

  -- elsewhere they are the high bits of the limb and the low bits of the next
  pub across : bit_or (get_or l q 0 / 2 ^ t) (get_or l (q + 1) 0 * 2 ^ (64 - t) % 2 ^ 64) ≡ value_in (2 ^ 64) l / 2 ^ (64 * q + t) % 2 ^ 64
  across =
      let e : t + (64 - t) ≡ 64 = omega arith in
      sym (ap (λ (m : ℕ). m % 2 ^ 64) (from_limb ∙ ap (λ (m : ℕ). m / 2 ^ t) two_limbs)
      ∙ rw e at (window_bits t (64 - t) (get_or l q 0) (get_or l (q + 1) 0) (value_in (2 ^ 64) (drop (suc (q + 1)) l)) (rw e (h q))))

  -- the next limb may be moved up in two steps, by 1 bit and by the others
  pub across_twice : bit_or (get_or l q 0 / 2 ^ t) (get_or l (q + 1) 0 * 2 ^ 1 % 2 ^ 64 * 2 ^ (63 - t) % 2 ^ 64) ≡ value_in (2 ^ 64) l / 2 ^ (64 * q + t) % 2 ^ 64
  across_twice = ap (λ (m : ℕ). bit_or (get_or l q 0 / 2 ^ t) m) (moved_up_twice (get_or l (q + 1) 0) t ht) ∙ across

  -- the limbs from q on, moved down by t bits, are the limbs from q on of the run moved down
  pub part_moved : value_in (2 ^ 64) (drop q l) / 2 ^ t ≡ value_in (2 ^ 64) l / 2 ^ t / (2 ^ 64) ^ q
  part_moved =
      let x : ℕ = value_in (2 ^ 64) l in
      sym (ap (λ (m : ℕ). x / 2 ^ t / m) (base_pow q) ∙ shr-shr x t (64 * q) ∙ ap (λ (m : ℕ). x / 2 ^ m) (add_comm t (64 * q)) ∙ from_limb)

module _ (B low high : ℕ) (hl : low < B) (hh : high < B) where
  two_below : Below B (low ∷ high ∷ [])
  two_below zero = hl
  two_below (suc zero) = hh
  two_below (suc (suc i)) = omega arith

  two_value : value_in B (low ∷ high ∷ []) ≡ low + B * high
  unfolding value_in
  two_value = omega arith

-- the high bits of a limb and the low bits of the next
pub moved_bits : (low high t : ℕ) → t < 64 → low < 2 ^ 64 → high < 2 ^ 64
    → bit_or (low / 2 ^ t) (high * 2 ^ (64 - t) % 2 ^ 64) ≡ (low + 2 ^ 64 * high) / 2 ^ t % 2 ^ 64
moved_bits low high t ht hl hh =
    rw zero-add at (across (low ∷ high ∷ []) 0 t ht (two_below (2 ^ 64) low high hl hh)) ∙ ap (λ (m : ℕ). m / 2 ^ t % 2 ^ 64) (two_value (2 ^ 64) low high hl hh)

-- so 64 bits from a bit of limb q on are two limbs moved down
pub between : (l : List ℕ) (q t : ℕ) → t < 64 → Below (2 ^ 64) l
    → (get_or l q 0 + 2 ^ 64 * get_or l (q + 1) 0) / 2 ^ t % 2 ^ 64 ≡ value_in (2 ^ 64) l / 2 ^ (64 * q + t) % 2 ^ 64
between l q t ht h = sym (moved_bits (get_or l q 0) (get_or l (q + 1) 0) t ht (h q) (h (q + 1))) ∙ across l q t ht h

-- a run moved down by k bits is what is left of it above limb k / 64, moved down by less than a limb
pub moved_down : (l : List ℕ) (k : ℕ) → Below (2 ^ 64) l → value_in (2 ^ 64) (drop (k / 64) l) / 2 ^ (k % 64) ≡ value_in (2 ^ 64) l / 2 ^ k
moved_down l k h =
    let place : 64 * (k / 64) + k % 64 ≡ k = omega arith in
    sym (rw place at (from_limb l (k / 64) (k % 64) (omega arith) h))

pub moved_down_whole : (l : List ℕ) (k : ℕ) → Below (2 ^ 64) l → k % 64 ≡ 0 → value_in (2 ^ 64) (drop (k / 64) l) ≡ value_in (2 ^ 64) l / 2 ^ k
moved_down_whole l k h z = sym (div-one _) ∙ ap (λ (m : ℕ). value_in (2 ^ 64) (drop (k / 64) l) / 2 ^ m) (sym z) ∙ moved_down l k h

-- limb i of a run
pub limb_bits : (l : List ℕ) (i : ℕ) → Below (2 ^ 64) l → get_or l i 0 ≡ value_in (2 ^ 64) l / 2 ^ (64 * i) % 2 ^ 64
limb_bits l i h = rw add-zero at (whole l i 0 (omega arith) h refl)

-- a run times p, with its lowest limb apart
lowest_times : (B : ℕ) (l : List ℕ) (p : ℕ) → value_in B l * p ≡ get_or l 0 0 * p + B * (value_in B (drop 1 l) * p)
lowest_times B l p = omega (arith, ap (λ (m : ℕ). m * p) (value_drop B 0 l))

-- limb i of a run that is moved up by k bits
module _ (l : List ℕ) (k i : ℕ) (h : Below (2 ^ 64) l) where
  -- below limb k / 64 it is 0
  pub raised_below : i < k / 64 → 0 ≡ value_in (2 ^ 64) l * 2 ^ k / 2 ^ (64 * i) % 2 ^ 64
  raised_below hi =
      let x : ℕ = value_in (2 ^ 64) l in
      let j : ℕ = k - 64 * (i + 1) in
      let ek : k ≡ (j + 64) + 64 * i = omega arith in
      let e : x * 2 ^ k ≡ x * 2 ^ j * 2 ^ 64 * 2 ^ (64 * i) =
      ap (λ (m : ℕ). x * 2 ^ m) ek ∙ moved_twice x (j + 64) (64 * i) ∙ ap (λ (m : ℕ). m * 2 ^ (64 * i)) (moved_twice x j 64) in
      sym (rw (e, shl-shr (x * 2 ^ j * 2 ^ 64) (64 * i)) (mul-mod_left (x * 2 ^ j) (2 ^ 64)))

  -- from there on the whole limbs of the move only change its place
  from_there : k / 64 ≤ i → value_in (2 ^ 64) l * 2 ^ k / 2 ^ (64 * i) ≡ value_in (2 ^ 64) l * 2 ^ (k % 64) / 2 ^ (64 * (i - k / 64))
  from_there hi =
      let x : ℕ = value_in (2 ^ 64) l in
      let q : ℕ = k / 64 in
      let ek : k ≡ k % 64 + 64 * q = omega arith in
      let ei : 64 * i ≡ 64 * q + 64 * (i - q) = omega arith in
      let e : x * 2 ^ k ≡ x * 2 ^ (k % 64) * 2 ^ (64 * q) = ap (λ (m : ℕ). x * 2 ^ m) ek ∙ moved_twice x (k % 64) (64 * q) in
      ap (λ (m : ℕ). m / 2 ^ (64 * i)) e ∙ ap (λ (m : ℕ). x * 2 ^ (k % 64) * 2 ^ (64 * q) / 2 ^ m) ei
      ∙ sym (shr-shr (x * 2 ^ (k % 64) * 2 ^ (64 * q)) (64 * q) (64 * (i - q))) ∙ ap (λ (m : ℕ). m / 2 ^ (64 * (i - q))) (shl-shr (x * 2 ^ (k % 64)) (64 * q))

  -- a move by whole limbs alone
  pub raised_whole : k / 64 ≤ i → k % 64 ≡ 0 → get_or l (i - k / 64) 0 ≡ value_in (2 ^ 64) l * 2 ^ k / 2 ^ (64 * i) % 2 ^ 64
  raised_whole hi z =
      let x : ℕ = value_in (2 ^ 64) l in
      let j : ℕ = i - k / 64 in
      limb_bits l j h
      ∙ sym (ap (λ (m : ℕ). m % 2 ^ 64) (from_there hi ∙ ap (λ (m : ℕ). x * 2 ^ m / 2 ^ (64 * j)) z ∙ ap (λ (m : ℕ). m / 2 ^ (64 * j)) (mul-one x)))

  -- the lowest limb that is not all 0
  pub raised_lowest : k / 64 ≤ i → i - k / 64 ≡ 0 → get_or l 0 0 * 2 ^ (k % 64) % 2 ^ 64 ≡ value_in (2 ^ 64) l * 2 ^ k / 2 ^ (64 * i) % 2 ^ 64
  raised_lowest hi z =
      let x : ℕ = value_in (2 ^ 64) l in
      let p : ℕ = 2 ^ (k % 64) in
      let r : ℕ = value_in (2 ^ 64) (drop 1 l) in
      let e : x * p ≡ get_or l 0 0 * p + 2 ^ 64 * (r * p) = lowest_times (2 ^ 64) l p in
      sym (ap (λ (m : ℕ). m % 2 ^ 64) (from_there hi ∙ ap (λ (m : ℕ). x * p / 2 ^ (64 * m)) z ∙ div-one _ ∙ e) ∙ add-mul-mod_self_left (get_or l 0 0 * p) (2 ^ 64) (r * p))

  -- above it, the 64 bits of the run that come there
  pub raised_above : k / 64 ≤ i → (k % 64 ≡ 0 → ⊥) → (i - k / 64 ≡ 0 → ⊥)
      → value_in (2 ^ 64) l / 2 ^ (64 * (i - k / 64 - 1) + (64 - k % 64)) % 2 ^ 64 ≡ value_in (2 ^ 64) l * 2 ^ k / 2 ^ (64 * i) % 2 ^ 64
  raised_above hi nb nj =
      let x : ℕ = value_in (2 ^ 64) l in
      let b : ℕ = k % 64 in
      let n : ℕ = 64 * (i - k / 64 - 1) + (64 - b) in
      let ej : 64 * (i - k / 64) ≡ b + n = omega arith in
      sym (ap (λ (m : ℕ). m % 2 ^ 64) (from_there hi ∙ ap (λ (m : ℕ). x * 2 ^ b / 2 ^ m) ej ∙ sym (shr-shr (x * 2 ^ b) b n) ∙ ap (λ (m : ℕ). m / 2 ^ n) (shl-shr x b)))

-- the 64 bits at bit b of limb i of x are limb i of x moved down by b bits
pub window_moved : (x b i : ℕ) → x / 2 ^ (64 * i + b) % 2 ^ 64 ≡ x / 2 ^ b / 2 ^ (64 * i) % 2 ^ 64
window_moved x b i = ap (λ (m : ℕ). m % 2 ^ 64) (ap (λ (m : ℕ). x / 2 ^ m) (add_comm (64 * i) b) ∙ sym (shr-shr x b (64 * i)))

-- the lowest n limbs of a run
pub lowest_limbs : (l : List ℕ) (n : ℕ) → n ≤ length l → Below (2 ^ 64) l → LowLimbs n (value_in (2 ^ 64) l) (take n l)
lowest_limbs l n h b = record { size = length-take-le n l h; value = sym (value_low (2 ^ 64) n l b) }

-- the limbs of a number y on their way into t₀, which has become t: those below limb i are there
pub record WrittenTo (i y : ℕ) (t₀ t : List ℕ) : Type 0 where
  pub same_length : length t ≡ length t₀
  pub value : value_in (2 ^ 64) (take i t) ≡ y % (2 ^ 64) ^ i

-- one limb more, the 64 bits of y from bit 64 i on
limb_value : (t : List ℕ) (y i w : ℕ) → i < length t → w ≡ y / 2 ^ (64 * i) % 2 ^ 64
    → value_in (2 ^ 64) (take i t) ≡ y % (2 ^ 64) ^ i
    → value_in (2 ^ 64) (take (i + 1) (set t i w)) ≡ y % (2 ^ 64) ^ (i + 1)
limb_value t y i w h ew inv =
    let next : (2 ^ 64) ^ (i + 1) ≡ 2 ^ (64 + 64 * i) = base_pow (i + 1) ∙ ap (λ (m : ℕ). 2 ^ m) (omega arith) in
    let low : value_in (2 ^ 64) (take i t) ≡ y % 2 ^ (64 * i) = inv ∙ ap (λ (m : ℕ). y % m) (base_pow i) in
    rw (next, add-one i, value_take (2 ^ 64) i (set t i w), take-set-le i t i w (omega arith), get_or-set_same t i w 0 h, mod-pow-add y 64 (64 * i), base_pow i)
    (omega (arith, low, ap (λ (m : ℕ). 2 ^ (64 * i) * m) ew))

module _ (y : ℕ) (t₀ : List ℕ) where
  pub none_written : WrittenTo 0 y t₀ t₀
  none_written = record { same_length = refl; value = value_nil (2 ^ 64) ∙ sym (mod-one y) }

  pub limb_written : (t : List ℕ) (i w : ℕ) → i < length t → w ≡ y / 2 ^ (64 * i) % 2 ^ 64 → WrittenTo i y t₀ t → WrittenTo (i + 1) y t₀ (set t i w)
  limb_written t i w h ew a = record { same_length = length-set t i w ∙ a.same_length; value = limb_value t y i w h ew a.value }

  pub all_written : (t : List ℕ) (i : ℕ) → i ≡ length t₀ → WrittenTo i y t₀ t → LowLimbs (length t₀) y t
  all_written t i e a =
      let all : take i t ≡ t = ap (λ (n : ℕ). take n t) (e ∙ sym a.same_length) ∙ take-length t in
      record { size = a.same_length; value = rw (sym e) (rw all at a.value) }

digits_joined : (P low high lowest highest all : ℕ) → low ≡ lowest → high ≡ highest → all ≡ highest * P + lowest → low + P * high ≡ all
digits_joined P low high lowest highest all el eh e = omega (arith, ap (λ (m : ℕ). P * m) eh)

-- the limbs below limb i are there, and then those from there on, in that part of the target
module _ (y : ℕ) (t₀ t : List ℕ) (i : ℕ) (part : List ℕ) (hi : i ≤ length t₀) (a : WrittenTo i y t₀ t) where
  abbrev B : ℕ
  B = 2 ^ 64

  within : i ≤ length t
  within = omega (arith, hi, a.same_length)

  power_pos : (n : ℕ) → 0 < B ^ n
  power_pos n = subst (λ (m : ℕ). 0 < m) (sym (base_pow n)) (pow_pos (64 * n))

  whole_value : y % B ^ length t₀ ≡ y / B ^ i % B ^ (length t₀ - i) * B ^ i + y % B ^ i
  whole_value =
      let size : length t₀ - i + i ≡ length t₀ = omega (arith, hi) in
      ap (λ (m : ℕ). y % B ^ m) (sym size) ∙ ap (λ (m : ℕ). y % m) (pow-add B (length t₀ - i) i) ∙ mod-mul y (power_pos (length t₀ - i)) (power_pos i)

  pub rest_written : LowLimbs (length t₀ - i) (y / B ^ i) part → LowLimbs (length t₀) y (put_mid i (length t - i) t part)
  rest_written r = record {
    size = same_len_mid i (length t - i) t part (rw (part_is t i, length-drop, a.same_length) r.size) ∙ a.same_length;
    value = put_value t part i within B ∙ digits_joined (B ^ i) _ _ _ _ _ a.value r.value whole_value;
  }

-- two answers that meet `LowLimbs` agree, each with its limbs below 2^64
pub low_limbs_unique : (room n : ℕ) (xs ys : List ℕ) → Below (2 ^ 64) xs → Below (2 ^ 64) ys → LowLimbs room n xs → LowLimbs room n ys → xs ≡ ys
low_limbs_unique room n xs ys hx hy a b = value_unique (2 ^ 64) xs ys hx hy (a.size ∙ sym b.size) (a.value ∙ sym b.value)
