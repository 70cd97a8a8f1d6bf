-- What is read of an operand is a quotient of its limbs' value: `read_part` of the decision is `read_to` of the walk.
use mathlib.Core.Path.{◌≡◌, sym, ap, ◌∙◌, subst}
use mathlib.Core.Logic.{inl, inr}
use mathlib.Core.Bool.{false}
use mathlib.Core.List.{List}
use Prim.Native.Nat.{ℕ, suc, ◌+◌, ◌-◌, ◌*◌, ◌/◌, ◌^◌, ◌≤◌, ◌<◌}
use native.Mathlib.Nat.{zero-add, le_trans, le_of_eq, lt_of_lt_of_le, mul_right_comm, mul_assoc, mul-one, mul-le-mul_right, div-add-mod', mul-div-mul_right, mul-div_cancel, div-mul-le_self, le-div_iff_mul-le}
use native.Mathlib.Omega.{arith}
use lib.ListN.{length}
use lib.Ieee.{size}
use lib.Pow.{pow_pos, pow_mono, pow-add}
use Rattle.limb.specs.Value.{value_of}
use Rattle.numbers.specs.Limits.{limbs_for}
use Rattle.numbers.specs.Operand.{Operand, mantissa, last_weight, spare_bits, WellFormed}
use Rattle.numbers.proofs.Digits.{digits_and_spare, mantissa_lt, mantissa_ge, precision_two}
use Rattle.rounding.proofs.Order.{le_or_lt}
use Rattle.limb.proofs.Sizes.{size_is}
use Rattle.depth.specs.Read.{unread}
use Rattle.depth.proofs.Columns.{digits_counted}
use Rattle.decide.specs.Decide.{read_part}
use Rattle.decide.proofs.Beyond.{read_is}
use Rattle.columns.specs.Column.{read_to}
use Rattle.columns.proofs.Reading.{read_fewer, read_small}

-- ---- digits moved up and down

shift_down : (n c d : ℕ) → c ≤ d → n * 2 ^ c / 2 ^ d ≡ n / 2 ^ (d - c)
shift_down n c d h = ap (λ (z : ℕ). n * 2 ^ c / z) (ap (λ (z : ℕ). 2 ^ z) (back h) ∙ pow-add 2 (d - c) c) ∙ mul-div-mul_right n (2 ^ (d - c)) (pow_pos c)
  where
    back : c ≤ d → d ≡ d - c + c
    back h = omega arith

shift_up : (n c d : ℕ) → d ≤ c → n * 2 ^ c / 2 ^ d ≡ n * 2 ^ (c - d)
shift_up n c d h = ap (λ (z : ℕ). z / 2 ^ d) (ap (λ (z : ℕ). n * z) (ap (λ (z : ℕ). 2 ^ z) (back h) ∙ pow-add 2 (c - d) d) ∙ sym (mul_assoc n (2 ^ (c - d)) (2 ^ d))) ∙ mul-div_cancel (n * 2 ^ (c - d)) (pow_pos d)
  where
    back : d ≤ c → c ≡ c - d + d
    back h = omega arith

-- ---- weights, over plain variables: v is an operand's last weight, m its precision, d how far it begins below t, c the digits in the columns, s the scale

all_read : (m d c : ℕ) → m + d ≤ c → m - (c - d) ≡ 0
all_read m d c h = omega arith

lowest_le : (v m d c s t : ℕ) → v + m + d ≡ t → m + d ≤ c → c ≤ t → s ≤ v → t - c ≤ s → v - s - (t - c - s) + (s - (t - c)) ≡ c - (m + d)
lowest_le v m d c s t e h k i j = let a : t - c - s ≡ 0 = omega arith in rw a (omega arith)

lowest_lt : (v m d c s t : ℕ) → v + m + d ≡ t → m + d ≤ c → c ≤ t → s ≤ v → s < t - c → v - s - (t - c - s) + (s - (t - c)) ≡ c - (m + d)
lowest_lt v m d c s t e h k i j = let a : s - (t - c) ≡ 0 = omega arith in rw a (omega arith)

whole_steps : (v m d c s t : ℕ) → v + m + d ≡ t → m + d ≤ c → c ≤ t → s ≤ v → v - s - (t - c - s) + (s - (t - c)) ≡ c - (m + d)
whole_steps v m d c s t e h k i = elim (le_or_lt (t - c) s) [ inl j ↦ lowest_le v m d c s t e h k i j | inr j ↦ lowest_lt v m d c s t e h k i j ]

part_left : (m d c : ℕ) → d < c → c < m + d → m - (c - d) ≡ m + d - c
part_left m d c k h = omega arith

part_level : (v m d c s t : ℕ) → v + m + d ≡ t → c < m + d → s ≤ v → m + d - c + (v - s) - (t - c - s) ≡ 0
part_level v m d c s t e h i = omega arith

part_flat : (v m d c s t : ℕ) → v + m + d ≡ t → c < m + d → s ≤ v → s - (t - c) ≡ 0
part_flat v m d c s t e h i = omega arith

-- ---- any limbs

-- more columns keep the order
pub read_later : (k j gap height : ℕ) (l h : List ℕ) → read_to k gap l < read_to k height h → read_to (k + j) gap l < read_to (k + j) height h
read_later k j gap height l h lt = elim (le_or_lt (read_to (k + j) height h) (read_to (k + j) gap l)) [
  | inl e ↦ absurd (clash (le_trans (le_of_eq (sym (read_fewer k j height h))) (le_trans (shr_mono e) (le_of_eq (read_fewer k j gap l)))) lt)
  | inr e ↦ e
]
  where
    clash : {m n : ℕ} → n ≤ m → m < n → ⊥
    clash a b = omega arith

    shr_mono : {m n : ℕ} → m ≤ n → m / 2 ^ (64 * j) ≤ n / 2 ^ (64 * j)
    shr_mono {m} {n} e = (le-div_iff_mul-le (pow_pos (64 * j))).1 (le_trans (div-mul-le_self m (2 ^ (64 * j))) e)

-- ---- an operand of good form

module _ (z : Operand) (g : WellFormed z) (r : z.is_zero ≡ false) where
  abbrev m : ℕ
  m = z.precision

  abbrev b : ℕ
  b = spare_bits z.precision

  abbrev l : List ℕ
  l = z.limbs

  pub value_is : value_of l ≡ mantissa z * 2 ^ b
  unfolding mantissa
  value_is = sym (div-add-mod' (value_of l) (2 ^ b)) ∙ flat (value_of l / 2 ^ b * 2 ^ b) (g.regular r).spare
    where
      flat : (n : ℕ) {a : ℕ} → a ≡ 0 → n + a ≡ n
      flat n e = omega arith

  pub width_is : 64 * length l ≡ m + b
  width_is = ap (λ (n : ℕ). 64 * n) g.count ∙ sym (digits_and_spare m)

  pub size_mantissa : size (mantissa z) ≡ m
  size_mantissa = size_is (mantissa z) (m - 1) (mantissa_ge z g r) (subst (λ (n : ℕ). mantissa z < 2 ^ n) (one m (precision_two z g)) (mantissa_lt z g)) ∙ sym (one m (precision_two z g))
    where
      one : (m : ℕ) → 2 ≤ m → m ≡ suc (m - 1)
      one m h = omega arith

  pub read_to_lem : (k gap : ℕ) → read_to k gap l ≡ mantissa z * 2 ^ (64 * k) / 2 ^ (m + gap)
  unfolding read_to
  read_to_lem k gap =
      ap (λ (n : ℕ). n * 2 ^ (64 * k) / 2 ^ (64 * length l + gap)) value_is
      ∙ ap (λ (n : ℕ). mantissa z * 2 ^ b * 2 ^ (64 * k) / 2 ^ (n + gap)) width_is
      ∙ ap (λ (n : ℕ). n / 2 ^ (m + b + gap)) (mul_right_comm (mantissa z) (2 ^ b) (2 ^ (64 * k)))
      ∙ ap (λ (n : ℕ). mantissa z * 2 ^ (64 * k) * 2 ^ b / n) (ap (λ (n : ℕ). 2 ^ n) (turn m b) ∙ pow-add 2 (m + gap) b)
      ∙ mul-div-mul_right (mantissa z * 2 ^ (64 * k)) (2 ^ (m + gap)) (pow_pos b)
    where
      turn : (m b : ℕ) → m + b + gap ≡ m + gap + b
      turn m b = omega arith

  -- all of it, where the columns reach its last digit
  pub read_whole : (k gap : ℕ) → m + gap ≤ 64 * k → read_to k gap l ≡ mantissa z * 2 ^ (64 * k - (m + gap))
  read_whole k gap h = read_to_lem k gap ∙ shift_up (mantissa z) (64 * k) (m + gap) h

  -- further columns are then 0
  pub read_more : (k j gap : ℕ) → m + gap ≤ 64 * k → read_to (k + j) gap l ≡ read_to k gap l * 2 ^ (64 * j)
  read_more k j gap h =
      read_whole (k + j) gap (more (m + gap) h) ∙ ap (λ (n : ℕ). mantissa z * 2 ^ n) (steps (m + gap) h)
      ∙ ap (λ (n : ℕ). mantissa z * n) (pow-add 2 (64 * k - (m + gap)) (64 * j)) ∙ sym (mul_assoc (mantissa z) (2 ^ (64 * k - (m + gap))) (2 ^ (64 * j)))
      ∙ ap (λ (n : ℕ). n * 2 ^ (64 * j)) (sym (read_whole k gap h))
    where
      more : (n : ℕ) → n ≤ 64 * k → n ≤ 64 * (k + j)
      more n h = omega arith

      steps : (n : ℕ) → n ≤ 64 * k → 64 * (k + j) - n ≡ 64 * k - n + 64 * j
      steps n h = omega arith

  -- the first digit is in column 0
  pub read_lead : (k : ℕ) → 1 ≤ k → 2 ^ (64 * k - 1) ≤ read_to k 0 l
  unfolding read_to
  read_lead k K =
      (le-div_iff_mul-le (pow_pos (64 * length l + 0))).1
      (le_trans (le_of_eq (sym (pow-add 2 (64 * k - 1) (64 * length l + 0))))
      (le_trans (pow_mono (room (length l) (limbs_for m) g.count (some (limbs_for m) (digits_and_spare m) (precision_two z g))))
      (le_trans (le_of_eq (pow-add 2 (64 * limbs_for m - 1) (64 * k))) (mul-le-mul_right (2 ^ (64 * k)) (g.regular r).lead))))
    where
      some : (n : ℕ) → m + b ≡ 64 * n → 2 ≤ m → 1 ≤ n
      some n e h = omega arith

      room : (n f : ℕ) → n ≡ f → 1 ≤ f → 64 * k - 1 + (64 * n + 0) ≤ 64 * f - 1 + 64 * k
      room n f e h = omega arith

  pub read_some : (k : ℕ) → 1 ≤ k → 0 < read_to k 0 l
  read_some k K = le_trans (pow_pos (64 * k - 1)) (read_lead k K)

  -- ---- `read_part`, in units of 2 ^ s where the columns reach below it

  module _ (t k s : ℕ) (top : z.exponent ≤ t) (sc : s ≤ last_weight z) (seen : t - z.exponent < 64 * k) (room : 64 * k ≤ t) where
    abbrev gap : ℕ
    gap = t - z.exponent

    place : (last_weight z + m + gap ≡ t)
    unfolding last_weight
    place = go z.exponent (digits_counted z g r) top
      where
        go : (e : ℕ) → m ≤ e → e ≤ t → e - m + m + (t - e) ≡ t
        go e h k = omega arith

    pub read_scaled : read_to k gap l ≡ read_part t k s z * 2 ^ (s - (t - 64 * k))
    unfolding unread
    read_scaled = elim (le_or_lt (m + gap) (64 * k)) [ inl h ↦ whole h | inr h ↦ part h ]
      where
        whole : m + gap ≤ 64 * k → read_to k gap l ≡ read_part t k s z * 2 ^ (s - (t - 64 * k))
        whole h =
            let u = all_read m gap (64 * k) h in
            read_whole k gap h
            ∙ sym (ap (λ (n : ℕ). n * 2 ^ (s - (t - 64 * k))) (read_is t k s z r ∙ ap (λ (n : ℕ). mantissa z / 2 ^ n * 2 ^ (n + (last_weight z - s) - (t - 64 * k - s))) u ∙ ap (λ (n : ℕ). mantissa z / 2 ^ 0 * 2 ^ (n - (t - 64 * k - s))) (zero-add (last_weight z - s)))
            ∙ ap (λ (n : ℕ). n * 2 ^ (last_weight z - s - (t - 64 * k - s)) * 2 ^ (s - (t - 64 * k))) (one (mantissa z))
            ∙ mul_assoc (mantissa z) (2 ^ (last_weight z - s - (t - 64 * k - s))) (2 ^ (s - (t - 64 * k)))
            ∙ ap (λ (n : ℕ). mantissa z * n) (sym (pow-add 2 (last_weight z - s - (t - 64 * k - s)) (s - (t - 64 * k))) ∙ ap (λ (n : ℕ). 2 ^ n) (whole_steps (last_weight z) m gap (64 * k) s t place h room sc)))
          where
            one : (n : ℕ) → n / 2 ^ 0 ≡ n
            one n = omega arith

        part : 64 * k < m + gap → read_to k gap l ≡ read_part t k s z * 2 ^ (s - (t - 64 * k))
        part h =
            let u = part_left m gap (64 * k) seen h in
            read_to_lem k gap ∙ shift_down (mantissa z) (64 * k) (m + gap) (under (64 * k) (m + gap) h)
            ∙ sym (ap (λ (n : ℕ). n * 2 ^ (s - (t - 64 * k))) (read_is t k s z r ∙ ap (λ (n : ℕ). mantissa z / 2 ^ n * 2 ^ (n + (last_weight z - s) - (t - 64 * k - s))) u ∙ ap (λ (n : ℕ). mantissa z / 2 ^ (m + gap - 64 * k) * 2 ^ n) (part_level (last_weight z) m gap (64 * k) s t place h sc) ∙ mul-one _)
            ∙ ap (λ (n : ℕ). mantissa z / 2 ^ (m + gap - 64 * k) * 2 ^ n) (part_flat (last_weight z) m gap (64 * k) s t place h sc) ∙ mul-one _)
          where
            under : (c d : ℕ) → c < d → c ≤ d
            under c d h = omega arith

    pub read_part_lem : s ≤ t - 64 * k → read_part t k s z ≡ read_to k gap l
    read_part_lem h = sym (read_scaled ∙ ap (λ (n : ℕ). read_part t k s z * 2 ^ n) (flat (t - 64 * k) h) ∙ mul-one _)
      where
        flat : (e : ℕ) → s ≤ e → s - e ≡ 0
        flat e h = omega arith

-- ---- the operand with the larger exponent has the larger read part

pub read_larger : (x y : Operand) → WellFormed x → WellFormed y → x.is_zero ≡ false → (k gap : ℕ) → 1 ≤ k → 1 ≤ gap → read_to k gap y.limbs < read_to k 0 x.limbs
read_larger x y g h r k gap K G = lt_of_lt_of_le (read_small gap y.limbs h.limb k) (le_trans (pow_mono (less (64 * k))) (read_lead x g r k K))
  where
    less : (c : ℕ) → c - gap ≤ c - 1
    less c = omega arith
