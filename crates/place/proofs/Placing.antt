-- The answer from the location: what is selected, its digits and its exponent. Assumes nothing.
use mathlib.Core.Path.{◌≡◌, sym, ap, ◌∙◌}
use mathlib.Core.Logic.{inl, inr}
use mathlib.Core.Bool.{Bool}
use mathlib.Core.List.{List}
use Prim.Native.Nat.{ℕ, zero, suc, ◌+◌, ◌-◌, ◌*◌, ◌/◌, ◌%◌, ◌^◌, ◌≤◌, ◌<◌, compare, Ordering}
use native.Mathlib.Nat.{le_refl, le_trans, le_of_eq, lt_of_lt_of_le, le_antisymm, mul-le-mul_right, mul-lt-mul_of_pos_right, le-div_iff_mul-le, div-add-mod', mod-lt, pow-succ'}
use native.Mathlib.Omega.{arith}
use lib.Dec.{eqb}
use lib.IntN.{ℤ}
use lib.Ieee.{size}
use lib.ListN.{length, replicate}
use lib.Pow.{pow_pos, pow-add, pow-lt, shr_lt}
use Rattle.limb.specs.Carry.{bit}
use Rattle.limb.proofs.Carry.{bit_le}
use Rattle.numbers.specs.Limits.{least_exponent, most_exponent, limbs_for}
use Rattle.numbers.specs.Limbs.{limbs_of}
use Rattle.numbers.specs.Operand.{spare_bits}
use Rattle.rounding.specs.Mode.{Way}
use Rattle.rounding.specs.Select.{unit, chosen, on_grid}
use Rattle.rounding.specs.Answer.{Answer, number, ranged, digits, signed, rounded}
use Rattle.rounding.proofs.Order.{le_or_lt}
use Rattle.rounding.proofs.Between.{is_large, is_small, is_in}
use Rattle.limb.proofs.Sizes.{size_is}
use Rattle.rounding.proofs.Even.{digits_of}
use Rattle.location.specs.declared.Location.{Location}
use Rattle.place.specs.declared.Placed.{Placed}
use Rattle.location.specs.Location.{location_of, goes_up, side}
use Rattle.place.specs.Placed.{placed_of, limbs_after}
use Rattle.location.specs.Ternary.{ternary_of}
use Rattle.place.specs.Rounded.{refused_by}
use Rattle.kept.specs.Walk.{is_full, as_digits}
use Rattle.place.specs.InRange.{Settled}
use Rattle.location.proofs.Locating.{selected_at, side_at}
use Rattle.kept.proofs.Unit.{not_full, is_full_lem, digits_kept, digits_full}

-- ---- m units of 2 ^ k, with m at most 2 ^ p: its digits and its size

size_of : (p k m : ℕ) → 2 ^ p ≤ m → m < 2 ^ suc p → size (m * 2 ^ k) ≡ suc (p + k)
size_of p k m lo lt =
    size_is (m * 2 ^ k) (p + k) (le_trans (le_of_eq (pow-add 2 p k)) (mul-le-mul_right (2 ^ k) lo))
    (lt_of_lt_of_le (mul-lt-mul_of_pos_right lt (pow_pos k)) (le_of_eq (sym (pow-add 2 (suc p) k) ∙ ap (λ (n : ℕ). 2 ^ n) (shift p k))))
  where
    shift : (p k : ℕ) → suc p + k ≡ suc (p + k)
    shift p k = omega arith

module _ (p k m : ℕ) (lo : 2 ^ p ≤ m) (hi : m ≤ 2 ^ suc p) where
  -- 2 ^ (p + 1) units of 2 ^ k are 2 ^ p units of 2 ^ (k + 1)
  one_up : m ≡ 2 ^ suc p → m * 2 ^ k ≡ 2 ^ p * 2 ^ suc k
  one_up e = ap (λ (n : ℕ). n * 2 ^ k) e ∙ sym (pow-add 2 (suc p) k) ∙ ap (λ (n : ℕ). 2 ^ n) (shift p k) ∙ pow-add 2 p (suc k)
    where
      shift : (p k : ℕ) → suc p + k ≡ p + suc k
      shift p k = omega arith

  less : (p : ℕ) → p < suc p
  less p = omega arith

  pub digits_are : digits (suc p) (m * 2 ^ k) ≡ as_digits (suc p) m
  digits_are = elim (le_or_lt (2 ^ suc p) m) [
    | inr lt ↦ digits_of p m k lo lt ∙ sym (digits_kept (suc p) m lt)
    | inl ge ↦
        let e = le_antisymm hi ge in
        ap (digits (suc p)) (one_up e) ∙ digits_of p (2 ^ p) (suc k) (le_refl _) (pow-lt (less p)) ∙ ap (λ (n : ℕ). 2 ^ n) (back p) ∙ sym (digits_full (suc p) m e)
  ]
    where
      back : (p : ℕ) → p ≡ suc p - 1
      back p = omega arith

  pub size_are : size (m * 2 ^ k) ≡ suc p + k + bit (is_full (suc p) m)
  unfolding bit
  size_are = elim (le_or_lt (2 ^ suc p) m) [
    | inr lt ↦ size_of p k m lo lt ∙ plain p k ∙ ap (λ (b : Bool). suc p + k + bit b) (sym (not_full (suc p) m lt))
    | inl ge ↦
        let e = le_antisymm hi ge in
        ap size (one_up e) ∙ size_of p (suc k) (2 ^ p) (le_refl _) (pow-lt (less p)) ∙ raised p k ∙ ap (λ (b : Bool). suc p + k + bit b) (sym (is_full_lem (suc p) m e))
  ]
    where
      plain : (p k : ℕ) → suc (p + k) ≡ suc p + k + 0
      plain p k = omega arith

      raised : (p k : ℕ) → suc (p + suc k) ≡ suc p + k + 1
      raised p k = omega arith

-- ---- N with p digits and `below` more, and perhaps something below them

module _ (w : Way) (p below N : ℕ) (more : Bool) (lo : 2 ^ (p + below) ≤ N) (hi : N < 2 ^ (suc p + below)) where
  abbrev M : ℕ
  M = 2 * N + bit more

  abbrev u : ℕ
  u = 2 ^ (below + 1)

  abbrev q : ℕ
  q = N / 2 ^ below

  abbrev x : ℕ
  x = 2 * (N % 2 ^ below) + bit more

  abbrev pub at_rest : Location
  at_rest = location_of x u

  abbrev pub goes : Bool
  goes = goes_up w at_rest (eqb (q % 2) 1)

  abbrev pub kept_digits : ℕ
  kept_digits = q + bit goes

  u_is : u ≡ 2 ^ below * 2
  u_is = pow-add 2 below 1

  M_is : M ≡ q * u + x
  M_is = join (2 ^ below) u q (N % 2 ^ below) u_is (div-add-mod' N (2 ^ below))
    where
      join : (W u q r : ℕ) → u ≡ W * 2 → q * W + r ≡ N → M ≡ q * u + (2 * r + bit more)
      join W u q r e f = omega (arith, ap (λ (n : ℕ). q * n) e)

  x_lt : x < u
  x_lt = go (N % 2 ^ below) (2 ^ below) u u_is (mod-lt N (pow_pos below)) (bit_le more)
    where
      go : (r W u : ℕ) → u ≡ W * 2 → r < W → bit more ≤ 1 → 2 * r + bit more < u
      go r W u e h k = omega arith

  q_ge : 2 ^ p ≤ q
  q_ge = (le-div_iff_mul-le (pow_pos below)).1 (le_trans (le_of_eq (sym (pow-add 2 p below))) lo)

  q_lt : q < 2 ^ suc p
  q_lt = shr_lt (suc p) below hi

  M_size : size M ≡ suc (suc p + below)
  M_size = size_is M (suc p + below) (double (2 ^ (p + below)) (2 ^ (suc p + below)) (twice p below) lo) (lt_of_lt_of_le (under (2 ^ (suc p + below)) hi (bit_le more)) (le_of_eq (sym (pow-succ' 2 (suc p + below)))))
    where
      twice : (p b : ℕ) → 2 ^ (suc p + b) ≡ 2 * 2 ^ (p + b)
      twice p b = ap (λ (n : ℕ). 2 ^ n) (shift p b) ∙ pow-succ' 2 (p + b)
        where
          shift : (p b : ℕ) → suc p + b ≡ suc (p + b)
          shift p b = omega arith

      double : (a b : ℕ) → b ≡ 2 * a → a ≤ N → b ≤ 2 * N + bit more
      double a b e h = omega arith

      under : (b : ℕ) → N < b → bit more ≤ 1 → 2 * N + bit more < 2 * b
      under b h k = omega arith

  unit_is : unit (suc p) M ≡ u
  unfolding unit
  unit_is = ap (λ (z : ℕ). 2 ^ (z - suc p)) M_size ∙ ap (λ (z : ℕ). 2 ^ z) (left p below)
    where
      left : (p b : ℕ) → suc (suc p + b) - suc p ≡ b + 1
      left p b = omega arith

  chosen_is : chosen w (suc p) M ≡ kept_digits * u
  unfolding chosen on_grid
  chosen_is =
      ap (λ (z : ℕ). on_grid w z M) unit_is ∙ ap (on_grid w u) M_is ∙ ap (λ (z : ℕ). z * u) (selected_at q u x x_lt w)

  kept_ge : 2 ^ p ≤ kept_digits
  kept_ge = le_trans q_ge (more_than q (bit goes))
    where
      more_than : (a b : ℕ) → a ≤ a + b
      more_than a b = omega arith

  kept_le : kept_digits ≤ 2 ^ suc p
  kept_le = go q (bit goes) (2 ^ suc p) q_lt (bit_le goes)
    where
      go : (a b n : ℕ) → a < n → b ≤ 1 → a + b ≤ n
      go a b n h k = omega arith

  ternary_is : compare (chosen w (suc p) M) M ≡ side at_rest goes
  ternary_is = ap (λ (z : ℕ). compare z M) chosen_is ∙ ap (compare (kept_digits * u)) M_is ∙ side_at q u x x_lt w (eqb (q % 2) 1)

  pub rounded_is : (s e : ℕ) (n : Bool) → e ≡ suc p + (below + 1) + bit (is_full (suc p) kept_digits) + s
      → rounded w (suc p) s n M ≡ ranged e (number n e (as_digits (suc p) kept_digits) (signed n (side at_rest goes)))
  unfolding rounded
  rounded_is s e n f =
      let c = chosen w (suc p) M in
      let z : size c + s ≡ e = ap (λ (y : ℕ). size y + s) chosen_is ∙ ap (λ (y : ℕ). y + s) (size_are p (below + 1) kept_digits kept_ge kept_le) ∙ sym f in
      let d : digits (suc p) c ≡ as_digits (suc p) kept_digits = ap (digits (suc p)) chosen_is ∙ digits_are p (below + 1) kept_digits kept_ge kept_le in
      let t = ternary_is in
      ap (λ (y : ℕ). ranged y (number n y (digits (suc p) c) (signed n (compare c M)))) z
      ∙ ap (λ (y : ℕ). ranged e (number n e y (signed n (compare c M)))) d ∙ ap (λ (o : Ordering). ranged e (number n e (as_digits (suc p) kept_digits) (signed n o))) t

-- the same over any number of digits but none
pub rounded_at : (w : Way) (p below N : ℕ) (more : Bool) → 0 < p → 2 ^ (p + below) ≤ 2 * N → N < 2 ^ (p + below) → (at : Location) (up : Bool) (m s e : ℕ) (n : Bool)
    → at ≡ location_of (2 * (N % 2 ^ below) + bit more) (2 ^ (below + 1)) → up ≡ goes_up w at (eqb (N / 2 ^ below % 2) 1) → m ≡ N / 2 ^ below + bit up
    → e ≡ p + (below + 1) + bit (is_full p m) + s → rounded w p s n (2 * N + bit more) ≡ ranged e (number n e (as_digits p m) (signed n (side at up)))
rounded_at w zero below N more h lo hi at up m s e n ea eu em ee = absurd (omega arith)
rounded_at w (suc p) below N more h lo hi at up m s e n ea eu em ee =
    let twice : 2 ^ (suc p + below) ≡ 2 * 2 ^ (p + below) = ap (λ (k : ℕ). 2 ^ k) (shift p below) ∙ pow-succ' 2 (p + below) in
    let half : 2 ^ (p + below) ≤ N = omega arith in
    let eu' : up ≡ goes_up w (location_of (2 * (N % 2 ^ below) + bit more) (2 ^ (below + 1))) (eqb (N / 2 ^ below % 2) 1) = eu ∙ ap (λ (a : Location). goes_up w a (eqb (N / 2 ^ below % 2) 1)) ea in
    let em' : m ≡ N / 2 ^ below + bit (goes_up w (location_of (2 * (N % 2 ^ below) + bit more) (2 ^ (below + 1))) (eqb (N / 2 ^ below % 2) 1)) = em ∙ ap (λ (b : Bool). N / 2 ^ below + bit b) eu' in
    rounded_is w p below N more half hi s e n (ee ∙ ap (λ (k : ℕ). suc p + (below + 1) + bit (is_full (suc p) k) + s) em')
    ∙ ap (λ (k : ℕ). ranged e (number n e (as_digits (suc p) k) (signed n (side at_digits (goes_up w at_digits odd_digit))))) (sym em')
    ∙ ap (λ (b : Bool). ranged e (number n e (as_digits (suc p) m) (signed n (side at_digits b)))) (sym eu')
    ∙ ap (λ (a : Location). ranged e (number n e (as_digits (suc p) m) (signed n (side a up)))) (sym ea)
  where
    shift : (p b : ℕ) → suc p + b ≡ suc (p + b)
    shift p b = omega arith

    at_digits : Location
    at_digits = location_of (2 * (N % 2 ^ below) + bit more) (2 ^ (below + 1))

    odd_digit : Bool
    odd_digit = eqb (N / 2 ^ below % 2) 1

-- ---- what is answered and left

module _ (p e m : ℕ) (n : Bool) (o : Ordering) (t : ℤ) (before after : List ℕ) (r : Placed)
    (t_is : t ≡ ternary_of o) (count : length before ≡ limbs_for p) (before_is : before ≡ limbs_of (limbs_for p) (m * 2 ^ spare_bits p)) (st : Settled e t before r after) where
  abbrev answered : Answer
  answered = ranged e (number n e m o)

  pub settled : (r ≡ placed_of answered) × (after ≡ limbs_after p answered)
  unfolding placed_of limbs_after refused_by
  settled = elim (le_or_lt e most_exponent) [
    | inr h ↦
        let a = is_large e (number n e m o) h in
        ((st.large h).0 ∙ ap placed_of (sym a), (st.large h).1 ∙ ap (λ (k : ℕ). replicate k 0) count ∙ ap (limbs_after p) (sym a))
    | inl h ↦ elim (le_or_lt least_exponent e) [
      | inr k ↦
          let a = is_small e (number n e m o) k in
          ((st.small k).0 ∙ ap placed_of (sym a), (st.small k).1 ∙ ap (λ (i : ℕ). replicate i 0) count ∙ ap (limbs_after p) (sym a))
      | inl k ↦
          let a = is_in e (number n e m o) k h in
          let f : record { rule = 0; exponent = e; ternary = t } ≡ placed_of (number n e m o) = ap (λ (i : ℤ). record { rule = 0; exponent = e; ternary = i }) t_is in
          ((st.inside k h).0 ∙ f ∙ ap placed_of (sym a), (st.inside k h).1 ∙ before_is ∙ ap (limbs_after p) (sym a))
    ]
  ]
