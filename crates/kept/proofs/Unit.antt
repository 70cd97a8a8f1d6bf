-- Values of a target to which the last unit is added. Assumes nothing.
use mathlib.Core.Path.{◌≡◌, refl, sym, ap, ◌∙◌, subst}
use mathlib.Core.Bool.{true, false, not}
use mathlib.Core.List.{List}
use Prim.Native.Nat.{ℕ, zero, suc, ◌+◌, ◌-◌, ◌*◌, ◌/◌, ◌%◌, ◌^◌, ◌≤◌, ◌<◌}
use native.Mathlib.Nat.{pow-zero, pow-succ', lt_of_lt_of_le, le_of_eq, mul-le-mul_right, lt_of_mul-lt-mul_right, div-add-mod', add-zero}
use native.Mathlib.Numerals.{add-one}
use native.Mathlib.Omega.{arith}
use lib.Dec.{eqb}
use lib.ListN.{length, get_or, take, set, length-set}
use lib.Pow.{pow_pos, pow-add, shr_lt}
use borrow.Author.Tests.{eq-eqb, ne_eqb}
use Rattle.limb.specs.Carry.{bit}
use Rattle.limb.specs.Value.{value_in, Below}
use Rattle.limb.proofs.Value.{value_set, value_lt, base_pow}
use Rattle.rounding.proofs.Order.{mul_one_one}
use Rattle.kept.specs.Walk.{UnitAdded, RoundedUp, is_full, as_digits}
use Rattle.kept.proofs.Reaching.{top_apart}

-- ---- the walk

module _ (B : ℕ) where
  pub unit_start : (t : List ℕ) (a b : ℕ) → a ≡ b → value_in B t + B ^ 0 * a ≡ value_in B t + b
  unit_start t a b e = rw (pow-zero) (omega arith)

  -- one turn: limb i becomes s, and the carry n goes on
  pub unit_turn : (t : List ℕ) (i add all s n : ℕ) → i < length t → s + B * n ≡ get_or t i 0 + add + 0 → value_in B t + B ^ i * add ≡ all
      → value_in B (set t i s) + B ^ (i + 1) * n ≡ all
  unit_turn t i add all s n h e inv = rw (add-one i, pow-succ' B i) (omega (arith, ap (λ (m : ℕ). B ^ i * m) e, value_set B t i s h))

  pub unit_done : (t : List ℕ) (i add all P : ℕ) → add ≡ 0 → value_in B t + B ^ i * add ≡ all → value_in B t + P * bit false ≡ all
  unfolding bit
  unit_done t i add all P e inv = let f = rw e at inv in omega arith

pub one_left : (add : ℕ) → add ≤ 1 → bit (not (eqb add 0)) ≡ add
unfolding bit
one_left zero h = refl
one_left (suc zero) h = refl
one_left (suc (suc a)) h = absurd (omega arith)

-- ---- digits that may be full

pub not_full : (p m : ℕ) → m < 2 ^ p → is_full p m ≡ false
unfolding is_full
not_full p m h = ne_eqb m (2 ^ p) (λ e. clash m (2 ^ p) e h)
  where
    clash : (m n : ℕ) → m ≡ n → m < n → ⊥
    clash m n e h = omega arith

pub is_full_lem : (p m : ℕ) → m ≡ 2 ^ p → is_full p m ≡ true
unfolding is_full
is_full_lem p m e = eq-eqb m (2 ^ p) e

pub digits_kept : (p m : ℕ) → m < 2 ^ p → as_digits p m ≡ m
unfolding as_digits
digits_kept p m h = rw (not_full p m h)

pub digits_full : (p m : ℕ) → m ≡ 2 ^ p → as_digits p m ≡ 2 ^ (p - 1)
unfolding as_digits
digits_full p m e = rw (is_full_lem p m e)

-- ---- a target of digits with s spare bits

module _ (t : List ℕ) (s : ℕ) (some : 0 < length t) (less : s < 64) (h : Below (2 ^ 64) t) (clean : value_in (2 ^ 64) t % 2 ^ s ≡ 0) where
  abbrev p : ℕ
  p = 64 * length t - s

  abbrev v : ℕ
  v = value_in (2 ^ 64) t

  abbrev q : ℕ
  q = value_in (2 ^ 64) t / 2 ^ s

  width : 64 * length t ≡ p + s
  width = omega arith

  top_is : (2 ^ 64) ^ length t ≡ 2 ^ p * 2 ^ s
  top_is = base_pow (length t) ∙ ap (λ (n : ℕ). 2 ^ n) width ∙ pow-add 2 p s

  v_is : v ≡ q * 2 ^ s
  v_is = sym (div-add-mod' v (2 ^ s)) ∙ ap (λ (m : ℕ). q * 2 ^ s + m) clean ∙ add-zero _

  q_lt : q < 2 ^ p
  q_lt = shr_lt p s (subst (λ (m : ℕ). v < m) (base_pow (length t) ∙ ap (λ (n : ℕ). 2 ^ n) width) (value_lt (2 ^ 64) t h))

  -- not added
  pub stays : RoundedUp s (q + bit false) t false t
  unfolding bit
  stays =
      let e : q + 0 ≡ q = add-zero q in
      record {
        size = refl;
        out_is = sym (ap (is_full p) e ∙ not_full p q q_lt);
        value = v_is ∙ ap (λ (m : ℕ). m * 2 ^ s) (sym (ap (as_digits p) e ∙ digits_kept p q q_lt));
      }

  module _ (a : List ℕ) (below : Below (2 ^ 64) a) where
    -- added, with no carry out of the top
    pub fits : UnitAdded s t false a → RoundedUp s (q + bit true) t false a
    unfolding bit
    fits u =
        let w = value_in (2 ^ 64) a in
        let e : w ≡ (q + 1) * 2 ^ s = none w ((2 ^ 64) ^ length t) u.value in
        let lt : w < 2 ^ p * 2 ^ s = subst (λ (m : ℕ). w < m) (ap (λ (n : ℕ). (2 ^ 64) ^ n) u.size ∙ top_is) (value_lt (2 ^ 64) a below) in
        let small : q + 1 < 2 ^ p = lt_of_mul-lt-mul_right (2 ^ s) (subst (λ (m : ℕ). m < 2 ^ p * 2 ^ s) e lt) in
        record { size = u.size; out_is = sym (not_full p (q + 1) small); value = e ∙ ap (λ (m : ℕ). m * 2 ^ s) (sym (digits_kept p (q + 1) small)) }
      where
        none : (w T : ℕ) → w + T * 0 ≡ v + 2 ^ s → w ≡ (q + 1) * 2 ^ s
        none w T e = omega (arith, v_is)

    -- added, with a carry out of the top: all digits were ones, and only the first digit is left, one up
    pub overflows : UnitAdded s t true a → RoundedUp s (q + bit true) t true (set a (length a - 1) (2 ^ 63))
    unfolding bit
    overflows u =
        let w = value_in (2 ^ 64) a in
        let T = (2 ^ 64) ^ length t in
        let n = length a - 1 in
        let room : (q + 1) * 2 ^ s ≤ 2 ^ p * 2 ^ s = mul-le-mul_right (2 ^ s) (next q (2 ^ p) q_lt) in
        let sum : w + T * 1 ≡ (q + 1) * 2 ^ s = u.value ∙ one in
        let full : (q + 1) * 2 ^ s ≡ 2 ^ p * 2 ^ s = all w T ((q + 1) * 2 ^ s) (2 ^ p * 2 ^ s) top_is room sum in
        let zero_left : w ≡ 0 = nothing w T ((q + 1) * 2 ^ s) (2 ^ p * 2 ^ s) top_is room sum in
        let m_is : q + 1 ≡ 2 ^ p = mul_one_one (q + 1) (2 ^ p) (2 ^ s) (pow_pos s) full in
        let long : 0 < length a = lt_of_lt_of_le some (le_of_eq (sym u.size)) in
        let here : n < length a = last (length a) long in
        let put = value_set (2 ^ 64) a n (2 ^ 63) here in
        let only : value_in (2 ^ 64) (set a n (2 ^ 63)) ≡ (2 ^ 64) ^ n * 2 ^ 63 = first w (value_in (2 ^ 64) (take n a)) (value_in (2 ^ 64) (set a n (2 ^ 63))) ((2 ^ 64) ^ n * 2 ^ 63) ((2 ^ 64) ^ n * get_or a n 0) zero_left (top_apart (2 ^ 64) a long) put in
        let place : 64 * n + 63 ≡ p - 1 + s = spot (length a) (length t) some u.size in
        record {
          size = length-set a n (2 ^ 63) ∙ u.size;
          out_is = sym (is_full_lem p (q + 1) m_is);
          value = only ∙ ap (λ (m : ℕ). m * 2 ^ 63) (base_pow n) ∙ sym (pow-add 2 (64 * n) 63) ∙ ap (λ (k : ℕ). 2 ^ k) place ∙ pow-add 2 (p - 1) s
              ∙ ap (λ (m : ℕ). m * 2 ^ s) (sym (digits_full p (q + 1) m_is));
        }
      where
        next : (q n : ℕ) → q < n → q + 1 ≤ n
        next q n h = omega arith

        one : v + 2 ^ s ≡ (q + 1) * 2 ^ s
        one = omega (arith, v_is)

        all : (w T m n : ℕ) → T ≡ n → m ≤ n → w + T * 1 ≡ m → m ≡ n
        all w T m n e h k = omega arith

        nothing : (w T m n : ℕ) → T ≡ n → m ≤ n → w + T * 1 ≡ m → w ≡ 0
        nothing w T m n e h k = omega arith

        last : (n : ℕ) → 0 < n → n - 1 < n
        last n h = omega arith

        first : (w l x y g : ℕ) → w ≡ 0 → w ≡ l + g → x + g ≡ w + y → x ≡ y
        first w l x y g e f k = omega arith

        spot : (n m : ℕ) → 0 < m → n ≡ m → 64 * (n - 1) + 63 ≡ 64 * m - s - 1 + s
        spot n m h e = omega arith
