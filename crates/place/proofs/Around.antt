-- A little more and a little less than a number of p digits: what is selected of it, and what the target then holds. Assumes nothing.
use mathlib.Core.Path.{◌≡◌, refl, sym, ap, ◌∙◌, subst}
use mathlib.Core.Logic.{inl, inr}
use mathlib.Core.Bool.{Bool, true, false}
use mathlib.Core.List.{List}
use Prim.Native.Nat.{Ordering}
use Prim.Native.Nat.{ℕ, ◌+◌, ◌-◌, ◌*◌, ◌/◌, ◌%◌, ◌^◌, ◌≤◌, ◌<◌}
use native.Mathlib.Nat.{add-zero, le_trans, le_of_eq, lt_of_lt_of_le, mul-le-mul_right, le-div_iff_mul-le, div-add-mod'}
use native.Mathlib.Omega.{arith}
use lib.Dec.{eqb}
use lib.IntN.{ℤ}
use lib.ListN.{length}
use lib.Pow.{pow_pos, pow-add, pow-lt, shr_lt}
use mir.Val.{bool_byte}
use Rattle.limb.specs.Carry.{bit}
use Rattle.limb.specs.Value.{value_of, Below}
use Rattle.limb.proofs.Carry.{bit_byte, byte_le}
use Rattle.limb.proofs.Powers.{moved_twice}
use Rattle.limb.proofs.Sizes.{part_most}
use Rattle.limb.proofs.Value.{value_lt, value_unique, base_pow}
use Rattle.numbers.specs.Limits.{least_exponent, most_exponent, limbs_for}
use Rattle.numbers.specs.Limbs.{limbs_of}
use Rattle.numbers.specs.Operand.{spare_bits}
use Rattle.numbers.proofs.Limits.{limbs_fewest}
use Rattle.numbers.proofs.Digits.{limbs_count, limbs_below, limbs_value, digits_and_spare}
use Rattle.rounding.specs.Mode.{Way, near, under, over, way}
use Rattle.rounding.specs.Answer.{number, ranged, signed, rounded}
use Rattle.rounding.proofs.Order.{le_or_lt, units, remainder}
use Rattle.rounding.specs.declared.Mode.{Mode}
use Rattle.location.specs.declared.Location.{Location}
use Rattle.location.specs.declared.Location.TheVariants.{Lower, Upper}
use Rattle.location.specs.Location.{from_middle, location_of, goes_up, side}
use Rattle.location.specs.Ternary.{ternary_of}
use Rattle.location.proofs.Locating.{at_something}
use Rattle.kept.specs.Walk.{is_full, as_digits, RoundedUp}
use Rattle.kept.proofs.Unit.{not_full, is_full_lem, digits_kept, digits_full}
use Rattle.place.specs.declared.Placed.{Placed}
use Rattle.place.specs.Placed.{run_answer, placed_of, limbs_after}
use Rattle.place.specs.InRange.{Settled}
use Rattle.place.specs.Beside.{Stored, above_answer, below_answer}
use Rattle.place.proofs.Placing.{rounded_at, settled}

-- ---- the rest

-- half of a digit, b digits below the unit
at_lower : (b : ℕ) → 0 < b → location_of 1 (2 ^ (b + 1)) ≡ Lower
unfolding from_middle
at_lower b h = at_something Ordering.lt 1 (2 ^ (b + 1)) (omega arith) (let z : 2 ^ 1 < 2 ^ (b + 1) = pow-lt (more b h) in z)
  where
    more : (b : ℕ) → 0 < b → 1 < b + 1
    more b h = omega arith

-- a unit less that
at_upper : (b : ℕ) → 0 < b → location_of (2 * (2 ^ b - 1) + 1) (2 ^ (b + 1)) ≡ Upper
unfolding from_middle
at_upper b h = go (2 ^ b) (2 ^ (b + 1)) (pow-add 2 b 1) (let z : 2 ^ 0 < 2 ^ b = pow-lt h in z)
  where
    go : (W U : ℕ) → U ≡ W * 2 → 1 < W → location_of (2 * (W - 1) + 1) U ≡ Upper
    go W U e k = at_something Ordering.gt (2 * (W - 1) + 1) U (omega arith) (omega arith)

-- the last digit counts at a tie alone
lower_any : (w : Way) (odd : Bool) → goes_up w Lower false ≡ goes_up w Lower odd
unfolding goes_up
lower_any near odd = refl
lower_any under odd = refl
lower_any over odd = refl

upper_any : (w : Way) (odd : Bool) → goes_up w Upper false ≡ goes_up w Upper odd
unfolding goes_up
upper_any near odd = refl
upper_any under odd = refl
upper_any over odd = refl

-- ---- k units of 2 ^ b, r below the unit, and half of a digit

module _ (w : Way) (p b k r : ℕ) (P : 0 < p) (lt : r < 2 ^ b) (lo : 2 ^ p ≤ 2 * k) (hi : k < 2 ^ p) where
  abbrev N : ℕ
  N = k * 2 ^ b + r

  N_lo : 2 ^ (p + b) ≤ 2 * N
  N_lo = go (2 ^ b) (2 ^ (p + b)) (2 ^ p * 2 ^ b) (pow-add 2 p b) (mul-le-mul_right (2 ^ b) lo)
    where
      go : (B n m : ℕ) → n ≡ m → m ≤ 2 * k * B → n ≤ 2 * (k * B + r)
      go B n m e h = omega arith

  N_hi : N < 2 ^ (p + b)
  N_hi = lt_of_lt_of_le (part_most k (2 ^ p) (2 ^ b) r hi lt) (le_of_eq (sym (pow-add 2 p b)))

  rounded_parts : (at : Location) (up : Bool) (s e : ℕ) (n : Bool) → at ≡ location_of (2 * r + 1) (2 ^ (b + 1)) → up ≡ goes_up w at (eqb (k % 2) 1) → e ≡ p + (b + 1) + bit (is_full p (k + bit up)) + s
      → rounded w p s n (2 * N + 1) ≡ ranged e (number n e (as_digits p (k + bit up)) (signed n (side at up)))
  unfolding bit
  rounded_parts at up s e n a u c =
      rounded_at w p b N true P N_lo N_hi at up (k + bit up) s e n (a ∙ ap (λ (m : ℕ). location_of (2 * m + 1) (2 ^ (b + 1))) (sym (remainder k (2 ^ b) r lt)))
      (u ∙ ap (λ (m : ℕ). goes_up w at (eqb (m % 2) 1)) (sym (units k (2 ^ b) r lt))) (ap (λ (m : ℕ). m + bit up) (sym (units k (2 ^ b) r lt))) c

-- ---- limbs by their value

limbs_are : (p : ℕ) (t : List ℕ) (v : ℕ) → Below (2 ^ 64) t → length t ≡ limbs_for p → value_of t ≡ v → t ≡ limbs_of (limbs_for p) v
limbs_are p t v lim count e =
    let small : v < 2 ^ (64 * limbs_for p) = subst (λ (n : ℕ). n < 2 ^ (64 * limbs_for p)) e (subst (λ (n : ℕ). value_of t < n) (base_pow (length t) ∙ ap (λ (n : ℕ). 2 ^ (64 * n)) count) (value_lt (2 ^ 64) t lim)) in
    value_unique (2 ^ 64) t (limbs_of (limbs_for p) v) lim (limbs_below (limbs_for p) v) (count ∙ sym (limbs_count (limbs_for p) v)) (e ∙ sym (limbs_value (limbs_for p) v small))

-- ---- an exponent in range

abbrev pub placed_at : ℕ → ℤ → Placed
placed_at e tern = record { rule = 0; exponent = e; ternary = tern }

in_range : (e : ℕ) (tern : ℤ) (t : List ℕ) → least_exponent ≤ e → e ≤ most_exponent → Settled e tern t (placed_at e tern) t
in_range e tern t l m = record { large = λ k. absurd (omega arith); small = λ k. absurd (omega arith); inside = λ k i. (refl, refl) }

-- ---- a number of p digits in a target

-- what the code asks of it
module _ (p exponent : ℕ) (t : List ℕ) (h : Stored p exponent t) where
  wide : 64 * length t ≡ p + spare_bits p
  wide = ap (λ (n : ℕ). 64 * n) h.count ∙ sym (digits_and_spare p)

  pub spare_is : spare_bits p ≡ 64 * length t - p
  spare_is = omega (arith, wide)

  pub fits : p ≤ 64 * length t
  fits = omega (arith, wide)

  pub some_limbs : 0 < length t
  some_limbs = omega (arith, wide, h.some)

  pub spare_few : 64 * length t - p < 64
  spare_few = omega (arith, ap (λ (n : ℕ). 64 * n) h.count, limbs_fewest p)

  pub clean : value_of t % 2 ^ (64 * length t - p) ≡ 0
  clean = subst (λ (n : ℕ). value_of t % 2 ^ n ≡ 0) spare_is h.clean

-- what is selected
module _ (p exponent : ℕ) (t : List ℕ) (h : Stored p exponent t) where
  abbrev S : ℕ
  S = spare_bits p

  abbrev b : ℕ
  b = S + 64

  abbrev q : ℕ
  q = value_of t / 2 ^ S

  abbrev s : ℕ
  s = exponent - 64 * (length t + 1) - 1

  value_is : value_of t ≡ q * 2 ^ S
  value_is = sym (div-add-mod' (value_of t) (2 ^ S)) ∙ ap (λ (m : ℕ). q * 2 ^ S + m) h.clean ∙ add-zero _

  run_is : value_of t * 2 ^ 64 ≡ q * 2 ^ b
  run_is = ap (λ (m : ℕ). m * 2 ^ 64) value_is ∙ sym (moved_twice q S 64)

  q_lt : q < 2 ^ p
  q_lt = shr_lt p S (subst (λ (m : ℕ). value_of t < m) (base_pow (length t) ∙ ap (λ (n : ℕ). 2 ^ n) (wide p exponent t h)) (value_lt (2 ^ 64) t h.limb))

  half : 2 ^ p ≡ 2 ^ (p - 1) * 2
  half = ap (λ (n : ℕ). 2 ^ n) (let z : p ≡ p - 1 + 1 = omega (arith, h.some) in z) ∙ pow-add 2 (p - 1) 1

  q_half : 2 ^ (p - 1) ≤ q
  q_half = (le-div_iff_mul-le (pow_pos S)).1 (le_trans (le_of_eq (sym (pow-add 2 (p - 1) S) ∙ ap (λ (n : ℕ). 2 ^ n) (first (length t) S (wide p exponent t h)))) h.lead)
    where
      first : (n i : ℕ) → 64 * n ≡ p + i → p - 1 + i ≡ 64 * n - 1
      first n i e = omega (arith, h.some)

  q_ge : 2 ^ p ≤ 2 * q
  q_ge = go (2 ^ p) (2 ^ (p - 1)) half q_half
    where
      go : (a c : ℕ) → a ≡ c * 2 → c ≤ q → a ≤ 2 * q
      go a c e k = omega arith

  count : (f : ℕ) → exponent + f ≡ p + (b + 1) + f + s
  count f = go (length t) S (wide p exponent t h) h.deep
    where
      go : (n i : ℕ) → 64 * n ≡ p + i → 64 * (n + 1) < exponent → exponent + f ≡ p + (i + 64 + 1) + f + (exponent - 64 * (n + 1) - 1)
      go n i e k = omega arith

  module _ (mode : Mode) (negative : Bool) where
    abbrev w : Way
    w = way mode negative

    above_is : (up : Bool) (e : ℕ) → up ≡ goes_up w Lower false → e ≡ exponent + bit (is_full p (q + bit up))
        → above_answer mode p negative exponent t ≡ ranged e (number negative e (as_digits p (q + bit up)) (signed negative (side Lower up)))
    unfolding above_answer run_answer
    above_is up e u f =
        ap (λ (m : ℕ). rounded w p s negative (2 * m + 1)) (run_is ∙ sym (add-zero (q * 2 ^ b)))
        ∙ rounded_parts w p b q 0 h.some (pow_pos b) q_ge q_lt Lower up s e negative (sym (at_lower b (omega arith))) (u ∙ lower_any w (eqb (q % 2) 1)) (f ∙ count (bit (is_full p (q + bit up))))

    module _ (out : goes_up w Upper false ≡ true) where
      -- the digits of one less are those of k, and then ones
      less_is : (k c : ℕ) → 0 < c → 2 ^ p ≤ 2 * k → k < 2 ^ p → q * 2 ^ b ≡ (k + 1) * 2 ^ c → exponent ≡ p + (c + 1) + bit (is_full p (k + 1)) + s → as_digits p (k + 1) ≡ q
          → below_answer mode p negative exponent t ≡ ranged exponent (number negative exponent q (signed negative (side Upper true)))
      unfolding below_answer run_answer bit
      less_is k c C lo hi e f d =
          ap (rounded w p s negative) (one_less (value_of t * 2 ^ 64) (2 ^ c) (run_is ∙ e) (pow_pos c))
          ∙ rounded_parts w p c k (2 ^ c - 1) h.some (low (2 ^ c) (pow_pos c)) lo hi Upper true s exponent negative (sym (at_upper c C)) (sym out ∙ upper_any w (eqb (k % 2) 1)) f
          ∙ ap (λ (m : ℕ). ranged exponent (number negative exponent m (signed negative (side Upper true)))) d
        where
          one_less : (m W : ℕ) → m ≡ (k + 1) * W → 0 < W → 2 * m - 1 ≡ 2 * (k * W + (W - 1)) + 1
          one_less m W e h = omega arith

          low : (W : ℕ) → 0 < W → W - 1 < W
          low W h = omega arith

      below_is : below_answer mode p negative exponent t ≡ ranged exponent (number negative exponent q (signed negative (side Upper true)))
      unfolding bit
      below_is = elim (le_or_lt (2 ^ p) (2 * (q - 1))) [ inl l ↦ plain l | inr l ↦ power (is_half (2 ^ (p - 1)) (2 ^ p) half l q_half) ]
        where
          some : 0 < q
          some = lt_of_lt_of_le (pow_pos (p - 1)) q_half

          same : q ≡ q - 1 + 1
          same = omega (arith, some)

          is_half : (a n : ℕ) → n ≡ a * 2 → 2 * (q - 1) < n → a ≤ q → q ≡ a
          is_half a n e k l = omega arith

          -- as many digits as before
          plain : 2 ^ p ≤ 2 * (q - 1) → below_answer mode p negative exponent t ≡ ranged exponent (number negative exponent q (signed negative (side Upper true)))
          plain l =
              less_is (q - 1) b (omega arith) l (under_it (2 ^ p) q_lt) (ap (λ (m : ℕ). m * 2 ^ b) same)
              (sym (add-zero exponent) ∙ count 0 ∙ ap (λ (f : Bool). p + (b + 1) + bit f + s) (sym (not_full p q q_lt) ∙ ap (is_full p) same))
              (ap (as_digits p) (sym same) ∙ digits_kept p q q_lt)
            where
              under_it : (n : ℕ) → q < n → q - 1 < n
              under_it n h = omega arith

          -- a power of two: all ones, a digit lower
          power : q ≡ 2 ^ (p - 1) → below_answer mode p negative exponent t ≡ ranged exponent (number negative exponent q (signed negative (side Upper true)))
          power e =
              let k = 2 * q - 1 in
              let full : k + 1 ≡ 2 ^ p = whole (2 ^ (p - 1)) (2 ^ p) half e in
              less_is k (S + 63) (omega arith) (lo (2 ^ p) full some) (hi (2 ^ p) full) (ones (2 ^ b) (2 ^ (S + 63)) (ap (λ (n : ℕ). 2 ^ n) (next S) ∙ pow-add 2 (S + 63) 1))
              (sym (add-zero exponent) ∙ count 0 ∙ top S s ∙ ap (λ (f : Bool). p + (S + 63 + 1) + bit f + s) (sym (is_full_lem p (k + 1) full)))
              (digits_full p (k + 1) full ∙ sym e)
            where
              whole : (a n : ℕ) → n ≡ a * 2 → q ≡ a → 2 * q - 1 + 1 ≡ n
              whole a n f g = omega (arith, some)

              lo : (n : ℕ) → 2 * q - 1 + 1 ≡ n → 0 < q → n ≤ 2 * (2 * q - 1)
              lo n f g = omega arith

              hi : (n : ℕ) → 2 * q - 1 + 1 ≡ n → 2 * q - 1 < n
              hi n f = omega arith

              next : (i : ℕ) → i + 64 ≡ i + 63 + 1
              next i = omega arith

              ones : (B C : ℕ) → B ≡ C * 2 → q * B ≡ (2 * q - 1 + 1) * C
              ones B C f = let z : 2 * q - 1 + 1 ≡ 2 * q = omega (arith, some) in ap (λ (m : ℕ). q * m) f ∙ twice C ∙ ap (λ (m : ℕ). m * C) (sym z)
                where
                  twice : (C : ℕ) → q * (C * 2) ≡ 2 * q * C
                  twice C = omega arith

              top : (i j : ℕ) → p + (i + 64 + 1) + 0 + j ≡ p + (i + 63 + 1) + 1 + j
              top i j = omega arith

    -- ---- what is told and left

    pub above_placed : exponent < most_exponent → (up out : Bool) (raised : List ℕ) (tern : ℤ) → up ≡ goes_up w Lower false → RoundedUp S (q + bit up) t out raised → Below (2 ^ 64) raised
        → tern ≡ ternary_of (signed negative (side Lower up))
        → (placed_at (exponent + bool_byte out) tern ≡ placed_of (above_answer mode p negative exponent t)) × (raised ≡ limbs_after p (above_answer mode p negative exponent t))
    above_placed room up out raised tern u a limbs g =
        let digits : 64 * length t - S ≡ p = omega (arith, wide p exponent t h) in
        let m = q + bit up in
        let e = exponent + bool_byte out in
        let size = a.size ∙ h.count in
        let value : value_of raised ≡ as_digits p m * 2 ^ S = a.value ∙ ap (λ (n : ℕ). as_digits n m * 2 ^ S) digits in
        let told = settled p e (as_digits p m) negative (signed negative (side Lower up)) tern raised raised (placed_at e tern) g size (limbs_are p raised _ limbs size value) (in_range e tern raised (omega (arith, h.least)) (omega (arith, room, byte_le out))) in
        let is = above_is up e u (ap (λ (n : ℕ). exponent + n) (sym (bit_byte out) ∙ ap bit (a.out_is ∙ ap (λ (n : ℕ). is_full n m) digits))) in
        (told.0 ∙ ap placed_of (sym is), told.1 ∙ ap (limbs_after p) (sym is))

    pub below_placed : goes_up w Upper false ≡ true → (tern : ℤ) → tern ≡ ternary_of (signed negative (side Upper true))
        → (placed_at exponent tern ≡ placed_of (below_answer mode p negative exponent t)) × (t ≡ limbs_after p (below_answer mode p negative exponent t))
    below_placed out tern g =
        let told = settled p exponent q negative (signed negative (side Upper true)) tern t t (placed_at exponent tern) g h.count (limbs_are p t _ h.limb h.count value_is) (in_range exponent tern t h.least h.most) in
        let is = below_is out in
        (told.0 ∙ ap placed_of (sym is), told.1 ∙ ap (limbs_after p) (sym is))
