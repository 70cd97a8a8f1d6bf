-- The steps put together: from a run that the rules let pass to the answer and the target. Assumes nothing.
use mathlib.Core.Path.{◌≡◌, refl, sym, ap, ◌∙◌, subst}
use mathlib.Core.Bool.{Bool}
use mathlib.Core.List.{List}
use Prim.Native.Nat.{ℕ, ◌+◌, ◌-◌, ◌*◌, ◌/◌, ◌%◌, ◌^◌, ◌≤◌, ◌<◌}
use native.Mathlib.Nat.{lt_of_lt_of_le}
use native.Mathlib.Omega.{arith}
use lib.Dec.{eqb}
use lib.IntN.{ℤ}
use lib.ListN.{length, get_or}
use lib.Pow.{shl-shr}
use mir.Val.{bool_byte}
use borrow.Author.Tests.{eq-eqb, ne_eqb}
use Rattle.limb.specs.Carry.{bit}
use Rattle.limb.specs.Value.{value_in, Below}
use Rattle.limb.proofs.Carry.{bit_byte}
use Rattle.limb.proofs.Value.{value_lt, value_unique, base_pow}
use Rattle.numbers.specs.Limits.{limbs_for}
use Rattle.numbers.specs.Limbs.{limbs_of}
use Rattle.numbers.specs.Operand.{spare_bits}
use Rattle.numbers.proofs.Digits.{limbs_count, limbs_below, limbs_value}
use Rattle.rounding.specs.Mode.{way}
use Rattle.rounding.specs.Answer.{Answer, number, ranged, signed}
use Rattle.rounding.specs.declared.Mode.{Mode}
use Rattle.location.specs.declared.Location.{Location}
use Rattle.place.specs.declared.Placed.{Placed}
use Rattle.location.specs.Location.{location_of, goes_up, side}
use Rattle.place.specs.Placed.{run_number, run_answer, run_rule, placed_of, limbs_after}
use Rattle.location.specs.Ternary.{ternary_of}
use Rattle.place.specs.Rounded.{refused_by, rounded_placed, rounded_limbs}
use Rattle.kept.specs.Walk.{headed, whole, Reaches, Holds, is_full, as_digits, RoundedUp}
use Rattle.place.specs.InRange.{Settled}
use Rattle.place.proofs.Placing.{rounded_at, settled}
use Rattle.kept.proofs.Reaching.{whole_lt, whole_ge, rest_low}
use Rattle.place.proofs.Rules.{Passed, passed, spare_is}

-- ---- refused, or not

module _ (mode : Mode) (p : ℕ) (negative : Bool) (unit : ℕ) (carry : Bool) (t : List ℕ) (guard : ℕ) (more : Bool) where
  abbrev pub answered : Answer
  answered = run_answer mode p negative unit (run_number carry t guard more)

  pub placed_passed : run_rule p carry t unit ≡ 0 → rounded_placed mode p negative unit carry t guard more ≡ placed_of answered
  unfolding rounded_placed
  placed_passed e = rw (eq-eqb (run_rule p carry t unit) 0 e) refl

  pub limbs_passed : run_rule p carry t unit ≡ 0 → rounded_limbs mode p negative unit carry t guard more ≡ limbs_after p answered
  unfolding rounded_limbs
  limbs_passed e = rw (eq-eqb (run_rule p carry t unit) 0 e) refl

  pub placed_refused : (rule : ℕ) → rule ≡ run_rule p carry t unit → (rule ≡ 0 → ⊥) → rounded_placed mode p negative unit carry t guard more ≡ refused_by rule
  unfolding rounded_placed
  placed_refused rule e h = rw (ne_eqb (run_rule p carry t unit) 0 (λ z. h (e ∙ z)), ← e) refl

  pub limbs_refused : (rule : ℕ) → rule ≡ run_rule p carry t unit → (rule ≡ 0 → ⊥) → rounded_limbs mode p negative unit carry t guard more ≡ t
  unfolding rounded_limbs
  limbs_refused rule e h = rw (ne_eqb (run_rule p carry t unit) 0 (λ z. h (e ∙ z))) refl

  -- two answers that meet the promise are one
  pub rounded_unique : (r s : Placed) (x y : List ℕ) → r ≡ rounded_placed mode p negative unit carry t guard more → s ≡ rounded_placed mode p negative unit carry t guard more
      → x ≡ rounded_limbs mode p negative unit carry t guard more → y ≡ rounded_limbs mode p negative unit carry t guard more → (r ≡ s) × (x ≡ y)
  rounded_unique r s x y a b c d = (a ∙ sym b, c ∙ sym d)

-- what a run with the same answer is rounded to, the run is rounded to
module _ (mode : Mode) (p : ℕ) (negative : Bool) (unit : ℕ) (carry : Bool) (t : List ℕ) (guard : ℕ) (more : Bool) (unit_too : ℕ) (carry_too : Bool) (u : List ℕ) (guard_too : ℕ) (more_too : Bool)
    (pass : run_rule p carry t unit ≡ 0) (pass_too : run_rule p carry_too u unit_too ≡ 0)
    (same : answered mode p negative unit_too carry_too u guard_too more_too ≡ answered mode p negative unit carry t guard more) where
  pub same_rounds : (q : Placed) (l : List ℕ) → q ≡ rounded_placed mode p negative unit_too carry_too u guard_too more_too → l ≡ rounded_limbs mode p negative unit_too carry_too u guard_too more_too
      → (q ≡ rounded_placed mode p negative unit carry t guard more) × (l ≡ rounded_limbs mode p negative unit carry t guard more)
  same_rounds q l e f = (
    e ∙ placed_passed mode p negative unit_too carry_too u guard_too more_too pass_too ∙ ap placed_of same ∙ sym (placed_passed mode p negative unit carry t guard more pass),
    f ∙ limbs_passed mode p negative unit_too carry_too u guard_too more_too pass_too ∙ ap (limbs_after p) same ∙ sym (limbs_passed mode p negative unit carry t guard more pass),
  )

-- ---- rounded

module _ (mode : Mode) (p : ℕ) (negative : Bool) (unit : ℕ) (carry : Bool) (t : List ℕ) (guard : ℕ) (more : Bool) (d s : ℕ)
    (pass : run_rule p carry t unit ≡ 0) (s_is : s ≡ 64 * length t - p) (lt : guard < 2 ^ 64) (reach : Reaches carry t d) where
  ok : Passed p carry t unit
  ok = passed p carry t unit pass

  abbrev N : ℕ
  N = whole carry t guard

  abbrev below : ℕ
  below = d + s

  few_below : below ≤ 128
  few_below = omega (arith, reach.most, ok.spare_few)

  digits : 64 * length t + d ≡ p + below
  digits = omega (arith, ok.digits_fit)

  lo : 2 ^ (p + below) ≤ 2 * N
  lo = subst (λ (k : ℕ). 2 ^ k ≤ 2 * N) digits (whole_ge carry t guard d reach)

  hi : N < 2 ^ (p + below)
  hi = subst (λ (k : ℕ). N < 2 ^ k) digits (whole_lt carry t guard d lt reach)

  width : 64 * length t - s ≡ p
  width = omega (arith, ok.digits_fit)

  module _ (at : Location) (t1 : List ℕ) (odd up : Bool) (t2 : List ℕ) (over : Bool) (r : Placed) (t3 : List ℕ) (tern : ℤ) (e : ℕ)
      (at_is : at ≡ location_of (2 * ((get_or t 0 0 * 2 ^ 64 + guard) % 2 ^ below) + bit more) (2 ^ (below + 1)))
      (cut : Holds (length t) (N / 2 ^ below * 2 ^ s) t1)
      (odd_is : odd ≡ eqb (value_in (2 ^ 64) t1 / 2 ^ s % 2) 1)
      (up_is : up ≡ goes_up (way mode negative) at odd)
      (raised : RoundedUp s (value_in (2 ^ 64) t1 / 2 ^ s + bit up) t1 over t2)
      (limbs : Below (2 ^ 64) t2)
      (e_is : e ≡ unit + p + d + s + bool_byte over)
      (tern_is : tern ≡ ternary_of (signed negative (side at up)))
      (end : Settled e tern t2 r t3) where
    q_is : value_in (2 ^ 64) t1 / 2 ^ s ≡ N / 2 ^ below
    q_is = ap (λ (n : ℕ). n / 2 ^ s) cut.value ∙ shl-shr (N / 2 ^ below) s

    m : ℕ
    m = N / 2 ^ below + bit up

    m_is : value_in (2 ^ 64) t1 / 2 ^ s + bit up ≡ m
    unfolding m
    m_is = ap (λ (n : ℕ). n + bit up) q_is

    p_is : 64 * length t1 - s ≡ p
    p_is = ap (λ (n : ℕ). 64 * n - s) cut.size ∙ width

    over_is : over ≡ is_full p m
    over_is = raised.out_is ∙ ap (λ (n : ℕ). is_full n (value_in (2 ^ 64) t1 / 2 ^ s + bit up)) p_is ∙ ap (is_full p) m_is

    value_is : value_in (2 ^ 64) t2 ≡ as_digits p m * 2 ^ s
    value_is = raised.value ∙ ap (λ (n : ℕ). as_digits n (value_in (2 ^ 64) t1 / 2 ^ s + bit up) * 2 ^ s) p_is ∙ ap (λ (n : ℕ). as_digits p n * 2 ^ s) m_is

    answer_is : answered mode p negative unit carry t guard more ≡ ranged e (number negative e (as_digits p m) (signed negative (side at up)))
    unfolding run_answer run_number whole headed m
    answer_is =
        rounded_at (way mode negative) p below N more (lt_of_lt_of_le (omega arith) ok.least) lo hi at up m (unit - 1) e negative
        (at_is ∙ ap (λ (n : ℕ). location_of (2 * n + bit more) (2 ^ (below + 1))) (rest_low carry t guard below ok.some_limbs few_below))
        (up_is ∙ ap (goes_up (way mode negative) at) (odd_is ∙ ap (λ (n : ℕ). eqb (n % 2) 1) q_is)) refl
        (e_is ∙ ap (λ (n : ℕ). unit + p + d + s + n) (sym (bit_byte over) ∙ ap bit over_is) ∙ count unit p d s (bit (is_full p m)) ok.some)
      where
        count : (u p d s f : ℕ) → 0 < u → u + p + d + s + f ≡ p + (d + s + 1) + f + (u - 1)
        count u p d s f h = omega arith

    size_is : length t2 ≡ limbs_for p
    size_is = raised.size ∙ cut.size ∙ ok.count

    limbs_are : t2 ≡ limbs_of (limbs_for p) (as_digits p m * 2 ^ spare_bits p)
    limbs_are =
        let v = as_digits p m * 2 ^ s in
        let small : v < 2 ^ (64 * limbs_for p) =
        subst (λ (n : ℕ). n < 2 ^ (64 * limbs_for p)) value_is (subst (λ (n : ℕ). value_in (2 ^ 64) t2 < n) (base_pow (length t2) ∙ ap (λ (n : ℕ). 2 ^ (64 * n)) size_is) (value_lt (2 ^ 64) t2 limbs)) in
        value_unique (2 ^ 64) t2 (limbs_of (limbs_for p) v) limbs (limbs_below (limbs_for p) v) (size_is ∙ sym (limbs_count (limbs_for p) v)) (value_is ∙ sym (limbs_value (limbs_for p) v small))
        ∙ ap (λ (n : ℕ). limbs_of (limbs_for p) (as_digits p m * 2 ^ n)) (s_is ∙ sym (spare_is p (length t) ok.count))

    pub placed : (r ≡ rounded_placed mode p negative unit carry t guard more) × (t3 ≡ rounded_limbs mode p negative unit carry t guard more)
    placed =
        let f = settled p e (as_digits p m) negative (signed negative (side at up)) tern t2 t3 r tern_is size_is limbs_are end in (
          f.0 ∙ ap placed_of (sym answer_is) ∙ sym (placed_passed mode p negative unit carry t guard more pass),
          f.1 ∙ ap (limbs_after p) (sym answer_is) ∙ sym (limbs_passed mode p negative unit carry t guard more pass),
        )
