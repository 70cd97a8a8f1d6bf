-- Each return of the code, as a case of the order as it is found. Assumes nothing.
use mathlib.Core.Path.{◌≡◌, sym, ap, ◌∙◌, refl}
use mathlib.Core.Bool.{Bool, true, false, not, ◌&&◌, ◌||◌, beq, cond, true≢false}
use mathlib.Core.List.{List, []}
use Prim.Native.Nat.{ℕ, ◌^◌, ◌<◌, compare, Ordering}
use Rattle.limb.specs.Value.{Below}
use Rattle.numbers.specs.Limits.{counted}
use Rattle.checks.specs.declared.Number.{Number}
use Rattle.checks.specs.Number.{is_zero_kind, operand_of}
use Rattle.checks.specs.declared.Refusal.{Refusal}
use Rattle.checks.specs.Check.{answered, compared_refusal}
use Rattle.checks.proofs.Accepted.{accepted_compared, compared_unrefused}
use Rattle.rounding.proofs.Order.{compare_at}
use Rattle.std.specs.Prelude.{Ok, Err}
use Rattle.std.specs.Ordering.{ordering_reverse}
use Rattle.std.specs.declared.cmp.Ordering.{Ordering as Order}
use Rattle.std.specs.declared.cmp.Ordering.TheVariants.{Less, Equal, Greater}
use Rattle.order.specs.Order.{order_of, case_of, compared_of}
use Rattle.order.specs.Steps.{or_else, aligned_order, regular_order, size_order, reversed, reversed_if, same_order, apart_order, signed_order}
use Rattle.order.proofs.Sizes.{order_found}

case_turned : (turn : Bool) (o : Ordering) → cond turn (ordering_reverse (case_of o)) (case_of o) ≡ case_of (reversed_if turn o)
unfolding case_of reversed reversed_if
case_turned false o = refl
case_turned true Ordering.lt = refl
case_turned true Ordering.eq = refl
case_turned true Ordering.gt = refl

-- what a test against the sign says: where the exponents decide, l being that the first is lower ..
less_turned : (l n : Bool) → case_of (reversed_if n (cond l Ordering.lt Ordering.gt)) ≡ cond (not (beq l n)) Less Greater
unfolding case_of reversed reversed_if
less_turned true true = refl
less_turned true false = refl
less_turned false true = refl
less_turned false false = refl

-- .. and where a zero does
zeros_turned : (a b n : Bool) (o : Ordering) → a || b ≡ true → case_of (reversed_if n (cond a (cond b Ordering.eq Ordering.lt) (cond b Ordering.gt o))) ≡ cond (a && b) Equal (cond (not (beq a n)) Less Greater)
unfolding case_of reversed reversed_if
zeros_turned true true true o h = refl
zeros_turned true true false o h = refl
zeros_turned true false n o h = less_turned true n
zeros_turned false true n o h = less_turned false n
zeros_turned false false n o h = absurd (true≢false (sym h))

neither_zero : (a b : Bool) (o : Ordering) → a || b ≡ false → cond a (cond b Ordering.eq Ordering.lt) (cond b Ordering.gt o) ≡ o
neither_zero true b o h = absurd (true≢false h)
neither_zero false true o h = absurd (true≢false h)
neither_zero false false o h = refl

module _ (x y : Number) (xl yl : List ℕ) where
  -- ---- two regular numbers
  by_exponent : (o : Ordering) → compare (counted x.exponent) (counted y.exponent) ≡ o → regular_order (operand_of x xl) (operand_of y yl) ≡ or_else o (aligned_order xl yl)
  unfolding regular_order operand_of
  by_exponent o e = ap (λ (o : Ordering). or_else o (aligned_order xl yl)) e

  exponents_decide : (l : Bool) → (l ≡ true → counted x.exponent < counted y.exponent) → (l ≡ false → counted y.exponent < counted x.exponent) → regular_order (operand_of x xl) (operand_of y yl) ≡ cond l Ordering.lt Ordering.gt
  unfolding or_else
  exponents_decide true lower higher = by_exponent Ordering.lt (compare_at Ordering.lt _ _ (lower refl))
  exponents_decide false lower higher = by_exponent Ordering.gt (compare_at Ordering.gt _ _ (higher refl))

  module _ (l : Bool) (lower : l ≡ true → counted x.exponent < counted y.exponent) (higher : l ≡ false → counted y.exponent < counted x.exponent) where
    other_exponent : case_of (reversed_if x.negative (regular_order (operand_of x xl) (operand_of y yl))) ≡ cond (not (beq l x.negative)) Less Greater
    other_exponent = ap (λ (o : Ordering). case_of (reversed_if x.negative o)) (exponents_decide l lower higher) ∙ less_turned l x.negative

    pub exponent_below : not (beq l x.negative) ≡ true → Less ≡ case_of (reversed_if x.negative (regular_order (operand_of x xl) (operand_of y yl)))
    exponent_below h = sym (other_exponent ∙ rw h)

    pub exponent_above : not (beq l x.negative) ≡ false → Greater ≡ case_of (reversed_if x.negative (regular_order (operand_of x xl) (operand_of y yl)))
    exponent_above h = sym (other_exponent ∙ rw h)

  pub same_exponent : {r s : Order} → counted x.exponent ≡ counted y.exponent → s ≡ case_of (aligned_order xl yl) → r ≡ cond x.negative (ordering_reverse s) s → r ≡ case_of (reversed_if x.negative (regular_order (operand_of x xl) (operand_of y yl)))
  unfolding or_else
  same_exponent h f e =
      e ∙ ap (λ (s : Order). cond x.negative (ordering_reverse s) s) f ∙ case_turned x.negative (aligned_order xl yl)
      ∙ sym (ap (λ (o : Ordering). case_of (reversed_if x.negative o)) (by_exponent Ordering.eq (compare_at Ordering.eq _ _ h)))

  -- ---- one sign: a zero decides ..
  zeros_found : is_zero_kind x.kind || is_zero_kind y.kind ≡ true → case_of (same_order (operand_of x xl) (operand_of y yl)) ≡ cond (is_zero_kind x.kind && is_zero_kind y.kind) Equal (cond (not (beq (is_zero_kind x.kind) x.negative)) Less Greater)
  unfolding same_order size_order operand_of
  zeros_found h = zeros_turned (is_zero_kind x.kind) (is_zero_kind y.kind) x.negative (regular_order (operand_of x xl) (operand_of y yl)) h

  -- .. or both are regular
  pub none_zero : {r : Order} → is_zero_kind x.kind || is_zero_kind y.kind ≡ false → r ≡ case_of (reversed_if x.negative (regular_order (operand_of x xl) (operand_of y yl))) → r ≡ case_of (same_order (operand_of x xl) (operand_of y yl))
  unfolding same_order size_order operand_of
  none_zero h e = e ∙ sym (ap (λ (o : Ordering). case_of (reversed_if x.negative o)) (neither_zero (is_zero_kind x.kind) (is_zero_kind y.kind) (regular_order (operand_of x xl) (operand_of y yl)) h))

  module _ (a b : Bool) (p : a ≡ is_zero_kind x.kind) (q : b ≡ is_zero_kind y.kind) where
    zeros_decide : is_zero_kind x.kind || is_zero_kind y.kind ≡ true → case_of (same_order (operand_of x xl) (operand_of y yl)) ≡ cond (a && b) Equal (cond (not (beq a x.negative)) Less Greater)
    zeros_decide h = rw (p, q) (zeros_found h)

    pub two_zeros : is_zero_kind x.kind || is_zero_kind y.kind ≡ true → a && b ≡ true → Equal ≡ case_of (same_order (operand_of x xl) (operand_of y yl))
    two_zeros h e = sym (zeros_decide h ∙ rw e)

    pub zero_below : is_zero_kind x.kind || is_zero_kind y.kind ≡ true → a && b ≡ false → not (beq a x.negative) ≡ true → Less ≡ case_of (same_order (operand_of x xl) (operand_of y yl))
    zero_below h e f = sym (zeros_decide h ∙ rw (e, f))

    pub zero_above : is_zero_kind x.kind || is_zero_kind y.kind ≡ true → a && b ≡ false → not (beq a x.negative) ≡ false → Greater ≡ case_of (same_order (operand_of x xl) (operand_of y yl))
    zero_above h e f = sym (zeros_decide h ∙ rw (e, f))

    -- different signs
    pub apart_zeros : a && b ≡ true → Equal ≡ case_of (apart_order (operand_of x xl) (operand_of y yl))
    unfolding case_of apart_order operand_of
    apart_zeros h = let e : is_zero_kind x.kind && is_zero_kind y.kind ≡ true = rw (p, q) at h in simp e

    pub apart_below : a && b ≡ false → x.negative ≡ true → Less ≡ case_of (apart_order (operand_of x xl) (operand_of y yl))
    unfolding case_of apart_order operand_of
    apart_below h n = let e : is_zero_kind x.kind && is_zero_kind y.kind ≡ false = rw (p, q) at h in simp (e, n)

    pub apart_above : a && b ≡ false → x.negative ≡ false → Greater ≡ case_of (apart_order (operand_of x xl) (operand_of y yl))
    unfolding case_of apart_order operand_of
    apart_above h n = let e : is_zero_kind x.kind && is_zero_kind y.kind ≡ false = rw (p, q) at h in simp (e, n)

  -- ---- signs
  pub signs_apart : {r : Order} → beq x.negative y.negative ≡ false → r ≡ case_of (apart_order (operand_of x []) (operand_of y [])) → r ≡ case_of (signed_order (operand_of x xl) (operand_of y yl))
  unfolding signed_order apart_order operand_of
  signs_apart h e = e ∙ simp h

  pub signs_alike : {r : Order} → beq x.negative y.negative ≡ true → r ≡ case_of (same_order (operand_of x xl) (operand_of y yl)) → r ≡ case_of (signed_order (operand_of x xl) (operand_of y yl))
  unfolding signed_order operand_of
  signs_alike h e = e ∙ simp h

-- where a zero decides, no limb counts
pub zeros_alone : (x y : Number) (xl yl : List ℕ) {r : Order} → is_zero_kind x.kind || is_zero_kind y.kind ≡ true → r ≡ case_of (same_order (operand_of x []) (operand_of y [])) → r ≡ case_of (same_order (operand_of x xl) (operand_of y yl))
zeros_alone x y xl yl h e = e ∙ zeros_found x y [] [] h ∙ sym (zeros_found x y xl yl h)

-- ---- the answer of a comparison

-- where one does not pass, the refusal is the answer
pub compared_refused : (x y : Number) (xl yl : List ℕ) (r : Refusal) → compared_refusal (operand_of x xl) (operand_of y yl) ≡ Err r → Err r ≡ compared_of x xl y yl
unfolding compared_of answered
compared_refused x y xl yl r e = rw e

-- nothing is refused, so both are of good form, and the order that is found is the order
pub compared_found : (x y : Number) (xl yl : List ℕ) (o : Order) (u : Unit {0}) → compared_refusal (operand_of x xl) (operand_of y yl) ≡ Ok u → Below (2 ^ 64) xl → Below (2 ^ 64) yl → o ≡ case_of (signed_order (operand_of x xl) (operand_of y yl)) → Ok o ≡ compared_of x xl y yl
unfolding compared_of answered operand_of
compared_found x y xl yl o u a wx wy e =
    let formed = accepted_compared (operand_of x xl) (operand_of y yl) wx wy (compared_unrefused (operand_of x xl) (operand_of y yl) u a) in
    let f : o ≡ case_of (order_of (operand_of x xl) (operand_of y yl)) = e ∙ ap case_of (sym (order_found (operand_of x xl) (operand_of y yl) formed.0 formed.1)) in
    rw (a, f)
