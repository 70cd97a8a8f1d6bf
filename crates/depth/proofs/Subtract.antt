-- A difference is a sum with the second sign turned, and the same columns: what is known of sums is known of differences.
use mathlib.Core.Path.{◌≡◌, refl, sym, ap, ◌∙◌, subst}
use mathlib.Core.Bool.{Bool, true, false, not}
use Prim.Native.Nat.{ℕ}
use Rattle.numbers.specs.Operand.{Operand, mantissa, last_weight, WellFormed, turned}
use Rattle.numbers.proofs.Digits.{turned_well_formed}
use Rattle.rounding.specs.declared.Mode.{Mode}
use Rattle.rounding.specs.Sum.{add, subtract}
use Rattle.depth.specs.Columns.{top_exponent, bit_at, column_bit, Agree, Like}
use Rattle.depth.specs.Depth.{Operation, plus, minus, result, Fixed, Open}

-- what is added to the first operand
unfoldable pub addend : Operation → Operand → Operand
addend plus y = y
addend minus y = turned y

pub addend_well_formed : (f : Operation) (y : Operand) → WellFormed y → WellFormed (addend f y)
unfolding addend
addend_well_formed plus y h = h
addend_well_formed minus y h = turned_well_formed y h

pub addend_precision : (f : Operation) (y : Operand) → (addend f y).precision ≡ y.precision
unfolding addend turned
addend_precision plus y = refl
addend_precision minus y = refl

pub addend_exponent : (f : Operation) (y : Operand) → (addend f y).exponent ≡ y.exponent
unfolding addend turned
addend_exponent plus y = refl
addend_exponent minus y = refl

pub addend_zero : (f : Operation) (y : Operand) → (addend f y).is_zero ≡ y.is_zero
unfolding addend turned
addend_zero plus y = refl
addend_zero minus y = refl

pub result_is : (f : Operation) (o : Mode) (p : ℕ) (x y : Operand) → result f o p x y ≡ add o p x (addend f y)
unfolding result addend subtract
result_is plus o p x y = refl
result_is minus o p x y = refl

pub top_is : (f : Operation) (x y : Operand) → top_exponent x (addend f y) ≡ top_exponent x y
unfolding top_exponent
top_is f x y = let a = addend_zero f y in let b = addend_exponent f y in cc

back : (b : Bool) → not (not b) ≡ b
back true = refl
back false = refl

twice : (f : Operation) (y : Operand) → addend f (addend f y) ≡ y
unfolding addend turned
twice plus y = refl
twice minus y = ap (λ (b : Bool). record { negative = b; is_zero = y.is_zero; precision = y.precision; exponent = y.exponent; limbs = y.limbs }) (back y.negative)

like_turned : (t k : ℕ) (y w : Operand) → Like t k y w → Like t k (turned y) (turned w)
unfolding turned Agree column_bit bit_at mantissa last_weight
like_turned t k y w l = record { well_formed = turned_well_formed w l.well_formed; negative = ap not l.negative; is_zero = l.is_zero; precision = l.precision; exponent = l.exponent; columns = l.columns }

like_addend : (f : Operation) (t k : ℕ) (y w : Operand) → Like t k y w → Like t k (addend f y) (addend f w)
unfolding addend
like_addend plus t k y w l = l
like_addend minus t k y w l = like_turned t k y w l

module _ (f : Operation) (x y : Operand) (k : ℕ) where
  from_sum : (z : Operand) → Like (top_exponent x (addend f y)) k x z → Like (top_exponent x y) k x z
  from_sum z l = subst (λ (t : ℕ). Like t k x z) (top_is f x y) l

  pub like_sum : (z : Operand) → Like (top_exponent x y) k x z → Like (top_exponent x (addend f y)) k x z
  like_sum z l = subst (λ (t : ℕ). Like t k x z) (sym (top_is f x y)) l

  from_second_sum : (w : Operand) → Like (top_exponent x (addend f y)) k (addend f y) w → Like (top_exponent x y) k y (addend f w)
  from_second_sum w m = subst (λ (v : Operand). Like (top_exponent x y) k v (addend f w)) (twice f y) (like_addend f (top_exponent x y) k (addend f y) w (subst (λ (t : ℕ). Like t k (addend f y) w) (top_is f x y) m))

  pub like_second_sum : (w : Operand) → Like (top_exponent x y) k y w → Like (top_exponent x (addend f y)) k (addend f y) (addend f w)
  like_second_sum w m = subst (λ (t : ℕ). Like t k (addend f y) (addend f w)) (sym (top_is f x y)) (like_addend f (top_exponent x y) k y w m)

module _ (f : Operation) (o : Mode) (p : ℕ) (x y : Operand) (k : ℕ) where
  sum_is : (a b : Operand) → result plus o p a b ≡ add o p a b
  unfolding result
  sum_is a b = refl

  pub fixed_result : Fixed plus o p x (addend f y) k → Fixed f o p x y k
  unfolding Fixed
  fixed_result u z w l m =
      result_is f o p z w ∙ sym (sum_is z (addend f w)) ∙ u z (addend f w) (like_sum f x y k z l) (like_second_sum f x y k w m)
      ∙ sum_is x (addend f y) ∙ sym (result_is f o p x y)

  -- the result of the turned pair
  back_again : (z w : Operand) → result plus o p z w ≡ result f o p z (addend f w)
  back_again z w = sum_is z w ∙ ap (λ (v : Operand). add o p z v) (sym (twice f w)) ∙ sym (result_is f o p z (addend f w))

  pub fixed_sum : Fixed f o p x y k → Fixed plus o p x (addend f y) k
  unfolding Fixed
  fixed_sum u z w l m = back_again z w ∙ u z (addend f w) (from_sum f x y k z l) (from_second_sum f x y k w m) ∙ result_is f o p x y ∙ sym (sum_is x (addend f y))

  pub open_result : Open plus o p x (addend f y) k → Open f o p x y k
  unfolding Open
  open_result u = (
    u.0,
    addend f u.1,
    from_sum f x y k u.0 u.2,
    from_second_sum f x y k u.1 u.3,
    λ e. u.4 (back_again u.0 u.1 ∙ e ∙ result_is f o p x y ∙ sym (sum_is x (addend f y))),
  )
