-- The operands of a sum may change places: the sum, the columns and the depth stay.
use mathlib.Core.Path.{◌≡◌, refl, sym, ◌∙◌, subst}
use mathlib.Core.Bool.{Bool, true, false, ◌&&◌, true≢false}
use Prim.Native.Nat.{ℕ, ◌-◌, ◌<◌, max}
use native.Mathlib.Omega.{arith}
use Rattle.numbers.specs.Operand.{Operand}
use Rattle.rounding.specs.declared.Mode.{Mode}
use Rattle.rounding.proofs.Zeros.{add_commutes}
use Rattle.depth.specs.Columns.{top_exponent, Like}
use Rattle.depth.specs.Depth.{plus, result, Fixed, Open, Deciding}

-- ---- one of them at least is regular

pub first_some : (x y : Operand) → x.is_zero ≡ false → (x.is_zero && y.is_zero) ≡ false
first_some x y r = rw r

pub top_exchange : (x y : Operand) → (x.is_zero && y.is_zero) ≡ false → top_exponent x y ≡ top_exponent y x
unfolding top_exponent
top_exchange x y some = go x.is_zero y.is_zero refl refl
  where
    flip : (a b : ℕ) → max a b ≡ max b a
    flip a b = omega arith

    go : (a b : Bool) → x.is_zero ≡ a → y.is_zero ≡ b → top_exponent x y ≡ top_exponent y x
    go true true e f = absurd (true≢false (let z : true ≡ false = cc in z))
    go true false e f = rw (e, f)
    go false true e f = rw (e, f)
    go false false e f = rw (e, f) (flip x.exponent y.exponent)

module _ (o : Mode) (p : ℕ) (P : 0 < p) where
  pub result_exchange : (x y : Operand) → result plus o p x y ≡ result plus o p y x
  unfolding result
  result_exchange x y = add_commutes o p x y P

  module _ (x y : Operand) (some : (x.is_zero && y.is_zero) ≡ false) (k : ℕ) where
    from : (v z : Operand) → Like (top_exponent x y) k v z → Like (top_exponent y x) k v z
    from v z l = subst (λ (t : ℕ). Like t k v z) (top_exchange x y some) l

    back : (v z : Operand) → Like (top_exponent y x) k v z → Like (top_exponent x y) k v z
    back v z l = subst (λ (t : ℕ). Like t k v z) (sym (top_exchange x y some)) l

    pub fixed_exchange : Fixed plus o p y x k → Fixed plus o p x y k
    unfolding Fixed
    fixed_exchange f z w l m = result_exchange z w ∙ f w z (from y w m) (from x z l) ∙ result_exchange y x

    open_exchange : Open plus o p y x k → Open plus o p x y k
    unfolding Open
    open_exchange u = (u.1, u.0, back x u.1 u.3, back y u.0 u.2, λ e. u.4 (result_exchange u.0 u.1 ∙ e ∙ result_exchange x y))

  pub deciding_exchange : (x y : Operand) → (x.is_zero && y.is_zero) ≡ false → (k : ℕ) → Deciding plus o p y x k → Deciding plus o p x y k
  deciding_exchange x y some k d = record { one = d.one; fixed = fixed_exchange x y some k d.fixed; fewer = λ h. open_exchange x y some (k - 1) (d.fewer h) }
