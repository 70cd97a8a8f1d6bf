-- The ends as numbers: each is one that x may be, and what x may be lies between them.
use mathlib.Core.Path.{◌≡◌, refl, sym, ap, ◌∙◌}
use mathlib.Core.Bool.{Bool, true, false, not}
use Prim.Native.Nat.{ℕ, ◌-◌, ◌*◌, ◌/◌, ◌^◌, ◌≤◌, zero-le}
use native.Mathlib.Nat.{le_trans, le_of_eq, mul-le-mul_right}
use Rattle.rounding.proofs.Zeros.{amount_zero, amount_is}
use Rattle.numbers.specs.Operand.{Operand, mantissa, last_weight, WellFormed}
use Rattle.rounding.specs.Sum.{amount, share}
use Rattle.depth.specs.Columns.{Agree, Like}
use Rattle.depth.specs.Read.{unread}
use Rattle.numbers.proofs.Digits.{put, put_mantissa, put_well_formed}
use Rattle.depth.proofs.Columns.{like_by}
use Rattle.depth.proofs.Reach.{digits_at, end, at_least, at_most, read_at, between_ends}

end_nil : (t k : ℕ) (x : Operand) (b : Bool) → x.is_zero ≡ true → end t k x b ≡ x
unfolding end
end_nil t k x b e = rw e

end_put : (t k : ℕ) (x : Operand) (b : Bool) → x.is_zero ≡ false → end t k x b ≡ put x (digits_at t k x b)
unfolding end
end_put t k x b e = rw e

pub like_self : (t k : ℕ) (x : Operand) → WellFormed x → Like t k x x
unfolding Agree
like_self t k x g = record { well_formed = g; negative = refl; is_zero = refl; precision = refl; exponent = refl; columns = λ j i l m. refl }

like_put : (t k : ℕ) (x : Operand) → WellFormed x → x.exponent ≤ t → (b : Bool) → x.is_zero ≡ false → Like t k x (put x (digits_at t k x b))
unfolding put
like_put t k x g top b r =
    let n = digits_at t k x b in
    like_by t k x g (λ e. top) (put x n) (put_well_formed x n g r (at_least t k x g r b) (at_most t k x g r b)) refl refl refl refl
    (λ e. ap (λ (z : ℕ). z / 2 ^ unread t k x) (put_mantissa x n (at_most t k x g r b)) ∙ read_at t k x g r b)

pub like_end : (t k : ℕ) (x : Operand) → WellFormed x → (x.is_zero ≡ false → x.exponent ≤ t) → (b : Bool) → Like t k x (end t k x b)
like_end t k x g top b = go x.is_zero refl
  where
    go : (c : Bool) → x.is_zero ≡ c → Like t k x (end t k x b)
    go true e = rw (end_nil t k x b e) (like_self t k x g)
    go false e = rw (end_put t k x b e) (like_put t k x g (top e) b e)

pub low_like : (t k : ℕ) (x z : Operand) → Like t k x z → last_weight z ≡ last_weight x
unfolding last_weight
low_like t k x z l = let a = l.exponent in let b = l.precision in cc

pub mantissa_end : (t k : ℕ) (x : Operand) → WellFormed x → (b : Bool) → x.is_zero ≡ false → mantissa (end t k x b) ≡ digits_at t k x b
mantissa_end t k x g b r = ap mantissa (end_put t k x b r) ∙ put_mantissa x (digits_at t k x b) (at_most t k x g r b)

pub amount_end : (t k s : ℕ) (x : Operand) → WellFormed x → x.exponent ≤ t → (b : Bool) → x.is_zero ≡ false → amount s (end t k x b) ≡ digits_at t k x b * 2 ^ (last_weight x - s)
amount_end t k s x g top b r =
    let l = like_end t k x g (λ e. top) b in
    amount_is s (end t k x b) (l.is_zero ∙ r)
    ∙ ap (λ (z : ℕ). mantissa (end t k x b) * 2 ^ (z - s)) (low_like t k x (end t k x b) l)
    ∙ ap (λ (z : ℕ). z * 2 ^ (last_weight x - s)) (mantissa_end t k x g b r)

module _ (t k s : ℕ) (x : Operand) (g : WellFormed x) (top : x.is_zero ≡ false → x.exponent ≤ t) (z : Operand) (l : Like t k x z) where
  amounts : (amount s (end t k x false) ≤ amount s z) × (amount s z ≤ amount s (end t k x true))
  amounts = go x.is_zero refl
    where
      go : (c : Bool) → x.is_zero ≡ c → (amount s (end t k x false) ≤ amount s z) × (amount s z ≤ amount s (end t k x true))
      go true e = (le_of_eq (ap (amount s) (end_nil t k x false e) ∙ amount_zero s x e ∙ sym (amount_zero s z (l.is_zero ∙ e))), le_trans (le_of_eq (amount_zero s z (l.is_zero ∙ e))) zero-le)
      go false e =
          let m : amount s z ≡ mantissa z * 2 ^ (last_weight x - s) = amount_is s z (l.is_zero ∙ e) ∙ ap (λ (y : ℕ). mantissa z * 2 ^ (y - s)) (low_like t k x z l) in
          let b = between_ends t k x g e (top e) z l in
          (rw (m, amount_end t k s x g (top e) false e) (mul-le-mul_right (2 ^ (last_weight x - s)) b.0), rw (m, amount_end t k s x g (top e) true e) (mul-le-mul_right (2 ^ (last_weight x - s)) b.1))

  -- the least of x is at its least digits if x is above zero, and at its greatest if it is below
  pub record Shares : Type 0 where
    pub up_least : share false s (end t k x x.negative) ≤ share false s z
    pub up_most : share false s z ≤ share false s (end t k x (not x.negative))
    pub down_least : share true s (end t k x (not x.negative)) ≤ share true s z
    pub down_most : share true s z ≤ share true s (end t k x x.negative)

  pub shares : Shares
  unfolding share
  shares = go x.negative refl
    where
      go : (c : Bool) → x.negative ≡ c → Shares
      go false e =
          let a = (like_end t k x g top false).negative in
          let b = (like_end t k x g top true).negative in
          record {
            up_least = simp (e, l.negative, a) amounts.0;
            up_most = simp (e, l.negative, b) amounts.1;
            down_least = simp (e, l.negative, b) zero-le;
            down_most = simp (e, l.negative, a) zero-le;
          }
      go true e =
          let a = (like_end t k x g top false).negative in
          let b = (like_end t k x g top true).negative in
          record {
            up_least = simp (e, l.negative, b) zero-le;
            up_most = simp (e, l.negative, a) zero-le;
            down_least = simp (e, l.negative, a) amounts.0;
            down_most = simp (e, l.negative, b) amounts.1;
          }
