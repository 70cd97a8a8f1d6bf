-- Once every digit is read, the answer is fixed.
use mathlib.Core.Path.{◌≡◌, refl, sym, ap, ◌∙◌}
use mathlib.Core.Bool.{Bool, true, false}
use Prim.Native.Nat.{ℕ, ◌+◌, ◌-◌, ◌*◌, ◌/◌, ◌^◌, ◌≤◌}
use native.Mathlib.Nat.{div-one}
use native.Mathlib.Omega.{arith}
use Rattle.rounding.proofs.Zeros.{amount_zero, amount_is}
use Rattle.numbers.specs.Operand.{Operand, mantissa, last_weight, WellFormed}
use Rattle.rounding.specs.declared.Mode.{Mode}
use Rattle.rounding.specs.Sum.{amount, share, scale}
use Rattle.depth.specs.Columns.{top_exponent, Like}
use Rattle.depth.specs.Read.{unread}
use Rattle.depth.specs.Depth.{plus, result, Fixed}
use Rattle.depth.proofs.Columns.{read_of}
use Rattle.depth.proofs.Place.{top_first, top_second}
use Rattle.depth.proofs.Amounts.{low_like, like_self}
use Rattle.depth.proofs.EndsDecide.{add_is}

pub all_read : (x : Operand) (t k : ℕ) → x.precision + (t - x.exponent) ≤ 64 * k → unread t k x ≡ 0
unfolding unread
all_read x t k h = omega arith

module _ (t k s : ℕ) (x z : Operand) (g : WellFormed x) (top : x.is_zero ≡ false → x.exponent ≤ t) (l : Like t k x z) (e : x.is_zero ≡ false → unread t k x ≡ 0) where
  mantissa_same : x.is_zero ≡ false → mantissa z ≡ mantissa x
  mantissa_same r = sym (one (mantissa z)) ∙ read_of t k x g top z l r ∙ one (mantissa x)
    where
      one : (n : ℕ) → n / 2 ^ unread t k x ≡ n
      one n = ap (λ (v : ℕ). n / 2 ^ v) (e r) ∙ div-one n

  pub amount_same : amount s z ≡ amount s x
  amount_same = go x.is_zero refl
    where
      go : (b : Bool) → x.is_zero ≡ b → amount s z ≡ amount s x
      go true r = amount_zero s z (l.is_zero ∙ r) ∙ sym (amount_zero s x r)
      go false r = let a = mantissa_same r in let b = low_like t k x z l in amount_is s z (l.is_zero ∙ r) ∙ ap (λ (v : ℕ). v * 2 ^ (last_weight z - s)) a ∙ ap (λ (v : ℕ). mantissa x * 2 ^ (v - s)) b ∙ sym (amount_is s x r)

  share_same : (b : Bool) → share b s z ≡ share b s x
  unfolding share
  share_same b = let a = amount_same in let c = l.negative in cc

module _ (o : Mode) (p : ℕ) (x y : Operand) (g : WellFormed x) (h : WellFormed y) (k : ℕ) where
  abbrev t : ℕ
  t = top_exponent x y

  pub read_fixed : (x.is_zero ≡ false → unread t k x ≡ 0) → (y.is_zero ≡ false → unread t k y ≡ 0) → Fixed plus o p x y k
  unfolding Fixed result
  read_fixed a b z w l m =
      let s = scale x y in
      let c = share_same t k s x z g (top_first x y) l a in
      let d = share_same t k s y w h (top_second x y) m b in
      let i = c false in let j = c true in let u = d false in let v = d true in
      let e = add_is o p x y k z w l m in
      let f = add_is o p x y k x y (like_self t k x g) (like_self t k y h) in
      cc
