-- The least sum is D and perhaps some more, the greatest D or the next unit and perhaps some more.
use mathlib.Core.Path.{◌≡◌, sym, ap, ◌∙◌}
use mathlib.Core.Bool.{Bool, true, false, ◌||◌, and-false}
use Prim.Native.Nat.{ℕ, suc, ◌+◌, ◌-◌, ◌/◌, ◌%◌, ◌^◌, ◌≤◌, Ordering}
use native.Mathlib.Nat.{mod-lt}
use native.Mathlib.Omega.{arith}
use borrow.Author.Tests.{lt-ltb, le-ltb, eqb-true}
use lib.Dec.{ltb}
use lib.Pow.{pow_pos}
use lib.Ieee.{size}
use Rattle.limb.specs.Carry.{bit}
use Rattle.rounding.specs.Mode.{Way}
use Rattle.decide.specs.Class.{lean, alike, enough, settled}
use Rattle.decide.proofs.Settled.{enough_true, enough_le}
use Rattle.remnant.specs.Rest.{RestOf}
use Rattle.remnant.specs.declared.rest.Rest.{Rest}
use Rattle.lean.specs.Leaning.{Flags}
use Rattle.lean.proofs.Flags.{flags_of, flags_next, next_below}

module _ (w : Way) (p D : ℕ) (least : Bool) (i : ℕ) (most : Bool) where
  abbrev u : ℕ
  u = 2 ^ (size D - p)

  pub too_few : enough w p D ≡ false → settled w p D least i most ≡ false
  unfolding settled
  too_few e = rw e

  pub past_unit : ltb (D % u + i) u ≡ false → settled w p D least i most ≡ false
  unfolding settled
  past_unit e = rw e (and-false (enough w p D))

  pub settled_is : enough w p D ≡ true → ltb (D % u + i) u ≡ true → settled w p D least i most ≡ alike (lean w (D / u) u (D % u) least) (lean w (D / u) u (D % u + i) most)
  unfolding settled
  settled_is e g = rw (e, g)

pub digits_read : (w : Way) (p D : ℕ) → enough w p D ≡ true → p ≤ size D
digits_read w p D e = enough_le w p D (enough_true w p D e)

module _ (w : Way) (p D : ℕ) (x : Rest) (rest : RestOf p D x) (least next most : Bool) (e : enough w p D ≡ true) where
  abbrev v : ℕ
  v = 2 ^ (size D - p)

  low_is : (low : Ordering) → ((q u r : ℕ) → Flags q u r x.zero x.half x.above x.odd → low ≡ lean w q u r least) → low ≡ lean w (D / v) v (D % v) least
  low_is low f = f (D / v) v (D % v) (flags_of p D x rest (digits_read w p D e))

  -- the rest is all ones: the next unit has another quotient
  pub plus_ones : next ≡ true → x.ones ≡ true → false ≡ settled w p D least (bit next) most
  unfolding bit
  plus_ones n o = rw n (sym (past_unit w p D least 1 most (le-ltb (D % v + 1) v (go (D % v) v (eqb-true (suc (D % v)) v (sym (rest.ones (digits_read w p D e)) ∙ o))))))
    where
      go : (r u : ℕ) → suc r ≡ u → u ≤ r + 1
      go r u e = omega arith

  pub plus_next : next ≡ true → x.ones ≡ false → (low high : Ordering)
      → ((q u r : ℕ) → Flags q u r x.zero x.half x.above x.odd → low ≡ lean w q u r least)
      → ((q u r : ℕ) → Flags q u r false x.almost (x.half || x.above) x.odd → high ≡ lean w q u r most)
      → alike low high ≡ settled w p D least (bit next) most
  unfolding bit
  plus_next n o low high f g =
      let l = digits_read w p D e in
      rw n
      (ap (λ (z : Ordering). alike z high) (low_is low f)
      ∙ ap (alike (lean w (D / v) v (D % v) least)) (g (D / v) v (D % v + 1) (flags_next p D x rest l o))
      ∙ sym (settled_is w p D least 1 most e (lt-ltb (D % v + 1) v (next_below p D x rest l o))))

  pub plus_same : next ≡ false → (low high : Ordering)
      → ((q u r : ℕ) → Flags q u r x.zero x.half x.above x.odd → low ≡ lean w q u r least)
      → ((q u r : ℕ) → Flags q u r x.zero x.half x.above x.odd → high ≡ lean w q u r most)
      → alike low high ≡ settled w p D least (bit next) most
  unfolding bit
  plus_same n low high f g =
      rw n
      (ap (λ (z : Ordering). alike z high) (low_is low f)
      ∙ ap (alike (lean w (D / v) v (D % v) least)) (g (D / v) v (D % v) (flags_of p D x rest (digits_read w p D e)) ∙ ap (λ (z : ℕ). lean w (D / v) v z most) (sym (flat (D % v))))
      ∙ sym (settled_is w p D least 0 most e (lt-ltb (D % v + 0) v (omega (arith, mod-lt D (pow_pos (size D - p)))))))
    where
      flat : (r : ℕ) → r + 0 ≡ r
      flat r = omega arith
