-- Exponents are ordered as they are counted: what a test of two exponents, as the machine compares them, says of the counted ones. Assumes nothing.
use mathlib.Core.Path.{◌≡◌, sym, ap, ◌∙◌}
use mathlib.Core.Bool.{true, false, true≢false}
use Prim.Native.Nat.{◌≤◌, ◌<◌}
use native.Mathlib.Nat.{lt_of_not-le, le_antisymm}
use native.Mathlib.Omega.{arith}
use lib.IntN.{ℤ, pos, negsuc}
use lib.Signed.{lt_z}
use mir.Syntax.{w32}
use mir.Val.{SFits, to_z, of_z}
use mir.Facts.{to_z-of_z}
use borrow.Author.Tests.{ltb-true, ltb-false}
use Rattle.numbers.specs.Limits.{counted, bias}
use Rattle.checks.specs.Number.{exponent_of}
use Rattle.checks.proofs.Signed.{exponent_of_counted}

-- an exponent that is lower is counted lower, and one that is not is not
lower : (x y : ℤ) → SFits w32 x → lt_z x y ≡ true → counted x < counted y
unfolding counted bias
lower (pos a) (pos b) f e = omega (arith, ltb-true a b e)
lower (pos a) (negsuc b) f e = absurd (true≢false (sym e))
lower (negsuc a) (pos b) f e = omega arith
lower (negsuc a) (negsuc b) f e = omega (arith, ltb-true b a e)

not_lower : (x y : ℤ) → lt_z x y ≡ false → counted y ≤ counted x
unfolding counted bias
not_lower (pos a) (pos b) e = omega (arith, ltb-false a b e)
not_lower (pos a) (negsuc b) e = omega arith
not_lower (negsuc a) (pos b) e = absurd (true≢false e)
not_lower (negsuc a) (negsuc b) e = omega (arith, ltb-false b a e)

-- two exponents of 32 bits, each read back from its bits
module _ (x y : ℤ) (f : SFits w32 x) (g : SFits w32 y) where
  same_counted : counted x ≡ counted y → x ≡ y
  same_counted e = sym (exponent_of_counted x f) ∙ ap exponent_of e ∙ exponent_of_counted y g

  pub read_same : of_z w32 x ≡ of_z w32 y → x ≡ y
  read_same e = sym (to_z-of_z f) ∙ ap (to_z w32) e ∙ to_z-of_z g

  pub counted_same : of_z w32 x ≡ of_z w32 y → counted x ≡ counted y
  counted_same e = ap counted (read_same e)

  pub counted_less : lt_z (to_z w32 (of_z w32 x)) (to_z w32 (of_z w32 y)) ≡ true → counted x < counted y
  counted_less e = lower x y f (rw (to_z-of_z f, to_z-of_z g) at e)

  pub counted_more : (x ≡ y → ⊥) → lt_z (to_z w32 (of_z w32 x)) (to_z w32 (of_z w32 y)) ≡ false → counted y < counted x
  counted_more d e =
      lt_of_not-le (λ h. d (same_counted (le_antisymm h (not_lower x y (rw (to_z-of_z f, to_z-of_z g) at e)))))
