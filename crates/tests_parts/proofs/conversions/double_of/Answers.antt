-- `conversions::double_of`: without its sign's bit, a pattern up to the infinity's is no NaN's. Assumes nothing.
use mathlib.Core.Path.{sym, ◌∙◌, subst}
use mathlib.Core.Bool.{Bool, not}
use Prim.Native.Nat.{ℕ, ◌*◌, ◌%◌, ◌^◌, ◌≤◌}
use native.Mathlib.Omega.{arith}
use lib.Dec.{T}
use lib.Ieee.{binary64, nan_bits}
use lib.Ieee.Bits.{nan_bits_above}
use borrow.Author.Tests.{le-ltb}
use Rattle.tests_parts.proofs.conversions.double_of.Goals as goal

no_nan : (b : ℕ) → b % 2 ^ 63 ≤ 2047 * 2 ^ 52 → T (not (nan_bits binary64 b))
no_nan b h = subst (λ (t : Bool). T (not t)) (sym (nan_bits_above binary64 b ∙ le-ltb (2047 * 2 ^ 52) (b % 2 ^ 63) h)) tt

pub float_from_bits-result : goal.float_from_bits-result
float_from_bits-result c = no_nan _ (omega arith)
