-- The sign of selected less exact, and what the tests on a remainder say. Definitions only.
use Prim.Native.Nat.{ℕ, ◌*◌, ◌%◌, Ordering}
use Rattle.std.specs.Prelude.{◌≡◌, Bool, true, ltb, eqb}
use Rattle.std.specs.declared.cmp.Ordering.{Ordering as Order}
use Rattle.std.specs.declared.cmp.Ordering.TheVariants.{Less, Equal, Greater}

unfoldable pub lean_is : Order → Ordering
lean_is Less = Ordering.lt
lean_is Equal = Ordering.eq
lean_is Greater = Ordering.gt

-- a division by u has the quotient q and the remainder r; the last digit of q matters only at a tie
pub record Flags (q u r : ℕ) (zero half above odd : Bool) : Type 0 where
  pub is_zero : zero ≡ eqb r 0
  pub is_half : half ≡ eqb (r * 2) u
  pub is_above : above ≡ ltb u (r * 2)
  pub is_odd : half ≡ true → odd ≡ eqb (q % 2) 1
