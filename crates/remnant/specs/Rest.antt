-- What lies below the last of p digits of D. Definitions only.
use Rattle.std.specs.Prelude.{ℕ, suc, ◌+◌, ◌-◌, ◌*◌, ◌/◌, ◌%◌, ◌^◌, ◌≤◌, ◌<◌, List, length, drop, ◌≡◌, true, false, ltb, leb, eqb}
use Rattle.limb.specs.Value.{value_of}
use Rattle.limb.specs.Carry.{bit}
use Rattle.walk.specs.declared.state.Window.{Window}
use Rattle.std.specs.Float.Ieee.{size}
use Rattle.walk.specs.declared.state.Tail.{Tail}
use Rattle.remnant.specs.declared.rest.Rest.{Rest}
use Rattle.walk.specs.Window.{TailIs}

-- `enough`: D has p digits. Then u is the weight of the last one, D % u the rest below it, and `odd` says whether it is 1; `empty`: u is 1
pub record RestOf (p D : ℕ) (x : Rest) : Type 0 where
  pub enough : x.enough ≡ leb p (size D)
  pub empty : p ≤ size D → x.empty ≡ eqb (size D) p
  pub zero : p ≤ size D → x.zero ≡ eqb (D % 2 ^ (size D - p)) 0
  pub ones : p ≤ size D → x.ones ≡ eqb (suc (D % 2 ^ (size D - p))) (2 ^ (size D - p))
  pub almost : p ≤ size D → x.almost ≡ eqb (suc (D % 2 ^ (size D - p)) * 2) (2 ^ (size D - p))
  pub half : p ≤ size D → x.half ≡ eqb (D % 2 ^ (size D - p) * 2) (2 ^ (size D - p))
  pub above : p ≤ size D → x.above ≡ ltb (2 ^ (size D - p)) (D % 2 ^ (size D - p) * 2)
  pub odd : p < size D → x.odd ≡ eqb (D / 2 ^ (size D - p) % 2) 1

-- no case that a carry or a borrow from below could still change
pub record Settled (x : Rest) : Type 0 where
  pub zero : x.zero ≡ false
  pub ones : x.ones ≡ false
  pub almost : x.almost ≡ false
  pub half : x.half ≡ false

-- ---- a rest as it is put together, from the limb that the last digit kept stands in down

-- the rest r below a weight u
pub record Marks (r u : ℕ) (x : Rest) : Type 0 where
  pub zero : x.zero ≡ eqb r 0
  pub ones : x.ones ≡ eqb (suc r) u
  pub almost : x.almost ≡ eqb (suc r * 2) u
  pub half : x.half ≡ eqb (r * 2) u
  pub above : x.above ≡ ltb u (r * 2)

-- the last d digits of n
pub record RestAt (n d : ℕ) (x : Rest) : Type 0 where
  pub enough : x.enough ≡ true
  pub empty : x.empty ≡ false
  pub marks : Marks (n % 2 ^ d) (2 ^ d) x
  pub odd : x.odd ≡ eqb (n / 2 ^ d % 2) 1

-- e digits more below, s in all, of which the word tells whether they are zeros or ones
abbrev pub LongerRest : Rest → ℕ → Rest → Type 0
LongerRest x word next =
    (n d e s : ℕ) → 0 < d → RestAt n d x → s < 2 ^ e → eqb s 0 ≡ eqb word 0 → eqb (suc s) (2 ^ e) ≡ eqb word 18446744073709551615 → RestAt (n * 2 ^ e + s) (d + e) next

-- a tail below
abbrev pub TailedRest : Rest → Tail → Rest → Type 0
TailedRest x tail next = (n d t s : ℕ) → 0 < d → RestAt n d x → TailIs tail t s → RestAt (n * 2 ^ (64 * t) + s) (d + 64 * t) next

-- the carry and the limbs above the lowest, where all are filled
unfoldable pub high_of : Window → List ℕ → ℕ
high_of w target = bit w.carry * 2 ^ (64 * (length target - 1)) + value_of (drop 1 target)
