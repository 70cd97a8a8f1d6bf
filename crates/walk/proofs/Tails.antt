-- Laws of a tail with one column more. M stands for 2 ^ (64 t), the weight of the t columns. Assumes nothing.
use mathlib.Core.Path.{◌≡◌, refl, sym, ap, ◌∙◌, subst}
use Prim.Native.Nat.{ℕ, zero, suc, ◌+◌, ◌-◌, ◌*◌, ◌^◌, ◌≤◌, ◌<◌}
use native.Mathlib.Nat.{mul-le-mul_left}
use native.Mathlib.Omega.{arith}
use lib.Pow.{pow-add, pow_mono, pow_pos}
use Rattle.std.specs.Prelude.{Option, Some, None}
use Rattle.std.specs.Option.{is_some, unwrap_or}
use mathlib.Core.Bool.{Bool, true, false}
use Rattle.limb.specs.Carry.{bit}
use Rattle.walk.specs.declared.state.Tail.{Tail}
use Rattle.walk.specs.declared.state.Tail.TheVariants.{Empty, Zeros, Ones, Mixed}
use Rattle.walk.specs.declared.change.Change.{Change}
use Rattle.walk.specs.declared.change.Change.TheVariants.{Rise, Fall}
use Rattle.walk.specs.Change.{Moved}
use Rattle.walk.specs.Tail.{LongerTail, PassesTail, turned}

-- one column more weighs 2 ^ 64 times as much
pub column_weight : (t : ℕ) → 2 ^ (64 * suc t) ≡ 2 ^ 64 * 2 ^ (64 * t)
column_weight t = ap (λ (m : ℕ). 2 ^ m) (omega arith) ∙ pow-add 2 64 (64 * t)

-- a column weighs 2 ^ 64 at least
pub weight_large : (t : ℕ) → 0 < t → 2 ^ 64 ≤ 2 ^ (64 * t)
weight_large t h = pow_mono {i = 64} {j = 64 * t} (omega arith)

-- a column, and a carry above it, leave room in two columns or more
column_room : (B M x : ℕ) → 2 < B → B ≤ M → x < B → suc (B + x) < B * M
column_room B M x h l s = let three : 3 ≤ M = omega arith in omega (arith, mul-le-mul_left B three)

-- ---- nothing carried in

module _ (low : ℕ) where
  pub empty_zeros : low ≡ 0 → LongerTail Empty low Zeros
  empty_zeros z t n (e, f) = (omega arith, omega arith)

  pub empty_ones : suc low ≡ 2 ^ 64 → LongerTail Empty low Ones
  empty_ones g t n (e, f) = (omega arith, rw (e, f) (omega arith))

  pub empty_mixed : 0 < low → suc low < 2 ^ 64 → LongerTail Empty low Mixed
  empty_mixed l s t n (e, f) = (omega arith, omega arith, rw (e, f) (omega arith))

  pub zeros_zeros : low ≡ 0 → LongerTail Zeros low Zeros
  zeros_zeros z t n (e, f) = (omega arith, omega arith)

  pub zeros_mixed : 0 < low → low < 2 ^ 64 → LongerTail Zeros low Mixed
  zeros_mixed l s t n (e, f) =
      let room = column_room (2 ^ 64) (2 ^ (64 * t)) low (omega arith) (weight_large t e) s in
      (omega arith, omega arith, rw (column_weight t) (omega arith))

  pub ones_ones : suc low ≡ 2 ^ 64 → LongerTail Ones low Ones
  ones_ones g t n (e, f) = (omega arith, rw (column_weight t) (omega arith))

  pub ones_mixed : suc low < 2 ^ 64 → LongerTail Ones low Mixed
  ones_mixed s t n (e, f) =
      let some : 1 ≤ n = omega (arith, weight_large t e) in
      (omega arith, omega arith, rw (column_weight t) (omega arith))

  pub mixed_mixed : low < 2 ^ 64 → LongerTail Mixed low Mixed
  mixed_mixed s t n (e, f, g) = (omega arith, omega arith, rw (column_weight t) (omega arith))

  -- ---- what passes to the columns above

  -- nothing comes into the tail
  pub tail_stays : (tail next : Tail) → LongerTail tail low next → PassesTail None tail low None next
  tail_stays tail next l t n h m is unmixed e = (h, n * 2 ^ 64 + low, refl, rw (column_weight t) (omega (arith, ap (λ (x : ℕ). x * 2 ^ 64) e)), l t n is)

-- no tail: the column above is changed
empty_passes : (change : Change) (low : ℕ) (next : Tail) → LongerTail Empty low next → PassesTail (Some change) Empty low (Some change) next
empty_passes change low next l t n h m (e, f) unmixed g =
    (m, n * 2 ^ 64 + low, subst (λ (x : ℕ). Moved (Some change) x m) (rw (e, f) (omega arith)) g, rw (column_weight t, e) (omega (arith, f)), l t n (e, f))

some_same : {a b : Tail} → ◌≡◌ {A = Option Tail} (Some a) (Some b) → a ≡ b
some_same {a} {b} e = ap (λ (x : Option Tail). unwrap_or x a) e

none_some : {a : Tail} → ◌≡◌ {A = Option Tail} None (Some a) → ⊥
unfolding bit
none_some e = let z : ◌≡◌ {A = Bool} false true = ap is_some e in let f : ◌≡◌ {A = ℕ} 0 1 = ap bit z in omega arith

pub zeros_fall : (low : ℕ) (next : Tail) → LongerTail Ones low next → PassesTail (Some Fall) Zeros low (Some Fall) next
zeros_fall low next l t n zero m (e, f) unmixed g = absurd (omega arith)
zeros_fall low next l t n (suc h) m (e, f) unmixed g =
    let M : ℕ = 2 ^ (64 * t) in
    let top : suc (M - 1) ≡ M = omega (arith, pow_pos (64 * t)) in
    (h, (M - 1) * 2 ^ 64 + low, refl, rw (column_weight t) (omega arith), l t (M - 1) (e, top))

-- what the change leaves of the tail gets the column, and the change goes on
pub tail_turned : (change : Change) (tail left : Tail) (low : ℕ) (next : Tail) → turned change tail ≡ Some left → LongerTail left low next
    → PassesTail (Some change) tail low (Some change) next
tail_turned change Empty left low next e l t n h m is unmixed g = empty_passes change low next (subst (λ (x : Tail). LongerTail x low next) (sym (some_same e)) l) t n h m is unmixed g
tail_turned Rise Ones left low next e l t n h m (p, f) unmixed g =
    let i : LongerTail Zeros low next = subst (λ (x : Tail). LongerTail x low next) (sym (some_same e)) l in
    (suc h, 0 * 2 ^ 64 + low, refl, rw (column_weight t) (omega arith), i t 0 (p, refl))
tail_turned Fall Zeros left low next e l t n h m is unmixed g = zeros_fall low next (subst (λ (x : Tail). LongerTail x low next) (sym (some_same e)) l) t n h m is unmixed g
tail_turned Rise Zeros left low next e l t n h m is unmixed g = absurd (none_some e)
tail_turned Fall Ones left low next e l t n h m is unmixed g = absurd (none_some e)
tail_turned change Mixed left low next e l t n h m is unmixed g = absurd (none_some e)

-- the tail holds the change: neither zeros nor ones stand there then
pub tail_holds : (change : Change) (tail : Tail) (low : ℕ) → low < 2 ^ 64 → turned change tail ≡ None → PassesTail (Some change) tail low None Mixed
tail_holds Rise Zeros low s e t n h m (p, f) unmixed g =
    let room = column_room (2 ^ 64) (2 ^ (64 * t)) low (omega arith) (weight_large t p) s in
    (h, 2 ^ 64 + low, refl, rw (column_weight t) (omega arith), (omega arith, omega arith, rw (column_weight t) room))
tail_holds Rise Ones low s e t n h m is unmixed g = absurd (none_some (sym e))
tail_holds Fall Zeros low s e t n h m is unmixed g = absurd (none_some (sym e))
tail_holds change Empty low s e t n h m is unmixed g = absurd (none_some (sym e))
tail_holds Fall Ones low s e t zero h m (p, f) unmixed g = absurd (omega (arith, weight_large t p))
tail_holds Fall Ones low s e t (suc n) h m (p, f) unmixed g =
    let some : 1 ≤ n = omega (arith, weight_large t p) in
    (h, n * 2 ^ 64 + low, refl, rw (column_weight t) (omega arith), (omega arith, omega arith, rw (column_weight t) (omega arith)))
-- a walk stops at a tail that is mixed
tail_holds change Mixed low s e t n h m is unmixed g = absurd (unmixed refl)
