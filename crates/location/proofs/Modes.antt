-- Laws of the modes: which of them go away from zero, and what each makes of a location. Assumes nothing.
use mathlib.Core.Path.{◌≡◌, refl}
use mathlib.Core.Bool.{Bool, true, false, not, true≢false, false≢true}
use Prim.Native.Nat.{ℕ, zero, suc, ◌≤◌, ◌<◌}
use native.Mathlib.Omega.{arith}
use lib.IntN.{pos}
use Rattle.rounding.specs.Answer.{signed}
use Rattle.rounding.specs.Mode.{Way, near, under, over, mode_of, way}
use Rattle.rounding.specs.declared.Mode.{Mode}
use Rattle.rounding.specs.declared.Mode.TheVariants.{Nearest, Zeroward, Upward, Downward}
use Rattle.location.specs.declared.Location.{Location}
use Rattle.location.specs.declared.Location.TheVariants.{Exact, Lower, Tie, Upper}
use Rattle.location.specs.Ternary.{ternary_of}
use Rattle.location.specs.Location.{goes_out, goes_up, inexact, side}

pub mode_inward : (mode : Mode) (n : Bool) → (mode ≡ Upward → ⊥) → (mode ≡ Downward → ⊥) → false ≡ goes_out (way mode n)
unfolding goes_out way
mode_inward Nearest n u d = refl
mode_inward Zeroward n u d = refl
mode_inward Upward n u d = absurd (u refl)
mode_inward Downward n u d = absurd (d refl)

pub mode_upward_out : (mode : Mode) (n : Bool) → mode ≡ Upward → not n ≡ goes_out (way mode n)
unfolding goes_out way
mode_upward_out mode true e = rw e refl
mode_upward_out mode false e = rw e refl

pub mode_downward_out : (mode : Mode) (n : Bool) → mode ≡ Downward → n ≡ goes_out (way mode n)
unfolding goes_out way
mode_downward_out mode true e = rw e refl
mode_downward_out mode false e = rw e refl

pub mode_nearest_up : (mode : Mode) (n : Bool) (at a : Location) (odd : Bool) → mode ≡ Nearest → at ≡ a → goes_up near a odd ≡ goes_up (way mode n) at odd
unfolding way
mode_nearest_up mode n at a odd e f = rw (e, f) refl

-- the same by the numbers of the modes: a number above 3 is down
pub inward : (mode : ℕ) (n : Bool) → mode < 2 → false ≡ goes_out (way (mode_of mode) n)
unfolding goes_out way mode_of
inward zero n h = refl
inward (suc zero) n h = refl
inward (suc (suc m)) n h = absurd (omega arith)

pub upward_out : (mode : ℕ) (n : Bool) → mode ≡ 2 → not n ≡ goes_out (way (mode_of mode) n)
unfolding goes_out way mode_of
upward_out mode true e = rw e refl
upward_out mode false e = rw e refl

pub downward_out : (mode : ℕ) (n : Bool) → 2 ≤ mode → (mode ≡ 2 → ⊥) → n ≡ goes_out (way (mode_of mode) n)
unfolding goes_out way mode_of
downward_out zero n h k = absurd (omega arith)
downward_out (suc zero) n h k = absurd (omega arith)
downward_out (suc (suc zero)) n h k = absurd (k refl)
downward_out (suc (suc (suc m))) true h k = refl
downward_out (suc (suc (suc m))) false h k = refl

pub nearest_up : (mode : ℕ) (n : Bool) (at a : Location) (odd : Bool) → mode ≡ 0 → at ≡ a → goes_up near a odd ≡ goes_up (way (mode_of mode) n) at odd
unfolding way mode_of
nearest_up mode n at a odd e f = rw (e, f) refl

pub exact_up : (w : Way) (at : Location) (odd : Bool) → at ≡ Exact → false ≡ goes_up w at odd
unfolding goes_up
exact_up w at odd e = rw e refl

-- any other mode goes by its direction alone
pub not_near : (mode : ℕ) (n : Bool) → (mode ≡ 0 → ⊥) → way (mode_of mode) n ≡ near → ⊥
unfolding way mode_of
not_near zero n h e = h refl
not_near (suc zero) n h e = let z : ◌≡◌ {A = ℕ} 0 1 = cc in omega arith
not_near (suc (suc zero)) true h e = let z : ◌≡◌ {A = ℕ} 0 1 = cc in omega arith
not_near (suc (suc zero)) false h e = let z : ◌≡◌ {A = ℕ} 0 1 = cc in omega arith
not_near (suc (suc (suc m))) true h e = let z : ◌≡◌ {A = ℕ} 0 1 = cc in omega arith
not_near (suc (suc (suc m))) false h e = let z : ◌≡◌ {A = ℕ} 0 1 = cc in omega arith

-- what is not exact
abbrev pub Off : Location → Type 0
Off Exact = ⊥
Off Lower = Unit {0}
Off Tie = Unit {0}
Off Upper = Unit {0}

-- any other way than nearest goes by its direction alone
pub off_up : (w : Way) (at : Location) (odd : Bool) → (w ≡ near → ⊥) → Off at → goes_out w ≡ goes_up w at odd
unfolding goes_up goes_out
off_up near at odd h o = absurd (h refl)
off_up under Exact odd h o = absurd o
off_up under Lower odd h o = refl
off_up under Tie odd h o = refl
off_up under Upper odd h o = refl
off_up over Exact odd h o = absurd o
off_up over Lower odd h o = refl
off_up over Tie odd h o = refl
off_up over Upper odd h o = refl

-- only what is exact stays where every rest goes out
pub left_off : (at : Location) → goes_up over at false ≡ true → Off at
unfolding goes_up
left_off Exact h = false≢true h
left_off Lower h = tt
left_off Tie h = tt
left_off Upper h = tt

pub none_exact : (at : Location) → goes_up over at false ≡ false → at ≡ Exact
unfolding goes_up
none_exact Exact h = refl
none_exact Lower h = absurd (true≢false h)
none_exact Tie h = absurd (true≢false h)
none_exact Upper h = absurd (true≢false h)

-- ---- the ternary value

pub exact_ternary : (n : Bool) (at : Location) (up : Bool) → at ≡ Exact → pos 0 ≡ ternary_of (signed n (side at up))
unfolding ternary_of signed side
exact_ternary true at up e = rw e refl
exact_ternary false at up e = rw e refl

pub off_side : (at : Location) (up : Bool) → Off at → inexact up ≡ side at up
unfolding side
off_side Exact up o = absurd o
off_side Lower up o = refl
off_side Tie up o = refl
off_side Upper up o = refl
