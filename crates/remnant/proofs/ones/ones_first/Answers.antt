-- `walk::ones_first` is right since the digits asked for are those of the carry, of the limbs from some digit on, and of the guard. Assumes nothing.
use mathlib.Core.Path.{◌≡◌, sym, ◌∙◌}
use mathlib.Core.Bool.{true, false}
use Prim.Native.Nat.{ℕ, suc, ◌+◌, ◌-◌, ◌*◌, ◌/◌, ◌^◌, ◌≤◌, ◌<◌}
use native.Mathlib.Omega.{arith}
use lib.Dec.{eqb}
use lib.ListN.{length, drop}
use Rattle.std.specs.Option.{is_some}
use Rattle.limb.specs.Carry.{bit}
use Rattle.limb.specs.Value.{value_of}
use Rattle.limb.proofs.Carry.{bit_le}
use Rattle.remnant.proofs.Leading.{none_asked, shown_ones, limbs_many, guarded_from, first_holds, first_fails, ones_guard, ones_limbs, room_from, place_within, place_rest}
use Rattle.remnant.proofs.ones.ones_first.Goals as goal

pub returns-then-count-eq0 : goal.returns-then-count-eq0
returns-then-count-eq0 c =
    let g = c.args in
    let d = c.digits_of-digits in
    none_asked g.w g.target.now g.count d.result d.ensures c.if-count-eq0.true

pub returns-then-digits-count : goal.returns-then-digits-count
returns-then-digits-count c =
    let g = c.args in
    let d = c.digits_of-digits in
    shown_ones g.w g.target.now g.count d.result d.ensures false (λ few. absurd (omega arith))

pub returns-then-inside-filled : goal.returns-then-inside-filled
returns-then-inside-filled c =
    let g = c.args in
    let d = c.digits_of-digits in
    let below = c.guard_digits-below in
    let carry = c.carry_digits in
    let inside : ℕ = d.result - below.result - carry.result in
    let least = d.ensures.least in
    let sum : d.result ≡ inside + bit g.w.carry + 64 * bit (is_some g.w.guard) = omega (arith, below.ensures, carry.ensures) in
    λ k D s h. absurd (omega (arith, limbs_many g.w g.target.now k D s d.result inside d.ensures sum))

pub overflow_sub-low-then-low-below : goal.overflow_sub-low-then-low-below
overflow_sub-low-then-low-below c =
    let most = c.digits_of-digits.ensures.most in
    let least = c.digits_of-digits.ensures.least in
    let below = c.guard_digits-below.ensures in
    let carry = c.carry_digits.ensures in
    let one = bit_le (is_some c.args.w.guard) in
    let digit = bit_le c.args.w.carry in
    let within = c.requires.0.within in
    omega arith

pub limb_ones-requires : goal.limb_ones-requires
limb_ones-requires c =
    let most = c.digits_of-digits.ensures.most in
    let least = c.digits_of-digits.ensures.least in
    let below = c.guard_digits-below.ensures in
    let carry = c.carry_digits.ensures in
    let one = bit_le (is_some c.args.w.guard) in
    let digit = bit_le c.args.w.carry in
    let within = c.requires.0.within in
    (omega arith, omega arith)

pub returns-then-not-limb_ones : goal.returns-then-not-limb_ones
returns-then-not-limb_ones c =
    let g = c.args in
    let d = c.digits_of-digits in
    let below = c.guard_digits-below in
    let carry = c.carry_digits in
    let inside : ℕ = d.result - below.result - carry.result in
    let least = d.ensures.least in
    let sum : d.result ≡ inside + bit g.w.carry + 64 * bit (is_some g.w.guard) = omega (arith, below.ensures, carry.ensures) in
    let some : d.result - g.count < 64 * bit (is_some g.w.guard) = omega (arith, below.ensures) in
    let guarded : (is_some g.w.guard) ≡ true = guarded_from (is_some g.w.guard) _ some in
    shown_ones g.w g.target.now g.count d.result d.ensures false
    (λ few. sym (first_fails (eqb (suc (value_of (drop (length g.target.now - g.w.filled) g.target.now))) (2 ^ inside)) _ (sym (rw c.unwrap_or.ensures at c.limb_ones.ensures) ∙ c.if-not-limb_ones.true))
    ∙ ones_guard g.w g.target.now g.count d.result d.ensures (λ i. (c.type_inv.target i).fits) inside sum guarded c.requires.0.guard_fits few (omega (arith, bit_le (is_some g.w.guard))))

pub returns-then-low-below : goal.returns-then-low-below
returns-then-low-below c =
    let g = c.args in
    let d = c.digits_of-digits in
    let below = c.guard_digits-below in
    let carry = c.carry_digits in
    let inside : ℕ = d.result - below.result - carry.result in
    let least = d.ensures.least in
    let sum : d.result ≡ inside + bit g.w.carry + 64 * bit (is_some g.w.guard) = omega (arith, below.ensures, carry.ensures) in
    let some : d.result - g.count < 64 * bit (is_some g.w.guard) = omega (arith, below.ensures) in
    let guarded : (is_some g.w.guard) ≡ true = guarded_from (is_some g.w.guard) _ some in
    shown_ones g.w g.target.now g.count d.result d.ensures c.ones_from.result
    (λ few. c.ones_from.ensures ∙ sym (first_holds _ _ (sym (rw c.unwrap_or.ensures at c.limb_ones.ensures) ∙ c.if-not-limb_ones.false))
    ∙ ones_guard g.w g.target.now g.count d.result d.ensures (λ i. (c.type_inv.target i).fits) inside sum guarded c.requires.0.guard_fits few (omega (arith, bit_le (is_some g.w.guard))))

pub overflow_sub-inside-3 : goal.overflow_sub-inside-3
overflow_sub-inside-3 c =
    let most = c.digits_of-digits.ensures.most in
    let least = c.digits_of-digits.ensures.least in
    let below = c.guard_digits-below.ensures in
    let carry = c.carry_digits.ensures in
    let one = bit_le (is_some c.args.w.guard) in
    let digit = bit_le c.args.w.carry in
    let within = c.requires.0.within in
    omega arith

pub ones_above-requires : goal.ones_above-requires
ones_above-requires c =
    let g = c.args in
    let d = c.digits_of-digits.result in
    let below = c.guard_digits-below.result in
    let inside : ℕ = d - below - c.carry_digits.result in
    let place : ℕ = d - g.count - below in
    let most = c.digits_of-digits.ensures.most in
    let least = c.digits_of-digits.ensures.least in
    let guard = c.guard_digits-below.ensures in
    let carry = c.carry_digits.ensures in
    let digit = bit_le g.w.carry in
    let within = c.requires.0.within in
    let low : place ≤ inside = omega arith in
    let high : inside ≤ 64 * g.w.filled = omega arith in
    let many : 64 * g.w.filled < inside + 64 = c.if-inside-filled.false in
    let room = room_from (length g.target.now) g.w.filled inside (place / 64) within (omega (arith, low)) high many in
    (place_within (length g.target.now) g.w.filled inside place within low high, room.0, room.1, omega arith, place_rest inside place low)

pub returns : goal.returns
returns c =
    let g = c.args in
    let d = c.digits_of-digits in
    let below = c.guard_digits-below in
    let carry = c.carry_digits in
    let inside : ℕ = d.result - below.result - carry.result in
    let least = d.ensures.least in
    let sum : d.result ≡ inside + bit g.w.carry + 64 * bit (is_some g.w.guard) = omega (arith, below.ensures, carry.ensures) in
    shown_ones g.w g.target.now g.count d.result d.ensures c.ones_above.result
    (λ few. c.ones_above.ensures
    ∙ ones_limbs g.w g.target.now g.count d.result d.ensures (λ i. (c.type_inv.target i).fits) inside sum (d.result - g.count - below.result) c.requires.0.guard_fits few (omega arith) (omega (arith, below.ensures)))
