-- `walk::rest_of` is right since the last digit kept stands in the lowest limb or in the guard, and the rest is put together from there down. Assumes nothing.
use mathlib.Core.Path.{◌≡◌, sym, ap, subst}
use mathlib.Core.Bool.{true, false}
use Prim.Native.Nat.{ℕ, ◌+◌, ◌-◌, ◌*◌, ◌^◌, ◌≤◌}
use native.Mathlib.Omega.{arith}
use lib.ListN.{length, get_or}
use Rattle.std.specs.Option.{is_some, unwrap_or}
use Rattle.std.specs.Prelude.{Option}
use Rattle.limb.specs.Carry.{bit}
use Rattle.limb.proofs.Carry.{bit_le}
use Rattle.walk.specs.Window.{guard_of, head_of}
use Rattle.remnant.specs.Rest.{RestAt, LongerRest, high_of}
use Rattle.remnant.proofs.Resting.{word_longer}
use Rattle.remnant.proofs.Dropping.{head_full, low_odd, shown_few, shown_none, shown_open, shown_guarded}
use Rattle.remnant.proofs.rest.rest_of.Goals as goal

pub digits_of-digits-requires : goal.digits_of-digits-requires
digits_of-digits-requires c = (c.requires.0, c.requires.1)

pub returns-then-digits-p : goal.returns-then-digits-p
returns-then-digits-p c =
    let g = c.args in
    let d = c.digits_of-digits in
    λ k D s. shown_few g.w g.target.now g.p d.result d.ensures c.requires.2 k D s c.too_few.result c.if-digits-p.true c.too_few.ensures

pub returns-then-digits-p-2 : goal.returns-then-digits-p-2
returns-then-digits-p-2 c =
    let g = c.args in
    let d = c.digits_of-digits in
    let n = c.nothing in
    λ k D s. shown_none g.w g.target.now g.p d.result d.ensures c.requires.2 k D s n.result c.if-digits-p-2.true n.ensures.0 n.ensures.1 n.ensures.2

pub word_rest-requires : goal.word_rest-requires
unfolding bit
word_rest-requires c =
    let d = c.digits_of-digits in
    let open_window : is_some c.args.w.guard ≡ false = ap is_some c.in_default.is in
    let most : d.result ≤ 64 * c.args.w.filled + 64 * 0 + 1 = omega (arith, rw open_window at d.ensures.most, bit_le c.args.w.carry) in
    let within = c.requires.0.within in
    (omega arith, omega arith)

pub returns-in_default : goal.returns-in_default
returns-in_default c =
    let g = c.args in
    let d = c.digits_of-digits in
    λ k D s. shown_open g.w g.target.now g.p d.result d.ensures c.requires.2 k D s c.word_rest.result (ap is_some c.in_default.is) c.requires.3 (omega arith)
    (c.word_rest.ensures (high_of g.w g.target.now) c.next_bit.ensures)

pub returns-then-drop-le64 : goal.returns-then-drop-le64
returns-then-drop-le64 c =
    let g = c.args in
    let d = c.digits_of-digits in
    let w = c.word_rest-then-drop-le64 in
    let guarded : is_some g.w.guard ≡ true = ap is_some c.in-Some.is in
    let full : g.w.filled ≡ length g.target.now = c.requires.0.full guarded in
    let x : c.in-Some.guard ≡ guard_of g.w = sym (ap (λ (o : Option ℕ). unwrap_or o 0) c.in-Some.is) in
    λ k D s. shown_guarded g.w g.target.now g.p d.result d.ensures c.requires.2 k D s c.with_tail.result guarded (omega arith)
    (c.with_tail.ensures (head_of g.w g.target.now * 2 ^ 64 + guard_of g.w) (d.result - g.p) s.below s.rest (omega arith)
    (subst (λ (n : ℕ). RestAt (head_of g.w g.target.now * 2 ^ 64 + n) (d.result - g.p) w.result) x (w.ensures (head_of g.w g.target.now) (low_odd g.w g.target.now s.fits.limbs full))) s.tail)

pub word_rest-high-requires : goal.word_rest-high-requires
word_rest-high-requires c =
    let d = c.digits_of-digits in
    let most = d.ensures.most in
    let one = bit_le (is_some c.args.w.guard) in
    let carry_one = bit_le c.args.w.carry in
    let within = c.requires.0.within in
    (omega arith, omega arith)

pub returns : goal.returns
returns c =
    let g = c.args in
    let d = c.digits_of-digits in
    let y = c.word_rest-high in
    let z = c.longer_rest in
    let guarded : is_some g.w.guard ≡ true = ap is_some c.in-Some.is in
    let full : g.w.filled ≡ length g.target.now = c.requires.0.full guarded in
    let x : c.in-Some.guard ≡ guard_of g.w = sym (ap (λ (o : Option ℕ). unwrap_or o 0) c.in-Some.is) in
    let n : ℕ = high_of g.w g.target.now * 2 ^ 64 + get_or g.target.now 0 0 in
    let e : ℕ = d.result - g.p - 64 in
    let high : RestAt n e y.result = y.ensures (high_of g.w g.target.now) c.next_bit-2.ensures in
    let more : RestAt (n * 2 ^ 64 + guard_of g.w) (e + 64) z.result = word_longer y.result z.result (guard_of g.w) n e (subst (λ (m : ℕ). LongerRest y.result m z.result) x z.ensures) c.requires.0.guard_fits (omega arith) high in
    let all : e + 64 ≡ d.result - g.p = omega arith in
    let head : n ≡ head_of g.w g.target.now = sym (head_full g.w g.target.now c.requires.0.limbs full) in
    let rest : RestAt (head_of g.w g.target.now * 2 ^ 64 + guard_of g.w) (d.result - g.p) z.result =
    subst (λ (j : ℕ). RestAt (head_of g.w g.target.now * 2 ^ 64 + guard_of g.w) j z.result) all (subst (λ (j : ℕ). RestAt (j * 2 ^ 64 + guard_of g.w) (e + 64) z.result) head more) in
    λ k D s. shown_guarded g.w g.target.now g.p d.result d.ensures c.requires.2 k D s c.with_tail-2.result guarded (omega arith)
    (c.with_tail-2.ensures (head_of g.w g.target.now * 2 ^ 64 + guard_of g.w) (d.result - g.p) s.below s.rest (omega arith) rest s.tail)
