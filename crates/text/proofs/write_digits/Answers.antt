-- `text::write_digits`: after some digits the end of the room holds as many of the number's last. Assumes nothing.
use Rattle.std.proofs.Common.{◌≡◌, ℕ, suc, ◌-◌, List, [], length, drop, sym, refl, div-one, arith, length-set}
use lib.Seq.{drop-length}
use Rattle.text.proofs.Numeral.{write_more, rest_more}
use Rattle.text.specs.Digits.{numeral}
use Rattle.text.proofs.write_digits.Goals as goal

empty : (value : ℕ) → [] ≡ numeral 0 value
unfolding numeral
empty value = refl

pub loop-i-init : goal.loop-i-init
loop-i-init c =
    let t : List ℕ = c.args.room.now in
    let none : length t - length t ≡ 0 = omega arith in
    (refl, rw none (sym (div-one c.args.value)), rw (none, drop-length t) (empty c.args.value))

pub loop-i-preserved : goal.loop-i-preserved
loop-i-preserved c =
    let l = c.loop-i in
    let t : List ℕ = c.args.room.now in
    let m : length t - (l.i - 1) ≡ suc (length t - l.i) = omega arith in
    (simp length-set (omega arith), rest_more (length t - l.i) (length t - (l.i - 1)) c.args.value l.rest m l.invariant.1, write_more l.room l.i (l.i - 1) (length t - l.i) (length t - (l.i - 1)) c.args.value l.rest _ (omega arith) (omega arith) m c.glyph.ensures l.invariant.1 l.invariant.2)
