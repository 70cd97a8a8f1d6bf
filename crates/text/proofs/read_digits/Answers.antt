-- `text::read_digits`: after some digits the value is that of the first ones. Assumes nothing.
use Rattle.std.proofs.Common.{◌≡◌, ◌%◌, ◌^◌, [], refl, arith}
use Rattle.text.proofs.Numeral.{read_more}
use Rattle.text.specs.Digits.{worth}
use Rattle.text.proofs.read_digits.Goals as goal

pub loop-b-init : goal.loop-b-init
unfolding worth
loop-b-init c = refl

pub loop-b-preserved : goal.loop-b-preserved
loop-b-preserved c = read_more c.args.s.now c.loop-b.b-index _ _ (omega arith) c.digit.ensures c.loop-b.invariant
