-- `text::read_digits`: after some digits the value is that of the first ones. Assumes nothing.
use Rattle.std.proofs.Common.{◌≡◌, ◌%◌, ◌^◌, take}
use Rattle.text.specs.Digits.{worth}
use Rattle.text.proofs.read_digits.Given as goal

abbrev pub invariant-loop-b : goal.invariant-loop-b
invariant-loop-b l = l.value ≡ worth (take l.b-index l.s) % 2 ^ 64
