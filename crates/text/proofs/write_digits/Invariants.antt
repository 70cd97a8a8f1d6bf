-- `text::write_digits`: after some digits the end of the room holds as many of the number's last. Assumes nothing.
use Rattle.std.proofs.Common.{◌≡◌, ◌-◌, ◌/◌, ◌^◌, length, drop}
use Rattle.text.specs.Digits.{numeral}
use Rattle.text.proofs.write_digits.Given as goal

abbrev pub invariant-loop-i : goal.invariant-loop-i
invariant-loop-i l =
    (length l.room ≡ length l.initial.room) × (l.rest ≡ l.value / 16 ^ (length l.initial.room - l.i)) × (drop l.i l.room ≡ numeral (length l.initial.room - l.i) l.value)
