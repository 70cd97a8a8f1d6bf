-- `Fields::field`: the digits read so far, and that there is room for a digit more. Assumes nothing.
use Rattle.std.proofs.Common.{◌≡◌, ◌<◌, ◌^◌}
use Rattle.vectors.specs.Fields.{field_of}
use Rattle.vectors.proofs.reading.Fields.field.Given as goal

abbrev pub invariant-loop-i : goal.invariant-loop-i
invariant-loop-i l = (l.value ≡ field_of l.i l.self.rest.now) × (l.value < 16 ^ l.i)
