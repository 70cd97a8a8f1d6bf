-- `ways::attempt_under` is right since a zero is left open, and two regular numbers are read in a way that their tests fit. Assumes nothing.
use mathlib.Core.Path.{sym, ◌∙◌}
use Rattle.ways.proofs.attempt_under.Goals as goal

pub invariant_of-first : goal.invariant_of-first
invariant_of-first c = record { formed = rw c.copied.ensures c.requires.0; regular = rw c.copied.ensures (sym c.is_zero.ensures ∙ c.if-is_zero.false) }

pub invariant_of-second : goal.invariant_of-second
invariant_of-second c = record { formed = rw c.copied-2.ensures c.requires.1; regular = rw c.copied-2.ensures (sym c.is_zero-2.ensures ∙ c.if-is_zero-2.false) }

pub attempt-requires : goal.attempt-requires
attempt-requires c = let t = c.is_aligned.ensures c.if-is_aligned.true in rw (c.copied.ensures, c.copied-2.ensures) (t.0, t.1, t.2, c.requires.2)

pub add_regular-requires : goal.add_regular-requires
add_regular-requires c = c.requires.2
