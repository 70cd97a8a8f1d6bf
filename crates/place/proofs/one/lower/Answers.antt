-- `place::one::lower` is right since half of the limb leaves its top digit free for the carry. Assumes nothing.
use mathlib.Core.Path.{refl}
use Rattle.numbers.specs.Limits.{most_exponent, bias}
use Rattle.place.proofs.Normalized.{differ}
use Rattle.place.proofs.Lowered.{carry_enters}
use borrow.Author.Rules.{rules}
use Rattle.place.proofs.one.lower.Goals as goal

pub overflow_add-higher : goal.overflow_add-higher
unfolding most_exponent bias
overflow_add-higher c = search rules

pub returns-then-carry : goal.returns-then-carry
returns-then-carry c = (refl, λ e. (carry_enters c.args.limb c.ranges.limb.fits, refl, refl), λ e. differ c.if-carry.true e)

pub returns : goal.returns
returns c = (refl, λ e. differ e c.if-carry.false, λ e. (refl, refl, refl))
