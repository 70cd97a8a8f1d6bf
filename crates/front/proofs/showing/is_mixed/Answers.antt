-- `front::is_mixed` is right since it answers true in the last case alone. Assumes nothing.
use mathlib.Core.Path.{refl}
use mathlib.Core.Bool.{true≢false}
use Rattle.limb.proofs.Tests.{true_false}
use Rattle.front.proofs.showing.is_mixed.Goals as goal

pub returns-in-Empty : goal.returns-in-Empty
returns-in-Empty c = (λ y. absurd (true_false y refl), λ y m. true≢false cc)

pub returns-in-Zeros : goal.returns-in-Zeros
returns-in-Zeros c = (λ y. absurd (true_false y refl), λ y m. true≢false cc)

pub returns-in-Ones : goal.returns-in-Ones
returns-in-Ones c = (λ y. absurd (true_false y refl), λ y m. true≢false cc)

pub returns-in-Mixed : goal.returns-in-Mixed
returns-in-Mixed c = (λ y. c.in-Mixed.is, λ y. absurd (true_false refl y))
