-- `settle::carries`: what is selected has a digit more than D just where it goes up from all ones.
use mathlib.Core.Path.{sym, ap, ◌∙◌}
use Rattle.lean.specs.Leaning.{lean_is}
use Rattle.lean.proofs.Flags.{flags_of}
use Rattle.bounds.proofs.Ranges.{carry_high, carry_low, carry_even}
use Rattle.bounds.proofs.carries.Goals as goal

pub returns-in-Greater : goal.returns-in-Greater
unfolding lean_is
returns-in-Greater c = λ p D t l o. carry_high _ p D _ _ o (sym (c.leans.ensures _ _ _ (flags_of p D _ t l)) ∙ ap lean_is c.in-Greater.is)

pub returns-in-Less : goal.returns-in-Less
unfolding lean_is
returns-in-Less c = λ p D t l o. carry_low _ p D _ (sym (c.leans.ensures _ _ _ (flags_of p D _ t l)) ∙ ap lean_is c.in-Less.is)

pub returns-in-Equal : goal.returns-in-Equal
unfolding lean_is
returns-in-Equal c = λ p D t l o. carry_even _ p D _ (sym (c.leans.ensures _ _ _ (flags_of p D _ t l)) ∙ ap lean_is c.in-Equal.is)
