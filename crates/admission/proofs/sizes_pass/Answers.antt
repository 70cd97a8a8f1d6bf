-- `admission::sizes_pass`: one after the other. Assumes nothing.
use mathlib.Core.Bool.{false≢true}
use Rattle.admission.proofs.sizes_pass.Goals as goal

pub returns-then-not-target_passes : goal.returns-then-not-target_passes
returns-then-not-target_passes c = (λ h. absurd (false≢true h), λ h s. c.target_passes.ensures.1 (c.if-not-target_passes.true) s.target)

pub returns-then-not-target_passes-2 : goal.returns-then-not-target_passes-2
returns-then-not-target_passes-2 c = (λ h. absurd (false≢true h), λ h s. c.target_passes-2.ensures.1 (c.if-not-target_passes-2.true) s.first)

pub returns : goal.returns
returns c = (
  λ h. record {
    first = c.target_passes-2.ensures.0 (c.if-not-target_passes-2.false);
    second = c.target_passes-3.ensures.0 h;
    target = c.target_passes.ensures.0 (c.if-not-target_passes.false);
  },
  λ h s. c.target_passes-3.ensures.1 h s.second,
)
