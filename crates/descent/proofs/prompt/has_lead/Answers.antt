-- `descent::prompt::has_lead` is right since 2 or more in the top limb is more than any borrow takes. Assumes nothing.
use Rattle.descent.proofs.AtOnce.{carry_leads, limb_leads}
use Rattle.descent.proofs.prompt.has_lead.Goals as goal

pub returns-then-w : goal.returns-then-w
returns-then-w c = λ e f. carry_leads c.args.w c.args.target.now c.requires c.if-w.true f

pub returns : goal.returns
returns c = λ e f. limb_leads c.args.w c.args.target.now c.requires e f
