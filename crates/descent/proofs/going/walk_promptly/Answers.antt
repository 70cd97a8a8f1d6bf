-- `descent::going::walk_promptly` is right since one column fewer than fill the target fixes nothing. Assumes nothing.
use Rattle.descent.proofs.AtOnce.{sighted, reached, before_open, arriving, after_some, after_room}
use Rattle.descent.proofs.going.walk_promptly.Goals as goal

pub fill-w-requires : goal.fill-w-requires
fill-w-requires c = (sighted _ _ _ _ _ _ c.args.target.now c.requires.0 c.requires.1, c.requires.2)

pub has_lead-requires : goal.has_lead-requires
has_lead-requires c = after_some _ _ c.args.first.now c.args.second.now _ c.args.target.now _ c.requires.0 c.requires.2 _ c.fill-w.ensures _ c.requires.1

pub walk_on-requires : goal.walk_on-requires
walk_on-requires c = (after_room _ _ c.args.first.now c.args.second.now _ c.args.target.now _ c.requires.0 c.requires.2 _ c.fill-w.ensures _ c.requires.1, arriving _ _ c.args.first.now c.args.second.now _ c.args.target.now _ c.requires.0 c.requires.2 _ c.fill-w.ensures (λ f. c.has_lead.ensures c.if-has_lead.true f) _ _ _ _ c.requires.1.held c.requires.1.course)

pub returns-then-has_lead : goal.returns-then-has_lead
returns-then-has_lead c = λ o x y held course. c.walk_on.ensures o x y held (reached _ _ c.args.first.now c.args.second.now _ c.args.target.now _ c.requires.0 c.requires.2 _ c.fill-w.ensures (λ f. c.has_lead.ensures c.if-has_lead.true f) o x y _ held course) (before_open _ _ c.args.first.now c.args.second.now _ c.args.target.now _ c.requires.0 c.requires.2 _ c.fill-w.ensures (λ f. c.has_lead.ensures c.if-has_lead.true f) o x y _ held course)
