-- `descent::going::is_open` meets its contract: each arm returns what the definition says of its verdict. Assumes nothing.
use Rattle.descent.specs.Course.{open?}
use Rattle.descent.proofs.going.is_open.Goals as goal

pub returns-in-Open : goal.returns-in-Open
unfolding open?
returns-in-Open c = rw c.in-Open.is

pub returns-in-Fixed : goal.returns-in-Fixed
unfolding open?
returns-in-Fixed c = rw c.in-Fixed.is

pub returns-in-InHole : goal.returns-in-InHole
unfolding open?
returns-in-InHole c = rw c.in-InHole.is

pub returns-in-Refused : goal.returns-in-Refused
unfolding open?
returns-in-Refused c = rw c.in-Refused.is
