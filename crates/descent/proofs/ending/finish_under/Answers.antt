-- `descent::ending::finish_under`: each verdict says what the sum is, and each is rounded, or refused, as it says. Assumes nothing.
use Rattle.descent.proofs.RegularEnd.{open_never, fixed_told, hole_told, refused_told}
use Rattle.descent.proofs.ending.finish_under.Goals as goal

pub returns-in-Open : goal.returns-in-Open
returns-in-Open c x y from course pe ne st =
    let a = c.args in
    open_never a.mode a.p _ c.requires.room x y from course a.walked a.target.now st a.pair a.negative pe ne c.in-Open.is

pub returns-in-Fixed : goal.returns-in-Fixed
returns-in-Fixed c x y from course pe ne st =
    let a = c.args in
    fixed_told a.mode a.p _ c.requires.room x y from course a.walked a.target.now st a.pair a.negative pe ne _ c.in-Fixed.is c.fixed.ensures

pub returns-in-InHole : goal.returns-in-InHole
returns-in-InHole c x y from course pe ne st =
    let a = c.args in
    hole_told a.mode a.p _ c.requires.room x y from course a.walked a.target.now st a.pair a.negative pe ne c.in-InHole.is c.hole.ensures

pub returns-in-Refused : goal.returns-in-Refused
returns-in-Refused c x y from course pe ne st =
    let a = c.args in
    refused_told a.mode a.p _ c.requires.room x y from course a.walked a.target.now st a.pair a.negative pe ne _ c.in-Refused.is c.refuse-in-Refused.ensures.value c.refuse-in-Refused.ensures.target_after
