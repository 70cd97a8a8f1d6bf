-- `descent::going::walk_slowly` is right since a window that shows nothing after the columns passed over begins a walk, and these columns fix nothing. Assumes nothing.
use Rattle.descent.proofs.GoingDown.{room_some, underway, begins}
use Rattle.descent.proofs.going.walk_slowly.Goals as goal

pub descend-requires : goal.descend-requires
descend-requires c = (c.requires.0, underway _ _ _ _ _ _ _ c.requires.0 c.requires.1 _ c.start-w.ensures.0 (c.start-w.ensures.1 _ (room_some _ _ c.requires.0)))

pub returns : goal.returns
returns c = λ o x y held course. c.descend.ensures o x y held (begins o _ x y _ course _ c.requires.0 _ c.start-w.ensures.0 (c.start-w.ensures.1 _ (room_some _ _ c.requires.0)))
