-- `aligned::cancelled` is right since the target is cleared, and every column of both operands is read. Assumes nothing.
use mathlib.Core.Path.{refl, ◌∙◌}
use Rattle.descent.proofs.GoingDown.{room_some}
use Rattle.aligned.proofs.Cancels.{cancelled_told, sign_of}
use borrow.Author.Rules.{rules}
use Rattle.aligned.proofs.cancelled.Goals as goal

pub returns : goal.returns
returns c =
    let o = c.args.mode in
    (search rules, λ p x y room k i j. cancelled_told o p _ _ x y room (room_some p _ room) k (c.zero_sign.ensures ∙ sign_of o i j) refl c.clear.ensures)
