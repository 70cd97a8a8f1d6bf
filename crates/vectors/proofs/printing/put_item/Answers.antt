-- `printing::put_item`: the digits stand after those that are held, or alone where these were written. Assumes nothing.
use Rattle.std.proofs.Common.{◌≡◌, ℕ, List, [], take, refl, arith}
use Rattle.std.proofs.KnownBytes.{Appends-nil}
use Rattle.text.specs.Digits.{numeral}
use Rattle.vectors.specs.Printed.{item_text}
use Rattle.vectors.proofs.Held.{text_is, item_held, anew_held}
use Rattle.vectors.proofs.printing.put_item.Goals as goal
use Rattle.vectors.proofs.printing.put_item.Goals.{then-held-digits+in_ok-write_all-2, else-held-digits}

pub returns-clause-told : goal.returns-clause-told
returns-clause-told g c is =
    let low = c.bits-high.result.1 in
    let fits = c.if-not-fits.ensures refl in
    let text : item_text c.args.digits (g.T.HasDigits.word c.args.item) ≡ numeral c.args.digits low = text_is (g.T.HasDigits.word c.args.item) c.bits-high.result.0 low c.args.digits fits.0 fits.1 fits.2 is c.bits-high.ensures.word in
    let before : List ℕ = take c.args.held c.args.room.now in
    elim c.if-held-digits.branch [
      | then-held-digits+in_ok-write_all-2 w ↦
          item_held _ _ before c.args.digits c.if-held-digits.start low c.args.room.now c.write_digits.new.room _ (omega arith) c.write_digits.ensures text (rw (w.out-is, w.start-is) (anew_held _ _ before [] w.in_ok-write_all-2.ensures.bytes))
      | else-held-digits w ↦
          item_held _ _ before c.args.digits c.if-held-digits.start low c.args.room.now c.write_digits.new.room _ (omega arith) c.write_digits.ensures text (rw (w.out-is, w.start-is) (Appends-nil _))
    ]
