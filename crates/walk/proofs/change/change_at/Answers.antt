-- `walk::change::change_at` is right since a carry out of the limbs goes into the carry above them, and a borrow takes it. Assumes nothing.
use Rattle.walk.proofs.Moving.{nothing_changed, carry_changed}
use Rattle.walk.proofs.change.change_at.Goals as goal

pub returns-in-None : goal.returns-in-None
returns-in-None c = rw c.in-None.is (nothing_changed c.args.from c.args.carry c.args.target.now)

pub returns-in-Some : goal.returns-in-Some
returns-in-Some c =
    let f = c.change_from in
    rw c.in-Some.is (carry_changed c.in-Some.by_one c.args.from c.args.target.now f.new.target c.requires (λ i. (c.type_inv.target i).fits) f.result f.ensures c.args.carry)
