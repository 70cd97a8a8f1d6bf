-- `passing::pass_ones`: the operands come to all ones in each column passed, so that the number after their sum is moved up. Assumes nothing.
use Rattle.std.proofs.Common.{◌≡◌, ◌-◌, true, eqb, sym, rules}
use borrow.Author.Tests.{eqb-true}
use Rattle.columns.specs.Column.{column_of}
use Rattle.front.proofs.Passed.{ones_all}
use Rattle.front.proofs.passing.pass_ones.Goals as goal

pub returns : goal.returns
returns c =
    let g = c.args in
    let p = c.pass_while.ensures in
    (p.0, ones_all g.pair.gap g.first.now g.second.now _ p.0.on (λ k l m. let met = p.1 k l m in let s : true ≡ eqb (column_of k 0 g.first.now) (18446744073709551615 - column_of k g.pair.gap g.second.now) = search rules in eqb-true _ _ (sym s)))
