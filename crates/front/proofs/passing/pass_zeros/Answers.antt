-- `passing::pass_zeros`: both operands are 0 in each column passed, so that their sum is moved up. Assumes nothing.
use Rattle.std.proofs.Common.{◌≡◌, true, eqb, sym, rules, bit_or}
use borrow.Author.Tests.{eqb-true}
use Rattle.columns.specs.Column.{column_of}
use Rattle.front.proofs.Passed.{zeros_all}
use Rattle.front.proofs.passing.pass_zeros.Goals as goal

pub returns : goal.returns
returns c =
    let g = c.args in
    let p = c.pass_while.ensures in
    (p.0, zeros_all g.pair.gap g.first.now g.second.now _ p.0.on (λ k l m. let met = p.1 k l m in let s : true ≡ eqb (bit_or (column_of k 0 g.first.now) (column_of k g.pair.gap g.second.now)) 0 = search rules in eqb-true _ _ (sym s)))
