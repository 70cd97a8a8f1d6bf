-- `report::exponent_in`: of a regular number's exponent the difference fits 32 bits, and it is the definition's. Assumes nothing.
use native.Mathlib.Omega.{arith}
use mir.Facts.{to_z-of_z, sfits_widen}
use Rattle.checks.proofs.Signed.{counted_less, exponent_fits, exponent_back}
use Rattle.reports.proofs.Ranged.{exponents_fit}
use borrow.Author.Rules.{rules}
use Rattle.reports.proofs.report.exponent_in.Goals as goal

pub overflow_cast-wide : goal.overflow_cast-wide
overflow_cast-wide c = let l = exponents_fit c.args.c c.requires.0 c.requires.1 in search rules

pub overflow_sub-e : goal.overflow_sub-e
overflow_sub-e c = let l = exponents_fit c.args.c c.requires.0 c.requires.1 in rw (counted_less c.args.c (omega arith)) (sfits_widen tt (exponent_fits c.args.c l.0 l.1))

pub overflow_cast-result : goal.overflow_cast-result
overflow_cast-result c =
    let l = exponents_fit c.args.c c.requires.0 c.requires.1 in
    let f = exponent_fits c.args.c l.0 l.1 in
    rw (counted_less c.args.c (omega arith), to_z-of_z (sfits_widen tt f)) f

pub returns : goal.returns
returns c = let l = exponents_fit c.args.c c.requires.0 c.requires.1 in exponent_back c.args.c l.0 l.1
