-- `doubles::end_of`: by cases, as the definition. Assumes nothing.
use Rattle.doubles.specs.Enclose.{end_of}
use Rattle.doubles.proofs.end_of.Goals as goal

pub returns-in-Exact : goal.returns-in-Exact
unfolding end_of
returns-in-Exact c = rw c.in-Exact.is

pub returns-in-Below : goal.returns-in-Below
unfolding end_of
returns-in-Below c = rw c.in-Below.is

pub returns-in-Above : goal.returns-in-Above
unfolding end_of
returns-in-Above c = rw c.in-Above.is
