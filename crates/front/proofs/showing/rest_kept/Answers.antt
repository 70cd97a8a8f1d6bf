-- `front::rest_kept` is right since columns that go on as the last digit read leave the tests of two digits or more as they are. Assumes nothing.
use Rattle.front.proofs.Keeping.{kept_rest, front_rest}
use Rattle.front.specs.Front.{first_of}
use Rattle.front.proofs.showing.rest_kept.Goals as goal

pub returns : goal.returns
returns c =
    let g = c.args in
    let w = c.word_rest in
    kept_rest (first_of g.front) g.bits w.result c.requires.0 (front_rest g.front g.bits w.result w.ensures)
