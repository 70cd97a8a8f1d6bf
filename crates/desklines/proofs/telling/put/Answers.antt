-- `desklines::put`: the digits stand behind what stood there. Assumes nothing.
use Rattle.desklines.proofs.Tellings.{put_more}
use Rattle.desklines.proofs.telling.put.Goals as goal

pub returns : goal.returns
returns c =
    let g = c.args in
    put_more g.out.now c.write_digits.new.room g.at g.n g.value c.requires c.write_digits.ensures
