use Rattle.std.proofs.Common.{rules}
use Rattle.blake2.proofs.Steps.{added}
use Rattle.blake2.proofs.compression.Words+W+16.add.Goals as goal

pub returns : goal.returns
returns g c =
    rw (← c.self.view_is)
    (added g.W.Word.value g.W.Word.width c.self.inside.words c.args.i c.args.j _ _ _ _ c.args.x (search rules) (search rules) c.plus.ensures c.plus-2.ensures)
