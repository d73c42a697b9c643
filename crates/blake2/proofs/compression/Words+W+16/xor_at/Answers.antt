use Rattle.std.proofs.Common.{rules}
use Rattle.blake2.proofs.Steps.{xored}
use Rattle.blake2.proofs.compression.Words+W+16.xor_at.Goals as goal

pub returns : goal.returns
returns g c =
    rw (← c.self.view_is)
    (xored g.W.Word.value c.self.inside.words c.args.i _ _ c.args.x (search rules) (g.met.W.Word.xor_is _ _ _ c.bitxor.ensures))
