use Rattle.std.proofs.Common.{rules}
use Rattle.blake2.proofs.Steps.{fed}
use Rattle.blake2.proofs.compression.Words+W+8.feed.Goals as goal

pub returns : goal.returns
returns g c =
    let xor = g.met.W.Word.xor_is in
    rw (← c.self.view_is, ← c.v.view_is)
    (fed g.W.Word.value c.self.inside.words c.v.inside.words c.args.i _ _ _ _ _ (search rules) (search rules) (search rules) (xor _ _ _ c.bitxor.ensures) (xor _ _ _ c.bitxor-2.ensures))
