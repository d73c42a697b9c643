use Rattle.std.proofs.Common.{ap, ◌∙◌, mod-eq_of_lt, rules}
use Rattle.blake2.specs.Compression.{rotr}
use Rattle.blake2.proofs.Steps.{turned}
use Rattle.blake2.proofs.compression.Words+W+16.turn.Goals as goal

pub returns : goal.returns
returns g c =
    let f = g.W.Word.value in
    let w = g.W.Word.width in
    rw (← c.self.view_is)
    (turned f w c.self.inside.words c.args.i c.args.j c.args.k _ _ _ _ (search rules) (search rules) (g.met.W.Word.xor_is _ _ _ c.bitxor.ensures)
    (c.right.ensures ∙ ap (λ k. rotr w k (f c.bitxor.result)) (mod-eq_of_lt c.requires.1.1)))
