use Rattle.std.proofs.Common.{ℕ, ◌*◌, take, drop, ap, ◌∙◌, arith, rules}
use Rattle.blake2.specs.Bytes.{le, word_at}
use Rattle.stream.proofs.Words.{copied}
use Rattle.stream.proofs.chain.word_at.Goals as goal

pub returns : goal.returns
unfolding word_at
returns g c =
    let bytes = c.args.bytes.now in
    let size = c.SIZE.ensures ∙ g.met.W.Word.size_is in
    c.load.ensures
    ∙ ap le (copied g.W.Word.width.size _ (c.SIZE.result * c.args.i) bytes c.copy_from_slice.new.self _ (omega arith) c.copy_from_slice.ensures.after (search rules))
    ∙ ap (λ (n : ℕ). le (take g.W.Word.width.size (drop (n * c.args.i) bytes))) size
