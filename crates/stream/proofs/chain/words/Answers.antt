use Rattle.std.proofs.Common.{◌≡◌, refl, ◌∙◌, rules}
use Rattle.blake2.specs.Bytes.{word_at, words_of}
use Rattle.stream.proofs.Made.{made}
use Rattle.stream.proofs.chain.words.Goals as goal

pub returns : goal.returns
unfolding words_of
returns g c =
    let block = c.args.block.now in
    c.new.ensures ∙ made _ g.W.Word.value (word_at g.W.Word.width block) (λ f. f.0.now ≡ block) (λ f f' i y same call. search rules) _ _ _ refl c.from_fn.ensures.items
