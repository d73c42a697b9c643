use Rattle.std.proofs.Common.{◌≡◌, get_or, refl, ◌∙◌, rules}
use lib.Bits.{bit_xor}
use Rattle.blake2.specs.Bytes.{word_at}
use Rattle.stream.specs.Hash.{initial}
use Rattle.stream.proofs.Made.{made}
use Rattle.stream.proofs.chain.Chain.begin.Goals as goal

pub returns-clause-value : goal.returns-clause-value
unfolding initial
returns-clause-value g c =
    let w = g.W.Word.width in
    let p = c.args.p.now in
    c.new.ensures
    ∙ made _ g.W.Word.value (λ i. bit_xor (get_or w.iv i 0) (word_at w p i)) (λ f. f.0.now ≡ p) (λ f f' i y same call. search rules) _ _ _ refl c.from_fn-words.ensures.items
