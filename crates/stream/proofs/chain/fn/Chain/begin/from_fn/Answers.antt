use Rattle.std.proofs.Common.{◌≡◌, map, get_or, sym, ap, ◌∙◌, rules}
use Rattle.std.proofs.lemmas.List.{get_or-map}
use Rattle.stream.proofs.chain.fn.Chain.begin.from_fn.Goals as goal

pub returns : goal.returns
returns g c =
    let f = g.W.Word.value in
    let i = c.args.i in
    let iv = ap (map f) c.IV.ensures ∙ g.met.W.Word.iv_is in
    let at : f (get_or c.IV.result i c.index-IV-i.result) ≡ get_or g.W.Word.width.iv i 0 =
    sym (get_or-map f c.IV.result i _ 0 (search rules)) ∙ ap (λ xs. get_or xs i 0) iv in
    g.met.W.Word.xor_is _ _ _ c.bitxor.ensures ∙ rw (at, c.word_at.ensures)
