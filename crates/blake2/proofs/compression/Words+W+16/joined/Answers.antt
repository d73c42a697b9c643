use Rattle.std.proofs.Common.{map, ap, ◌∙◌, rules}
use Rattle.std.proofs.lemmas.List.{map-append}
use Rattle.blake2.proofs.Eights.{sixteen}
use Rattle.blake2.proofs.compression.Words+W+16.joined.Goals as goal

pub returns : goal.returns
returns g c =
    let f = g.W.Word.value in
    let iv = ap (map f) c.IV-iv.ensures ∙ g.met.W.Word.iv_is in
    ap (map f) (sixteen _ _ _ _ _ _ _ _ _ _ _ _ _ _ _ _ c.h.inside.words c.IV-iv.result (search rules) (search rules))
    ∙ map-append f c.h.inside.words c.IV-iv.result ∙ rw (iv, c.h.view_is)
