use Rattle.std.proofs.Common.{◌+◌, refl, ap, ◌∙◌, arith}
use Rattle.stream.specs.Hash.{before, initial, hash, digest}
use Rattle.stream.specs.States.{meaning}
use Rattle.stream.proofs.Keys.{length-keyed}
use Rattle.stream.proofs.Views.{view_is}
use Rattle.stream.proofs.stream.Stream.start.Goals as goal

pub returns : goal.returns
unfolding hash digest meaning
returns g c =
    let w = g.W.Word.width in
    let s = c.begin.ensures in
    let count = s.filled ∙ length-keyed w c.args.key.now (omega arith) in
    let first = s.value ∙ ap (initial w) c.parameters.ensures in
    view_is _ _ refl refl (λ n. ap (λ k. before w (k + n) + 1) (omega (arith, count, s.none)))
    (λ rest. rw (s.none, s.waits, first))
