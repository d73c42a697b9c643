use Rattle.std.proofs.Common.{◌≡◌, ◌∙◌, rules}
use Rattle.stream.specs.Views.{view_of}
use Rattle.stream.specs.Streams.{finished}
use Rattle.stream.proofs.Pieces.{finish_joined}
use Rattle.stream.proofs.stream.Stream.finish.Goals as goal

pub returns-then-out-self-clause-joined : goal.returns-then-out-self-clause-joined
returns-then-out-self-clause-joined g c = λ d key pieces ok short is long.
    let v = view_of c.args.self in
    let out = c.args.out.now in
    let after : out ≡ finished v out = search rules in
    after ∙ finish_joined g.W.Word.width d key out pieces v ok short is long

pub returns-clause-joined : goal.returns-clause-joined
returns-clause-joined g c = λ d key pieces ok short is long.
    let v = view_of c.args.self in
    let out = c.args.out.now in
    let after : c.finish.new.out ≡ finished v out = search rules in
    after ∙ finish_joined g.W.Word.width d key out pieces v ok short is long
