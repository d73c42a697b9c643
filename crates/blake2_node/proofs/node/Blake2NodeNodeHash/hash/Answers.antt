use Rattle.std.proofs.Common.{◌≡◌, ◌≤◌, length, ◌∙◌, arith}
use Rattle.byte_strings.specs.Strings.{listing}
use Rattle.blake2_node.proofs.Answers.{answered, written}
use Rattle.blake2_node.proofs.node.Blake2NodeNodeHash.hash.Goals as goal

pub returns : goal.returns
returns g c =
    let w = g.W.Word.width in
    let l = c.args.self.now.label in
    let key = listing c.args.self.now.key in
    let short : length c.args.input.now ≤ 4096 = omega arith in
    let long : length c.args.out.now ≡ l.digest = omega (arith, c.if-out-from.false, c.from.ensures) in
    record {
      answer = c.hash.ensures.answer ∙ answered w l key c.args.position c.args.last _ _ _ _ c.parameter_block-parameters.ensures c.key_at.ensures short long c.if-not-is_fit.ensures;
      out = c.hash.ensures.out ∙ written w l key c.args.position c.args.last _ _ _ _ c.parameter_block-parameters.ensures c.key_at.ensures short long c.if-not-is_fit.ensures;
    }
