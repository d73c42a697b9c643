use Rattle.std.proofs.Common.{◌∙◌, arith, rules}
use Rattle.blake2.specs.Width.{blake2b}
use Rattle.blake2.proofs.Rotate.{rotated}
use Rattle.blake2.proofs.word.U64Word.right.Goals as goal

pub returns : goal.returns
returns c = c.rotate_right.ensures ∙ rotated blake2b c.args.by c.args.self (omega arith) (search rules)
