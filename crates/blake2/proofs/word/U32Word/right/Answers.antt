use Rattle.std.proofs.Common.{◌∙◌, arith, rules}
use Rattle.blake2.specs.Width.{blake2s}
use Rattle.blake2.proofs.Rotate.{rotated}
use Rattle.blake2.proofs.word.U32Word.right.Goals as goal

pub returns : goal.returns
returns c = c.rotate_right.ensures ∙ rotated blake2s c.args.by c.args.self (omega arith) (search rules)
