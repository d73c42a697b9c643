use Rattle.std.proofs.Common.{arith}
use Rattle.tree.proofs.Estimates.{estimate_suffices}
use Rattle.tree.proofs.laws.estimates_suffice.Goals as goal

pub returns : goal.returns
returns c = λ m acc calls more worked. estimate_suffices m acc calls more (omega arith)
