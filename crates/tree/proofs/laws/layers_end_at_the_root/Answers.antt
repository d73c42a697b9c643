use Rattle.std.proofs.Common.{arith}
use Rattle.tree.proofs.Layers.{layers_end}
use Rattle.tree.proofs.laws.layers_end_at_the_root.Goals as goal

pub returns : goal.returns
returns c = λ s wide some few. layers_end s wide some (omega arith)
