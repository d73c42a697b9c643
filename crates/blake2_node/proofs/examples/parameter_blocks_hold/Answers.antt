use Rattle.std.proofs.Common.{refl}
use Rattle.blake2.specs.Bytes.{pad}
use Rattle.blake2_node.specs.Parameters.{parameter_block}
use Rattle.blake2_node.proofs.examples.parameter_blocks_hold.Goals as goal

pub returns : goal.returns
unfolding pad parameter_block
returns c = record { b = refl; s = refl }
