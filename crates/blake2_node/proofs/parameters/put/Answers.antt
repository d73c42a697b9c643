use Rattle.std.proofs.Common.{arith}
use Rattle.blake2_node.proofs.Fields.{put_after}
use Rattle.blake2_node.proofs.parameters.put.Goals as goal

pub returns-clause-after : goal.returns-clause-after
returns-clause-after c = λ front here zeros.
    put_after 64 _ c.args.at front c.args.field.now c.args.block.now c.copy_from_slice.new.self c.requires here zeros (omega arith) c.copy_from_slice.ensures.after
