use Rattle.std.proofs.Common.{refl}
use Rattle.tree.specs.Below.{first, total, joined_from}
use Rattle.tree.specs.Calls.{open_answer, open_state, put_answer, put_state, is_unreadable, offset_of, input_of, work_on, step_table, step_answer, step_state, root_answer, root_out, stale_answer, rises_within, estimate_answer, told, answer_of, buffer_of, state_of}
use Rattle.tree.specs.Marks.{marked_at, held_at, marks, leftmost, lowest, next, mark_path, short}
use Rattle.tree.specs.Records.{marked, held, stored, zeros, store, mark, fresh}
use Rattle.tree.specs.Runs.{check_answer, made_table, made, state_after}
use Rattle.tree.specs.Shapes.{layer_size, root_layer, layer_count, place, node_count, over_nodes, path, is_last, group_size}
use Rattle.tree.specs.Trees.{input}
use Rattle.tree.specs.Views.{page_bytes, is_open, digest_at}
use Rattle.tree.proofs.examples.small_run_holds.Goals as goal

pub returns : goal.returns
unfolding first total joined_from layer_size root_layer layer_count place node_count over_nodes path is_last group_size input marked held stored zeros store mark fresh marked_at held_at marks leftmost lowest next mark_path short page_bytes is_open digest_at open_answer open_state put_answer put_state is_unreadable offset_of input_of work_on step_table step_answer step_state root_answer root_out stale_answer rises_within estimate_answer told answer_of buffer_of state_of check_answer made_table made state_after
returns c = record {
  accepted = refl;
  root = refl;
  estimated = refl;
  stale = refl;
  waits = refl;
  again = refl;
}
