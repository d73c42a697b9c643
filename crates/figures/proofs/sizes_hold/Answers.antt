use Rattle.std.proofs.Common.{drop, refl, ◌∙◌}
use Rattle.tree.specs.Below.{first, total}
use Rattle.tree.specs.Runs.{check_answer, check_rows}
use Rattle.tree.specs.Shapes.{layer_count, layer_size, node_count, root_layer}
use Rattle.tree.proofs.Rows.{after_passed, ok_from_passed}
use Rattle.figures.proofs.Depths.{one_group, three_rows, too_deep}
use Rattle.figures.proofs.sizes_hold.Goals as goal

pub returns : goal.returns
unfolding layer_size layer_count root_layer first node_count total check_answer
returns c = record {
  five_pages = refl;
  depth_four = λ m five e.
      after_passed 3 (check_rows m) tt (three_rows m five)
      ∙ ok_from_passed (drop 3 (check_rows m)) tt (too_deep m five 4 e, (five.table, tt));
  depth_three = λ m five e. after_passed 3 (check_rows m) tt (three_rows m five) ∙ rw (too_deep m five 3 e);
  one_page = λ f h. rw (one_group f h) (rw (one_group f h));
  one_nodes = λ f h. rw (one_group f h) (rw (one_group f h));
  most_layers = refl;
  most_nodes = refl;
  wide_layers = refl;
  wide_nodes = refl;
}
