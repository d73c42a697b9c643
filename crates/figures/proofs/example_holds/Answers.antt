use Rattle.std.proofs.Common.{[], ◌∷◌, refl}
use Rattle.label.specs.Examples.{example}
use Rattle.tree.specs.Below.{first, total}
use Rattle.tree.specs.Shapes.{beneath, group_size, layer_count, layer_size, node_count, over_nodes, path, root_layer}
use Rattle.figures.specs.Figures.{above_in, above_in_layer, any_beneath, keyed, nodes_above}
use Rattle.figures.proofs.Blocks.{all_blocks_lem, below_ten, blocks_at, some_blocks}
use Rattle.figures.proofs.example_holds.Goals as goal

pub returns : goal.returns
unfolding layer_size layer_count root_layer first node_count over_nodes total group_size above_in above_in_layer any_beneath beneath path below_ten blocks_at
returns c = record {
  extent = refl;
  nodes = refl;
  blocks = all_blocks_lem example refl;
  keyed_blocks = all_blocks_lem keyed refl;
  nine = refl;
  nine_blocks = λ t. some_blocks example refl t (nodes_above (9 ∷ [])) refl;
  zero_one = refl;
  zero_one_blocks = λ t. some_blocks example refl t (nodes_above (0 ∷ 1 ∷ [])) refl;
  zero_four = refl;
  zero_four_blocks = λ t. some_blocks example refl t (nodes_above (0 ∷ 4 ∷ [])) refl;
  two_pages = refl;
}
