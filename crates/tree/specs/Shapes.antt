-- The shape of a tree: its layers, its nodes, and the order of these.
use Rattle.std.specs.Prelude.{ℕ, zero, suc, ◌+◌, ◌-◌, ◌*◌, ◌/◌, ◌<◌, min, Bool, ◌==◌}
use Rattle.std.specs.Option.{option_map_or}
use Rattle.tree.specs.declared.shape.Shape.{Shape}
use Rattle.tree.specs.Below.{first, total}

-- how many nodes layer k has: layer 0 one for each page, each next layer one for each group of the layer below, whose last group may be smaller
unfoldable pub layer_size : Shape → ℕ → ℕ
layer_size s zero = s.pages
layer_size s (suc k) = (layer_size s k + (s.fanout - 1)) / s.fanout

-- the layer of the root: the first above layer 0 that has one node; over at most 4,096 pages it is one of 1 to 12
unfoldable pub root_layer : Shape → ℕ
root_layer s = option_map_or suc (first (λ k. layer_size s (suc k) == 1) 12) 12

unfoldable pub layer_count : Shape → ℕ
layer_count s = suc (root_layer s)

-- k:j is a node: its depth k is that of a layer, and its offset j is in that layer
pub record IsNode (s : Shape) (k j : ℕ) : Type 0 where
  pub low : k < layer_count s
  pub left : j < layer_size s k

-- how many nodes stand before k:j, layer 0 first and each layer left to right
unfoldable pub place : Shape → ℕ → ℕ → ℕ
place s k j = total (layer_size s) k + j

unfoldable pub node_count : Shape → ℕ
node_count s = total (layer_size s) (layer_count s)

-- the sum of w k j over all nodes k:j
unfoldable pub over_nodes : Shape → (ℕ → ℕ → ℕ) → ℕ
over_nodes s w = total (λ k. total (w k) (layer_size s k)) (layer_count s)

-- the offset of the node of layer k above page p, f nodes to a group
unfoldable pub path : ℕ → ℕ → ℕ → ℕ
path f p zero = p
path f p (suc k) = path f p k / f

-- page p is beneath node k:j
unfoldable pub beneath : ℕ → ℕ → ℕ → ℕ → Bool
beneath f p k j = path f p k == j

-- node k:j is the last of its layer
unfoldable pub is_last : Shape → ℕ → ℕ → Bool
is_last s k j = suc j == layer_size s k

-- how many nodes of layer k make the group of node k+1:j; the first of them is k:(j * fanout)
unfoldable pub group_size : Shape → ℕ → ℕ → ℕ
group_size s k j = min s.fanout (layer_size s k - j * s.fanout)
