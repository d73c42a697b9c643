-- The tree that a node hash makes of n pages: the input, the digest and the blocks of each node.
use Rattle.std.specs.Prelude.{ℕ, zero, suc, ◌*◌, List, length}
use Rattle.nodehash.specs.Hashing.{Hashing, fanout_of, node}
use Rattle.tree.specs.declared.shape.Shape.{Shape}
use Rattle.tree.specs.Below.{joined_from}
use Rattle.tree.specs.Shapes.{root_layer, is_last, group_size}

-- the shape of the tree over n pages
abbrev pub shape_of : Hashing → ℕ → Shape
shape_of h n = record { fanout = fanout_of h; pages = n }

module _ (h : Hashing) (n : ℕ) where
  -- the input of node k:j: page j, or the digests of the node's group, joined
  unfoldable pub input : (ℕ → List ℕ) → (ℕ → ℕ → List ℕ) → ℕ → ℕ → List ℕ
  input page digests zero j = page j
  input page digests (suc k) j = joined_from (digests k) (j * fanout_of h) (group_size (shape_of h n) k j)

  -- the digest of node k:j: a group of one is hashed too
  unfoldable pub tree : (ℕ → List ℕ) → ℕ → ℕ → List ℕ
  tree page zero j = h.digest (node 0 j) (is_last (shape_of h n) 0 j) (page j)
  tree page (suc k) j =
      h.digest (node (suc k) j) (is_last (shape_of h n) (suc k) j) (joined_from (tree page k) (j * fanout_of h) (group_size (shape_of h n) k j))

  -- the blocks of node k:j
  unfoldable pub tree_blocks : (ℕ → List ℕ) → ℕ → ℕ → ℕ
  tree_blocks page k j = h.blocks k (length (input page (tree page) k j))

  -- the root
  unfoldable pub tree_root : (ℕ → List ℕ) → List ℕ
  tree_root page = tree page (root_layer (shape_of h n)) 0
