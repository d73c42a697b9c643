-- What the figures speak of.
use Rattle.std.specs.Prelude.{◌≡◌, ℕ, zero, suc, ◌<◌, Bool, false, if◌then◌else◌, IsTrue, IsFalse, ◌||◌, List, [], ◌∷◌, ◌++◌, map, length, Some}
use Rattle.std.specs.List.{range_with_len}
use Rattle.bench.specs.Buffers.{extent_over}
use Rattle.blake2.specs.Width.{blake2b}
use Rattle.blake2_node.specs.Meaning.{hashing}
use Rattle.image.specs.Pages.{count, length_in}
use Rattle.label.specs.Examples.{example}
use Rattle.label.specs.Labels.{Parts}
use Rattle.label.specs.Meaning.{parts}
use Rattle.label.specs.declared.label.Label.{Label}
use Rattle.nodehash.specs.Hashing.{Hashing, fanout_of, node, page_length}
use Rattle.nodehash.specs.declared.position.Position.{Position}
use Rattle.tree.specs.Marks.{short}
use Rattle.tree.specs.Runs.{Making, shape_in}
use Rattle.tree.specs.Shapes.{beneath, layer_count, layer_size, over_nodes}
use Rattle.tree.specs.Trees.{shape_of, tree_blocks}
use Rattle.tree.specs.declared.shape.Shape.{Shape}

abbrev pub shaped : ℕ → ℕ → Shape
shaped fanout pages = record { fanout = fanout; pages = pages }

-- how many nodes each layer has, the pages' layer first
abbrev pub layer_sizes : Shape → List ℕ
layer_sizes s = map (layer_size s) (range_with_len 0 (layer_count s))

-- A making over five pages in groups of two, with which nothing but the depth can be wrong.
pub record FivePages (m : Making) : Type 0 where
  pub fit : IsTrue m.hash.fit
  pub pages : count m.image ≡ 5
  pub fanout : fanout_of m.hash ≡ 2
  pub page : m.image.size ≡ page_length m.hash
  pub table : IsFalse (short (shape_in m) m.table)

-- the example's label, with a key of 16 bytes
abbrev pub keyed : Parts
keyed = record example { key = 16 }

-- Any 10,000 bytes in pages of 1,024, under a label that says this and a key that is as long as it says.
pub record TenPages (said : Parts) : Type 0 where
  pub label : Label
  pub says : parts label ≡ said
  pub key : List ℕ
  pub key_length : length key ≡ said.key
  pub page : ℕ → List ℕ
  pub page_lengths : (p : ℕ) → p < 10 → length (page p) ≡ length_in (extent_over 1024 10000) p

-- its node hash
abbrev pub hash_in : {said : Parts} → TenPages said → Hashing
hash_in t = hashing blake2b t.label (Some t.key)

-- the blocks of its tree
abbrev pub all_blocks : {said : Parts} → TenPages said → ℕ
all_blocks t = over_nodes (shape_of (hash_in t) 10) (tree_blocks (hash_in t) 10 t.page)

-- the blocks of each of these nodes
abbrev pub blocks_of_nodes : {said : Parts} → TenPages said → List Position → List ℕ
blocks_of_nodes t nodes = map (λ (node : Position). tree_blocks (hash_in t) 10 t.page node.depth node.offset) nodes

-- one of these pages is beneath node k:j
unfoldable pub any_beneath : ℕ → List ℕ → ℕ → ℕ → Bool
any_beneath f [] k j = false
any_beneath f (p ∷ pages) k j = beneath f p k j || any_beneath f pages k j

-- of the first n nodes of layer k, those above these pages
unfoldable pub above_in_layer : ℕ → List ℕ → ℕ → ℕ → List Position
above_in_layer f pages k zero = []
above_in_layer f pages k (suc j) = above_in_layer f pages k j ++ (if any_beneath f pages k j then node k j ∷ [] else [])

-- of the nodes of the first n layers, those above these pages
unfoldable pub above_in : Shape → List ℕ → ℕ → List Position
above_in s pages zero = []
above_in s pages (suc k) = above_in s pages k ++ above_in_layer s.fanout pages k (layer_size s k)

-- the nodes above these pages of the ten, in the order in which steps work them: those that puts on the pages mark
abbrev pub nodes_above : List ℕ → List Position
nodes_above pages = above_in (shaped 4 10) pages (layer_count (shaped 4 10))
