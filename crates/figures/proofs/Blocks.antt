-- The blocks of a node, read off the lengths of the pages.
use Rattle.std.proofs.Common.{◌≡◌, ℕ, zero, suc, ◌+◌, ◌*◌, ◌<◌, Bool, true, false, cond, ◌&&◌, eqb, ltb, List, [], ◌∷◌, map, length, Some, refl, ap, ◌∙◌, subst, ap₂, suc-mul, zero-mul, arith, length-append}
use Rattle.std.proofs.lemmas.Bool.{and_parts, eq-eqb, ne_eqb, ltb-true}
use Rattle.bench.specs.Buffers.{extent_over}
use Rattle.blake2.specs.Width.{blake2b}
use Rattle.blake2.specs.declared.variant.Variant.TheVariants.{B}
use Rattle.blake2_node.specs.Nodes.{blocks_of, fits, node_blocks}
use Rattle.image.specs.Pages.{length_in}
use Rattle.label.specs.Labels.{Parts}
use Rattle.nodehash.specs.Hashing.{Hashing, digest_length, fanout_of}
use Rattle.nodehash.specs.declared.position.Position.{Position}
use Rattle.stream.specs.Hash.{blocks}
use Rattle.tree.specs.Below.{joined_from}
use Rattle.tree.specs.Shapes.{IsNode, group_size, layer_size, over_nodes}
use Rattle.tree.specs.Trees.{input, shape_of, tree, tree_blocks}
use Rattle.tree.specs.declared.shape.Shape.{Shape}
use Rattle.tree.proofs.Below.{total_same}
use Rattle.tree.proofs.Trees.{tree-length}
use Rattle.figures.specs.Figures.{TenPages, all_blocks, blocks_of_nodes, hash_in, shaped}

-- bytes that are joined, all of one length
joined_length : (d : ℕ → List ℕ) (size c g : ℕ) → ((i : ℕ) → length (d i) ≡ size) → length (joined_from d c g) ≡ g * size
unfolding joined_from
joined_length d size c zero e = omega (arith, zero-mul size)
joined_length d size c (suc g) e =
    length-append (joined_from d c g) (d (c + g)) ∙ omega (arith, joined_length d size c g e, e (c + g), suc-mul g size)

-- sums over nodes of what is the same for each
nodes_same : (s : Shape) (w w' : ℕ → ℕ → ℕ) → ((k j : ℕ) → IsNode s k j → w k j ≡ w' k j) → over_nodes s w ≡ over_nodes s w'
unfolding over_nodes
nodes_same s w w' e = total_same _ _ _ (λ k l. total_same _ _ _ (λ j r. e k j (record { low = l; left = r })))

-- the blocks of node k:j of the example, under a label that says this
unfoldable pub blocks_at : Parts → ℕ → ℕ → ℕ
blocks_at said zero j = blocks blake2b said.key (length_in (extent_over 1024 10000) j)
blocks_at said (suc k) j = blocks blake2b 0 (group_size (shaped said.fanout 10) k j * said.digest)

-- the offsets of these nodes are below 10
unfoldable pub below_ten : List Position → Bool
below_ten [] = true
below_ten (node ∷ nodes) = ltb node.offset 10 && below_ten nodes

module _ (said : Parts) (is_b : said.variant ≡ B) (t : TenPages said) where
  abbrev h : Hashing
  h = hash_in t

  fit : fits blake2b said (Some t.key) ≡ true
  fit = rw is_b (eq-eqb (length t.key) said.key t.key_length)

  blocks_by_label : (k n : ℕ) → h.blocks k n ≡ node_blocks blake2b t.key k n
  blocks_by_label k n =
      ap (λ (p : Parts). blocks_of blake2b p (Some t.key) k n) t.says ∙ ap (λ (b : Bool). cond b (node_blocks blake2b t.key k n) 0) fit

  node_blocks_lem : (k j : ℕ) → (k ≡ 0 → j < 10) → tree_blocks h 10 t.page k j ≡ blocks_at said k j
  unfolding tree_blocks input blocks_at
  node_blocks_lem zero j low = blocks_by_label 0 (length (t.page j)) ∙ ap₂ (blocks blake2b) t.key_length (t.page_lengths j (low refl))
  node_blocks_lem (suc k) j low =
      let inner : eqb (suc k) 0 ≡ false = ne_eqb (suc k) 0 (λ e. omega arith) in
      let size = group_size (shape_of h 10) k j in
      let group = joined_from (tree h 10 t.page k) (j * fanout_of h) size in
      let long = joined_length (tree h 10 t.page k) (digest_length h) (j * fanout_of h) size (tree-length h 10 t.page k) in
      blocks_by_label (suc k) (length group) ∙ ap (λ (b : Bool). blocks blake2b (length (cond b t.key [])) (length group)) inner
      ∙ ap (blocks blake2b 0) (long ∙ ap (λ (p : Parts). group_size (shaped p.fanout 10) k j * p.digest) t.says)

  -- the blocks of all nodes
  pub all_blocks_lem : all_blocks t ≡ over_nodes (shaped said.fanout 10) (blocks_at said)
  unfolding layer_size
  all_blocks_lem =
      nodes_same (shape_of h 10) _ _ (λ k j v. node_blocks_lem k j (λ e. subst (λ x. j < layer_size (shape_of h 10) x) e v.left))
      ∙ ap (λ (p : Parts). over_nodes (shaped p.fanout 10) (blocks_at said)) t.says

  -- the blocks of some nodes
  pub some_blocks : (nodes : List Position) → below_ten nodes ≡ true → blocks_of_nodes t nodes ≡ map (λ (node : Position). blocks_at said node.depth node.offset) nodes
  unfolding below_ten
  some_blocks [] e = refl
  some_blocks (node ∷ nodes) e =
      let both = and_parts (ltb node.offset 10) (below_ten nodes) e in
      ap₂ ◌∷◌ (node_blocks_lem node.depth node.offset (λ z. ltb-true node.offset 10 both.0)) (some_blocks nodes both.1)
