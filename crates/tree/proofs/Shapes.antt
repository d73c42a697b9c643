-- Where nodes stand, which nodes a path and a group have, and sums over all nodes.
use Rattle.std.proofs.Common.{◌≡◌, ℕ, zero, suc, ◌+◌, ◌-◌, ◌*◌, ◌/◌, ◌<◌, ◌≤◌, ◌≢◌, sym, ap, ◌∙◌, div-lt_iff_lt-mul, add-mul, one-mul, arith}
use native.Mathlib.Decide.{dec_lt}
use native.Mathlib.Nat.{div-eq_of_lt-le, add-div_right, lt-div-mul-add}
use Rattle.tree.specs.declared.shape.Shape.{Shape}
use Rattle.tree.specs.Below.{total}
use Rattle.tree.specs.Shapes.{layer_size, layer_count, node_count, place, path, over_nodes, IsNode, group_size}
use Rattle.tree.proofs.Below.{total_same, total_one, total_zero, total_none, total_grows}

-- a node's children have it for their node above
pub child_above : (f j c : ℕ) → j * f ≤ c → c < j * f + f → c / f ≡ j
child_above f j c lo hi = div-eq_of_lt-le f lo (rw (add-mul, one-mul) hi)

module _ (s : Shape) where
  -- a node's record is one of the table's
  pub place-below : (k j : ℕ) → IsNode s k j → place s k j < node_count s
  unfolding place node_count
  place-below k j v = let a = total_grows (layer_size s) k (layer_count s) v.low in let b = v.left in omega arith

  place_order : (k j k' j' : ℕ) → IsNode s k j → k < k' → place s k j < place s k' j'
  unfolding place
  place_order k j k' j' v l = let a = total_grows (layer_size s) k k' l in let b = v.left in omega arith

  -- nodes with the same record are the same
  pub place_same : (k j k' j' : ℕ) → IsNode s k j → IsNode s k' j' → place s k j ≡ place s k' j' → (k ≡ k') × (j ≡ j')
  unfolding place
  place_same k j k' j' v v' e =
      elim (dec_lt k k') [
        | yes l ↦ absurd (let a = place_order k j k' j' v l in omega arith)
        | no h ↦
            elim (dec_lt k' k) [
              | yes l ↦ absurd (let a = place_order k' j' k j v' l in omega arith)
              | no h' ↦ let q : k ≡ k' = omega arith in (q, at_layer q)
            ]
      ]
    where
      at_layer : k ≡ k' → j ≡ j'
      at_layer q = let r : total (layer_size s) k + j ≡ total (layer_size s) k + j' = e ∙ ap (λ x. total (layer_size s) x + j') (sym q) in omega arith

  -- nodes that differ have different records
  pub place_other : (k j k' j' : ℕ) → IsNode s k j → IsNode s k' j' → ((k ≡ k') × (j ≡ j') → ⊥) → place s k j ≢ place s k' j'
  place_other k j k' j' v v' ne e = ne (place_same k j k' j' v v' e)

  -- the path of a page goes through nodes
  pub path_in : (p k : ℕ) → 2 ≤ s.fanout → p < s.pages → path s.fanout p k < layer_size s k
  unfolding path layer_size
  path_in p zero h l = l
  path_in p (suc k) h l =
      let ih = path_in p k h l in
      let pos : 0 < s.fanout = omega arith in
      let e : layer_size s k + (s.fanout - 1) ≡ (layer_size s k - 1) + s.fanout = omega arith in
      let d = add-div_right (layer_size s k - 1) pos in
      let u : path s.fanout p k < ((layer_size s k - 1) / s.fanout + 1) * s.fanout =
      rw (add-mul, one-mul) (let w = lt-div-mul-add {a = layer_size s k - 1} pos in omega arith) in
      rw (e, d) ((div-lt_iff_lt-mul pos).1 u)

  pub path_node : (p k : ℕ) → 2 ≤ s.fanout → p < s.pages → k < layer_count s → IsNode s k (path s.fanout p k)
  path_node p k h l low = record { low = low; left = path_in p k h l }

  -- each layer has a node
  pub layer_some : (k : ℕ) → 2 ≤ s.fanout → 1 ≤ s.pages → 1 ≤ layer_size s k
  layer_some k h l = let a = path_in 0 k h l in omega arith

  -- a group has at most as many nodes as the fanout says
  pub group_narrow : (k j i : ℕ) → i < group_size s k j → i < s.fanout
  unfolding group_size
  group_narrow k j i l = omega arith

  -- the group of a node has nodes of the layer below
  pub group_node : (k k' j i : ℕ) → IsNode s k j → k ≡ suc k' → i < group_size s k' j → IsNode s k' (j * s.fanout + i)
  unfolding group_size
  group_node k k' j i v e l = let a = v.low in record { low = omega arith; left = omega arith }

  -- SUMS OVER ALL NODES

  pub nodes_zero : (w : ℕ → ℕ → ℕ) → over_nodes s w ≡ 0 → (k j : ℕ) → IsNode s k j → w k j ≡ 0
  unfolding over_nodes
  nodes_zero w e k j v = total_zero (w k) _ (total_zero (λ k. total (w k) (layer_size s k)) _ e k v.low) j v.left

  pub nodes_none : (w : ℕ → ℕ → ℕ) → ((k j : ℕ) → IsNode s k j → w k j ≡ 0) → over_nodes s w ≡ 0
  unfolding over_nodes
  nodes_none w h = total_none _ _ (λ k l. total_none _ _ (λ j r. h k j (record { low = l; left = r })))

  -- where two sums differ at one node only
  pub nodes_one : (w w' : ℕ → ℕ → ℕ) (k₀ j₀ d : ℕ) → IsNode s k₀ j₀ → w k₀ j₀ ≡ d + w' k₀ j₀
      → ((k j : ℕ) → IsNode s k j → ((k ≡ k₀) × (j ≡ j₀) → ⊥) → w k j ≡ w' k j)
      → over_nodes s w ≡ d + over_nodes s w'
  unfolding over_nodes
  nodes_one w w' k₀ j₀ d v e h =
      total_one _ _ _ k₀ d v.low
      (total_one _ _ _ j₀ d v.left e (λ j r ne. h k₀ j (record { low = v.low; left = r }) (λ q. ne q.1)))
      (λ k l ne. total_same _ _ _ (λ j r. h k j (record { low = l; left = r }) (λ q. ne q.0)))
