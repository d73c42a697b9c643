-- What the digest of a node depends on.
use Rattle.std.proofs.Common.{◌≡◌, ℕ, zero, suc, ◌+◌, ◌*◌, ◌<◌, ◌≢◌, List, length, sym, refl, ap, arith}
use Rattle.nodehash.specs.Hashing.{Hashing, digest_length, fanout_of, node}
use Rattle.tree.specs.Shapes.{path, is_last, group_size}
use Rattle.tree.specs.Trees.{shape_of, input, tree}
use Rattle.tree.proofs.Below.{joined_same}
use Rattle.tree.proofs.Shapes.{child_above, group_narrow}

module _ (h : Hashing) (n : ℕ) where
  -- a digest is that of the node's input
  pub tree_is : (page : ℕ → List ℕ) (k j : ℕ) → tree h n page k j ≡ h.digest (node k j) (is_last (shape_of h n) k j) (input h n page (tree h n page) k j)
  unfolding tree input
  tree_is page zero j = refl
  tree_is page (suc k) j = refl

  pub tree-length : (page : ℕ → List ℕ) (k j : ℕ) → length (tree h n page k j) ≡ digest_length h
  tree-length page k j = rw tree_is (h.sized (node k j) _ _)

  -- an input depends on the digests of the node's group only
  pub input_same : (page : ℕ → List ℕ) (d d' : ℕ → ℕ → List ℕ) (k j : ℕ)
      → ((k' i : ℕ) → k ≡ suc k' → i < group_size (shape_of h n) k' j → d k' (j * fanout_of h + i) ≡ d' k' (j * fanout_of h + i))
      → input h n page d k j ≡ input h n page d' k j
  unfolding input
  input_same page d d' zero j e = refl
  input_same page d d' (suc k) j e = joined_same (d k) (d' k) _ _ (λ i l. e k i refl l)

  -- a page changes the digests of its path only
  pub tree_other : (page page' : ℕ → List ℕ) (p : ℕ) → ((q : ℕ) → q ≢ p → page q ≡ page' q)
      → (k j : ℕ) → path (fanout_of h) p k ≢ j → tree h n page k j ≡ tree h n page' k j
  unfolding tree path
  tree_other page page' p same zero j ne = ap (h.digest (node 0 j) (is_last (shape_of h n) 0 j)) (same j (λ e. ne (sym e)))
  tree_other page page' p same (suc k) j ne =
      ap (h.digest (node (suc k) j) (is_last (shape_of h n) (suc k) j))
      (joined_same (tree h n page k) (tree h n page' k) _ _
      (λ i l.
      tree_other page page' p same k (j * fanout_of h + i)
      (λ e. ne (rw e (child_above (fanout_of h) j (j * fanout_of h + i) (omega arith) (let w = group_narrow (shape_of h n) k j i l in omega arith))))))
