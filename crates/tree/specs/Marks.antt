-- The nodes of a table: which are marked, which is worked next, and the path that a put marks.
use Rattle.std.specs.Prelude.{ℕ, zero, suc, ◌*◌, Bool, if◌then◌else◌, List, length, is_some, Option, nat_lt}
use Rattle.std.specs.Option.{option_and_then, option_map}
use Rattle.nodehash.specs.Hashing.{node}
use Rattle.nodehash.specs.declared.position.Position.{Position}
use Rattle.tree.specs.declared.shape.Shape.{Shape}
use Rattle.tree.specs.Below.{first}
use Rattle.tree.specs.Records.{marked, held, mark}
use Rattle.tree.specs.Shapes.{layer_size, layer_count, node_count, over_nodes, place, path}

module _ (s : Shape) where
  -- node k:j is marked
  unfoldable pub marked_at : List ℕ → ℕ → ℕ → Bool
  marked_at t k j = marked t (place s k j)

  -- the 64 bytes that node k:j holds
  unfoldable pub held_at : List ℕ → ℕ → ℕ → List ℕ
  held_at t k j = held t (place s k j)

  -- how many nodes are marked
  unfoldable pub marks : List ℕ → ℕ
  marks t = over_nodes s (λ k j. if marked_at t k j then 1 else 0)

  -- the leftmost marked node of layer k
  unfoldable pub leftmost : List ℕ → ℕ → Option ℕ
  leftmost t k = first (marked_at t k) (layer_size s k)

  -- the lowest layer that has a marked node
  unfoldable pub lowest : List ℕ → Option ℕ
  lowest t = first (λ k. is_some (leftmost t k)) (layer_count s)

  -- the node that is worked next: the leftmost marked node of the lowest layer that has one
  unfoldable pub next : List ℕ → Option Position
  next t = option_and_then (λ k. option_map (node k) (leftmost t k)) (lowest t)

  -- the table with the path of page p marked in the first m layers
  unfoldable pub mark_path : ℕ → ℕ → List ℕ → List ℕ
  mark_path p zero t = t
  mark_path p (suc m) t = mark (mark_path p m t) (place s m (path s.fanout p m))

  -- the table is shorter than the records of its nodes
  unfoldable pub short : List ℕ → Bool
  short t = nat_lt (length t) (65 * node_count s)
