-- What a node hash is: a label, and a fixed function.
use Rattle.std.specs.Prelude.{◌≡◌, ℕ, ◌≤◌, Bool, List, length}
use Rattle.label.specs.Labels.{Parts}
use Rattle.nodehash.specs.declared.position.Position.{Position}

pub record Hashing : Type 0 where
  pub label : Parts  -- what its label says
  pub fit : Bool  -- whether it can hash under that label
  pub digest : Position → Bool → List ℕ → List ℕ  -- of a node, by its position, whether it is the last of its layer, and its input
  pub blocks : ℕ → ℕ → ℕ  -- how many compressions that takes, by depth and length of the input
  -- What every node hash owes: digests of one length, of at most 64 bytes; 2 to 16 nodes to a group; at most 65 blocks to a node.
  pub sized : (position : Position) (last : Bool) (input : List ℕ) → length (digest position last input) ≡ label.digest
  pub short : label.digest ≤ 64
  pub wide : 2 ≤ label.fanout
  pub narrow : label.fanout ≤ 16
  pub few : (depth n : ℕ) → n ≤ 4096 → blocks depth n ≤ 65

-- the position of node k:j; a definition that goes by the depth takes k and j
abbrev pub node : ℕ → ℕ → Position
node k j = record { depth = k; offset = j }

-- how many bytes the digest of a node has
abbrev pub digest_length : Hashing → ℕ
digest_length h = h.label.digest

-- how many nodes a group has at most
abbrev pub fanout_of : Hashing → ℕ
fanout_of h = h.label.fanout

-- how many layers a tree has at most
abbrev pub depth_limit : Hashing → ℕ
depth_limit h = h.label.depth

-- how many bytes the pages of an image must have
abbrev pub page_length : Hashing → ℕ
page_length h = h.label.page
