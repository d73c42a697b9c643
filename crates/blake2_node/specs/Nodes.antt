-- The digest of a node.
use Rattle.std.specs.Prelude.{ℕ, Bool, false, if◌then◌else◌, ◌&&◌, List, [], length, replicate, Some, None, unwrap_or, Option, ◌==◌}
use Rattle.blake2.specs.Width.{Width, width_of}
use Rattle.label.specs.Labels.{Parts}
use Rattle.nodehash.specs.declared.position.Position.{Position}
use Rattle.stream.specs.Hash.{blocks, hash}
use Rattle.blake2_node.specs.Parameters.{parameter_block}

-- Only nodes of depth 0 have the key block.
abbrev pub key_at : List ℕ → ℕ → List ℕ
key_at key depth = if depth == 0 then key else []

-- The digest of a node: the hash of its input under its own parameter block.
unfoldable pub node_digest : Width → Parts → List ℕ → Position → Bool → List ℕ → List ℕ
node_digest w p key position last input = hash w p.digest last (parameter_block p position) (key_at key position.depth) input

-- How many compressions that takes, for an input of n bytes.
abbrev pub node_blocks : Width → List ℕ → ℕ → ℕ → ℕ
node_blocks w key depth n = blocks w (length (key_at key depth)) n

-- Whether a label and a key fit words of this width: the label is of their variant, and the key is as long as it says. A key of more than 64 bytes is none, and never fits.
abbrev pub fits : Width → Parts → Option (List ℕ) → Bool
fits w p None = false
fits w p (Some key) = w.size == (width_of p.variant).size && length key == p.key

-- the bytes of a key
abbrev pub key_bytes : Option (List ℕ) → List ℕ
key_bytes key = unwrap_or key []

-- The digest that a node hash gives: zeros, without a compression, where it does not fit.
abbrev pub digest_of : Width → Parts → Option (List ℕ) → Position → Bool → List ℕ → List ℕ
digest_of w p key position last input =
    if fits w p key then node_digest w p (key_bytes key) position last input else replicate p.digest 0

abbrev pub blocks_of : Width → Parts → Option (List ℕ) → ℕ → ℕ → ℕ
blocks_of w p key depth n = if fits w p key then node_blocks w (key_bytes key) depth n else 0
