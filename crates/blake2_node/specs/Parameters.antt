-- The parameter block of a node.
use Rattle.std.specs.Prelude.{ℕ, List, ◌∷◌, ◌++◌, replicate}
use Rattle.blake2.specs.Bytes.{le_bytes, pad}
use Rattle.blake2.specs.declared.variant.Variant.{Variant}
use Rattle.blake2.specs.declared.variant.Variant.TheVariants.{B, S}
use Rattle.label.specs.Labels.{Parts}
use Rattle.nodehash.specs.declared.position.Position.{Position}

-- how many bytes the node offset has
abbrev pub offset_length : Variant → ℕ
offset_length B = 8
offset_length S = 6

-- how many zeros stand before the salt
abbrev pub zeros_length : Variant → ℕ
zeros_length B = 14
zeros_length S = 0

-- The fields of a node's parameter block, one after another, each with its places in BLAKE2b and in BLAKE2s.
abbrev pub fields : Parts → Position → List ℕ
fields p position =
    p.digest  -- 0: digest length
    ∷ p.key  -- 1: key length
    ∷ p.fanout  -- 2: fanout
    ∷ p.depth  -- 3: depth limit
    ∷ (le_bytes 4 p.page  -- 4 to 7: page length
    ++ (le_bytes (offset_length p.variant) position.offset  -- 8 to 15, or 8 to 13: node offset
    ++ (position.depth  -- 16, or 14: node depth
    ∷ p.digest  -- 17, or 15: inner length
    ∷ (replicate (zeros_length p.variant) 0  -- 18 to 31, or none
    ++ (p.salt  -- 32 to 47, or 16 to 23
    ++ p.layout)))))  -- from 48 on, or from 24

-- The parameter block: the fields, filled with zeros. BLAKE2s reads the first 32 bytes.
unfoldable pub parameter_block : Parts → Position → List ℕ
parameter_block p position = pad 64 (fields p position)
