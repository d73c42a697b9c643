-- What the fields of a label may be.
use Rattle.std.specs.Prelude.{ℕ, ◌*◌, Bool, ◌&&◌, ◌||◌, List, length, codes, ◌==◌}
use Rattle.std.specs.Int.{is_in_range}
use Rattle.std.specs.List.{list_all}
use Rattle.blake2.specs.Width.{width_of, longest}
use Rattle.blake2.specs.declared.variant.Variant.{Variant}
use Rattle.blake2.specs.declared.variant.Variant.TheVariants.{B, S}
use Rattle.lines.specs.declared.range.Range.{Range}

-- the digest: 1 to 64 bytes, or 32
abbrev pub digest_range : Variant → Range
digest_range variant = record { low = 1; high = longest (width_of variant) }

-- the key: none, or at most as long as the longest digest
abbrev pub key_range : Variant → Range
key_range variant = record { low = 0; high = longest (width_of variant) }

abbrev pub fanout_range : Range
fanout_range = record { low = 2; high = 16 }

abbrev pub depth_range : Range
depth_range = record { low = 2; high = 13 }

abbrev pub page_range : Range
page_range = record { low = 64; high = 4096 }

-- the length of a salt, and that of the longest layout name: 16 or 8 bytes
abbrev pub salt_length_of : Variant → ℕ
salt_length_of variant = 2 * (width_of variant).size

-- A-Z, 0-9 and hyphen
abbrev pub layout_byte : ℕ → Bool
layout_byte c = is_in_range 65 90 c || (is_in_range 48 57 c || c == 45)

abbrev pub are_layout_bytes : List ℕ → Bool
are_layout_bytes v = list_all layout_byte v

abbrev pub layout_name : Variant → List ℕ → Bool
layout_name variant v = is_in_range 1 (salt_length_of variant) (length v) && are_layout_bytes v
