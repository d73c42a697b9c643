-- Two parameter blocks, worked out.
use Rattle.std.specs.Prelude.{ℕ, List, [], ◌∷◌, replicate, codes}
use Rattle.blake2.specs.declared.variant.Variant.TheVariants.{S}
use Rattle.label.specs.Labels.{Parts}

-- the first bytes, up to the inner length, of node 1:2 under the label of the example
abbrev pub front_b : List ℕ
front_b =
    0x20 ∷ 0x00 ∷ 0x04 ∷ 0x06 ∷ 0x00 ∷ 0x04 ∷ 0x00 ∷ 0x00
    ∷ 0x02 ∷ 0x00 ∷ 0x00 ∷ 0x00 ∷ 0x00 ∷ 0x00 ∷ 0x00 ∷ 0x00 ∷ 0x01 ∷ 0x20 ∷ []

-- a label of the other variant
abbrev pub example_s : Parts
example_s = record {
  variant = S;
  digest = 32;
  key = 0;
  fanout = 2;
  depth = 4;
  page = 64;
  salt = replicate 8 0;
  layout = codes "PUMP-3";
}

-- the first bytes of node 1:1 under it
abbrev pub front_s : List ℕ
front_s =
    0x20 ∷ 0x00 ∷ 0x02 ∷ 0x04 ∷ 0x40 ∷ 0x00 ∷ 0x00 ∷ 0x00
    ∷ 0x01 ∷ 0x00 ∷ 0x00 ∷ 0x00 ∷ 0x00 ∷ 0x00 ∷ 0x01 ∷ 0x20 ∷ []
