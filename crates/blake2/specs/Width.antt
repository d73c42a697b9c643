-- What differs between BLAKE2b and BLAKE2s. All other definitions are written once, over this record.
use Rattle.std.specs.Prelude.{ℕ, ◌*◌, ◌≤◌, List, [], ◌∷◌}
use prog.Memory.{align, size as memory}
use denote.Param.{layout}
use Rattle.std.specs.Borrow.{RattleType}
use Rattle.blake2.specs.declared.variant.Variant.{Variant}
use Rattle.blake2.specs.declared.variant.Variant.TheVariants.{B, S}

-- A word is a number below 2 ^ bits.
pub record Width : Type 0 where
  pub bits : ℕ  -- of a word
  pub size : ℕ  -- the bytes of a word
  pub rounds : ℕ  -- of a compression
  pub r1 : ℕ  -- the four rotations of G
  pub r2 : ℕ
  pub r3 : ℕ
  pub r4 : ℕ
  pub iv : List ℕ  -- eight words

abbrev pub blake2b : Width
blake2b = record {
  bits = 64;
  size = 8;
  rounds = 12;
  r1 = 32;
  r2 = 24;
  r3 = 16;
  r4 = 63;
  iv =
      0x6a09e667f3bcc908 ∷ 0xbb67ae8584caa73b ∷ 0x3c6ef372fe94f82b ∷ 0xa54ff53a5f1d36f1
      ∷ 0x510e527fade682d1 ∷ 0x9b05688c2b3e6c1f ∷ 0x1f83d9abfb41bd6b ∷ 0x5be0cd19137e2179 ∷ [];
}

abbrev pub blake2s : Width
blake2s = record {
  bits = 32;
  size = 4;
  rounds = 10;
  r1 = 16;
  r2 = 12;
  r3 = 8;
  r4 = 7;
  iv =
      0x6a09e667 ∷ 0xbb67ae85 ∷ 0x3c6ef372 ∷ 0xa54ff53a
      ∷ 0x510e527f ∷ 0x9b05688c ∷ 0x1f83d9ab ∷ 0x5be0cd19 ∷ [];
}

abbrev pub width_of : Variant → Width
width_of B = blake2b
width_of S = blake2s

-- the bytes of a block
abbrev pub block_size : Width → ℕ
block_size w = 16 * w.size

-- the bytes of a chain value: the longest digest, and the longest key
abbrev pub longest : Width → ℕ
longest w = 8 * w.size

-- a value of the type takes at most eight bytes of memory, and lies at a multiple of at most eight
abbrev pub Small : RattleType → Type 0
Small R = (memory (layout R) ≤ 8) × (align (layout R) ≤ 8)
