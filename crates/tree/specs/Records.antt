-- The node table: for each node a record of 65 bytes, a mark (0 is none) and 64 bytes for the digest, zeros after it.
use Rattle.std.specs.Prelude.{ℕ, zero, suc, ◌+◌, ◌-◌, ◌*◌, Bool, not, List, [], ◌∷◌, ◌++◌, length, take, drop, replicate, ◌==◌, slice_index, slice_set}

-- record i is marked
unfoldable pub marked : List ℕ → ℕ → Bool
marked t i = not (slice_index t (65 * i) == 0)

-- the 64 bytes of record i
unfoldable pub held : List ℕ → ℕ → List ℕ
held t i = take 64 (drop (65 * i + 1) t)

-- a digest as it is held: with zeros after it
unfoldable pub stored : List ℕ → List ℕ
stored d = d ++ replicate (64 - length d) 0

-- what is held where no digest was ever stored
unfoldable pub zeros : List ℕ
zeros = replicate 64 0

-- the table with digest d in record i, which is not marked
unfoldable pub store : List ℕ → ℕ → List ℕ → List ℕ
store t i d = take (65 * i) t ++ ((0 ∷ stored d) ++ drop (65 * i + 65) t)

-- the table with record i marked
unfoldable pub mark : List ℕ → ℕ → List ℕ
mark t i = slice_set t (65 * i) 1

-- m records, each marked and zero
unfoldable pub fresh : ℕ → List ℕ
fresh zero = []
fresh (suc m) = (1 ∷ zeros) ++ fresh m
