-- A hash under any parameter block: what the call answers, and what it leaves.
use Rattle.std.specs.Prelude.{ℕ, Bool, cond, List, ◌++◌, length, is_ok, Result}
use Rattle.blake2.specs.Width.{Width}
use Rattle.fault.specs.Faults.{Row, unless}
use Rattle.fault.specs.declared.fault.Fault.{Fault}
use Rattle.stream.specs.Hash.{blocks, hash}
use Rattle.stream.specs.Streams.{begin_rows, add_rows}

-- 11 where the output's length m is no digest length, 12 where the key's length k is above the longest, 13 where the input's length n is above 2 ^ 40.
abbrev pub hash_rows : Width → ℕ → ℕ → ℕ → List Row
hash_rows w k n m = begin_rows w m k ++ add_rows 0 n

-- It answers how many compressions the digest took.
abbrev pub hash_answer : Width → ℕ → ℕ → ℕ → Result ℕ Fault
hash_answer w k n m = unless (hash_rows w k n m) (blocks w k n)

-- The output after it: the digest; where it is refused, the output as it was.
abbrev pub hash_out : Width → Bool → List ℕ → List ℕ → List ℕ → List ℕ → List ℕ
hash_out w node p key input out =
    cond (is_ok (hash_answer w (length key) (length input) (length out))) (hash w (length out) node p key input) out
