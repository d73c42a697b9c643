-- What the hash of a node answers, and what it leaves.
use Rattle.std.specs.Prelude.{ℕ, Bool, if◌then◌else◌, not, ◌||◌, List, [], ◌∷◌, length, is_ok, Result, ◌==◌, nat_lt}
use Rattle.fault.specs.Faults.{Row, on, unless}
use Rattle.fault.specs.declared.fault.Fault.{Fault}
use Rattle.fault.specs.declared.refusal.Refusal.TheVariants.{NodeInput}
use Rattle.nodehash.specs.Hashing.{Hashing, digest_length}
use Rattle.nodehash.specs.declared.position.Position.{Position}

-- 15 where the input's length n is above 4,096, or the output's length m is not the digest's.
abbrev pub hash_rows : Hashing → ℕ → ℕ → List Row
hash_rows h n m = on (nat_lt 4096 n || not (m == digest_length h)) NodeInput 0 ∷ []

-- It answers how many blocks the digest took.
abbrev pub hash_answer : Hashing → Position → ℕ → ℕ → Result ℕ Fault
hash_answer h position n m = unless (hash_rows h n m) (h.blocks position.depth n)

-- The output after it: the node's digest; where it is refused, the output as it was.
abbrev pub hash_out : Hashing → Position → Bool → List ℕ → List ℕ → List ℕ
hash_out h position last input out =
    if is_ok (hash_answer h position (length input) (length out)) then h.digest position last input else out
