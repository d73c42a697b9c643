-- Words and bytes: the lowest byte comes first.
use Rattle.std.specs.Prelude.{ℕ, zero, suc, ◌+◌, ◌-◌, ◌*◌, ◌/◌, ◌%◌, List, [], ◌∷◌, ◌++◌, map, length, take, drop, replicate}
use Rattle.std.specs.List.{range_with_len}
use Rattle.blake2.specs.Width.{Width}

-- the number that the bytes spell
abbrev pub le : List ℕ → ℕ
le [] = 0
le (x ∷ bs) = x + 256 * le bs

-- the n bytes of a number
abbrev pub le_bytes : ℕ → ℕ → List ℕ
le_bytes zero x = []
le_bytes (suc n) x = x % 256 ∷ le_bytes n (x / 256)

-- filled with zeros to n bytes
unfoldable pub pad : ℕ → List ℕ → List ℕ
pad n bs = bs ++ replicate (n - length bs) 0

-- the i-th word of the bytes
unfoldable pub word_at : Width → List ℕ → ℕ → ℕ
word_at w bs i = le (take w.size (drop (w.size * i) bs))

-- the first n words of the bytes
unfoldable pub words_of : Width → ℕ → List ℕ → List ℕ
words_of w n bs = map (word_at w bs) (range_with_len 0 n)

-- the bytes of the words
unfoldable pub bytes_of : Width → List ℕ → List ℕ
bytes_of w [] = []
bytes_of w (x ∷ xs) = le_bytes w.size x ++ bytes_of w xs
