-- The hash of a whole input: blocks, counter, key and filling zeros.
use Rattle.std.specs.Prelude.{ℕ, zero, suc, ◌+◌, ◌-◌, ◌*◌, ◌/◌, Bool, true, false, cond, List, [], ◌∷◌, ◌++◌, map, length, take, drop, ◌==◌, bit_xor, slice_index}
use Rattle.std.specs.List.{range_with_len}
use Rattle.blake2.specs.Bytes.{pad, word_at, words_of, bytes_of}
use Rattle.blake2.specs.Compression.{compress}
use Rattle.blake2.specs.Width.{Width, block_size}

-- F over the first n blocks of bs; the counter is t at the first of them, and a block more at each next one
unfoldable pub chain : Width → Bool → Bool → ℕ → ℕ → List ℕ → List ℕ → List ℕ
chain w last node zero t bs h = h
chain w last node (suc n) t bs h =
    let b = block_size w in
    chain w last node n (t + b) (drop b bs) (compress w h (words_of w 16 (take b bs)) t last node)

-- how many blocks stand before the last one of n bytes; an empty input has one block too
abbrev pub before : Width → ℕ → ℕ
before w n = (n - 1) / block_size w

-- the chain value after all of bs, the last block filled with zeros; t bytes came before, and node tells whether this is the last node of its layer
unfoldable pub ended : Width → Bool → ℕ → List ℕ → List ℕ → List ℕ
ended w node t bs h =
    let b = block_size w in
    let n = before w (length bs) in
    compress w (chain w false false n (t + b) bs h) (words_of w 16 (pad b (drop (b * n) bs))) (t + length bs) true node

-- the first chain value: IV xor the words of the parameter block
unfoldable pub initial : Width → List ℕ → List ℕ
initial w p = map (λ i. bit_xor (slice_index w.iv i) (word_at w p i)) (range_with_len 0 8)

-- a key, with zeros after it, is a block of its own before the input; without a key there is no such block
abbrev pub key_block : Width → List ℕ → List ℕ
key_block w [] = []
key_block w (k ∷ ks) = pad (block_size w) (k ∷ ks)

-- the first d bytes of the last chain value, under the parameter block p
unfoldable pub hash : Width → ℕ → Bool → List ℕ → List ℕ → List ℕ → List ℕ
hash w d node p key input = take d (bytes_of w (ended w node 0 (key_block w key ++ input) (initial w p)))

-- how many compressions that takes, for a key of k bytes and an input of n: the key block counts
abbrev pub blocks : Width → ℕ → ℕ → ℕ
blocks w k n = before w (cond (k == 0) 0 (block_size w) + n) + 1

-- the parameter block of a stream: digest length, key length, fanout 1, depth 1 and zeros; BLAKE2s has the first 32 of these bytes
abbrev pub sequential : ℕ → ℕ → List ℕ
sequential d k = pad 64 (d ∷ k ∷ 1 ∷ 1 ∷ [])

-- the digest of an input: d bytes, under a key or none
unfoldable pub digest : Width → ℕ → List ℕ → List ℕ → List ℕ
digest w d key input = hash w d false (sequential d (length key)) key input
