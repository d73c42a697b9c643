-- A digest has the length that is asked for.
use Rattle.std.specs.Prelude.{◌≡◌, ℕ, zero, suc, ◌+◌, ◌*◌, ◌/◌, ◌≤◌, Bool, List, [], ◌∷◌, ◌++◌, length, take, drop, bit_xor, slice_index, refl}
use Rattle.std.proofs.Common.{ap, ◌∙◌, mul-suc, arith}
use Rattle.std.proofs.lemmas.List.FromFn.{length-map-range_with_len}
use Rattle.std.proofs.lemmas.List.{length-append, length-set, length-take-le}
use Rattle.blake2.specs.Bytes.{le_bytes, word_at, words_of, bytes_of}
use Rattle.blake2.specs.Compression.{repeat, feed, compress}
use Rattle.blake2.specs.Width.{Width, block_size, longest}
use Rattle.stream.specs.Hash.{chain, ended, hash, initial, key_block}

length-repeat : (n : ℕ) (f : ℕ → List ℕ → List ℕ) (x : List ℕ) → ((i : ℕ) (y : List ℕ) → length (f i y) ≡ length y) → length (repeat n f x) ≡ length x
unfolding repeat
length-repeat zero f x keeps = refl
length-repeat (suc n) f x keeps = keeps n (repeat n f x) ∙ length-repeat n f x keeps

length-feed : (v : List ℕ) (i : ℕ) (h : List ℕ) → length (feed v i h) ≡ length h
unfolding feed
length-feed v i h = length-set h i _

length-compress : (w : Width) (h m : List ℕ) (t : ℕ) (last node : Bool) → length (compress w h m t last node) ≡ length h
unfolding compress
length-compress w h m t last node = length-repeat 8 _ h (length-feed _)

length-chain : (w : Width) (last node : Bool) (n t : ℕ) (bs h : List ℕ) → length (chain w last node n t bs h) ≡ length h
unfolding chain
length-chain w last node zero t bs h = refl
length-chain w last node (suc n) t bs h =
    let b = block_size w in
    let words = words_of w 16 (take b bs) in
    length-chain w last node n (t + b) (drop b bs) (compress w h words t last node) ∙ length-compress w h words t last node

length-ended : (w : Width) (node : Bool) (t : ℕ) (bs h : List ℕ) → length (ended w node t bs h) ≡ length h
unfolding ended
length-ended w node t bs h = length-compress w _ _ _ _ _ ∙ length-chain w _ _ _ _ _ _

pub length-le_bytes : (n x : ℕ) → length (le_bytes n x) ≡ n
length-le_bytes zero x = refl
length-le_bytes (suc n) x = ap suc (length-le_bytes n (x / 256))

pub length-bytes_of : (w : Width) (xs : List ℕ) → length (bytes_of w xs) ≡ w.size * length xs
unfolding bytes_of
length-bytes_of w [] = omega arith
length-bytes_of w (x ∷ xs) =
    length-append (le_bytes w.size x) (bytes_of w xs)
    ∙ omega (arith, length-le_bytes w.size x, length-bytes_of w xs, mul-suc w.size (length xs))

length-initial : (w : Width) (p : List ℕ) → length (initial w p) ≡ 8
unfolding initial
length-initial w p = length-map-range_with_len (λ i. bit_xor (slice_index w.iv i) (word_at w p i)) 0 8

pub length-hash : (w : Width) (d : ℕ) (node : Bool) (p key input : List ℕ) → d ≤ longest w → length (hash w d node p key input) ≡ d
unfolding hash
length-hash w d node p key input short =
    let h = ended w node 0 (key_block w key ++ input) (initial w p) in
    let eight : length h ≡ 8 = length-ended w node 0 (key_block w key ++ input) (initial w p) ∙ length-initial w p in
    let all : length (bytes_of w h) ≡ w.size * 8 = length-bytes_of w h ∙ ap (λ n. w.size * n) eight in
    length-take-le d (bytes_of w h) (omega arith)
