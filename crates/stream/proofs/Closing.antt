-- The last block, with zeros after its bytes.
use Rattle.std.proofs.Common.{◌≡◌, ℕ, ◌+◌, ◌-◌, ◌<◌, ◌≤◌, Bool, true, List, [], ◌++◌, length, take, drop, replicate, ap, ◌∙◌, mul-zero, arith}
use native.Mathlib.Nat.{div-eq_of_lt}
use Rattle.std.proofs.lemmas.List.{drop-replicate, take-replicate, append-nil}
use Rattle.std.proofs.Math.Seq.{take-append-add}
use Rattle.blake2.specs.Bytes.{pad, words_of}
use Rattle.blake2.specs.Compression.{compress}
use Rattle.blake2.specs.Width.{Width, block_size}
use Rattle.stream.specs.Hash.{chain, before, ended}

-- bytes at the front of zeros
pub padded : (b n m : ℕ) (bs : List ℕ) → n ≡ length bs → n ≤ b → b ≤ m → take b (bs ++ drop n (replicate m 0)) ≡ pad b bs
unfolding pad
padded b n m bs size fits most =
    let k = b - length bs in
    let whole : b ≡ length bs + k = omega arith in
    ap (λ j. take j (bs ++ drop n (replicate m 0))) whole
    ∙ take-append-add bs (drop n (replicate m 0)) k
    ∙ ap (λ zs. bs ++ zs) (ap (take k) (drop-replicate n m 0) ∙ take-replicate k (m - n) 0 (omega arith))

-- up to a block of bytes is the last block
pub closed : (w : Width) (node : Bool) (t n : ℕ) (wait block h h' : List ℕ) → 0 < block_size w → n ≡ length wait → n ≤ block_size w
    → block ≡ pad (block_size w) wait → h' ≡ compress w h (words_of w 16 block) (t + n) true node → h' ≡ ended w node t (wait ++ []) h
unfolding ended chain
closed w node t n wait block h h' some size fits is_block step =
    let none : before w (length wait) ≡ 0 = div-eq_of_lt (omega arith) in
    rw (append-nil, none, mul-zero, step, is_block, size)
