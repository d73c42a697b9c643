-- A key and the zeros after it are the key's block.
use Rattle.std.proofs.Common.{◌≡◌, ℕ, ◌-◌, ◌<◌, ◌≤◌, false, cond, eqb, List, [], ◌∷◌, ◌++◌, length, take, drop, replicate, sym, refl, ap, ◌∙◌, not-suc-le-zero, arith}
use Rattle.std.proofs.lemmas.Bool.{ne_eqb}
use Rattle.std.proofs.lemmas.List.{length-append, length-replicate}
use Rattle.blake2.specs.Bytes.{pad}
use Rattle.blake2.specs.Width.{Width, block_size}
use Rattle.stream.specs.Hash.{key_block}
use Rattle.stream.proofs.Closing.{padded}

is_padded : (w : Width) (key : List ℕ) → 0 < length key → key_block w key ≡ pad (block_size w) key
is_padded w [] h = absurd (not-suc-le-zero h)
is_padded w (k ∷ ks) h = refl

-- the key lies at the front of m zeros
pub keyed : (w : Width) (key : List ℕ) (b m : ℕ) → 0 < length key → length key ≤ b → b ≡ block_size w → b ≤ m
    → take b (key ++ drop (length key) (replicate m 0)) ≡ key_block w key
keyed w key b m some short size most = padded b (length key) m key refl short most ∙ ap (λ n. pad n key) size ∙ sym (is_padded w key some)

pub length-key_block : (w : Width) (key : List ℕ) → 0 < length key → length key ≤ block_size w → length (key_block w key) ≡ block_size w
unfolding pad
length-key_block w key some short =
    let zeros : length (replicate {A = ℕ} (block_size w - length key) 0) ≡ block_size w - length key = length-replicate (block_size w - length key) 0 in
    ap length (is_padded w key some) ∙ length-append key (replicate (block_size w - length key) 0) ∙ omega arith

-- a key block has a block's bytes, or none where there is no key
pub length-keyed : (w : Width) (key : List ℕ) → length key ≤ block_size w → length (key_block w key) ≡ cond (eqb (length key) 0) 0 (block_size w)
length-keyed w [] short = refl
length-keyed w (k ∷ ks) short =
    let some : eqb (length (k ∷ ks)) 0 ≡ false = ne_eqb (length (k ∷ ks)) 0 (λ e. absurd (omega arith)) in
    length-key_block w (k ∷ ks) (omega arith) short ∙ ap (λ b. cond b 0 (block_size w)) (sym some)

pub keyed_most : (w : Width) (key : List ℕ) → length key ≤ block_size w → length (key_block w key) ≤ block_size w
keyed_most w [] short = omega arith
keyed_most w (k ∷ ks) short = omega (arith, length-key_block w (k ∷ ks) (omega arith) short)
