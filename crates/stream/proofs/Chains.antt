-- Blocks that are not the last go into the chain value at once.
use Rattle.std.proofs.Common.{◌≡◌, ℕ, suc, ◌+◌, ◌-◌, ◌*◌, ◌/◌, ◌%◌, ◌<◌, Bool, true, false, List, [], ◌++◌, length, take, drop, sym, ap, ◌∙◌, add_comm, mod-eq_of_lt, mul-suc, add-one, arith}
use native.Mathlib.Nat.{add-div_right, add-mod_left, mul-mod_left}
use Rattle.std.proofs.lemmas.List.{take_at, drop_at, drop-drop, length-append, append_assoc, nil_from_length}
use Rattle.blake2.specs.Bytes.{words_of, pad}
use Rattle.blake2.specs.Compression.{compress}
use Rattle.blake2.specs.Width.{Width, block_size}
use Rattle.stream.specs.Hash.{chain, ended}

next_count : (b m n : ℕ) → 0 < b → m ≡ b + n → 0 < n → (m - 1) / b ≡ suc ((n - 1) / b)
next_count b m n hb e hn =
    let a : m - 1 ≡ (n - 1) + b = omega arith in
    rw a (add-div_right (n - 1) hb ∙ add-one ((n - 1) / b))

-- the last block, with one block more before it
tail : (w : Width) (node : Bool) (n t : ℕ) (block rest h : List ℕ) → length block ≡ block_size w
    → compress w (chain w false false n (t + block_size w + block_size w) rest (compress w h (words_of w 16 block) (t + block_size w) false false))
    (words_of w 16 (pad (block_size w) (drop (block_size w * n) rest))) (t + block_size w + length rest) true node
    ≡ compress w (chain w false false (suc n) (t + block_size w) (block ++ rest) h)
    (words_of w 16 (pad (block_size w) (drop (block_size w * suc n) (block ++ rest)))) (t + length (block ++ rest)) true node
unfolding chain
tail w node n t block rest h e =
    let b = block_size w in
    let a : take b (block ++ rest) ≡ block = take_at block rest b e in
    let d : drop b (block ++ rest) ≡ rest = drop_at block rest b e in
    let m : b * suc n ≡ b + b * n = mul-suc b n ∙ add_comm (b * n) b in
    let r : drop (b * suc n) (block ++ rest) ≡ drop (b * n) rest =
    ap (λ (k : ℕ). drop k (block ++ rest)) m ∙ sym (drop-drop (b * n) b (block ++ rest)) ∙ ap (drop (b * n)) d in
    let l : t + length (block ++ rest) ≡ t + b + length rest = let k = length-append block rest in omega arith in
    rw (r, l, d, a)

-- a block before a rest that is not empty
ended_block : (w : Width) (node : Bool) (t : ℕ) (block rest h : List ℕ) → 0 < w.size → length block ≡ block_size w → 0 < length rest
    → ended w node (t + block_size w) rest (compress w h (words_of w 16 block) (t + block_size w) false false) ≡ ended w node t (block ++ rest) h
unfolding ended
ended_block w node t block rest h hs e hr =
    let n : (length (block ++ rest) - 1) / block_size w ≡ suc ((length rest - 1) / block_size w) =
    next_count (block_size w) (length (block ++ rest)) (length rest) (omega arith) (length-append block rest ∙ ap (λ (k : ℕ). k + length rest) e) hr in
    rw n (tail w node ((length rest - 1) / block_size w) t block rest h e)

module _ (w : Width) (size : ℕ) (is : size ≡ block_size w) (block left left' : List ℕ) (cut : left ≡ block ++ left') (long : length block ≡ size) where
  -- a block less is left
  pub still_whole : length left % block_size w ≡ 0 → length left' % block_size w ≡ 0
  still_whole whole =
      let counts : length left ≡ block_size w + length left' = ap length cut ∙ length-append block left' ∙ ap (λ n. n + length left') (long ∙ is) in
      sym (add-mod_left (block_size w) (length left')) ∙ ap (λ n. n % block_size w) (sym counts) ∙ whole

  pub counted : (t t' n : ℕ) → t' ≡ t + size → t + length left ≡ n → t' + length left' ≡ n
  counted t t' n next count = omega (arith, ap length cut, length-append block left')

  -- it went into the chain value
  pub absorbed : (node : Bool) (t t' : ℕ) (h h' rest : List ℕ) → 0 < size → t' ≡ t + size → h' ≡ compress w h (words_of w 16 block) (t + size) false false → 0 < length rest
      → ended w node t' (left' ++ rest) h' ≡ ended w node t (left ++ rest) h
  absorbed node t t' h h' rest some next step more =
      let behind : 0 < length (left' ++ rest) = simp length-append (omega arith) in
      rw (next, step, is, cut, append_assoc) (ended_block w node t block (left' ++ rest) h (omega arith) (long ∙ is) behind)

-- whole blocks that are shorter than one are none
pub none_left : (size : ℕ) (left : List ℕ) → length left % size ≡ 0 → length left < size → left ≡ []
none_left size left whole short = nil_from_length left (sym (mod-eq_of_lt short) ∙ whole)

pub whole_blocks : (size b q n : ℕ) → size ≡ b → n ≡ q * size → n % b ≡ 0
whole_blocks size b q n is many = rw (many, is) (mul-mod_left q b)
