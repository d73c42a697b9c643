-- Words from bytes, and bytes from words.
use Rattle.std.proofs.Common.{◌≡◌, ℕ, ◌+◌, ◌*◌, ◌<◌, ◌≤◌, List, [], ◌∷◌, ◌++◌, length, get_or, take, drop, sym, ap, ◌∙◌, mul_comm, mul-le-mul_left, mul-add, arith}
use Rattle.std.proofs.lemmas.List.{take_at, take_more, append-nil, append_assoc, length-take, length-take-le, length-drop}
use Rattle.blake2.specs.Bytes.{le_bytes, pad, bytes_of}
use Rattle.blake2.specs.Width.{Width}
use Rattle.stream.specs.Sound.{length-le_bytes, length-bytes_of}

-- the word i of m words lies within their bytes
pub within : (s i m n : ℕ) → i < m → m * s ≤ n → s * i + s ≤ n
within s i m n h k =
    let a : s * (i + 1) ≤ s * m = mul-le-mul_left s (omega arith) in omega (arith, mul-add s i 1, mul_comm s m)

-- n bytes that were copied from a place, whatever stands after them
pub copied : (n m at : ℕ) (bytes got tail : List ℕ) → m ≡ n → got ≡ take m (drop at bytes) → at + n ≤ length bytes
    → take n (got ++ tail) ≡ take n (drop at bytes)
copied n m at bytes got tail e part h =
    let same : got ≡ take n (drop at bytes) = part ∙ ap (λ k. take k (drop at bytes)) e in
    let long : length got ≡ n = ap length same ∙ length-take-le n (drop at bytes) (omega (arith, length-drop at bytes)) in
    take_at got tail n long ∙ same

-- the bytes of a word stand before the zeros
pub take-le_bytes : (n m x : ℕ) → take n (pad m (le_bytes n x)) ≡ le_bytes n x
unfolding pad
take-le_bytes n m x = take_at (le_bytes n x) _ n (length-le_bytes n x)

-- one word more
pub bytes_of_more : (w : Width) (xs : List ℕ) (x : ℕ) → bytes_of w (xs ++ x ∷ []) ≡ bytes_of w xs ++ le_bytes w.size x
unfolding bytes_of
bytes_of_more w [] x = append-nil (le_bytes w.size x)
bytes_of_more w (y ∷ xs) x =
    ap (λ bs. le_bytes w.size y ++ bs) (bytes_of_more w xs x)
    ∙ sym (append_assoc (le_bytes w.size y) (bytes_of w xs) (le_bytes w.size x))

-- the bytes of eight words are at most 64
pub room_for : (w : Width) (i n : ℕ) (all bytes xs : List ℕ) → w.size ≤ 8 → i < 8 → n ≡ w.size → all ≡ bytes_of w (take i xs) → length all + length (take n bytes) ≤ 64
room_for w i n all bytes xs few less size so_far =
    let most : length (take i xs) ≤ 7 = omega (arith, length-take i xs) in
    let front : w.size * length (take i xs) ≤ w.size * 7 = mul-le-mul_left w.size most in
    omega (arith, ap length so_far, length-bytes_of w (take i xs), length-take n bytes)

-- one turn of the loop over the words: those before the i-th are spelled, and now this one is
pub spelled_more : (w : Width) (i : ℕ) (all new bytes xs : List ℕ) (x : ℕ) → i < length xs → get_or xs i 0 ≡ x → bytes ≡ pad 8 (le_bytes w.size x)
    → all ≡ bytes_of w (take i xs) → new ≡ all ++ take w.size bytes → new ≡ bytes_of w (take (i + 1) xs)
spelled_more w i all new bytes xs x less here is so_far more =
    more ∙ rw (so_far, is, take-le_bytes w.size 8 x, sym here) (sym (bytes_of_more w (take i xs) (get_or xs i 0))) ∙ ap (bytes_of w) (sym (take_more xs i 0 less))

-- a piece of which the first part fills the waiting bytes, then come whole blocks, and then the last part
pub parts : (wait piece front more whole last rest : List ℕ) → piece ≡ front ++ more → more ≡ whole ++ last
    → (wait ++ front) ++ (whole ++ (last ++ rest)) ≡ wait ++ (piece ++ rest)
parts wait piece front more whole last rest p q = rw (p, q) (simp append_assoc)
