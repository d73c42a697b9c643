-- The compression function F, assignment by assignment, for both widths.
-- A vector is a list of words, `slice_index v i` its word v[i]; each definition is one line of the standard, or a few, as a function of the vector.
use Rattle.std.specs.Prelude.{ℕ, zero, suc, ◌+◌, ◌-◌, ◌*◌, ◌/◌, ◌%◌, ◌^◌, Bool, cond, List, [], ◌++◌, get_or, bit_xor, slice_index, slice_index_or, slice_set}
use Rattle.blake2.specs.Schedule.{sigma}
use Rattle.blake2.specs.Width.{Width}

-- x >>> k
unfoldable pub rotr : Width → ℕ → ℕ → ℕ
rotr w k x = bit_xor (x / 2 ^ k) (x * 2 ^ (w.bits - k) % 2 ^ w.bits)

-- v[i] := (v[i] + v[j] + x) mod 2 ^ bits
unfoldable pub add : Width → ℕ → ℕ → ℕ → List ℕ → List ℕ
add w i j x v = slice_set v i ((slice_index v i + slice_index v j + x) % 2 ^ w.bits)

-- v[i] := (v[i] ^ v[j]) >>> k
unfoldable pub turn : Width → ℕ → ℕ → ℕ → List ℕ → List ℕ
turn w i j k v = slice_set v i (rotr w k (bit_xor (slice_index v i) (slice_index v j)))

-- the mixing function G on v[a], v[b], v[c], v[d], with the message words x and y
unfoldable pub mix : Width → ℕ → ℕ → ℕ → ℕ → ℕ → ℕ → List ℕ → List ℕ
mix w a b c d x y v =
    let v1 = add w a b x v in
    let v2 = turn w d a w.r1 v1 in
    let v3 = add w c d 0 v2 in
    let v4 = turn w b c w.r2 v3 in
    let v5 = add w a b y v4 in
    let v6 = turn w d a w.r3 v5 in
    let v7 = add w c d 0 v6 in
    turn w b c w.r4 v7

-- one round over the message words m, in the order of a row s of the schedule: the columns, then the diagonals
unfoldable pub round : Width → List ℕ → List ℕ → List ℕ → List ℕ
round w m s v =
    let at : ℕ → ℕ = λ k. get_or m (slice_index s k) 0 in
    let v1 = mix w 0 4 8 12 (at 0) (at 1) v in
    let v2 = mix w 1 5 9 13 (at 2) (at 3) v1 in
    let v3 = mix w 2 6 10 14 (at 4) (at 5) v2 in
    let v4 = mix w 3 7 11 15 (at 6) (at 7) v3 in
    let v5 = mix w 0 5 10 15 (at 8) (at 9) v4 in
    let v6 = mix w 1 6 11 12 (at 10) (at 11) v5 in
    let v7 = mix w 2 7 8 13 (at 12) (at 13) v6 in
    mix w 3 4 9 14 (at 14) (at 15) v7

-- for i = 0 to n - 1 do x := f i x
unfoldable pub repeat : {X : Type 0} → ℕ → (ℕ → X → X) → X → X
repeat zero f x = x
repeat (suc n) f x = f n (repeat n f x)

-- v[i] := v[i] ^ x
unfoldable pub xor_at : ℕ → ℕ → List ℕ → List ℕ
xor_at i x v = slice_set v i (bit_xor (slice_index v i) x)

-- all bits of a word, or none: to xor it inverts the word, or leaves it
abbrev pub mask : Width → Bool → ℕ
mask w on = cond on (2 ^ w.bits - 1) 0

-- the working vector before the first round: t counts the bytes up to this block's end, last is true on the final block, node on the final block of a last node
unfoldable pub start : Width → List ℕ → ℕ → Bool → Bool → List ℕ
start w h t last node =
    let v = h ++ w.iv in
    let v12 = xor_at 12 (t % 2 ^ w.bits) v in
    let v13 = xor_at 13 (t / 2 ^ w.bits % 2 ^ w.bits) v12 in
    let v14 = xor_at 14 (mask w last) v13 in
    xor_at 15 (mask w node) v14

-- h[i] := h[i] ^ v[i] ^ v[i + 8]
unfoldable pub feed : List ℕ → ℕ → List ℕ → List ℕ
feed v i h = slice_set h i (bit_xor (bit_xor (slice_index h i) (slice_index v i)) (slice_index v (i + 8)))

-- the compression function F: the chain value h after the block whose words are m
unfoldable pub compress : Width → List ℕ → List ℕ → ℕ → Bool → Bool → List ℕ
compress w h m t last node =
    let v = repeat w.rounds (λ i. round w m (slice_index_or sigma i [])) (start w h t last node) in
    repeat 8 (feed v) h
