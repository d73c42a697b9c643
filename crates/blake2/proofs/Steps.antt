-- One step of G on a vector of machine words is that step on the words' values.
use Rattle.std.proofs.Common.{◌≡◌, ℕ, ◌+◌, ◌%◌, ◌^◌, ◌<◌, List, map, length, get_or, set, ap, ◌∙◌}
use native.Mathlib.Nat.{mod-add-mod}
use lib.Bits.{bit_xor}
use Rattle.std.proofs.lemmas.List.{map-set, get_or-map}
use Rattle.blake2.specs.Compression.{rotr, add, turn, xor_at, feed}
use Rattle.blake2.specs.Width.{Width}

pub added : {X : Type 0} (f : X → ℕ) (w : Width) (v : List X) (i j : ℕ) (p q r s x : X) → i < length v → j < length v
    → f s ≡ (f (get_or v i p) + f (get_or v j q)) % 2 ^ w.bits → f r ≡ (f s + f x) % 2 ^ w.bits
    → map f (set v i r) ≡ add w i j (f x) (map f v)
unfolding add
added f w v i j p q r s x hi hj es er =
    let a = get_or-map f v i p 0 hi in
    let b = get_or-map f v j q 0 hj in
    let e : f r ≡ (get_or (map f v) i 0 + get_or (map f v) j 0 + f x) % 2 ^ w.bits =
    er ∙ rw (es, a, b, mod-add-mod) in
    map-set f v i r ∙ ap (set (map f v) i) e

pub turned : {X : Type 0} (f : X → ℕ) (w : Width) (v : List X) (i j k : ℕ) (p q r s : X) → i < length v → j < length v
    → f s ≡ bit_xor (f (get_or v i p)) (f (get_or v j q)) → f r ≡ rotr w k (f s)
    → map f (set v i r) ≡ turn w i j k (map f v)
unfolding turn
turned f w v i j k p q r s hi hj es er =
    let a = get_or-map f v i p 0 hi in
    let b = get_or-map f v j q 0 hj in
    let e : f r ≡ rotr w k (bit_xor (get_or (map f v) i 0) (get_or (map f v) j 0)) = er ∙ rw (es, a, b) in
    map-set f v i r ∙ ap (set (map f v) i) e

pub xored : {X : Type 0} (f : X → ℕ) (v : List X) (i : ℕ) (p r x : X) → i < length v
    → f r ≡ bit_xor (f (get_or v i p)) (f x) → map f (set v i r) ≡ xor_at i (f x) (map f v)
unfolding xor_at
xored f v i p r x hi er =
    let a = get_or-map f v i p 0 hi in
    let e : f r ≡ bit_xor (get_or (map f v) i 0) (f x) = er ∙ rw a in
    map-set f v i r ∙ ap (set (map f v) i) e

pub fed : {X : Type 0} (f : X → ℕ) (h v : List X) (i : ℕ) (p q o r s : X) → i < length h → i < length v → i + 8 < length v
    → f s ≡ bit_xor (f (get_or h i p)) (f (get_or v i q)) → f r ≡ bit_xor (f s) (f (get_or v (i + 8) o))
    → map f (set h i r) ≡ feed (map f v) i (map f h)
unfolding feed
fed f h v i p q o r s hi hv ho es er =
    let a = get_or-map f h i p 0 hi in
    let b = get_or-map f v i q 0 hv in
    let d = get_or-map f v (i + 8) o 0 ho in
    let e : f r ≡ bit_xor (bit_xor (get_or (map f h) i 0) (get_or (map f v) i 0)) (get_or (map f v) (i + 8) 0) = er ∙ rw (es, a, b, d) in
    map-set f h i r ∙ ap (set (map f h) i) e
