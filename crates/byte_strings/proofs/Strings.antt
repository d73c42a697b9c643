-- Facts of every byte string, and of an append.
use Rattle.std.proofs.Common.{◌≡◌, ℕ, zero, suc, ◌+◌, ◌-◌, ◌<◌, ◌≤◌, true, false, leb, List, [], ◌∷◌, ◌++◌, length, get_or, take, drop, set, replicate, Ok, Err, sym, ap, ◌∙◌, subst, arith, length-append, take-append-drop}
use borrow.Rule.Slice.PartMut.{put_mid, post_of}
use denote.Param.{number}
use denote.Struct.Record.{values_one}
use Rattle.std.proofs.ByRecursion.{All-from_get_or}
use Rattle.std.proofs.lemmas.List.{length-take-le, get_or-take, drop-drop, drop-replicate}
use Rattle.std.proofs.lemmas.Bool.{le-leb, lt-leb, cond-true, cond-false}
use Rattle.std.specs.List.{AllByRecursion as All}
use Rattle.byte_strings.specs.contracts.bytes.Bytes as bytes
use Rattle.byte_strings.specs.declared.bytes.Bytes.{Bytes}
use Rattle.byte_strings.specs.Strings.{AreBytes, listed, too_long, append_answer, appended}

-- every element is a byte

pub small-zeros : (n k : ℕ) → get_or (replicate n 0) k 0 < 256
small-zeros zero k = omega arith
small-zeros (suc n) zero = omega arith
small-zeros (suc n) (suc k) = small-zeros n k

pub small-set : (xs : List ℕ) (i b : ℕ) → b < 256 → ((k : ℕ) → get_or xs k 0 < 256) → (k : ℕ) → get_or (set xs i b) k 0 < 256
small-set [] i b h all k = all k
small-set (x ∷ xs) zero b h all zero = h
small-set (x ∷ xs) zero b h all (suc k) = all (suc k)
small-set (x ∷ xs) (suc i) b h all zero = all 0
small-set (x ∷ xs) (suc i) b h all (suc k) = small-set xs i b h (λ j. all (suc j)) k

small-take : (n : ℕ) (xs : List ℕ) → AreBytes xs → AreBytes (take n xs)
small-take zero xs all k = omega arith
small-take (suc n) [] all k = all k
small-take (suc n) (x ∷ xs) all zero = all 0
small-take (suc n) (x ∷ xs) all (suc k) = small-take n xs (λ j. all (suc j)) k

small-drop : (n : ℕ) (xs : List ℕ) → AreBytes xs → AreBytes (drop n xs)
small-drop zero xs all k = all k
small-drop (suc n) [] all k = all k
small-drop (suc n) (x ∷ xs) all k = small-drop n xs (λ j. all (suc j)) k

small-append : (xs ys : List ℕ) → AreBytes xs → AreBytes ys → AreBytes (xs ++ ys)
small-append [] ys left right k = right k
small-append (x ∷ xs) ys left right zero = left 0
small-append (x ∷ xs) ys left right (suc k) = small-append xs ys (λ j. left (suc j)) right k

-- other bytes in the place of some
pub small-put_mid : (a k : ℕ) (xs ys : List ℕ) → AreBytes xs → AreBytes ys → AreBytes (put_mid a k xs ys)
small-put_mid a k xs ys old new =
    small-append (take a xs) (ys ++ post_of a k xs) (small-take a xs old) (small-append ys (post_of a k xs) new (small-drop k (drop a xs) (small-drop a xs old)))

pub length-listed : {N : ℕ} (b : Bytes N) → length (listed b) ≡ b.len
length-listed b = length-take-le b.len b.all (omega (arith, b.size, b.fits))

pub listed-fits : {N : ℕ} (b : Bytes N) → length (listed b) ≤ N
listed-fits b = omega (arith, length-listed b, b.fits)

pub listed_small : {N : ℕ} (b : Bytes N) → All (λ x. x < 256) (listed b)
listed_small b =
    All-from_get_or (λ x. x < 256) (listed b) 0 (λ i h. subst (λ x. x < 256) (sym (get_or-take b.len b.all i 0 (omega (arith, length-listed b)))) (b.small i))

pub listed_bytes : {N : ℕ} (b : Bytes N) → AreBytes (listed b)
listed_bytes b = small-take b.len b.all b.small

-- two strings with the same bytes are one value

whole : {N : ℕ} (b : Bytes N) → b.all ≡ listed b ++ replicate (N - length (listed b)) 0
whole {N} b =
    sym (take-append-drop b.len b.all) ∙ ap (λ l. listed b ++ l) (b.tail ∙ ap (λ n. replicate (N - n) 0) (sym (length-listed b)))

pub one_string : {N : ℕ} (a b : Bytes N) → listed a ≡ listed b → a ≡ b
one_string {N} a b e =
    values_one (bytes.struct (number N)) (bytes.the_propositions N) a b
    (λ i. ((whole a ∙ ap (λ l. l ++ replicate (N - length l) 0) e ∙ sym (whole b)) i, ((sym (length-listed a) ∙ ap length e ∙ length-listed b) i, tt)))

-- behind m bytes more, zeros are left
pub zeros_behind : {N : ℕ} (b : Bytes N) (m : ℕ) → drop (b.len + m) b.all ≡ replicate (N - (b.len + m)) 0
zeros_behind {N} b m =
    sym (drop-drop m b.len b.all) ∙ ap (drop m) b.tail ∙ drop-replicate m (N - b.len) 0 ∙ ap (λ k. replicate k 0) (omega arith)

-- an append that fits, and one that does not

fits : (n : ℕ) (bs more : List ℕ) → length bs + length more ≤ n → leb (length (bs ++ more)) n ≡ true
fits n bs more h = le-leb (length (bs ++ more)) n (omega (arith, length-append bs more))

pub answer_ok : (n : ℕ) (bs more : List ℕ) → length bs + length more ≤ n → append_answer n bs more ≡ Ok tt
answer_ok n bs more h = cond-true (leb (length (bs ++ more)) n) (Ok tt) (Err too_long) (fits n bs more h)

pub appended_all : (n : ℕ) (bs more : List ℕ) → length bs + length more ≤ n → appended n bs more ≡ bs ++ more
appended_all n bs more h = cond-true (leb (length (bs ++ more)) n) (bs ++ more) bs (fits n bs more h)

exceeds : (n : ℕ) (bs more : List ℕ) → n < length bs + length more → leb (length (bs ++ more)) n ≡ false
exceeds n bs more h = lt-leb (length (bs ++ more)) n (omega (arith, length-append bs more))

pub answer_err : (n : ℕ) (bs more : List ℕ) → n < length bs + length more → append_answer n bs more ≡ Err too_long
answer_err n bs more h = cond-false (leb (length (bs ++ more)) n) (Ok tt) (Err too_long) (exceeds n bs more h)

pub appended_none : (n : ℕ) (bs more : List ℕ) → n < length bs + length more → appended n bs more ≡ bs
appended_none n bs more h = cond-false (leb (length (bs ++ more)) n) (bs ++ more) bs (exceeds n bs more h)
