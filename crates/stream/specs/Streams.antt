-- The calls on a stream: what each answers, and what it leaves.
use Rattle.std.specs.Prelude.{ℕ, ◌+◌, ◌^◌, cond, not, ◌||◌, List, [], ◌∷◌, ◌++◌, length, is_ok, Result, ◌==◌, nat_lt}
use Rattle.blake2.specs.Width.{Width, longest}
use Rattle.fault.specs.Faults.{Row, on, unless}
use Rattle.fault.specs.declared.fault.Fault.{Fault}
use Rattle.fault.specs.declared.refusal.Refusal.TheVariants.{DigestLength, KeyLength, StreamLength, DigestBuffer}
use Rattle.stream.specs.Hash.{blocks, digest}

-- A stream as its callers see it. What it will give is a function of the bytes that still follow.
pub record View : Type 0 where
  pub length : ℕ  -- the digest's length
  pub total : ℕ  -- how many bytes it has taken
  pub blocks : ℕ → ℕ  -- how many compressions its digest takes in all, once so many bytes have followed
  pub digest : List ℕ → List ℕ  -- its digest, once these bytes have followed

-- a stream that has taken nothing yet
abbrev pub fresh : Width → ℕ → List ℕ → View
fresh w d key = record { length = d; total = 0; blocks = blocks w (length key); digest = digest w d key }

-- Begin: 11 where the digest length d is not 1 to the longest; 12 where the key's length k is above that.
abbrev pub begin_rows : Width → ℕ → ℕ → List Row
begin_rows w d k = on (d == 0 || nat_lt (longest w) d) DigestLength 0 ∷ on (nat_lt (longest w) k) KeyLength 0 ∷ []

abbrev pub begin_answer : Width → ℕ → ℕ → Result (Unit {0}) Fault
begin_answer w d k = unless (begin_rows w d k) tt

-- What begin makes; where its check refuses, a stream with digest length 1 and no key.
abbrev pub begun : Width → ℕ → List ℕ → View
begun w d key = cond (is_ok (begin_answer w d (length key))) (fresh w d key) (fresh w 1 [])

-- Add: 13 where n bytes more would pass 2 ^ 40 in all.
abbrev pub add_rows : ℕ → ℕ → List Row
add_rows total n = on (nat_lt (2 ^ 40) (total + n)) StreamLength 0 ∷ []

abbrev pub add_answer : View → ℕ → Result (Unit {0}) Fault
add_answer v n = unless (add_rows v.total n) tt

-- the stream once it has taken a piece: the piece stands before all that follows
abbrev pub taken : View → List ℕ → View
taken v piece = record {
  length = v.length;
  total = v.total + length piece;
  blocks = λ n. v.blocks (length piece + n);
  digest = λ rest. v.digest (piece ++ rest);
}

-- What add leaves; where it is refused, the stream as it was.
abbrev pub added : View → List ℕ → View
added v piece = cond (is_ok (add_answer v (length piece))) (taken v piece) v

-- Finish: 14 where the output's length n is not the digest's.
abbrev pub finish_rows : ℕ → ℕ → List Row
finish_rows d n = on (not (n == d)) DigestBuffer 0 ∷ []

-- It answers how many compressions the digest took.
abbrev pub finish_answer : View → ℕ → Result ℕ Fault
finish_answer v n = unless (finish_rows v.length n) (v.blocks 0)

-- The output after finish: the digest of all that went in; where it is refused, the output as it was.
abbrev pub finished : View → List ℕ → List ℕ
finished v out = cond (is_ok (finish_answer v (length out))) (v.digest []) out

-- What adding pieces one after another leaves.
abbrev pub added_all : View → List (List ℕ) → View
added_all v [] = v
added_all v (piece ∷ pieces) = added_all (added v piece) pieces

-- Begin, one add and finish in one call: d bytes of digest, a key of k bytes, n bytes of input and m bytes of output.
abbrev pub digest_answer : Width → ℕ → ℕ → ℕ → ℕ → Result ℕ Fault
digest_answer w d k n m = unless (begin_rows w d k ++ (add_rows 0 n ++ finish_rows d m)) (blocks w k n)

abbrev pub digest_out : Width → ℕ → List ℕ → List ℕ → List ℕ → List ℕ
digest_out w d key input out =
    cond (is_ok (digest_answer w d (length key) (length input) (length out))) (digest w d key input) out
