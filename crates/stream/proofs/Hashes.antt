-- A hash under any parameter block: which rows refuse, and what the state has taken at the end.
use Rattle.std.proofs.Common.{◌≡◌, ℕ, ◌+◌, ◌^◌, ◌<◌, ◌≤◌, Bool, true, false, cond, ◌||◌, eqb, ltb, List, length, is_ok, Ok, Err, Result, sym, refl, ap, ◌∙◌, arith}
use Rattle.std.proofs.lemmas.Bool.{or_parts, ltb-false, lt-ltb, le-ltb, ne_eqb}
use Rattle.blake2.specs.Width.{Width, longest}
use Rattle.fault.proofs.Rows.{rows_stop, rows_pass}
use Rattle.fault.specs.Faults.{fault}
use Rattle.fault.specs.declared.fault.Fault.{Fault}
use Rattle.fault.specs.declared.refusal.Refusal.TheVariants.{DigestLength, KeyLength, StreamLength}
use Rattle.stream.specs.Hash.{blocks, hash}
use Rattle.stream.specs.Hashes.{hash_answer, hash_out}
use Rattle.stream.specs.Streams.{begin_rows, begin_answer, add_rows}

-- a digest length and a key that pass the check are not too long
pub begin_tells : (w : Width) (d k : ℕ) → begin_answer w d k ≡ Ok tt → (d ≤ longest w) × (k ≤ longest w)
begin_tells w d k ok = by (eqb d 0 || ltb (longest w) d) (ltb (longest w) k) refl refl ok
  where
    by : (a b : Bool) → (eqb d 0 || ltb (longest w) d) ≡ a → ltb (longest w) k ≡ b
        → ◌≡◌ {A = Result (Unit {0}) Fault} (cond a (Err (fault DigestLength 0)) (cond b (Err (fault KeyLength 0)) (Ok tt))) (Ok tt) → (d ≤ longest w) × (k ≤ longest w)
    by true b e f h = let z : ◌≡◌ {A = ℕ} 0 1 = cc in absurd (omega arith)
    by false true e f h = let z : ◌≡◌ {A = ℕ} 0 1 = cc in absurd (omega arith)
    by false false e f h = (ltb-false (longest w) d (or_parts (eqb d 0) (ltb (longest w) d) e).1, ltb-false (longest w) k f)

pub begin_accepts : (w : Width) (d k : ℕ) → 1 ≤ d → d ≤ longest w → k ≤ longest w → begin_answer w d k ≡ Ok tt
begin_accepts w d k some short small =
    let zero : eqb d 0 ≡ false = ne_eqb d 0 (λ e. omega arith) in
    rw (zero, le-ltb (longest w) d short, le-ltb (longest w) k small)

module _ (w : Width) (k n m : ℕ) where
  pub begin_refuses : (e : Fault) → begin_answer w m k ≡ Err e → hash_answer w k n m ≡ Err e
  begin_refuses e no-begin = rows_stop (begin_rows w m k) (add_rows 0 n) (blocks w k n) e no-begin

  by_length : (late : Bool) → begin_answer w m k ≡ Ok tt → ltb (2 ^ 40) (0 + n) ≡ late → hash_answer w k n m ≡ cond late (Err (fault StreamLength 0)) (Ok (blocks w k n))
  by_length late ok e =
      rows_pass (begin_rows w m k) (add_rows 0 n) (blocks w k n) ok ∙ ap (λ (b : Bool). cond b (Err (fault StreamLength 0)) (Ok (blocks w k n))) e

  pub length_refuses : begin_answer w m k ≡ Ok tt → 2 ^ 40 < n → hash_answer w k n m ≡ Err (fault StreamLength 0)
  length_refuses ok long = by_length true ok (lt-ltb (2 ^ 40) (0 + n) (omega arith))

  pub hash-accepted : begin_answer w m k ≡ Ok tt → n ≤ 2 ^ 40 → hash_answer w k n m ≡ Ok (blocks w k n)
  hash-accepted ok short = by_length false ok (le-ltb (2 ^ 40) (0 + n) (omega arith))

module _ (w : Width) (node : Bool) (p key input out : List ℕ) where
  pub hash_kept : (e : Fault) → hash_answer w (length key) (length input) (length out) ≡ Err e → out ≡ hash_out w node p key input out
  hash_kept e refused = sym (ap (λ (answer : Result ℕ Fault). cond (is_ok answer) (hash w (length out) node p key input) out) refused)

  pub hash-written : (n : ℕ) → hash_answer w (length key) (length input) (length out) ≡ Ok n → hash_out w node p key input out ≡ hash w (length out) node p key input
  hash-written n accepted = ap (λ (answer : Result ℕ Fault). cond (is_ok answer) (hash w (length out) node p key input) out) accepted
