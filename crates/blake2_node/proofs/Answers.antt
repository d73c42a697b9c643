-- What a node hash that fits answers and writes, from what the hash of its input does.
use Rattle.std.proofs.Common.{◌≡◌, ℕ, ◌*◌, ◌≤◌, Bool, true, cond, eqb, List, [], length, replicate, is_ok, Ok, Option, Result, sym, ap, ◌∙◌, arith}
use Rattle.std.proofs.lemmas.Bool.{cond_both, eq-eqb, le-ltb}
use Rattle.blake2.specs.Width.{Width, width_of}
use Rattle.fault.specs.declared.fault.Fault.{Fault}
use Rattle.label.specs.Meaning.{parts}
use Rattle.label.specs.declared.label.Label.{Label}
use Rattle.nodehash.specs.Answers.{hash_answer, hash_out}
use Rattle.nodehash.specs.declared.position.Position.{Position}
use Rattle.stream.specs.Hash.{blocks, hash}
use Rattle.stream.specs.Hashes as stream
use Rattle.stream.proofs.Hashes.{begin_accepts, hash-accepted, hash-written}
use Rattle.blake2_node.specs.Meaning.{hashing}
use Rattle.blake2_node.specs.Nodes.{fits, key_at, key_bytes, node_digest, node_blocks, blocks_of, digest_of}
use Rattle.blake2_node.specs.Parameters.{parameter_block}
use Rattle.blake2_node.specs.Sound.{fits_tells}

module _ (w : Width) (l : Label) (key : Option (List ℕ)) (position : Position) (last : Bool) (input out p k : List ℕ) (block : p ≡ parameter_block (parts l) position)
    (keyed : k ≡ key_at (key_bytes key) position.depth) (short : length input ≤ 4096) (long : length out ≡ l.digest) (fit : true ≡ fits w (parts l) key) where
  -- lengths that are right are not refused
  passed : hash_answer (hashing w l key) position (length input) (length out) ≡ Ok (blocks_of w (parts l) key position.depth (length input))
  passed = rw (le-ltb 4096 (length input) short, eq-eqb (length out) l.digest long)

  tells : (w.size ≡ (width_of l.variant).size) × (length (key_bytes key) ≡ l.key)
  tells = fits_tells w (parts l) key (sym fit)

  key_short : length k ≤ 8 * w.size
  key_short =
      rw keyed
      (cond_both (eqb position.depth 0) (key_bytes key) [] (λ k. length k ≤ 8 * w.size) (λ _. omega (arith, tells, l.key_high)) (λ _. omega arith))

  streamed : stream.hash_answer w (length k) (length input) (length out) ≡ Ok (blocks w (length k) (length input))
  streamed =
      hash-accepted w (length k) (length input) (length out)
      (begin_accepts w (length out) (length k) (omega (arith, l.digest_low)) (omega (arith, tells, l.digest_high)) key_short) (omega arith)

  pub answered : stream.hash_answer w (length k) (length input) (length out) ≡ hash_answer (hashing w l key) position (length input) (length out)
  answered =
      streamed ∙ ap (λ k. Ok (blocks w (length k) (length input))) keyed
      ∙ ap (λ (b : Bool). Ok (cond b (node_blocks w (key_bytes key) position.depth (length input)) 0)) fit ∙ sym passed

  pub written : stream.hash_out w last p k input out ≡ hash_out (hashing w l key) position last input out
  unfolding node_digest
  written =
      hash-written w last p k input out _ streamed
      ∙ (λ i. hash w (long i) last (block i) (keyed i) input)
      ∙ ap (λ (b : Bool). cond b (node_digest w (parts l) (key_bytes key) position last input) (replicate l.digest 0)) fit
      ∙ sym (ap (λ (answer : Result ℕ Fault). cond (is_ok answer) (digest_of w (parts l) key position last input) out) passed)
