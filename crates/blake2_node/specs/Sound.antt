-- What every node hash owes, of those by BLAKE2. These lemmas stand here and not in proofs/, since the meaning of a node hash holds them.
use Rattle.std.specs.Prelude.{◌≡◌, ℕ, ◌+◌, ◌-◌, ◌/◌, ◌≤◌, Bool, true, List, length, replicate, Some, None, Option, ◌==◌}
use Rattle.std.proofs.Common.{arith}
use Rattle.std.proofs.lemmas.List.{length-replicate}
use Rattle.std.proofs.lemmas.Bool.{and_parts, eqb-true, cond_both}
use Rattle.blake2.specs.Width.{Width, width_of, longest}
use Rattle.blake2.specs.declared.variant.Variant.{Variant}
use Rattle.blake2.specs.declared.variant.Variant.TheVariants.{B, S}
use Rattle.label.specs.Labels.{Parts}
use Rattle.label.specs.Meaning.{parts}
use Rattle.label.specs.declared.label.Label.{Label}
use Rattle.nodehash.specs.declared.position.Position.{Position}
use Rattle.stream.specs.Hash.{blocks}
use Rattle.stream.specs.Sound.{length-hash}
use Rattle.blake2_node.specs.Nodes.{fits, node_digest, node_blocks, digest_of, blocks_of, key_bytes}

-- a node hash that fits has words of its label's variant, and a key as long as the label says
pub fits_tells : (w : Width) (p : Parts) (key : Option (List ℕ)) → fits w p key ≡ true → (w.size ≡ (width_of p.variant).size) × (length (key_bytes key) ≡ p.key)
fits_tells w p None h = (cc, cc)
fits_tells w p (Some key) h =
    let both = and_parts (w.size == (width_of p.variant).size) (length key == p.key) h in
    (eqb-true w.size (width_of p.variant).size both.0, eqb-true (length key) p.key both.1)

pub sized : (w : Width) (l : Label) (key : Option (List ℕ)) (position : Position) (last : Bool) (input : List ℕ) → length (digest_of w (parts l) key position last input) ≡ l.digest
unfolding node_digest
sized w l key position last input =
    cond_both (fits w (parts l) key) (node_digest w (parts l) (key_bytes key) position last input) (replicate l.digest 0) (λ d. length d ≡ l.digest)
    (λ e. length-hash w l.digest last _ _ input (omega (arith, l.digest_high, (fits_tells w (parts l) key e).0)))
    (λ e. length-replicate l.digest 0)

pub short : (l : Label) → l.digest ≤ 64
short l = by l.variant l.digest_high
  where
    by : (v : Variant) → l.digest ≤ longest (width_of v) → l.digest ≤ 64
    by B h = h
    by S h = omega arith

blocks_few : (w : Width) (v : Variant) (k n : ℕ) → w.size ≡ (width_of v).size → n ≤ 4096 → blocks w k n ≤ 65
blocks_few w B k n e few = rw e (cond_both (k == 0) 0 128 (λ b. (b + n - 1) / 128 + 1 ≤ 65) (λ none. omega arith) (λ some. omega arith))
blocks_few w S k n e few = rw e (cond_both (k == 0) 0 64 (λ b. (b + n - 1) / 64 + 1 ≤ 65) (λ none. omega arith) (λ some. omega arith))

pub few : (w : Width) (l : Label) (key : Option (List ℕ)) (depth n : ℕ) → n ≤ 4096 → blocks_of w (parts l) key depth n ≤ 65
few w l key depth n h =
    cond_both (fits w (parts l) key) (node_blocks w (key_bytes key) depth n) 0 (λ b. b ≤ 65)
    (λ e. blocks_few w l.variant _ n (fits_tells w (parts l) key e).0 h)
    (λ e. omega arith)
