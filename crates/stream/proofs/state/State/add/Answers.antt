use Rattle.std.proofs.Common.{◌≡◌, ◌%◌, ◌<◌, ◌≤◌, ◌++◌, length, take, ap, ◌∙◌, div-mul-le_self, rules, arith}
use native.Mathlib.Nat.{mod_self}
use Rattle.std.proofs.lemmas.List.{append_assoc, length-append, length-take-le}
use Rattle.blake2.specs.Width.{block_size}
use Rattle.stream.specs.Hash.{ended}
use Rattle.stream.specs.States.{meaning}
use Rattle.stream.proofs.Chains.{whole_blocks}
use Rattle.stream.proofs.Memory.{chain_fits}
use Rattle.stream.proofs.Words.{parts}
use Rattle.stream.proofs.state.State.add.Goals as goal

pub returns-then-piece-room-clause-means : goal.returns-then-piece-room-clause-means
unfolding meaning
returns-then-piece-room-clause-means g c = λ node rest. rw (c.fill.ensures.chain, c.fill.ensures.waits, append_assoc)

pub absorb-requires : goal.absorb-requires
absorb-requires g c =
    let small = g.met.W.Word.sizes.3 in
    let b = block_size g.W.Word.width in
    let size = c.block_bytes-size in
    let s = c.args.self.now in
    let front = c.split_at.result.0.now in
    let filled = c.fill-2.ensures in
    let within : s.filled ≤ length s.wait = search rules in
    let full : length (take size.result c.fill-2.new.self.wait) ≡ b =
    ap (λ n. length (take n c.fill-2.new.self.wait)) (omega (arith, filled.filled)) ∙ ap length filled.waits
    ∙ length-append (take s.filled s.wait) front ∙ omega (arith, length-take-le s.filled s.wait within) in
    (chain_fits _ _ small.1 small.0, (ap (λ n. n % b) full ∙ mod_self b, omega arith))

pub absorb-requires-2 : goal.absorb-requires-2
absorb-requires-2 g c =
    let small = g.met.W.Word.sizes.3 in
    let b = block_size g.W.Word.width in
    let whole = whole_blocks _ b _ _ c.block_bytes-size.ensures.size c.split_at-2.ensures.front_len in
    (chain_fits _ _ small.1 small.0, (whole, omega arith))

pub returns-clause-means : goal.returns-clause-means
unfolding meaning
returns-clause-means g c = λ node rest.
    let w = g.W.Word.width in
    let s = c.args.self.now in
    let front = c.split_at.result.0.now in
    let more = c.split_at.result.1.now in
    let whole = c.split_at-2.result.0.now in
    let last = c.split_at-2.result.1.now in
    let full = c.fill-2.new.self in
    let size = c.block_bytes-size.result in
    let some : 0 < length last = omega (arith, div-mul-le_self) in
    let behind : 0 < length (last ++ rest) = omega (arith, length-append last rest) in
    let after : 0 < length (whole ++ (last ++ rest)) = omega (arith, length-append whole (last ++ rest)) in
    let fills : take size full.wait ≡ take s.filled s.wait ++ front = ap (λ n. take n full.wait) (omega (arith, c.fill-2.ensures.filled)) ∙ c.fill-2.ensures.waits in
    ap (λ chain. ended w node chain.t (take c.fill-3.new.self.filled c.fill-3.new.self.wait ++ rest) chain.h) c.fill-3.ensures.chain
    ∙ ap (λ xs. ended w node c.absorb-2.new.self.t (xs ++ rest) c.absorb-2.new.self.h) c.fill-3.ensures.waits
    ∙ c.absorb-2.ensures.means node (last ++ rest) behind
    ∙ c.absorb.ensures.means node (whole ++ (last ++ rest)) after
    ∙ ap (λ chain. ended w node chain.t (take size full.wait ++ (whole ++ (last ++ rest))) chain.h) c.fill-2.ensures.chain
    ∙ ap (λ xs. ended w node s.chain.t (xs ++ (whole ++ (last ++ rest))) s.chain.h) fills
    ∙ ap (λ xs. ended w node s.chain.t xs s.chain.h)
    (parts (take s.filled s.wait) c.args.piece.now front more whole last rest c.split_at.ensures.by_index.0 c.split_at-2.ensures.by_index.0)
