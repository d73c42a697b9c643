use Rattle.std.proofs.Common.{◌≡◌, ℕ, ◌+◌, ◌%◌, ◌<◌, Bool, List, ◌++◌, length}
use Rattle.std.specs.Slice.Iter.{chunks_exact_rest, chunks_exact_size}
use Rattle.blake2.specs.Width.{block_size}
use Rattle.stream.specs.Hash.{ended}
use Rattle.stream.proofs.chain.Chain.absorb.Given as goal

-- what is left are whole blocks, and once they have gone in all is as after all the bytes
abbrev pub invariant-loop-block : goal.invariant-loop-block
invariant-loop-block g l =
    let w = g.W.Word.width in
    let left = chunks_exact_rest l.block-iterator in
    record {
      can : (goal.iterator-loop-block g).can_next l.block-iterator;
      ends : (goal.iterator-loop-block g).is_finite l.block-iterator;
      size : chunks_exact_size l.block-iterator ≡ block_size w;
      whole : length left % block_size w ≡ 0;
      count : l.self.t + length left ≡ l.initial.self.t + length l.bytes;
      means : (node : Bool) (rest : List ℕ) → 0 < length rest → ended w node l.self.t (left ++ rest) l.self.h ≡ ended w node l.initial.self.t (l.bytes ++ rest) l.initial.self.h;
    }
