use Rattle.std.proofs.Common.{◌≤◌, ◌++◌, length, take, drop, replicate, sym, ap, ◌∙◌, arith, rules}
use Rattle.std.proofs.lemmas.List.{length-take-le}
use Rattle.blake2.specs.Bytes.{bytes_of}
use Rattle.blake2.specs.Width.{block_size}
use Rattle.stream.specs.States.{meaning}
use Rattle.stream.proofs.Closing.{closed, padded}
use Rattle.stream.proofs.state.State.finish.Goals as goal

pub returns : goal.returns
unfolding meaning
returns g c =
    let s = c.args.self in
    let w = g.W.Word.width in
    let n = s.filled in
    let waits = take n s.wait in
    let b = c.block_bytes.ensures in
    let room = s.room in
    let within : n ≤ length s.wait = search rules in
    let long = sym (length-take-le n s.wait within) in
    let fits = ap (λ xs. take c.block_bytes.result (xs ++ drop n (replicate 128 0))) c.copy_from_slice.ensures.after
    ∙ ap (λ k. take k (waits ++ drop n (replicate 128 0))) b.size
    ∙ padded (block_size w) n 128 waits long (omega arith) (omega arith) in
    c.put.ensures
    ∙ ap (λ h. take (length c.args.out.now) (bytes_of w h))
    (closed w c.args.node s.chain.t n waits _ s.chain.h _ (omega arith) long (omega arith) fits c.compress.ensures.value)
