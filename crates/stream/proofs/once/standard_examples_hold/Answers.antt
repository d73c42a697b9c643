use Rattle.std.proofs.Common.{refl}
use Rattle.blake2.specs.Bytes.{pad, word_at, words_of, bytes_of}
use Rattle.blake2.specs.Compression.{rotr, add, turn, mix, round, repeat, xor_at, start, feed, compress}
use Rattle.stream.specs.Hash.{chain, ended, initial, hash, digest}
use Rattle.stream.proofs.once.standard_examples_hold.Goals as goal

pub returns : goal.returns
unfolding rotr add turn mix round repeat xor_at start feed compress pad word_at words_of bytes_of chain ended initial hash digest
returns c = record { b = refl; s = refl }
