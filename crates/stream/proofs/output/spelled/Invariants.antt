use Rattle.std.proofs.Common.{◌≡◌, take}
use Rattle.blake2.specs.Bytes.{bytes_of}
use Rattle.stream.proofs.output.spelled.Given as goal

abbrev pub invariant-loop-word : goal.invariant-loop-word
invariant-loop-word g l = l.all.items ≡ bytes_of g.W.Word.width (take l.word-index l.h)
