-- A stream as its callers see it.
use Rattle.std.specs.Prelude.{◌+◌, false, take}
use Rattle.blake2.specs.Bytes.{bytes_of}
use Rattle.stream.specs.Hash.{before}
use Rattle.stream.specs.States.{count, meaning}
use Rattle.stream.specs.Streams.{View}
use Rattle.stream.specs.declared.stream.Stream.{Stream}

abbrev pub view_of : {X W V : _} → Stream X W V → View
view_of {X} {W} s = record {
  length = s.digest_len;
  total = s.total;
  blocks = λ n. before W.width (count s.state + n) + 1;
  digest = λ rest. take s.digest_len (bytes_of W.width (meaning s.state false rest));
}
