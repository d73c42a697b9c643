use Rattle.std.proofs.Common.{◌≡◌, ◌+◌, ◌*◌, [], length}
use Rattle.byte_strings.specs.Hexadecimal.{unhex}
use Rattle.byte_strings.specs.Strings.{listed}
use Rattle.byte_strings.proofs.bytes.Bytes.from_hex.Given as goal

abbrev pub invariant-loop-pair : goal.invariant-loop-pair
invariant-loop-pair g l = record {
  size : l.pair-iterator.size ≡ 2;
  left : 2 * l.bytes.len + length l.pair-iterator.rest.now ≡ length l.digits;
  read : unhex (listed l.bytes) l.pair-iterator.rest.now ≡ unhex [] l.digits;
}
