use Rattle.std.proofs.Common.{refl, arith}
use native.Mathlib.Nat.{sub-zero}
use lib.ListN.{length-replicate}
use Rattle.byte_strings.proofs.Strings.{small-zeros}
use Rattle.byte_strings.proofs.bytes.Bytes.new.Goals as goal

pub invariant_of-result : goal.invariant_of-result
invariant_of-result g c = record {
  size = length-replicate g.row.N 0;
  fits = omega arith;
  tail = rw sub-zero refl;
  small = small-zeros g.row.N;
}
