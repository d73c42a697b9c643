use Rattle.std.proofs.Common.{◌≡◌, [], get_or}
use Rattle.blake2.specs.Compression.{repeat, round, feed}
use Rattle.blake2.specs.Schedule.{sigma}
use Rattle.blake2.proofs.compression.Words+W+8.compress.Given as goal

abbrev pub invariant-loop-entries : goal.invariant-loop-entries
invariant-loop-entries g l = l.v ≡ repeat l.entries-index (λ i. round g.W.Word.width l.m (get_or sigma i [])) l.initial.v

abbrev pub invariant-loop-i : goal.invariant-loop-i
invariant-loop-i g l = l.self ≡ repeat l.i (feed l.v) l.initial.self
