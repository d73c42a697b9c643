use Rattle.std.proofs.Common.{◌∙◌}
use native.Mathlib.Nat.{div-div-eq-div-mul}
use Rattle.blake2.specs.Bytes.{pad}
use Rattle.blake2.proofs.word.U64Word.bytes.Goals as goal

pub returns : goal.returns
unfolding pad
returns c = c.to_le_bytes.ensures ∙ simp div-div-eq-div-mul
