use native.Mathlib.Nat.{div-div-eq-div-mul}
use Rattle.blake2.specs.Bytes.{pad}
use Rattle.blake2.proofs.word.U32Word.bytes.Goals as goal

pub returns : goal.returns
unfolding pad
returns c = simp (c.to_le_bytes.ensures, div-div-eq-div-mul)
