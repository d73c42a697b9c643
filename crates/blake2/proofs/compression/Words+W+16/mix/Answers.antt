use Rattle.std.proofs.Common.{ℕ, List, get_or, ap, ◌∙◌}
use Rattle.blake2.specs.Compression.{mix}
use Rattle.blake2.proofs.compression.Words+W+16.mix.Goals as goal

pub returns : goal.returns
unfolding mix
returns g c =
    let rotations = c.ROTATIONS.ensures ∙ g.met.W.Word.rotations_are in
    let zero = ap g.W.Word.value c.ZERO.ensures ∙ g.met.W.Word.zero_is in
    let again = ap g.W.Word.value c.ZERO-2.ensures ∙ g.met.W.Word.zero_is in
    let r1 = ap (λ (xs : List ℕ). get_or xs 0 0) rotations in
    let r2 = ap (λ (xs : List ℕ). get_or xs 1 0) rotations in
    let r3 = ap (λ (xs : List ℕ). get_or xs 2 0) rotations in
    let r4 = ap (λ (xs : List ℕ). get_or xs 3 0) rotations in
    cc
