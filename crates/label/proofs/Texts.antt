-- A text that grows line by line.
use Rattle.std.proofs.Common.{◌≡◌, ℕ, List, [], ◌∷◌, ◌++◌, ap, ◌∙◌, append_assoc}
use Rattle.lines.specs.Lines.{line_then}

-- a line that was added, seen together with what comes after it
pub followed : (a name v rest : List ℕ) {b w : List ℕ} → b ≡ a ++ line_then name v [] → v ≡ w → b ++ rest ≡ a ++ line_then name w rest
followed a name v rest e same =
    ap (λ l. l ++ rest) e ∙ append_assoc a (line_then name v []) rest ∙ ap (λ l. a ++ l) (append_assoc name (v ++ (10 ∷ [])) rest ∙ ap (λ l. name ++ l) (append_assoc v (10 ∷ []) rest ∙ ap (λ l. l ++ (10 ∷ rest)) same))
