-- A list of eight is its eight elements, whatever the defaults.
use Rattle.std.proofs.Common.{◌≡◌, List, [], ◌∷◌, ◌++◌, length, get_or, refl, ap, ◌∙◌, arith}

pub eight : {X : Type 0} (p0 p1 p2 p3 p4 p5 p6 p7 : X) (xs : List X) → length xs ≡ 8
    → get_or xs 0 p0 ∷ get_or xs 1 p1 ∷ get_or xs 2 p2 ∷ get_or xs 3 p3 ∷ get_or xs 4 p4 ∷ get_or xs 5 p5 ∷ get_or xs 6 p6 ∷ get_or xs 7 p7 ∷ [] ≡ xs
eight p0 p1 p2 p3 p4 p5 p6 p7 [] q = absurd (omega arith)
eight p0 p1 p2 p3 p4 p5 p6 p7 (a ∷ []) q = absurd (omega arith)
eight p0 p1 p2 p3 p4 p5 p6 p7 (a ∷ b ∷ []) q = absurd (omega arith)
eight p0 p1 p2 p3 p4 p5 p6 p7 (a ∷ b ∷ c ∷ []) q = absurd (omega arith)
eight p0 p1 p2 p3 p4 p5 p6 p7 (a ∷ b ∷ c ∷ d ∷ []) q = absurd (omega arith)
eight p0 p1 p2 p3 p4 p5 p6 p7 (a ∷ b ∷ c ∷ d ∷ e ∷ []) q = absurd (omega arith)
eight p0 p1 p2 p3 p4 p5 p6 p7 (a ∷ b ∷ c ∷ d ∷ e ∷ f ∷ []) q = absurd (omega arith)
eight p0 p1 p2 p3 p4 p5 p6 p7 (a ∷ b ∷ c ∷ d ∷ e ∷ f ∷ g ∷ []) q = absurd (omega arith)
eight p0 p1 p2 p3 p4 p5 p6 p7 (a ∷ b ∷ c ∷ d ∷ e ∷ f ∷ g ∷ h ∷ []) q = refl
eight p0 p1 p2 p3 p4 p5 p6 p7 (a ∷ b ∷ c ∷ d ∷ e ∷ f ∷ g ∷ h ∷ i ∷ rest) q = absurd (omega arith)

pub sixteen : {X : Type 0} (p0 p1 p2 p3 p4 p5 p6 p7 q0 q1 q2 q3 q4 q5 q6 q7 : X) (xs ys : List X) → length xs ≡ 8 → length ys ≡ 8
    → get_or xs 0 p0 ∷ get_or xs 1 p1 ∷ get_or xs 2 p2 ∷ get_or xs 3 p3 ∷ get_or xs 4 p4 ∷ get_or xs 5 p5 ∷ get_or xs 6 p6 ∷ get_or xs 7 p7
    ∷ get_or ys 0 q0 ∷ get_or ys 1 q1 ∷ get_or ys 2 q2 ∷ get_or ys 3 q3 ∷ get_or ys 4 q4 ∷ get_or ys 5 q5 ∷ get_or ys 6 q6 ∷ get_or ys 7 q7 ∷ [] ≡ xs ++ ys
sixteen {X} p0 p1 p2 p3 p4 p5 p6 p7 q0 q1 q2 q3 q4 q5 q6 q7 xs ys a b =
    ap (λ (z : List X). z ++ (get_or ys 0 q0 ∷ get_or ys 1 q1 ∷ get_or ys 2 q2 ∷ get_or ys 3 q3 ∷ get_or ys 4 q4 ∷ get_or ys 5 q5 ∷ get_or ys 6 q6 ∷ get_or ys 7 q7 ∷ [])) (eight p0 p1 p2 p3 p4 p5 p6 p7 xs a) ∙ ap (λ (z : List X). xs ++ z) (eight q0 q1 q2 q3 q4 q5 q6 q7 ys b)
