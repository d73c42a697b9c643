-- An array that a function made, whose words' values are those of a function of the index.
use denote.Param.Members.{Mut, Called}
use Rattle.std.proofs.Common.{◌≡◌, ℕ, zero, suc, ◌+◌, ◌<◌, ◌≤◌, List, map, length, get_or, sym, ap, ◌∙◌, ⊎_elim, arith}
use Rattle.std.specs.Array.{IsFromFnResult, IsFromFnResultFrom}
use Rattle.std.specs.List.{range_with_len}
use Rattle.std.proofs.lemmas.Bool.{cases_eq}
use Rattle.std.proofs.lemmas.List.{length-map, get_or-map}
use Rattle.std.proofs.lemmas.List.FromFn.{fill_by_all}

module _ {F X : Type 0} (g : Mut F (ℕ × Unit {0}) X) (value : X → ℕ) (G : ℕ → ℕ) (same : F → Type 0)
    (call : (f f' : F) (i : ℕ) (y : X) → same f → Called g f (i, tt) y f' → (value y ≡ G i) × same f') where
  made_from : (f : F) (ys : List X) (i n k : ℕ) → same f → IsFromFnResultFrom g f ys i n → i ≤ k → k < i + n → k < length ys → get_or (map value ys) k 0 ≡ G k
  made_from f ys i zero k s r low high inside = absurd (omega arith)
  made_from f ys i (suc n) k s r low high inside =
      let now = call f r.0 i r.1 s r.3 in
      ⊎_elim
      (λ here.
      get_or-map value ys k r.1 0 inside ∙ ap (λ j. value (get_or ys j r.1)) (sym here) ∙ ap value r.2.0 ∙ now.0 ∙ ap G here)
      (λ later. made_from r.0 ys (i + 1) n k now.1 r.4 (omega arith) (omega arith) inside)
      (cases_eq i k)

  -- calls from f on gave words of these values
  pub made : (f : F) (ys : List X) (n : ℕ) → same f → IsFromFnResult g f ys n → map value ys ≡ map G (range_with_len 0 n)
  made f ys n s r =
      fill_by_all G (map value ys) n 0 (length-map ys value ∙ r.long) (λ k l. made_from f ys 0 n k s r.each (omega arith) (omega arith) (omega (arith, r.long)))
