-- One line: where its name and its value end.
use Rattle.std.proofs.Common.{◌≡◌, ℕ, zero, suc, ◌+◌, ◌<◌, Bool, true, false, cond, eqb, List, [], ◌∷◌, ◌++◌, length, get_or, take, drop, Some, None, Ok, Err, Option, Result, option_map, sym, refl, ap, ◌∙◌, ⊎_elim, arith, length-append}
use Rattle.std.proofs.lemmas.Bool.{eq-eqb, ne_eqb, eqb-true, eqb-false, cases_eq}
use Rattle.std.proofs.lemmas.Iterator.Adapters.{position_from-zero}
use Rattle.std.proofs.lemmas.List.Quantifiers.{position-Some}
use Rattle.std.specs.Option.{ok_or}
use Rattle.std.specs.List.{AllByRecursion as All, position, position_from}
use Rattle.fault.specs.Faults.{fault}
use Rattle.fault.specs.declared.fault.Fault.{Fault}
use Rattle.fault.specs.declared.refusal.Refusal.TheVariants.{LineForm}
use Rattle.lines.specs.Lines.{line_then, after, ahead, cut, cut_after, formed, valued, Line, then, read_line, Answers}

-- the name, and the line feed

pub cut_at : (s : List ℕ) (n : ℕ) → position (λ b. eqb b 10) s ≡ Some n → cut s ≡ Some (take n s, drop (suc n) s)
cut_at s n e = let p = position-Some (λ b. eqb b 10) s n 0 e in go s n p.0 (eqb-true _ _ p.1) (λ k l. eqb-false _ _ (p.2 k l))
  where
    go : (s : List ℕ) (n : ℕ) → n < length s → get_or s n 0 ≡ 10 → ((k : ℕ) → k < n → get_or s k 0 ≡ 10 → ⊥) → cut s ≡ Some (take n s, drop (suc n) s)
    go [] n lt e b = absurd (omega arith)
    go (c ∷ s) zero lt e b = rw (eq-eqb c 10 e)
    go (c ∷ s) (suc n) lt e b = rw (ne_eqb c 10 (b 0 (omega arith)), go s n (omega arith) e (λ k l. b (suc k) (omega arith)))

pub cut_none : (s : List ℕ) → position (λ b. eqb b 10) s ≡ None → cut s ≡ None
cut_none s e = from 0 s (sym (position_from-zero (λ b. eqb b 10) s) ∙ e)
  where
    from : (i : ℕ) (s : List ℕ) → position_from (λ b. eqb b 10) i s ≡ None → cut s ≡ None
    from i [] h = refl
    from i (c ∷ s) h = go (from (i + 1) s) (eqb c 10) h
      where
        go : (position_from (λ b. eqb b 10) (i + 1) s ≡ None → cut s ≡ None) → (t : Bool) → cond t (Some i) (position_from (λ b. eqb b 10) (i + 1) s) ≡ None → cond t (Some ([], s)) (ahead c (cut s)) ≡ None
        go ih true h = cc
        go ih false h = rw (ih h)

pub after_some : (name s t : List ℕ) → s ≡ name ++ t → after name s ≡ Some t
after_some name s t e = ap (after name) e ∙ go name
  where
    go : (name : List ℕ) → after name (name ++ t) ≡ Some t
    go [] = refl
    go (c ∷ name) = rw (eq-eqb c c refl) (go name)

pub after_none : (name s : List ℕ) → ((rest : List ℕ) → s ≡ name ++ rest → ⊥) → after name s ≡ None
after_none [] s never = absurd (never s refl)
after_none (c ∷ name) [] never = refl
after_none (c ∷ name) (d ∷ s) never =
    ⊎_elim
    (λ e. rw (eq-eqb c d e) (after_none name s (λ rest h. never rest (λ i. sym e i ∷ h i))))
    (λ ne. rw (ne_eqb c d ne))
    (cases_eq c d)

pub valued_some : (n : ℕ) (name s : List ℕ) {p : List ℕ × List ℕ} → cut_after (after name s) ≡ Some p → valued n name s ≡ Ok p
unfolding valued
valued_some n name s e = ap (formed n) e

pub valued_none : (n : ℕ) (name s : List ℕ) → cut_after (after name s) ≡ None → valued n name s ≡ Err (fault LineForm n)
unfolding valued
valued_none n name s e = ap (formed n) e

-- what is made of the name, the value and the rest, where o has these
pub valued_as : {X : Type 0} (o : Option X) (f : X → List ℕ × List ℕ) (n : ℕ) (name s : List ℕ) {r : Result X Fault} → option_map f o ≡ cut_after (after name s) → r ≡ ok_or o (fault LineForm n) → Answers r f (valued n name s)
valued_as None f n name s e h = rw h (valued_none n name s (sym e))
valued_as (Some x) f n name s e h = rw h (valued_some n name s (sym e))

-- from an accepted answer back to what was read

pub never_ok : {A E : Type 0} {x : A} {e : E} → ◌≡◌ {A = Result A E} (Err e) (Ok x) → ⊥
never_ok h = let z : ◌≡◌ {A = ℕ} 0 1 = cc in omega arith

pub never_some : {A : Type 0} {x : A} → None ≡ Some x → ⊥
never_some h = let z : ◌≡◌ {A = ℕ} 0 1 = cc in omega arith

pub then_back : {A C E : Type 0} (m : Result A E) (f : A → Result C E) {y : C} → then m f ≡ Ok y → (x : A) × (m ≡ Ok x) × (f x ≡ Ok y)
then_back (Ok x) f h = (x, refl, h)
then_back (Err e) f h = absurd (never_ok h)

pub formed_back : {A : Type 0} (n : ℕ) (o : Option A) {x : A} → formed n o ≡ Ok x → o ≡ Some x
formed_back n None h = absurd (never_ok h)
formed_back n (Some y) h = cc

after_back : (name s t : List ℕ) → after name s ≡ Some t → s ≡ name ++ t
after_back [] s t h = cc
after_back (c ∷ name) [] t h = absurd (never_some h)
after_back (c ∷ name) (d ∷ s) t h = go (after_back name s t) (eqb c d) refl h
  where
    go : (after name s ≡ Some t → s ≡ name ++ t) → (b : Bool) → eqb c d ≡ b → cond b (after name s) None ≡ Some t → d ∷ s ≡ (c ∷ name) ++ t
    go ih true e i = λ j. sym (eqb-true c d e) j ∷ ih i j
    go ih false e i = absurd (never_some i)

cut_back : (s v rest : List ℕ) → cut s ≡ Some (v, rest) → s ≡ v ++ (10 ∷ rest)
cut_back [] v rest h = absurd (never_some h)
cut_back (c ∷ s) v rest h = go (cut_back s) (eqb c 10) refl h
  where
    tail : (o : Option (List ℕ × List ℕ)) → ((v rest : List ℕ) → o ≡ Some (v, rest) → s ≡ v ++ (10 ∷ rest)) → ahead c o ≡ Some (v, rest) → c ∷ s ≡ v ++ (10 ∷ rest)
    tail None ih i = absurd (never_some i)
    tail (Some p) ih i =
        let q : ◌≡◌ {A = List ℕ × List ℕ} (c ∷ p.0, p.1) (v, rest) = cc in
        ap (λ l. c ∷ l) (ih p.0 p.1 refl) ∙ (λ j. (q j).0 ++ (10 ∷ (q j).1))

    go : ((v rest : List ℕ) → cut s ≡ Some (v, rest) → s ≡ v ++ (10 ∷ rest)) → (b : Bool) → eqb c 10 ≡ b → cond b (Some ([], s)) (ahead c (cut s)) ≡ Some (v, rest) → c ∷ s ≡ v ++ (10 ∷ rest)
    go ih true e i =
        let q : ◌≡◌ {A = List ℕ × List ℕ} ([], s) (v, rest) = cc in
        (λ j. eqb-true c 10 e j ∷ s) ∙ (λ j. (q j).0 ++ (10 ∷ (q j).1))
    go ih false e i = tail (cut s) ih i

valued_back : (n : ℕ) (name s v rest : List ℕ) → valued n name s ≡ Ok (v, rest) → s ≡ line_then name v rest
unfolding valued
valued_back n name s v rest h = go (after name s) refl (formed_back n (cut_after (after name s)) h)
  where
    go : (o : Option (List ℕ)) → after name s ≡ o → cut_after o ≡ Some (v, rest) → s ≡ line_then name v rest
    go None e i = absurd (never_some i)
    go (Some t) e i = after_back name s t e ∙ ap (λ l. name ++ l) (cut_back t v rest i)

pub rest_shorter : (n : ℕ) (name s : List ℕ) {v rest : List ℕ} → valued n name s ≡ Ok (v, rest) → length rest < length s
rest_shorter n name s {v} {rest} e =
    omega (arith, ap length (valued_back n name s v rest e), length-append name (v ++ (10 ∷ rest)), length-append v (10 ∷ rest))

-- an accepted line is its name, a value that is read, and a line feed
pub read_line_back : {A : Type 0} (l : Line A) (s : List ℕ) {x : A} {rest : List ℕ} → read_line l s ≡ Ok (x, rest) → (v : List ℕ) × (s ≡ line_then l.name v rest) × (l.read v ≡ Ok x)
read_line_back {A} l s {x} {rest} h =
    let p = then_back (valued l.number l.name s) (λ p. then (l.read p.0) (λ x. Ok (x, p.1))) h in
    let q = then_back (l.read p.0.0) (λ x. Ok (x, p.0.1)) p.2 in
    let z : ◌≡◌ {A = A × List ℕ} (q.0, p.0.1) (x, rest) = cc q.2 in (
      p.0.0,
      valued_back l.number l.name s p.0.0 p.0.1 p.1 ∙ ap (λ w. line_then l.name p.0.0 w.1) z,
      q.1 ∙ ap (λ w. Ok w.0) z,
    )

-- no byte is a line feed
abbrev pub Clean : List ℕ → Type 0
Clean v = All (λ c. c ≡ 10 → ⊥) v

cut_line : (v rest : List ℕ) → Clean v → cut (v ++ (10 ∷ rest)) ≡ Some (v, rest)
cut_line [] rest h = refl
cut_line (c ∷ v) rest h = rw (ne_eqb c 10 h.0, cut_line v rest h.1)

-- a line with a value that is read is accepted
pub read_line_line : {A : Type 0} (l : Line A) (v rest : List ℕ) {x : A} → Clean v → l.read v ≡ Ok x → read_line l (line_then l.name v rest) ≡ Ok (x, rest)
read_line_line l v rest h e =
    ap (λ m. then m (λ p. then (l.read p.0) (λ x. Ok (x, p.1)))) (valued_some l.number l.name (line_then l.name v rest) (ap cut_after (after_some l.name _ (v ++ (10 ∷ rest)) refl) ∙ cut_line v rest h)) ∙ ap (λ m. then m (λ x. Ok (x, rest))) e
