-- Formats: lines that are read one after another, and that reading and writing a format are inverse to each other.
use Rattle.std.proofs.Common.{◌≡◌, ℕ, List, [], ◌++◌, Ok, Err, Result, sym, refl, ap, ◌∙◌, append_assoc}
use Rattle.fault.specs.declared.fault.Fault.{Fault}
use Rattle.lines.specs.Formats.{Format, end, line, Values, write_lines, read_lines}
use Rattle.lines.specs.Lines.{line_then, then, read_line}
use Rattle.lines.proofs.Cuts.{then_back, read_line_back, read_line_line}
use Rattle.lines.proofs.Codecs.{Faithful, Has}

-- Reading a format and going on with its values, as nested steps: what a function that reads line after line does.
abbrev pub read_with : {C : Type 0} (f : Format) → (Values f → List ℕ → Result C Fault) → List ℕ → Result C Fault
read_with end done s = done tt s
read_with (line l next) done s = then (read_line l s) (λ p. read_with (next p.0) (λ v rest. done (p.0, v) rest) p.1)

pub as_steps : {C : Type 0} (f : Format) (done : Values f × List ℕ → Result C Fault) (s : List ℕ) → then (read_lines f s) done ≡ read_with f (λ v rest. done (v, rest)) s
unfolding read_lines
as_steps end done s = refl
as_steps {C} (line {A} l next) done s = go (λ p. as_steps (next p.0) (λ q. done ((p.0, q.0), q.1)) p.1) (read_line l s)
  where
    regroup : {B D : Type 0} (m : Result B Fault) (g : B → D) (h : D → Result C Fault) → then (then m (λ x. Ok (g x))) h ≡ then m (λ x. h (g x))
    regroup (Ok x) g h = refl
    regroup (Err e) g h = refl

    go : ((p : A × List ℕ) → then (read_lines (next p.0) p.1) (λ q. done ((p.0, q.0), q.1)) ≡ read_with (next p.0) (λ v rest. done ((p.0, v), rest)) p.1) → (m : Result (A × List ℕ) Fault) → then (then m (λ p. then (read_lines (next p.0) p.1) (λ q. Ok ((p.0, q.0), q.1)))) done ≡ then m (λ p. read_with (next p.0) (λ v rest. done ((p.0, v), rest)) p.1)
    go ih (Ok p) = regroup (read_lines (next p.0) p.1) (λ q. ((p.0, q.0), q.1)) done ∙ ih p
    go ih (Err e) = refl

-- every line of the format is faithful
abbrev pub AllFaithful : Format → Type 0
AllFaithful end = Unit {0}
AllFaithful (line {A} l next) = Faithful l × ((x : A) → AllFaithful (next x))

-- every line has its value
abbrev pub AllHave : (f : Format) → Values f → Type 0
AllHave end v = Unit {0}
AllHave (line l next) v = Has l v.0 × AllHave (next v.0) v.1

-- an accepted text is the one that is written of its values
pub read_is_written : (f : Format) → AllFaithful f → (s : List ℕ) (v : Values f) (rest : List ℕ) → read_lines f s ≡ Ok (v, rest) → s ≡ write_lines f v rest
unfolding read_lines
read_is_written end w s v rest h = let z : ◌≡◌ {A = Unit {0} × List ℕ} (tt, s) (v, rest) = cc in ap (λ p. p.1) z
read_is_written (line {A} l next) w s v rest h =
    let a = then_back (read_line l s) (λ p. then (read_lines (next p.0) p.1) (λ q. Ok ((p.0, q.0), q.1))) h in
    let b = then_back (read_lines (next a.0.0) a.0.1) (λ q. Ok ((a.0.0, q.0), q.1)) a.2 in
    let z : ◌≡◌ {A = Values (line l next) × List ℕ} ((a.0.0, b.0.0), b.0.1) (v, rest) = cc b.2 in
    let c = read_line_back l s a.1 in
    c.1 ∙ (λ j. line_then l.name (w.0 c.0 a.0.0 c.2 j) (read_is_written (next a.0.0) (w.1 a.0.0) a.0.1 b.0.0 b.0.1 b.1 j)) ∙ ap (λ p. write_lines (line l next) p.0 p.1) z

-- what is written of values that the lines have is read as these
pub written_is_read : (f : Format) (v : Values f) (rest : List ℕ) → AllHave f v → read_lines f (write_lines f v rest) ≡ Ok (v, rest)
unfolding read_lines
written_is_read end v rest h = refl
written_is_read (line l next) v rest h =
    ap (λ m. then m (λ p. then (read_lines (next p.0) p.1) (λ q. Ok ((p.0, q.0), q.1)))) (read_line_line l (l.write v.0) (write_lines (next v.0) v.1 rest) h.0.0 h.0.1) ∙ ap (λ m. then m (λ q. Ok ((v.0, q.0), q.1))) (written_is_read (next v.0) v.1 rest h.1)

-- what follows the lines of a text
pub write_lines_append : (f : Format) (v : Values f) (rest : List ℕ) → write_lines f v rest ≡ write_lines f v [] ++ rest
write_lines_append end v rest = refl
write_lines_append (line l next) v rest =
    ap (λ t. line_then l.name (l.write v.0) t) (write_lines_append (next v.0) v.1 rest) ∙ sym (append_assoc l.name _ rest ∙ ap (λ t. l.name ++ t) (append_assoc (l.write v.0) _ rest))
