-- The nine lines at the front of a text.
use Rattle.std.proofs.Common.{◌≡◌, ℕ, ◌-◌, ◌≤◌, List, ◌++◌, length, Ok, Err, sym, ap, ◌∙◌, arith, length-append}
use Rattle.fault.specs.declared.fault.Fault.{Fault}
use Rattle.lines.proofs.Cuts.{then_back}
use Rattle.lines.proofs.Formats.{read_with, as_steps, read_is_written, written_is_read, write_lines_append}
use Rattle.lines.specs.Formats.{read_lines}
use Rattle.lines.specs.Lines.{then}
use Rattle.label.specs.declared.label.Label.{Label}
use Rattle.label.specs.Labels.{Parts, label_format, values_of, parts_of, text, label_lines, front_answer}
use Rattle.label.specs.Meaning.{parts}
use Rattle.label.proofs.Lawful.{label_faithful, label_has}

-- the reading, as nested steps
pub first : (s : List ℕ) → label_lines s ≡ read_with label_format (λ v rest. Ok (parts_of v, rest)) s
first s = as_steps label_format (λ q. Ok (parts_of q.0, q.1)) s

pub front_stops : (s : List ℕ) {e : Fault} → label_lines s ≡ Err e → front_answer s ≡ Err e
front_stops s h = ap (λ m. then m (λ p. Ok (p.0, length s - length p.1))) h

pub front_reads : (s : List ℕ) {p : Parts} {rest : List ℕ} → label_lines s ≡ Ok (p, rest) → front_answer s ≡ Ok (p, length s - length rest)
front_reads s h = ap (λ m. then m (λ p. Ok (p.0, length s - length p.1))) h

-- nine accepted lines are the text of what they say
pub lines_are_text : (s : List ℕ) {p : Parts} {rest : List ℕ} → label_lines s ≡ Ok (p, rest) → s ≡ text p ++ rest
unfolding text
lines_are_text s {p} {rest} h =
    let a = then_back (read_lines label_format s) (λ q. Ok (parts_of q.0, q.1)) h in
    let z : ◌≡◌ {A = Parts × List ℕ} (parts_of a.0.0, a.0.1) (p, rest) = cc a.2 in
    read_is_written label_format label_faithful s a.0.0 a.0.1 a.1 ∙ write_lines_append label_format a.0.0 a.0.1 ∙ ap (λ q. text q.0 ++ q.1) z

pub text_is_lines : (l : Label) (rest : List ℕ) → label_lines (text (parts l) ++ rest) ≡ Ok (parts l, rest)
unfolding text
text_is_lines l rest =
    let v = values_of (parts l) in
    ap label_lines (sym (write_lines_append label_format v rest)) ∙ ap (λ m. then m (λ q. Ok (parts_of q.0, q.1))) (written_is_read label_format v rest (label_has l))

-- what follows is a part of the text
pub rest_shorter : (s : List ℕ) {p : Parts} {rest : List ℕ} → label_lines s ≡ Ok (p, rest) → length rest ≤ length s
rest_shorter s {p} {rest} h = omega (arith, ap length (lines_are_text s h), length-append (text p) rest)
