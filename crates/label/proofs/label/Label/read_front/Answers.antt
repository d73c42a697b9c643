use Rattle.std.proofs.Common.{◌≡◌, ◌-◌, length, Ok, Err, sym, ap, ◌∙◌, arith}
use Rattle.std.proofs.lemmas.Result.{err_from_is_err_and}
use Rattle.label.specs.Labels.{front_answer}
use Rattle.label.specs.Meaning.{parts}
use Rattle.label.proofs.Fronts.{front_stops, front_reads, rest_shorter}
use Rattle.label.proofs.Inverse.{front_inverse}
use Rattle.label.proofs.label.Label.read_front.Goals as goal

pub returns-in_err-label : goal.returns-in_err-label
returns-in_err-label c =
    let s = c.args.text.now in
    let p = err_from_is_err_and c.from_residual.result c.from_residual.ensures.1 in
    let a = front_stops s (rw c.new-lines.ensures at c.in_err-label.ensures.answer) in
    rw (p.1, p.2) (record { answer = a; reads_what_is_written = front_inverse (Err _) s a })

pub overflow_sub-result : goal.overflow_sub-result
overflow_sub-result c =
    let nine = rw c.new-lines.ensures at c.in_ok-label.ensures.answer in
    omega (arith, c.bytes_left.ensures, rest_shorter c.args.text.now nine)

pub returns : goal.returns
returns c =
    let s = c.args.text.now in
    let nine = rw c.new-lines.ensures at c.in_ok-label.ensures.answer in
    let a : front_answer s ≡ Ok (parts c.in_ok-label.label, length s - c.bytes_left.result) =
    front_reads s nine ∙ ap (λ n. Ok (parts c.in_ok-label.label, length s - n)) (sym c.bytes_left.ensures) in
    record { answer = a; reads_what_is_written = front_inverse (Ok (c.in_ok-label.label, length s - c.bytes_left.result)) s a }
