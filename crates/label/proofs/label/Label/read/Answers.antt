use Rattle.std.proofs.Common.{Ok, Err, sym}
use Rattle.std.proofs.lemmas.Result.{err_from_is_err_and}
use Rattle.label.proofs.Inverse.{read_stops, read_on, read_inverse}
use Rattle.label.proofs.label.Label.read.Goals as goal

pub returns-in_err-label : goal.returns-in_err-label
returns-in_err-label c =
    let s = c.args.text.now in
    let p = err_from_is_err_and c.from_residual.result c.from_residual.ensures.1 in
    let a = sym (read_stops s (rw c.new-lines.ensures at c.in_err-label.ensures.answer)) in
    rw (p.1, p.2) (record { answer = a; reads_what_is_written = read_inverse (Err _) s a })

pub returns-in_err-end : goal.returns-in_err-end
returns-in_err-end c =
    let s = c.args.text.now in
    let p = err_from_is_err_and c.from_residual-in_err-end.result c.from_residual-in_err-end.ensures.1 in
    let nine = rw c.new-lines.ensures at c.in_ok-label.ensures.answer in
    let a = sym (read_on s c.nine_lines.new.lines.taken nine c.in_ok-label.ensures.taken c.in_err-end.ensures) in
    rw (p.1, p.2) (record { answer = a; reads_what_is_written = read_inverse (Err _) s a })

pub returns : goal.returns
returns c =
    let s = c.args.text.now in
    let nine = rw c.new-lines.ensures at c.in_ok-label.ensures.answer in
    let a = sym (read_on s c.nine_lines.new.lines.taken nine c.in_ok-label.ensures.taken c.in_ok-end.ensures) in
    record { answer = a; reads_what_is_written = read_inverse (Ok c.in_ok-label.label) s a }
