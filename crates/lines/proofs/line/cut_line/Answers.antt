use Rattle.std.proofs.Common.{sym, ◌∙◌, add-one}
use Rattle.std.proofs.lemmas.List.{take_rest}
use Rattle.lines.proofs.Cuts.{cut_at, cut_none}
use Rattle.lines.proofs.line.cut_line.Goals as goal

pub returns-in_err-at : goal.returns-in_err-at
returns-in_err-at c = rw c.from_residual.ensures (sym (cut_none c.args.text.now (sym c.line_feed.ensures ∙ c.in_err-at.was)))

pub returns : goal.returns
returns c = simp (take_rest, add-one) (sym (cut_at c.args.text.now c.in_ok-at.at (sym c.line_feed.ensures ∙ c.in_ok-at.was)))
