use Rattle.std.proofs.Common.{Some, None, sym, ap, ◌∙◌}
use Rattle.std.proofs.lemmas.Slice.Eq.{strip_prefix_is}
use Rattle.std.specs.Cmp.{unsigned_Decides}
use Rattle.lines.specs.Lines.{cut_after}
use Rattle.lines.proofs.Cuts.{after_some, after_none}
use Rattle.lines.proofs.line.first_line.Goals as goal

pub returns-in_err-strip_prefix : goal.returns-in_err-strip_prefix
returns-in_err-strip_prefix c =
    let e = strip_prefix_is unsigned_Decides c.args.text.now c.args.name.now None c.in_err-strip_prefix.ensures.cases in
    rw c.from_residual.ensures (sym (ap cut_after (after_none c.args.name.now c.args.text.now e)))

pub returns : goal.returns
returns c =
    let rest = c.in_ok-strip_prefix.field-0 in
    let e = strip_prefix_is unsigned_Decides c.args.text.now c.args.name.now (Some rest) c.in_ok-strip_prefix.ensures.cases in
    c.cut_line.ensures ∙ sym (ap cut_after (after_some c.args.name.now c.args.text.now rest.now e))
