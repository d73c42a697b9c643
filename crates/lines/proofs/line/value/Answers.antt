use Rattle.std.proofs.Common.{◌∙◌, ap}
use Rattle.std.specs.Option.{ok_or}
use Rattle.lines.proofs.Cuts.{valued_as}
use Rattle.lines.proofs.line.value.Goals as goal

pub returns : goal.returns
returns c =
    valued_as c.first_line.result (λ p. (p.0.now, p.1.now)) c.args.line c.args.name.now c.args.text.now c.first_line.ensures (c.ok_or.ensures.value ∙ ap (ok_or c.first_line.result) c.new.ensures)
