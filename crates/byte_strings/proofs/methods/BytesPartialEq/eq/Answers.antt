use Rattle.std.proofs.Common.{sym, ap, ◌∙◌}
use Rattle.std.specs.Cmp.Lexicographic.{bytes_decides}
use Rattle.byte_strings.specs.Strings.{listed}
use Rattle.byte_strings.proofs.Strings.{one_string}
use Rattle.byte_strings.proofs.methods.BytesPartialEq.eq.Goals as goal

pub returns-clause-same : goal.returns-clause-same
returns-clause-same g c =
    let d = bytes_decides c.as_slice.result.now c.as_slice-2.result.now in (
      λ t. one_string c.args.self.now c.args.other.now (sym c.as_slice.ensures.bytes ∙ d.0 (sym c.eq.ensures ∙ t) ∙ c.as_slice-2.ensures.bytes),
      λ e. c.eq.ensures ∙ d.1 (c.as_slice.ensures.bytes ∙ ap listed e ∙ sym c.as_slice-2.ensures.bytes),
    )
