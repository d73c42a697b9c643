use Rattle.std.proofs.Common.{refl}
use Rattle.std.specs.Fmt.{digits}
use Rattle.lines.specs.Formats.{read_lines}
use Rattle.lines.specs.Lines.{valued}
use Rattle.label.specs.Labels.{text}
use Rattle.label.proofs.examples.label_examples_hold.Goals as goal

pub returns : goal.returns
unfolding text read_lines valued digits
returns c =
    record { length = refl; written = refl; read = refl; small_page = refl; large_page = refl; leading_zero = refl; five_digits = refl; bytes_left = refl }
