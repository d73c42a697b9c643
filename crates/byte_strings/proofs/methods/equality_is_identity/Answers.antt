use Rattle.std.proofs.Common.{ap}
use Rattle.std.specs.Cmp.Lexicographic.{bytes_decides}
use Rattle.byte_strings.specs.Strings.{listed}
use Rattle.byte_strings.proofs.Strings.{one_string}
use Rattle.byte_strings.proofs.methods.equality_is_identity.Goals as goal

pub returns : goal.returns
returns g c a b =
    let d = bytes_decides (listed a) (listed b) in
    (λ t. one_string a b (d.0 t), λ e. d.1 (ap listed e))
