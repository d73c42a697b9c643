use Rattle.std.proofs.Common.{◌≡◌, ◌+◌, ◌*◌, ◌++◌, take}
use Rattle.byte_strings.specs.Hexadecimal.{hex}
use Rattle.byte_strings.specs.Strings.{listed}
use Rattle.byte_strings.proofs.bytes.Bytes.append_hex.Given as goal

abbrev pub invariant-loop-b : goal.invariant-loop-b
invariant-loop-b g l =
    (l.self.len ≡ l.initial.self.len + 2 * l.b-index) × (listed l.self ≡ listed l.initial.self ++ hex (take l.b-index l.bytes))
