use Rattle.std.proofs.Common.{rules}
use Rattle.byte_strings.proofs.Hexadecimals.{encode_lower_is_hex}
use Rattle.byte_strings.proofs.text.hex_string.Goals as goal

pub returns : goal.returns
returns c =
    let same = encode_lower_is_hex c.args.bytes.now (λ i. (c.type_inv.bytes i).fits) in
    rw (← same) (search rules)
