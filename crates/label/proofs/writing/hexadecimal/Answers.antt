use Rattle.std.proofs.Common.{length, is_ok, ap, ◌∙◌, arith}
use Rattle.byte_strings.proofs.Hexadecimals.{length-hex}
use Rattle.byte_strings.proofs.Strings.{answer_ok}
use Rattle.byte_strings.specs.Hexadecimal.{hex}
use Rattle.byte_strings.specs.Strings.{listed}
use Rattle.label.proofs.writing.hexadecimal.Goals as goal

pub unwrap-requires : goal.unwrap-requires
unwrap-requires c =
    ap is_ok (c.append_hex.ensures.answer ∙ answer_ok 32 (listed c.new-digits.result) (hex c.args.bytes.now) (omega (arith, length-hex c.args.bytes.now, ap length c.new-digits.ensures)))
