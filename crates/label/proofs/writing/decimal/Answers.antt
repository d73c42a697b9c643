use Rattle.std.proofs.Common.{length, decimal, is_ok, ap, ◌∙◌, arith}
use Rattle.std.proofs.lemmas.Fmt.{length-decimal-le}
use Rattle.byte_strings.proofs.Strings.{answer_ok}
use Rattle.byte_strings.specs.Strings.{listed}
use Rattle.label.proofs.writing.decimal.Goals as goal

pub unwrap-requires : goal.unwrap-requires
unwrap-requires c =
    let n = length-decimal-le 5 c.args.n (omega arith) (omega arith) (omega arith) in
    ap is_ok (c.append_decimal.ensures.answer ∙ answer_ok 5 (listed c.new-digits.result) (decimal c.args.n) (omega (arith, ap length c.new-digits.ensures)))
