use Rattle.std.proofs.Common.{◌++◌, sym, ap, ◌∙◌, arith}
use Rattle.std.proofs.lemmas.List.{take_all}
use Rattle.byte_strings.specs.Hexadecimal.{hex}
use Rattle.byte_strings.specs.Strings.{listed}
use Rattle.byte_strings.proofs.Hexadecimals.{hex_more, length-hex}
use Rattle.byte_strings.proofs.Strings.{length-listed, answer_ok, appended_all, answer_err, appended_none}
use Rattle.byte_strings.proofs.bytes.Bytes.append_hex.Goals as goal

pub returns-then-bytes-len : goal.returns-then-bytes-len
returns-then-bytes-len g c =
    let bs = listed c.args.self.now in
    let n = length-hex c.args.bytes.now in
    record {
      answer = sym (answer_err g.row.N bs (hex c.args.bytes.now) (omega arith));
      after = sym (appended_none g.row.N bs (hex c.args.bytes.now) (omega arith));
    }

pub push-requires : goal.push-requires
push-requires g c =
    let n = length-listed c.args.self.now in
    (omega arith, omega (arith, c.loop-b.invariant.0))

pub push-requires-in-loop-b : goal.push-requires-in-loop-b
push-requires-in-loop-b g c =
    let n = length-listed c.args.self.now in
    (omega arith, omega (arith, c.push.ensures.len, c.loop-b.invariant.0))

pub loop-b-preserved : goal.loop-b-preserved
loop-b-preserved g c = (
  omega (arith, c.push.ensures.len, c.push-in-loop-b.ensures.len, c.loop-b.invariant.0),
  hex_more (listed c.args.self.now) c.args.bytes.now c.loop-b.b-index c.loop-b-test.true c.loop-b.invariant.1 c.push.ensures.bytes c.push-in-loop-b.ensures.bytes c.hex_char.ensures c.hex_char-in-loop-b.ensures,
)

pub returns : goal.returns
returns g c =
    let bs = listed c.args.self.now in
    let n = length-hex c.args.bytes.now in
    record {
      answer = sym (answer_ok g.row.N bs (hex c.args.bytes.now) (omega arith));
      after = c.loop-b.invariant.1 ∙ ap (λ xs. bs ++ hex xs) (take_all c.loop-b.b-index c.args.bytes.now (omega arith)) ∙ sym (appended_all g.row.N bs (hex c.args.bytes.now) (omega arith));
    }
