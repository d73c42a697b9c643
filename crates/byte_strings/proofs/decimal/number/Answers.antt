use Rattle.std.proofs.Common.{◌≤◌, length, sym, ap, ◌∙◌, subst, arith}
use Rattle.std.proofs.lemmas.Bool.Decides.{nat_tests}
use Rattle.std.proofs.lemmas.List.{take_all}
use Rattle.std.specs.Str.Parse.{digits_value, AllDigits}
use Rattle.byte_strings.proofs.Decimals.{numbered_none, numbered_some, short_value, one_more}
use Rattle.byte_strings.proofs.decimal.number.Goals as goal

pub returns : goal.returns
returns c =
    let v = c.args.digits.now in
    let all = take_all c.loop-d.d-index v (omega arith) in
    let some : 1 ≤ length v = grind (arith, nat_tests) in
    sym (numbered_some v c.loop-d.n (subst (AllDigits 10) all c.loop-d.invariant.0) (c.loop-d.invariant.1 ∙ ap (digits_value 10) all) (omega arith) (omega arith) (sym c.if-has_leading_zero.ensures))

pub returns-then-not-is_ascii_digit : goal.returns-then-not-is_ascii_digit
returns-then-not-is_ascii_digit c =
    sym (numbered_none c.args.digits.now c.loop-d.d-index c.loop-d-test.true (sym c.if-not-is_ascii_digit.ensures.value))

pub overflow_mul-n : goal.overflow_mul-n
overflow_mul-n c = omega (arith, short_value c.args.digits.now c.loop-d.d-index (omega arith) (omega arith) c.loop-d.invariant.0)

pub overflow_add-n : goal.overflow_add-n
overflow_add-n c = omega (arith, short_value c.args.digits.now c.loop-d.d-index (omega arith) (omega arith) c.loop-d.invariant.0)

pub loop-d-preserved : goal.loop-d-preserved
loop-d-preserved c =
    one_more c.args.digits.now c.loop-d.d-index c.loop-d.n c.from.result c.loop-d-test.true (sym c.if-not-is_ascii_digit.ensures.value) c.from.ensures c.loop-d.invariant.0 c.loop-d.invariant.1
