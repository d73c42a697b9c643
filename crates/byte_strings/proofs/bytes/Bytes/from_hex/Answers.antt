use Rattle.std.proofs.Common.{length, inl, inr, sym, ap, ◌∙◌, arith, length-append}
use Rattle.byte_strings.specs.Hexadecimal.{unhex}
use Rattle.byte_strings.specs.Strings.{listed, listing}
use Rattle.byte_strings.proofs.Hexadecimals.{unhex_more, unhex_stop, hex_within_odd, hex_within_long, hex_within_none}
use Rattle.byte_strings.proofs.Strings.{length-listed}
use Rattle.byte_strings.proofs.bytes.Bytes.from_hex.Goals.{then-digits-ne0-via-then-digits-ne0, then-digits-ne0-via-else-digits-ne0+then-digits}
use Rattle.byte_strings.proofs.bytes.Bytes.from_hex.Goals as goal

pub returns-then-digits-ne0 : goal.returns-then-digits-ne0
returns-then-digits-ne0 g c =
    elim c.then-digits-ne0.branch [
      | then-digits-ne0-via-then-digits-ne0 w ↦ sym (hex_within_odd g.row.N c.args.digits.now w.if-digits-ne0.true)
      | then-digits-ne0-via-else-digits-ne0+then-digits w ↦ sym (hex_within_long g.row.N c.args.digits.now w.if-digits.true)
    ]

pub loop-pair-init : goal.loop-pair-init
loop-pair-init g c =
    let started = c.into_iter-pair-iterator.ensures.into_iter_gives in
    let rest = ap (λ i. i.rest.now) started ∙ c.chunks_exact-pair-items.ensures.rest in
    let none = length-listed c.new-bytes.result in
    record {
      size = ap (λ i. i.size) started ∙ c.chunks_exact-pair-items.ensures.size;
      left = omega (arith, ap length rest, ap length c.new-bytes.ensures);
      read = (λ i. unhex (c.new-bytes.ensures i) (rest i));
    }

pub returns-in_err-high : goal.returns-in_err-high
returns-in_err-high g c =
    let step = c.in-Some.ensures.steps in
    let stop = unhex_stop (listed c.loop-pair.bytes) c.in-Some.pair.now c.next.new.self.rest.now (omega (arith, step)) (inl c.in_err-high.ensures.value) in
    ap listing c.from_residual.ensures ∙ sym (hex_within_none g.row.N c.args.digits.now (sym c.loop-pair.invariant.read ∙ ap (unhex (listed c.loop-pair.bytes)) step.1.0 ∙ stop))

pub returns-in_err-low : goal.returns-in_err-low
returns-in_err-low g c =
    let step = c.in-Some.ensures.steps in
    let stop = unhex_stop (listed c.loop-pair.bytes) c.in-Some.pair.now c.next.new.self.rest.now (omega (arith, step)) (inr c.in_err-low.ensures.value) in
    ap listing c.from_residual-in_err-low.ensures ∙ sym (hex_within_none g.row.N c.args.digits.now (sym c.loop-pair.invariant.read ∙ ap (unhex (listed c.loop-pair.bytes)) step.1.0 ∙ stop))

pub loop-pair-preserved : goal.loop-pair-preserved
loop-pair-preserved g c =
    let step = c.in-Some.ensures.steps in
    let more = unhex_more (listed c.loop-pair.bytes) c.in-Some.pair.now c.next.new.self.rest.now (omega (arith, step)) c.in_ok-high.ensures.value c.in_ok-low.ensures.value in
    record {
      size = step.0 ∙ c.loop-pair.invariant.size;
      left = omega (arith, step, ap length step.1.0, length-append c.in-Some.pair.now c.next.new.self.rest.now, c.push.ensures.len);
      read = ap (λ bs. unhex bs c.next.new.self.rest.now) c.push.ensures.bytes ∙ sym more ∙ sym (ap (unhex (listed c.loop-pair.bytes)) step.1.0) ∙ c.loop-pair.invariant.read;
    }
