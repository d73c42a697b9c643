use Rattle.std.proofs.Common.{◌+◌, [], length, take, Ok, Err, sym, ap, ◌∙◌, arith}
use Rattle.std.proofs.lemmas.List.{append-nil}
use Rattle.std.proofs.lemmas.Result.{err_from_is_err_and}
use Rattle.blake2.specs.Bytes.{bytes_of}
use Rattle.stream.specs.Hash.{before, hash}
use Rattle.stream.specs.States.{meaning}
use Rattle.stream.proofs.Hashes.{begin_tells, begin_refuses, length_refuses, hash-accepted, hash_kept, hash-written}
use Rattle.stream.proofs.Keys.{length-keyed}
use Rattle.stream.proofs.parameters.hash.Goals as goal

pub returns-in_err-check : goal.returns-in_err-check
returns-in_err-check g c =
    let r = err_from_is_err_and c.from_residual.result c.from_residual.ensures.1 in
    let w = g.W.Word.width in
    let key = c.args.key.now in
    let input = c.args.input.now in
    let out = c.args.out.now in
    let stop = begin_refuses w (length key) (length input) (length out) c.in_err-check.field-0.0 (sym c.in_err-check.ensures) in
    record {
      answer = r.1 ∙ ap Err r.2 ∙ sym stop;
      out = hash_kept w c.args.last_node c.args.parameters.now key input out _ stop;
    }

pub returns-then-input-gt-LIMIT : goal.returns-then-input-gt-LIMIT
returns-then-input-gt-LIMIT g c =
    let w = g.W.Word.width in
    let key = c.args.key.now in
    let input = c.args.input.now in
    let out = c.args.out.now in
    let stop = length_refuses w (length key) (length input) (length out) (sym c.in_ok-check.ensures) c.if-input-gt-LIMIT.true in
    record {
      answer = ap Err c.new.ensures ∙ sym stop;
      out = hash_kept w c.args.last_node c.args.parameters.now key input out _ stop;
    }

pub returns : goal.returns
unfolding hash meaning
returns g c =
    let w = g.W.Word.width in
    let key = c.args.key.now in
    let input = c.args.input.now in
    let out = c.args.out.now in
    let node = c.args.last_node in
    let p = c.args.parameters.now in
    let s = c.begin-state.ensures in
    let ok = sym c.in_ok-check.ensures in
    let tells = begin_tells w (length out) (length key) ok in
    let pass = hash-accepted w (length key) (length input) (length out) ok c.if-input-gt-LIMIT.false in
    let keyed = s.filled ∙ length-keyed w key (omega arith) in
    record {
      answer = ap Ok (c.blocks-blocks.ensures ∙ ap (λ n. before w n + 1) (omega (arith, c.add.ensures.count, keyed, s.none))) ∙ sym pass;
      out =
          c.finish.ensures
          ∙ ap (λ h. take (length out) (bytes_of w h)) (c.add.ensures.means node [] ∙ rw (s.none, s.waits, s.value, append-nil))
          ∙ sym (hash-written w node p key input out _ pass);
    }
