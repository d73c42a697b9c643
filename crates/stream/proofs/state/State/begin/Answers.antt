use Rattle.std.proofs.Common.{◌++◌, length, take, drop, replicate, sym, ap, ◌∙◌, rules, arith}
use Rattle.std.proofs.lemmas.Bool.{eqb-true}
use Rattle.std.proofs.lemmas.List.{nil_from_length}
use Rattle.stream.specs.Hash.{key_block}
use Rattle.stream.proofs.Keys.{keyed, length-key_block}
use Rattle.stream.proofs.state.State.begin.Goals.{then-not-is_empty, else-not-is_empty}
use Rattle.stream.proofs.state.State.begin.Goals as goal

pub returns-clause-filled : goal.returns-clause-filled
returns-clause-filled g c =
    let w = g.W.Word.width in
    let key = c.args.key.now in
    elim c.if-not-is_empty.branch [
      | then-not-is_empty some ↦ some.filled-is ∙ some.block_bytes-filled.ensures.size ∙ sym (length-key_block w key (search rules) (omega arith))
      | else-not-is_empty none ↦
          none.filled-is
          ∙ ap (λ k. length (key_block w k)) (sym (nil_from_length key (eqb-true (length key) 0 (sym none.if-not-is_empty.ensures))))
    ]

pub returns-clause-waits : goal.returns-clause-waits
returns-clause-waits g c =
    let w = g.W.Word.width in
    let key = c.args.key.now in
    elim c.if-not-is_empty.branch [
      | then-not-is_empty some ↦
          let b = some.block_bytes-filled in
          ap (λ n. take n c.if-not-is_empty.wait) some.filled-is
          ∙ ap (take b.result) (some.wait-is ∙ ap (λ xs. xs ++ drop (length key) (replicate 128 0)) some.copy_from_slice.ensures.after)
          ∙ keyed w key b.result 128 (search rules) (omega arith) b.ensures.size b.ensures.most
      | else-not-is_empty none ↦
          ap (λ n. take n c.if-not-is_empty.wait) none.filled-is
          ∙ ap (key_block w) (sym (nil_from_length key (eqb-true (length key) 0 (sym none.if-not-is_empty.ensures))))
    ]
