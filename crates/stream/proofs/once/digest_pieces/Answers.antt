use denote.Ref.{Bor}
use Rattle.std.proofs.Common.{◌≡◌, ℕ, ◌^◌, ◌≤◌, List, length, Err, sym, ap, ◌∙◌, arith}
use Rattle.std.specs.List.{flat_map}
use Rattle.std.proofs.lemmas.List.{take_all}
use Rattle.std.proofs.lemmas.Result.{err_from_is_err_and}
use Rattle.stream.specs.Views.{view_of}
use Rattle.stream.specs.Streams.{fresh, taken}
use Rattle.stream.proofs.Pieces.{taken_none, pieces_more, begun_is, out_kept, begin_stops, add_stops, finish_answers, finish_writes}
use Rattle.stream.proofs.once.digest_pieces.Goals as goal

-- the bytes of a piece
abbrev bytes : Bor (List ℕ) → List ℕ
bytes piece = piece.now

pub returns-in_err-check : goal.returns-in_err-check
returns-in_err-check g c =
    let p = err_from_is_err_and c.from_residual.result c.from_residual.ensures.1 in
    let w = g.W.Word.width in
    let d = c.args.digest_len in
    let key = c.args.key.now in
    let input = flat_map bytes c.args.pieces.now in
    let out = c.args.out.now in
    let stop = begin_stops w d (length key) (length input) (length out) c.in_err-check.field-0.0 (sym c.in_err-check.ensures) in
    record { answer = p.1 ∙ ap Err p.2 ∙ sym stop; out = out_kept w d key input out _ stop }

pub loop-piece-init : goal.loop-piece-init
loop-piece-init g c =
    let w = g.W.Word.width in
    c.begin-stream.ensures ∙ begun_is w c.args.digest_len c.args.key.now (sym c.in_ok-check.ensures) ∙ taken_none (fresh w c.args.digest_len c.args.key.now)

pub returns-in_err-add : goal.returns-in_err-add
returns-in_err-add g c =
    let p = err_from_is_err_and c.from_residual-in_err-add.result c.from_residual-in_err-add.ensures.1 in
    let w = g.W.Word.width in
    let d = c.args.digest_len in
    let key = c.args.key.now in
    let pieces = c.args.pieces.now in
    let out = c.args.out.now in
    let stop = add_stops bytes w d key (length out) c.loop-piece.piece-index (view_of c.loop-piece.stream) pieces _ c.in_err-add.field-0.0
    (sym c.in_ok-check.ensures) c.loop-piece-test.true c.loop-piece.invariant (sym c.in_err-add.ensures.answer) in
    record { answer = p.1 ∙ ap Err p.2 ∙ sym stop; out = out_kept w d key (flat_map bytes pieces) out _ stop }

pub loop-piece-preserved : goal.loop-piece-preserved
loop-piece-preserved g c =
    pieces_more bytes (fresh g.W.Word.width c.args.digest_len c.args.key.now) (view_of c.loop-piece.stream) _ c.args.pieces.now c.loop-piece.piece-index _
    c.in_ok-add.ensures.after (sym c.in_ok-add.ensures.answer) c.loop-piece.invariant c.loop-piece-test.true

pub returns : goal.returns
returns g c =
    let w = g.W.Word.width in
    let d = c.args.digest_len in
    let key = c.args.key.now in
    let pieces = c.args.pieces.now in
    let input = flat_map bytes pieces in
    let v = view_of c.loop-piece.stream in
    let ok = sym c.in_ok-check.ensures in
    let all : v ≡ taken (fresh w d key) input =
    c.loop-piece.invariant ∙ ap (λ xs. taken (fresh w d key) (flat_map bytes xs)) (take_all c.loop-piece.piece-index pieces (omega arith)) in
    let short : length input ≤ 2 ^ 40 = let t = ap (λ u. u.total) all in let limit = c.loop-piece.stream.limit in omega arith in
    record {
      answer = c.finish.ensures.answer ∙ finish_answers w d (length c.args.out.now) key input v ok short all;
      out = c.finish.ensures.out ∙ finish_writes w d key input c.args.out.now v ok short all;
    }
