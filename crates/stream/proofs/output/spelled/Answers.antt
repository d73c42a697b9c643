use Rattle.std.proofs.Common.{◌≡◌, ◌*◌, ◌<◌, List, ◌++◌, length, get_or, take, sym, ap, ◌∙◌, mul_comm, rules, arith}
use Rattle.std.proofs.lemmas.List.{get_or-map, length-map, take_all}
use Rattle.blake2.specs.Bytes.{bytes_of}
use Rattle.stream.specs.Sound.{length-bytes_of}
use Rattle.stream.proofs.Words.{spelled_more, room_for}
use Rattle.stream.proofs.output.spelled.Goals as goal

pub loop-word-init : goal.loop-word-init
unfolding bytes_of
loop-word-init g c = c.new-all.ensures

pub unwrap-requires : goal.unwrap-requires
unwrap-requires g c =
    let w = g.W.Word.width in
    let size = c.SIZE.ensures ∙ g.met.W.Word.size_is in
    let e = c.as_slice-word-items.ensures in
    c.try_extend_from_slice.ensures.variant.1
    (room_for w c.loop-word.word-index c.SIZE.result c.loop-word.all.items c.bytes.result c.args.h.now g.met.W.Word.sizes.1
    (omega (arith, ap (λ (xs : List _). length xs) e.value, length-map c.as_slice-word-items.result.now g.W.Word.value)) size c.loop-word.invariant)

pub loop-word-preserved : goal.loop-word-preserved
loop-word-preserved g c =
    let f = g.W.Word.value in
    let i = c.loop-word.word-index in
    let words = c.as_slice-word-items.result.now in
    let is = c.as_slice-word-items.ensures.value in
    let size = c.SIZE.ensures ∙ g.met.W.Word.size_is in
    let here = ap (λ xs. get_or xs i 0) (sym is) ∙ get_or-map f words i c.word-item.result 0 c.loop-word-test.true ∙ ap f (sym c.word-item.is) in
    let inside : i < length c.args.h.now = omega (arith, ap (λ (xs : List _). length xs) is, length-map words f) in
    let joins : c.try_extend_from_slice.new.self.items ≡ c.loop-word.all.items ++ take c.SIZE.result c.bytes.result = search rules in
    spelled_more g.W.Word.width i c.loop-word.all.items _ c.bytes.result c.args.h.now _ inside here c.bytes.ensures c.loop-word.invariant
    (joins ∙ ap (λ n. c.loop-word.all.items ++ take n c.bytes.result) size)

pub returns : goal.returns
returns g c =
    let words = c.as_slice-word-items.result.now in
    let e = c.as_slice-word-items.ensures in
    let w = g.W.Word.width in
    let eight : length c.args.h.now ≡ 8 = ap (λ (xs : List _). length xs) (sym e.value) ∙ length-map words g.W.Word.value ∙ e.len in
    let bytes = c.loop-word.invariant ∙ ap (bytes_of w) (take_all c.loop-word.word-index c.args.h.now (omega arith)) in
    record { bytes = bytes; len = ap length bytes ∙ length-bytes_of w c.args.h.now ∙ ap (λ n. w.size * n) eight ∙ mul_comm w.size 8 }
