use Rattle.std.proofs.Common.{◌≡◌, ℕ, List, [], ◌∷◌, ◌++◌, take, replicate, refl, ap, ◌∙◌}
use native.Mathlib.Nat.{div-div-eq-div-mul}
use Rattle.blake2.specs.Bytes.{le_bytes, pad}
use Rattle.label.specs.Meaning.{parts}
use Rattle.blake2_node.specs.Parameters.{parameter_block}
use Rattle.blake2_node.proofs.Fields.{next_place, offset_bytes, some_zeros, all_fields}
use Rattle.blake2_node.proofs.parameters.parameter_block.Goals as goal

pub returns : goal.returns
unfolding parameter_block pad
returns c =
    let l = c.args.label.now in
    let v = l.variant in
    let numbers : List ℕ = l.digest ∷ l.key ∷ l.fanout ∷ l.depth ∷ [] in
    let page = c.to_le_bytes.result in
    let at = take c.lengths-offset_length.result.0 c.to_le_bytes-offset.result in
    let node : List ℕ = c.args.position.depth ∷ l.digest ∷ [] in
    let zeros : List ℕ = take c.lengths-offset_length.result.1 (replicate 14 0) in
    let front2 = numbers ++ page in
    let front3 = front2 ++ at in
    let front4 = front3 ++ node in
    let front5 = front4 ++ zeros in
    let front6 = front5 ++ c.as_slice.result.now in
    let n1 = next_place [] numbers 0 _ refl c.put-at.ensures.next in
    let n2 = next_place numbers page _ _ n1 c.put-at-2.ensures.next in
    let n3 = next_place front2 at _ _ n2 c.put-at-3.ensures.next in
    let n4 = next_place front3 node _ _ n3 c.put-at-4.ensures.next in
    let n5 = next_place front4 zeros _ _ n4 c.put-at-5.ensures.next in
    let n6 = next_place front5 c.as_slice.result.now _ _ n5 c.put-at-6.ensures.next in
    let e1 : c.put-at.new.block ≡ pad 64 numbers = c.put-at.ensures.after [] refl refl in
    let e2 = c.put-at-2.ensures.after numbers n1 e1 in
    let e3 = c.put-at-3.ensures.after front2 n2 e2 in
    let e4 = c.put-at-4.ensures.after front3 n3 e3 in
    let e5 = c.put-at-5.ensures.after front4 n4 e4 in
    let e6 = c.put-at-6.ensures.after front5 n5 e5 in
    let e7 = c.put.ensures.after front6 n6 e6 in
    let four : page ≡ le_bytes 4 c.from-2.result = c.to_le_bytes.ensures ∙ simp div-div-eq-div-mul in
    let eight : c.to_le_bytes-offset.result ≡ le_bytes 8 c.from.result = c.to_le_bytes-offset.ensures ∙ simp div-div-eq-div-mul in
    e7 ∙ ap (pad 64) (all_fields (parts l) c.args.position refl refl refl refl refl refl refl refl
    (four ∙ ap (le_bytes 4) c.from-2.ensures)
    (offset_bytes v _ c.args.position.offset _ (ap (λ n. n.0) c.lengths-offset_length.ensures.lengths) (eight ∙ ap (le_bytes 8) c.from.ensures))
    (some_zeros v _ (ap (λ n. n.1) c.lengths-offset_length.ensures.lengths)) c.as_slice.ensures.bytes c.as_slice-2.ensures.bytes)
