use Rattle.std.proofs.Common.{◌+◌, false, length, take, sym, refl, ap, ◌∙◌, arith}
use Rattle.blake2.specs.Bytes.{bytes_of}
use Rattle.stream.specs.Hash.{before}
use Rattle.stream.specs.Views.{view_of}
use Rattle.stream.proofs.Views.{view_is, accepted, added_is}
use Rattle.stream.proofs.stream.Stream.add.Goals as goal

pub returns : goal.returns
returns g c =
    let w = g.W.Word.width in
    let s = c.args.self.now in
    let piece = c.args.piece.now in
    let v = view_of s in
    let room = s.limit in
    record {
      answer = sym (accepted v (length piece) (omega arith));
      after =
          view_is _ _ refl refl (λ n. ap (λ k. before w k + 1) (omega (arith, c.add.ensures.count)))
          (λ rest. ap (λ h. take s.digest_len (bytes_of w h)) (c.add.ensures.means false rest))
          ∙ sym (added_is v piece (omega arith));
    }
