use Rattle.std.proofs.Common.{◌+◌, length, get_or, ap, ◌∙◌, arith, rules}
use Rattle.std.proofs.lemmas.List.{places}
use Rattle.std.proofs.lemmas.Slice.{drop-put_mid}
use Rattle.byte_strings.proofs.Strings.{small-put_mid, zeros_behind}
use Rattle.byte_strings.proofs.bytes.Bytes.append.Goals as goal

pub invariant_of-self : goal.invariant_of-self
invariant_of-self g c =
    let b = c.args.self.now in
    let m = length c.args.more.now in record {
      size = search (rules, places);
      fits = omega arith;
      tail = drop-put_mid b.len _ b.all _ (b.len + m) (omega arith) (omega arith) (omega arith) ∙ zeros_behind b m;
      small = small-put_mid b.len _ b.all _ b.small (λ k. rw (ap (λ l. get_or l k 0) c.copy_from_slice.ensures.after) (c.type_inv.more k).fits);
    }
