use Rattle.std.proofs.Common.{◌+◌, ◌-◌, ◌<◌, length, drop, replicate, sym, refl, ap, ◌∙◌, arith, length-set}
use Rattle.std.proofs.lemmas.List.{take_more_set, drop-set-lt, drop-drop, drop-replicate}
use Rattle.byte_strings.proofs.Strings.{small-set}
use Rattle.byte_strings.proofs.bytes.Bytes.push.Goals as goal

pub invariant_of-self : goal.invariant_of-self
invariant_of-self g c =
    let all = c.args.self.now.all in
    let len = c.args.self.now.len in
    record {
      size = length-set all len _ ∙ c.args.self.now.size;
      fits = omega arith;
      tail = drop-set-lt (len + 1) all len c.args.b (omega arith) ∙ sym (drop-drop 1 len all) ∙ ap (drop 1) c.args.self.now.tail ∙ drop-replicate 1 (g.row.N - len) 0 ∙ ap (λ n. replicate n 0) (omega arith);
      small = small-set all len c.args.b (omega arith) c.args.self.now.small;
    }

pub returns : goal.returns
returns g c =
    let lt : c.args.self.now.len < length c.args.self.now.all = omega arith in
    record { len = refl; bytes = take_more_set c.args.self.now.all c.args.self.now.len _ lt }
