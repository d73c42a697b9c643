use Rattle.std.proofs.Common.{◌+◌, ◌≤◌, List, length, sym, take, ◌++◌, ap, ◌∙◌, rules}
use Rattle.std.proofs.lemmas.Slice.{take-put_mid}
use Rattle.stream.proofs.state.State.fill.Goals as goal

pub returns-clause-waits : goal.returns-clause-waits
returns-clause-waits g c =
    let s = c.args.self.now in
    let same = c.copy_from_slice.ensures.after in
    let long : s.filled ≤ length s.wait = search rules in
    take-put_mid s.filled _ s.wait c.copy_from_slice.new.self _ (ap (λ (xs : List _). s.filled + length xs) (sym same)) long
    ∙ ap (λ xs. take s.filled s.wait ++ xs) same
