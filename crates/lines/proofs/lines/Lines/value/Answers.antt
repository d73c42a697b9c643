use Rattle.std.proofs.Common.{◌+◌, sym, ap, arith}
use Rattle.std.proofs.lemmas.Result.{err_from_is_err_and}
use Rattle.lines.specs.Reader.{value_of, moved}
use Rattle.lines.proofs.Cuts.{rest_shorter}
use Rattle.lines.proofs.lines.Lines.value.Goals as goal

pub invariant_of-self : goal.invariant_of-self
invariant_of-self c = omega (arith, rest_shorter (c.self.inside.taken + 1) c.args.name.now c.self.inside.left.now c.in_ok-value.ensures)

pub returns : goal.returns
returns c = rw (← c.self.view_is) (record { answer = ap value_of c.in_ok-value.ensures; after = sym (ap (moved _) c.in_ok-value.ensures) })

pub returns-in_err-value : goal.returns-in_err-value
returns-in_err-value c =
    let p = err_from_is_err_and c.from_residual.result c.from_residual.ensures.1 in
    rw (p.1, p.2, ← c.self.view_is) (record { answer = ap value_of c.in_err-value.ensures; after = sym (ap (moved _) c.in_err-value.ensures) })
