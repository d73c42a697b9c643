use Rattle.std.proofs.Common.{◌≡◌, refl, ap, rules}
use Rattle.label.proofs.Inverse.{one_from_fields}
use Rattle.label.proofs.equality.LabelPartialEq.eq.Goals as goal

pub returns-then-eq-clause-same : goal.returns-then-eq-clause-same
returns-then-eq-clause-same c =
    let v : c.args.self.now.variant ≡ c.args.other.now.variant = search rules in
    let n = c.if-not-same_numbers.ensures.0 refl in (
      λ t. one_from_fields c.args.self.now c.args.other.now v n.0 n.1 n.2 n.3 n.4 (c.if-eq.ensures.same.0 refl) (c.eq-then-eq.ensures.same.0 t),
      λ e. c.eq-then-eq.ensures.same.1 (ap (λ l. l.layout) e),
    )
