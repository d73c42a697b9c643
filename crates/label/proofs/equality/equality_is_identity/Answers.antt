use Rattle.std.proofs.Common.{ap, rules}
use denote.Enum.Bare.{Bare, same_true, true_same}
use Rattle.std.proofs.lemmas.Bool.{eq-eqb, eqb-true, and_parts, and_from}
use Rattle.blake2.specs.contracts.variant.Variant as variant
use Rattle.label.proofs.Inverse.{one_from_fields}
use Rattle.label.proofs.equality.equality_is_identity.Goals as goal

pub returns : goal.returns
returns c a b =
    let bare : Bare (variant.the_type).parts = search rules in
    let salt = c.equality_is_identity.ensures a.salt b.salt in
    let layout = c.equality_is_identity.ensures a.layout b.layout in (
      λ t.
          let p = and_parts _ _ t in
          let q = and_parts _ _ p.1 in
          let r = and_parts _ _ q.1 in
          let s = and_parts _ _ r.1 in
          let u = and_parts _ _ s.1 in
          let v = and_parts _ _ u.1 in
          let w = and_parts _ _ v.1 in
          let e = same_true variant.the_type bare a.variant b.variant p.0 in
          one_from_fields a b e
          (eqb-true a.digest b.digest q.0) (eqb-true a.key b.key r.0) (eqb-true a.fanout b.fanout s.0) (eqb-true a.depth b.depth u.0) (eqb-true a.page b.page v.0)
          (salt.0 w.0) (layout.0 w.1),
      λ e.
          and_from _ _ (true_same variant.the_type a.variant b.variant (ap (λ l. l.variant) e))
          (and_from _ _ (eq-eqb a.digest b.digest (ap (λ l. l.digest) e))
          (and_from _ _ (eq-eqb a.key b.key (ap (λ l. l.key) e))
          (and_from _ _ (eq-eqb a.fanout b.fanout (ap (λ l. l.fanout) e))
          (and_from _ _ (eq-eqb a.depth b.depth (ap (λ l. l.depth) e))
          (and_from _ _ (eq-eqb a.page b.page (ap (λ l. l.page) e))
          (and_from _ _ (salt.1 (ap (λ l. l.salt) e)) (layout.1 (ap (λ l. l.layout) e)))))))),
    )
