-- Layout names.
use Rattle.std.proofs.Common.{◌≡◌, ℕ, ◌≤◌, true, leb, List, length}
use Rattle.std.proofs.lemmas.Bool.{and_parts, leb-true}
use Rattle.std.specs.Int.{is_in_range}
use Rattle.blake2.specs.declared.variant.Variant.{Variant}
use Rattle.label.specs.Rules.{salt_length_of, are_layout_bytes, layout_name}

-- the rules that a layout name keeps
pub name_rules : (variant : Variant) (v : List ℕ) → layout_name variant v ≡ true → (1 ≤ length v) × (length v ≤ salt_length_of variant) × (are_layout_bytes v ≡ true)
name_rules variant v e =
    let p = and_parts (is_in_range 1 (salt_length_of variant) (length v)) (are_layout_bytes v) e in
    let q = and_parts (leb 1 (length v)) (leb (length v) (salt_length_of variant)) p.0 in
    (leb-true 1 (length v) q.0, leb-true (length v) (salt_length_of variant) q.1, p.1)
