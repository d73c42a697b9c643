-- The lines of a label: each reads what it writes, and each label has values for them.
use Rattle.std.proofs.Common.{◌≡◌, ℕ, ◌<◌, ◌≤◌, Bool, true, false, cond, eqb, List, [], ◌∷◌, length, Some, None, sym, refl, ap, ◌∙◌, arith}
use Rattle.std.proofs.lemmas.Bool.{eqb-true, le-leb, and_parts, and_from, cond-true, false≢true}
use Rattle.blake2.specs.declared.variant.Variant.{Variant}
use Rattle.blake2.specs.declared.variant.Variant.TheVariants.{B, S}
use Rattle.byte_strings.proofs.Strings.{listed_bytes}
use Rattle.byte_strings.specs.Strings.{listed}
use Rattle.lines.proofs.Codecs.{Faithful, Has, fixed_faithful, fixed_has, number_faithful, number_has, bytes_faithful, bytes_has}
use Rattle.lines.proofs.Cuts.{Clean, never_some, formed_back}
use Rattle.lines.proofs.Formats.{AllFaithful, AllHave}
use Rattle.lines.specs.Lines.{formed, number_line}
use Rattle.lines.specs.declared.range.Range.{Range}
use Rattle.label.specs.declared.label.Label.{Label}
use Rattle.blake2.specs.Variants.{letter, variant_of}
use Rattle.label.specs.Labels.{variant_line, layout_line, label_format, values_of}
use Rattle.label.specs.Meaning.{parts}
use Rattle.label.specs.Rules.{digest_range, key_range, fanout_range, depth_range, page_range, salt_length_of, layout_byte, are_layout_bytes, layout_name}

variant_faithful : (n : ℕ) → Faithful (variant_line n [])
variant_faithful n v variant h = go v (formed_back n (variant_of v) h)
  where
    one : (c : ℕ) (a b : Bool) → eqb c 98 ≡ a → eqb c 115 ≡ b → cond a (Some B) (cond b (Some S) None) ≡ Some variant → c ∷ [] ≡ letter variant
    one c true b i j e = let z : B ≡ variant = cc in (λ w. eqb-true c 98 i w ∷ []) ∙ ap letter z
    one c false true i j e = let z : S ≡ variant = cc in (λ w. eqb-true c 115 j w ∷ []) ∙ ap letter z
    one c false false i j e = absurd (never_some e)

    go : (v : List ℕ) → variant_of v ≡ Some variant → v ≡ letter variant
    go [] e = absurd (never_some e)
    go (c ∷ []) e = one c (eqb c 98) (eqb c 115) refl refl e
    go (c ∷ (d ∷ v)) e = absurd (never_some e)

variant_has : (n : ℕ) (variant : Variant) → Has (variant_line n []) variant
variant_has n B = ((λ e. omega arith, tt), refl)
variant_has n S = ((λ e. omega arith, tt), refl)

layout_faithful : (n : ℕ) (variant : Variant) → Faithful (layout_line n [] variant)
layout_faithful n variant v w h =
    go (layout_name variant v) (formed_back n (cond (layout_name variant v) (Some v) None) h)
  where
    go : (b : Bool) → cond b (Some v) None ≡ Some w → v ≡ w
    go true e = cc
    go false e = absurd (never_some e)

layout_clean : (v : List ℕ) → are_layout_bytes v ≡ true → Clean v
layout_clean [] e = tt
layout_clean (c ∷ v) e =
    let p = and_parts (layout_byte c) (are_layout_bytes v) e in
    (λ z. false≢true (sym (ap layout_byte z) ∙ p.0), layout_clean v p.1)

layout_has : (n : ℕ) (variant : Variant) (v : List ℕ) → 1 ≤ length v → length v ≤ salt_length_of variant → are_layout_bytes v ≡ true → Has (layout_line n [] variant) v
layout_has n variant v low high e = (
  layout_clean v e,
  ap (formed n) (cond-true (layout_name variant v) (Some v) None (and_from _ _ (and_from _ _ (le-leb 1 (length v) low) (le-leb (length v) (salt_length_of variant) high)) e)),
)

pub label_faithful : AllFaithful label_format
label_faithful = (
  fixed_faithful 1,
  λ _. (
    variant_faithful 2,
    λ variant. (
      number_faithful _ _,
      λ _. (
        number_faithful _ _,
        λ _. (
          number_faithful _ _,
          λ _. (
            number_faithful _ _,
            λ _. (
              number_faithful _ _,
              λ _. (bytes_faithful _ _ _, λ _. (layout_faithful _ variant, λ _. tt)),
            ),
          ),
        ),
      ),
    ),
  ),
)

-- a number of a range that four digits can write
in_range : (n : ℕ) (range : Range) (x : ℕ) → range.low ≤ x → x ≤ range.high → range.high < 10000 → Has (number_line n [] range) x
in_range n range x low high small =
    number_has n range x (and_from _ _ (le-leb range.low x low) (le-leb x range.high high)) (omega arith)

longest-small : (variant : Variant) → (key_range variant).high < 10000
longest-small B = omega arith
longest-small S = omega arith

salt_fits : (variant : Variant) → salt_length_of variant ≤ 16
salt_fits B = omega arith
salt_fits S = omega arith

pub label_has : (l : Label) → AllHave label_format (values_of (parts l))
label_has l = (
  fixed_has 1,
  (
    variant_has 2 l.variant,
    (
      in_range _ (digest_range l.variant) l.digest l.digest_low l.digest_high (longest-small l.variant),
      (
        in_range _ (key_range l.variant) l.key (omega arith) l.key_high (longest-small l.variant),
        (
          in_range _ fanout_range l.fanout l.fanout_low l.fanout_high (omega arith),
          (
            in_range _ depth_range l.depth l.depth_low l.depth_high (omega arith),
            (
              in_range _ page_range l.page l.page_low l.page_high (omega arith),
              (
                bytes_has _ 16 (salt_length_of l.variant) (listed l.salt) (salt_fits l.variant) l.salt_length (listed_bytes l.salt),
                (layout_has _ l.variant (listed l.layout) l.layout_low l.layout_high l.layout_bytes, tt),
              ),
            ),
          ),
        ),
      ),
    ),
  ),
)
