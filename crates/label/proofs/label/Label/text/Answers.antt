use Rattle.std.proofs.Common.{◌≡◌, ℕ, ◌+◌, ◌≤◌, List, length-append, [], ◌++◌, length, codes, decimal, refl, ap, ◌∙◌, append_assoc, arith}
use Rattle.byte_strings.proofs.Strings.{appended_all}
use Rattle.byte_strings.specs.Hexadecimal.{hex}
use Rattle.byte_strings.specs.Strings.{listed, appended}
use Rattle.lines.specs.Lines.{line_then}
use Rattle.label.specs.Labels.{text}
use Rattle.label.specs.Meaning.{label_text}
use Rattle.label.proofs.Texts.{followed}
use Rattle.label.proofs.label.Label.text.Goals as goal

-- an append adds no more bytes than it is given
appended_longer : (n : ℕ) (a more : List ℕ) → length (appended n a more) ≤ length a + length more
appended_longer n a more = grind (arith, length-append)

-- The lines up to the page, from the last to the first; then those of salt and layout, by what the calls say. None of the calls that put these two is named, so that other calls are refused for what they put, and not for their names.
pub returns : goal.returns
unfolding text
returns c =
    let last = line_then (codes "salt=") (hex (listed c.args.self.now.salt)) (line_then (codes "layout=") (listed c.args.self.now.layout) []) in
    let before : listed c.put-7.new.out ++ last ≡ label_text c.args.self.now =
    followed (listed c.put-6.new.out) (codes "page=") _ _ c.put-7.ensures.bytes (c.as_slice-5.ensures.bytes ∙ c.decimal-5.ensures.digits)
    ∙ followed (listed c.put-5.new.out) (codes "depth=") _ _ c.put-6.ensures.bytes (c.as_slice-4.ensures.bytes ∙ c.decimal-4.ensures.digits ∙ ap decimal c.from-4.ensures)
    ∙ followed (listed c.put-4.new.out) (codes "fanout=") _ _ c.put-5.ensures.bytes (c.as_slice-3.ensures.bytes ∙ c.decimal-3.ensures.digits ∙ ap decimal c.from-3.ensures)
    ∙ followed (listed c.put-3.new.out) (codes "keybytes=") _ _ c.put-4.ensures.bytes (c.as_slice-2.ensures.bytes ∙ c.decimal-2.ensures.digits ∙ ap decimal c.from-2.ensures)
    ∙ followed (listed c.put-2.new.out) (codes "digest=") _ _ c.put-3.ensures.bytes (c.as_slice.ensures.bytes ∙ c.decimal.ensures.digits ∙ ap decimal c.from.ensures)
    ∙ followed (listed c.put.new.out) (codes "variant=") _ _ c.put-2.ensures.bytes c.letter.ensures
    ∙ followed (listed c.new-out.result) (codes "kind=seal") [] _ c.put.ensures.bytes refl
    ∙ ap (λ l. l ++ label_text c.args.self.now) c.new-out.ensures in
    let digits : c.as_slice-7.result.now ≡ hex (listed c.args.self.now.salt) = c.as_slice-7.ensures.bytes ∙ c.hexadecimal-salt.ensures.digits ∙ ap hex c.as_slice-6.ensures.bytes in
    let room : length (listed c.put-7.new.out) ≤ 84 = omega (arith, ap length c.as_slice.ensures.bytes, ap length c.as_slice-2.ensures.bytes, ap length c.as_slice-3.ensures.bytes, ap length c.as_slice-4.ensures.bytes, ap length c.as_slice-5.ensures.bytes, ap length c.new-out.ensures) in
    let short : length c.as_slice-7.result.now ≤ 32 = omega (arith, ap length c.as_slice-7.ensures.bytes, c.hexadecimal-salt.ensures.length) in
    ◌∙◌ {b = listed c.put-7.new.out ++ last} (grind (arith, append_assoc, appended_all, appended_longer)) before
