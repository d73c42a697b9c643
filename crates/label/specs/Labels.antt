-- The text of a label, line by line, and what is read from a text.
use Rattle.std.specs.Prelude.{ℕ, ◌-◌, cond, not, List, [], ◌∷◌, ◌++◌, length, drop, is_ok, Some, None, Ok, codes, Option, Result, ◌==◌, nat_lt}
use Rattle.blake2.specs.Variants.{letter, variant_of}
use Rattle.blake2.specs.declared.variant.Variant.{Variant}
use Rattle.blake2.specs.declared.variant.Variant.TheVariants.{B, S}
use Rattle.fault.specs.Faults.{Row, on, unless}
use Rattle.fault.specs.declared.fault.Fault.{Fault}
use Rattle.fault.specs.declared.refusal.Refusal.TheVariants.{LineForm, NumberRange, LabelBuffer}
use Rattle.lines.specs.Formats.{Format, end, line, Values, read_lines, write_lines}
use Rattle.lines.specs.Lines.{Line, formed, inside, fixed_line, number_line, bytes_line, end_answer, then}
use Rattle.label.specs.Rules.{digest_range, key_range, fanout_range, depth_range, page_range, salt_length_of, layout_name}

-- what a label says
pub record Parts : Type 0 where
  pub variant : Variant
  pub digest : ℕ
  pub key : ℕ
  pub fanout : ℕ
  pub depth : ℕ
  pub page : ℕ
  pub salt : List ℕ
  pub layout : List ℕ

-- a line with the letter of a variant
abbrev pub variant_line : ℕ → List ℕ → Line Variant
variant_line n name = record { number = n; name = name; read = λ v. formed n (variant_of v); write = letter }

-- a line with a layout name
abbrev pub read_layout : ℕ → Variant → List ℕ → Result (List ℕ) Fault
read_layout n variant v = formed n (cond (layout_name variant v) (Some v) None)

abbrev pub layout_line : ℕ → List ℕ → Variant → Line (List ℕ)
layout_line n name variant = record { number = n; name = name; read = read_layout n variant; write = λ v. v }

-- the nine lines; a salt is held in a string of at most 16 bytes
abbrev pub label_format : Format
label_format =
    line (fixed_line 1 (codes "kind=seal")) λ _.
    line (variant_line 2 (codes "variant=")) λ variant.
    line (number_line 3 (codes "digest=") (digest_range variant)) λ _.
    line (number_line 4 (codes "keybytes=") (key_range variant)) λ _.
    line (number_line 5 (codes "fanout=") fanout_range) λ _.
    line (number_line 6 (codes "depth=") depth_range) λ _.
    line (number_line 7 (codes "page=") page_range) λ _.
    line (bytes_line 8 (codes "salt=") 16 (salt_length_of variant)) λ _.
    line (layout_line 9 (codes "layout=") variant) λ _.
    end

-- their values
abbrev pub values_of : Parts → Values label_format
values_of p = (tt, (p.variant, (p.digest, (p.key, (p.fanout, (p.depth, (p.page, (p.salt, (p.layout, tt)))))))))

abbrev pub parts_of : Values label_format → Parts
parts_of (_, (variant, (digest, (key, (fanout, (depth, (page, (salt, (layout, _))))))))) =
    record { variant = variant; digest = digest; key = key; fanout = fanout; depth = depth; page = page; salt = salt; layout = layout }

-- the text of a label
unfoldable pub text : Parts → List ℕ
text p = write_lines label_format (values_of p) []

-- what the nine lines at the front of a text say, and what follows them
abbrev pub label_lines : List ℕ → Result (Parts × List ℕ) Fault
label_lines s = then (read_lines label_format s) (λ q. Ok (parts_of q.0, q.1))

-- the same, with the number of bytes that the nine lines take
abbrev pub front_answer : List ℕ → Result (Parts × ℕ) Fault
front_answer s = then (label_lines s) (λ p. Ok (p.0, length s - length p.1))

-- what a whole text says: nothing may follow the nine lines
abbrev pub read_answer : List ℕ → Result Parts Fault
read_answer s = then (label_lines s) (λ p. then (end_answer 10 p.1) (λ _. Ok p.0))

-- Write: 24 where the buffer is shorter than the text; else the length of the text.
abbrev pub write_rows : Parts → List ℕ → List Row
write_rows p out = on (nat_lt (length out) (length (text p))) LabelBuffer 0 ∷ []

abbrev pub write_answer : Parts → List ℕ → Result ℕ Fault
write_answer p out = unless (write_rows p out) (length (text p))

-- The buffer afterwards: the text, and what stood behind it; where write refuses, the buffer as it was.
abbrev pub written : Parts → List ℕ → List ℕ
written p out = cond (is_ok (write_answer p out)) (text p ++ drop (length (text p)) out) out

-- New: the refusal of the first part that breaks its rule, about the line that it would stand on.
abbrev pub new_rows : Parts → List Row
new_rows p =
    on (not (inside (digest_range p.variant) p.digest)) NumberRange 3
    ∷ on (not (inside (key_range p.variant) p.key)) NumberRange 4
    ∷ on (not (inside fanout_range p.fanout)) NumberRange 5
    ∷ on (not (inside depth_range p.depth)) NumberRange 6
    ∷ on (not (inside page_range p.page)) NumberRange 7
    ∷ on (not (length p.salt == salt_length_of p.variant)) LineForm 8
    ∷ on (not (layout_name p.variant p.layout)) LineForm 9
    ∷ []

abbrev pub new_answer : Parts → Result Parts Fault
new_answer p = unless (new_rows p) p
