-- An example of a label, and texts near it.
use Rattle.std.specs.Prelude.{ℕ, List, [], replicate, codes}
use Rattle.blake2.specs.declared.variant.Variant.TheVariants.{B}
use Rattle.lines.specs.Lines.{line_then}
use Rattle.label.specs.Labels.{Parts}

abbrev pub example : Parts
example = record {
  variant = B;
  digest = 32;
  key = 0;
  fanout = 4;
  depth = 6;
  page = 1024;
  salt = replicate 16 0;
  layout = codes "CLUTCH-07";
}

-- its text, with other digits for the digest and the page, and more bytes behind it
abbrev pub example_with : List ℕ → List ℕ → List ℕ → List ℕ
example_with digest page more =
    line_then (codes "kind=seal") []
    (line_then (codes "variant=") (codes "b")
    (line_then (codes "digest=") digest
    (line_then (codes "keybytes=") (codes "0")
    (line_then (codes "fanout=") (codes "4")
    (line_then (codes "depth=") (codes "6")
    (line_then (codes "page=") page
    (line_then (codes "salt=") (codes "00000000000000000000000000000000")
    (line_then (codes "layout=") (codes "CLUTCH-07") more))))))))

abbrev pub example_text : List ℕ
example_text = example_with (codes "32") (codes "1024") []
