-- What a label, as a value of the program, says.
use Rattle.std.specs.Prelude.{◌≡◌, ℕ, List, ◌++◌, Ok, Err, Result}
use Rattle.byte_strings.specs.Strings.{listed}
use Rattle.fault.specs.declared.fault.Fault.{Fault}
use Rattle.label.specs.declared.label.Label.{Label}
use Rattle.label.specs.Labels.{Parts, text}

abbrev pub parts : Label → Parts
parts l =
    record { variant = l.variant; digest = l.digest; key = l.key; fanout = l.fanout; depth = l.depth; page = l.page; salt = listed l.salt; layout = listed l.layout }

-- what an answer says
abbrev pub meant : Result Label Fault → Result Parts Fault
meant (Ok l) = Ok (parts l)
meant (Err e) = Err e

-- the text of a label
abbrev pub label_text : Label → List ℕ
label_text l = text (parts l)

-- s begins with t
abbrev pub Begins : List ℕ → List ℕ → Type 0
Begins s t = (rest : List ℕ) × (s ≡ t ++ rest)

-- if and only if
abbrev pub Exactly : Type 0 → Type 0 → Type 0
Exactly P Q = (P → Q) × (Q → P)
