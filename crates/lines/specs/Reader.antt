-- A reader that takes lines off the front of a text.
use Rattle.std.specs.Prelude.{ℕ, ◌+◌, List, Ok, Err, Result}
use Rattle.fault.specs.declared.fault.Fault.{Fault}
use Rattle.lines.specs.Lines.{valued, then}

-- how many lines it has taken, and what is left of the text
pub record Reader : Type 0 where
  pub taken : ℕ
  pub left : List ℕ

-- the value of a line alone, without what follows it
abbrev pub value_of : {A B : Type 0} → Result (A × B) Fault → Result A Fault
value_of m = then m (λ p. Ok p.0)

-- a reader behind a line, if the line has its name and a line feed; else where it was
abbrev pub moved : Reader → Result (List ℕ × List ℕ) Fault → Reader
moved r (Ok p) = record { taken = r.taken + 1; left = p.1 }
moved r (Err e) = r

abbrev pub past : List ℕ → Reader → Reader
past name r = moved r (valued (r.taken + 1) name r.left)
