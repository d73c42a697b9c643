-- Formats: lines one after another, where the value of a line may tell how later ones are read.
use Rattle.std.specs.Prelude.{ℕ, List, Ok, Result}
use Rattle.fault.specs.declared.fault.Fault.{Fault}
use Rattle.lines.specs.Lines.{Line, line_then, read_line, then}

pub data Format : Type 1 where
  end : Format
  line : {A : Type 0} → Line A → (A → Format) → Format

-- the values of the lines
abbrev pub Values : Format → Type 0
Values end = Unit {0}
Values (line {A} l next) = (x : A) × Values (next x)

-- the lines that have these values, and what follows them
abbrev pub write_lines : (f : Format) → Values f → List ℕ → List ℕ
write_lines end v rest = rest
write_lines (line l next) v rest = line_then l.name (l.write v.0) (write_lines (next v.0) v.1 rest)

-- the values of the lines at the front of s, and what follows them; or the refusal of the first line that is refused
unfoldable pub read_lines : (f : Format) → List ℕ → Result (Values f × List ℕ) Fault
read_lines end s = Ok (tt, s)
read_lines (line l next) s =
    then (read_line l s) (λ p. then (read_lines (next p.0) p.1) (λ q. Ok ((p.0, q.0), q.1)))
