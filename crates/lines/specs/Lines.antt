-- One line at the front of a text: its name, a value and a line feed.
use Rattle.std.specs.Prelude.{◌≡◌, ℕ, Bool, cond, not, List, [], ◌∷◌, ◌++◌, length, Some, None, Ok, Err, decimal, Option, Result, MatchResult, ◌==◌}
use Rattle.std.specs.Int.{is_in_range}
use Rattle.byte_strings.specs.Decimal.{numbered}
use Rattle.byte_strings.specs.Hexadecimal.{hex, hex_within}
use Rattle.fault.specs.Faults.{on, unless, fault}
use Rattle.fault.specs.declared.fault.Fault.{Fault}
use Rattle.fault.specs.declared.refusal.Refusal.TheVariants.{LineForm, NumberRange, BytesLeft}
use Rattle.lines.specs.declared.range.Range.{Range}

-- a line, and what follows it
abbrev pub line_then : List ℕ → List ℕ → List ℕ → List ℕ
line_then name v rest = name ++ (v ++ (10 ∷ rest))

-- what follows the name in s, if s begins with it
abbrev pub after : List ℕ → List ℕ → Option (List ℕ)
after [] s = Some s
after (n ∷ ns) [] = None
after (n ∷ ns) (c ∷ s) = cond (n == c) (after ns s) None

-- with one byte more in front
abbrev pub ahead : ℕ → Option (List ℕ × List ℕ) → Option (List ℕ × List ℕ)
ahead c None = None
ahead c (Some p) = Some (c ∷ p.0, p.1)

-- the bytes before the first line feed, and those after it
abbrev pub cut : List ℕ → Option (List ℕ × List ℕ)
cut [] = None
cut (c ∷ s) = cond (c == 10) (Some ([], s)) (ahead c (cut s))

abbrev pub cut_after : Option (List ℕ) → Option (List ℕ × List ℕ)
cut_after None = None
cut_after (Some s) = cut s

-- a value, or the refusal that line n is not of its form
abbrev pub formed : {A : Type 0} → ℕ → Option A → Result A Fault
formed n None = Err (fault LineForm n)
formed n (Some x) = Ok x

-- what stands after the name on line n, which is at the front of s, and what follows the line
unfoldable pub valued : ℕ → List ℕ → List ℕ → Result (List ℕ × List ℕ) Fault
valued n name s = formed n (cut_after (after name s))

-- A kind of line: the number of its line and its name, how its value is read from the bytes after the name, and how it is written.
pub record Line (A : Type 0) : Type 0 where
  pub number : ℕ
  pub name : List ℕ
  pub read : List ℕ → Result A Fault
  pub write : A → List ℕ

-- what is done with an accepted value; a refusal stays one
abbrev pub then : {A C E : Type 0} → Result A E → (A → Result C E) → Result C E
then (Ok x) f = f x
then (Err e) f = Err e

-- the value of a line at the front of s, and what follows it
abbrev pub read_line : {A : Type 0} → Line A → List ℕ → Result (A × List ℕ) Fault
read_line l s = then (valued l.number l.name s) (λ p. then (l.read p.0) (λ x. Ok (x, p.1)))

-- a line that has nothing after its name
abbrev pub nothing : List ℕ → Option (Unit {0})
nothing [] = Some tt
nothing (c ∷ cs) = None

abbrev pub fixed_line : ℕ → List ℕ → Line (Unit {0})
fixed_line n name = record { number = n; name = name; read = λ v. formed n (nothing v); write = λ _. [] }

-- a line with a number of a range
abbrev pub inside : Range → ℕ → Bool
inside range x = is_in_range range.low range.high x

abbrev pub number_line : ℕ → List ℕ → Range → Line ℕ
number_line n name range =
    record { number = n; name = name; read = λ v. then (formed n (numbered v)) (λ x. unless (on (not (inside range x)) NumberRange n ∷ []) x); write = decimal }

-- a line with the hexadecimal digits of just size bytes, which are at most `most`
abbrev pub exactly : ℕ → Option (List ℕ) → Option (List ℕ)
exactly size None = None
exactly size (Some bs) = cond (length bs == size) (Some bs) None

abbrev pub read_bytes : ℕ → ℕ → ℕ → List ℕ → Result (List ℕ) Fault
read_bytes n most size v = formed n (exactly size (hex_within most v))

abbrev pub bytes_line : ℕ → List ℕ → ℕ → ℕ → Line (List ℕ)
bytes_line n name most size =
    record { number = n; name = name; read = read_bytes n most size; write = hex }

-- whether nothing follows; if something does, line n would begin with it
abbrev pub end_answer : ℕ → List ℕ → Result (Unit {0}) Fault
end_answer n s = unless (on (not (length s == 0)) BytesLeft n ∷ []) tt

-- r is that answer, where f x is what x stands for
abbrev pub Answers : {A X : Type 0} → Result X Fault → (X → A) → Result A Fault → Type 0
Answers r f answer = MatchResult r (λ x. answer ≡ Ok (f x)) (λ e. answer ≡ Err e)
