-- Byte strings: the bytes that one holds, and the limit of n bytes.
use Rattle.std.specs.Prelude.{ℕ, ◌-◌, ◌<◌, cond, List, ◌++◌, length, take, replicate, Some, None, Ok, Err, Option, Result, nat_le, slice_index}
use Rattle.byte_strings.specs.declared.bytes.Bytes.{Bytes}
use Rattle.byte_strings.specs.declared.error.TooLong.{TooLong}

-- each element is a byte
abbrev pub AreBytes : List ℕ → Type 0
AreBytes bs = (k : ℕ) → slice_index bs k < 256

-- the bytes of a string
abbrev pub listed : {N : ℕ} → Bytes N → List ℕ
listed b = take b.len b.all

-- those of a string, if there is one
abbrev pub listing : {N : ℕ} → Option (Bytes N) → Option (List ℕ)
listing None = None
listing (Some b) = Some (listed b)

-- those of a string, or why there is none
abbrev pub outcome : {N : ℕ} {E : Type 0} → Result (Bytes N) E → Result (List ℕ) E
outcome (Ok b) = Ok (listed b)
outcome (Err e) = Err e

abbrev pub too_long : TooLong
too_long = record {}

-- the bytes, if they are at most n
abbrev pub within : ℕ → List ℕ → Option (List ℕ)
within n bs = cond (nat_le (length bs) n) (Some bs) None

-- a copy of the bytes, or that they are more than n
abbrev pub copied : ℕ → List ℕ → Result (List ℕ) TooLong
copied n bs = cond (nat_le (length bs) n) (Ok bs) (Err too_long)

-- what an append of the bytes more answers: that they fit, or that they are more than n together with those before
abbrev pub append_answer : ℕ → List ℕ → List ℕ → Result (Unit {0}) TooLong
append_answer n bs more = cond (nat_le (length (bs ++ more)) n) (Ok tt) (Err too_long)

-- what an append leaves: all of the bytes more, or where these are more than n together, none of them
abbrev pub appended : ℕ → List ℕ → List ℕ → List ℕ
appended n bs more = cond (nat_le (length (bs ++ more)) n) (bs ++ more) bs

-- n bytes: those of a string, and zeros behind them
abbrev pub zero_filled : ℕ → List ℕ → List ℕ
zero_filled n bs = bs ++ replicate (n - length bs) 0
