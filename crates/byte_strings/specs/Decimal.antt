-- Numbers of one to four decimal digits.
use Rattle.std.specs.Prelude.{ℕ, Bool, cond, not, ◌&&◌, List, length, Some, None, Option, ◌==◌, nat_lt, slice_index}
use Rattle.std.specs.Str.Parse.{digits_value}
use Rattle.std.specs.Int.{is_in_range}
use Rattle.std.specs.Str.{all_ascii_digits}

-- the first of several digits is 0
abbrev pub leading_zero : List ℕ → Bool
leading_zero v = nat_lt 1 (length v) && slice_index v 0 == 48

-- one to four digits, with no leading zero except in 0 itself
abbrev pub numeral : List ℕ → Bool
numeral v = all_ascii_digits v && (is_in_range 1 4 (length v) && not (leading_zero v))

-- the number that they write
abbrev pub numbered : List ℕ → Option ℕ
numbered v = cond (numeral v) (Some (digits_value 10 v)) None
