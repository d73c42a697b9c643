-- Bytes as hexadecimal text: two lower-case digits to a byte, the high one first.
use Rattle.std.specs.Prelude.{ℕ, ◌+◌, ◌-◌, ◌*◌, ◌/◌, ◌%◌, cond, List, [], ◌∷◌, ◌++◌, length, Some, None, Option, option_map, nat_le}
use Rattle.std.specs.Int.{is_in_range}
use Rattle.std.specs.Char.{digit_char}
use Rattle.std.specs.Option.{option_zip, option_and_then}

-- the digits of the bytes
abbrev pub hex : List ℕ → List ℕ
hex [] = []
hex (b ∷ bs) = digit_char (b / 16) ∷ (digit_char (b % 16) ∷ hex bs)

-- the value of a digit
abbrev pub nibble : ℕ → Option ℕ
nibble c = cond (is_in_range 48 57 c) (Some (c - 48)) (cond (is_in_range 97 102 c) (Some (c - 87)) None)

-- the byte that two digits write, the high one first
abbrev pub digit_pair : ℕ → ℕ → Option ℕ
digit_pair c d = option_map (λ p. 16 * p.0 + p.1) (option_zip (nibble c) (nibble d))

-- the bytes that the digits write, after bs
abbrev pub unhex : List ℕ → List ℕ → Option (List ℕ)
unhex bs [] = Some bs
unhex bs (c ∷ []) = None
unhex bs (c ∷ (d ∷ v)) = option_and_then (λ b. unhex (bs ++ (b ∷ [])) v) (digit_pair c d)

-- the bytes that the digits write, if they are at most n
abbrev pub hex_within : ℕ → List ℕ → Option (List ℕ)
hex_within n v = cond (nat_le (length v / 2) n) (unhex [] v) None
