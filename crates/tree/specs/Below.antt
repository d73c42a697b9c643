-- Numbers below a bound: the least that passes a test, a sum, and bytes joined.
use Rattle.std.specs.Option.{option_or}
use Rattle.std.specs.Prelude.{ℕ, zero, suc, ◌+◌, Bool, if◌then◌else◌, List, [], ◌++◌, Some, None, Option}

-- the least number below n that passes p
unfoldable pub first : (ℕ → Bool) → ℕ → Option ℕ
first p zero = None
first p (suc n) = option_or (first p n) (if p n then Some n else None)

-- f 0 + f 1 + .. + f (n - 1)
unfoldable pub total : (ℕ → ℕ) → ℕ → ℕ
total f zero = 0
total f (suc n) = total f n + f n

-- the bytes f c, f (c + 1), .., n of them, one after another
unfoldable pub joined_from : (ℕ → List ℕ) → ℕ → ℕ → List ℕ
joined_from f c zero = []
joined_from f c (suc n) = joined_from f c n ++ f (c + n)
