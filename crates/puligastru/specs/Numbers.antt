-- What numbers from and to C mean.
use Rattle.std.specs.Prelude.{ℕ, cond, Ok, Err, Result, ◌==◌}
use Rattle.blake2.specs.declared.variant.Variant.{Variant}
use Rattle.blake2.specs.declared.variant.Variant.TheVariants.{B, S}
use Rattle.fault.specs.Numbers.{number_of}
use Rattle.fault.specs.declared.fault.Fault.{Fault}

-- 0 names BLAKE2b, and any other number BLAKE2s
abbrev pub variant_of : ℕ → Variant
variant_of n = cond (n == 0) B S

-- 0 where there is a result, else the refusal's number
abbrev pub status_of : {A : Type 0} → Result A Fault → ℕ
status_of (Ok x) = 0
status_of (Err f) = number_of f.number
