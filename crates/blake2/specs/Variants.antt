-- The letters that stand for the variants, and their names.
use Rattle.std.specs.Prelude.{ℕ, cond, List, [], ◌∷◌, Some, None, codes, Option, ◌==◌}
use Rattle.blake2.specs.declared.variant.Variant.{Variant}
use Rattle.blake2.specs.declared.variant.Variant.TheVariants.{B, S}

-- the letter that stands for a variant
abbrev pub letter : Variant → List ℕ
letter B = codes "b"
letter S = codes "s"

-- the variant that a letter stands for
abbrev pub variant_of : List ℕ → Option Variant
variant_of [] = None
variant_of (c ∷ []) = cond (c == 98) (Some B) (cond (c == 115) (Some S) None)
variant_of (c ∷ (d ∷ v)) = None

-- the full name of a variant
abbrev pub name_of : Variant → List ℕ
name_of B = codes "BLAKE2b"
name_of S = codes "BLAKE2s"
