-- The schedule's rule: one test over the whole table, and what it says of each row and entry.
use Rattle.std.proofs.Common.{◌≡◌, ℕ, zero, suc, ◌<◌, ◌≤◌, true, eqb, ltb, List, [], ◌∷◌, length, get_or, take, refl, ap, ◌∙◌, ⊎_elim, le_of_suc-le-suc, not-suc-le-zero, arith}
use Rattle.std.proofs.lemmas.List.{get_or-take, length-take-le}
use Rattle.std.proofs.lemmas.Bool.{and_parts, cases_eq, eqb-true, ltb-true}
use Rattle.blake2.specs.Schedule.{below, once, count, is_row, all_rows, sigma}

below_at : (n : ℕ) (row : List ℕ) → 0 < n → below n row ≡ true → (k : ℕ) → get_or row k 0 < n
below_at n [] p e k = p
below_at n (x ∷ row) p e zero = ltb-true x n (and_parts (ltb x n) (below n row) e).0
below_at n (x ∷ row) p e (suc k) = below_at n row p (and_parts (ltb x n) (below n row) e).1 k

once_at : (n : ℕ) (row : List ℕ) → once n row ≡ true → (k : ℕ) → k < n → count k row ≡ 1
once_at zero row e k h = absurd (not-suc-le-zero h)
once_at (suc n) row e k h =
    let parts = and_parts (eqb (count n row) 1) (once n row) e in
    ⊎_elim
    (λ same. ap (λ j. count j row) same ∙ eqb-true (count n row) 1 parts.0)
    (λ other. once_at n row parts.1 k (omega arith))
    (cases_eq k n)

-- each entry of a row is below 16
pub entry_below : (row : List ℕ) → is_row row ≡ true → (k : ℕ) → get_or row k 0 < 16
entry_below row e = below_at 16 row (omega arith) (and_parts (below 16 row) (once 16 row) e).0

-- each of 0 to 15 stands in a row once
pub entry_once : (row : List ℕ) → is_row row ≡ true → (k : ℕ) → k < 16 → count k row ≡ 1
entry_once row e = once_at 16 row (and_parts (below 16 row) (once 16 row) e).1

row_at : (rows : List (List ℕ)) → all_rows rows ≡ true → (i : ℕ) → i < length rows → is_row (get_or rows i []) ≡ true
row_at [] e i h = absurd (not-suc-le-zero h)
row_at (row ∷ rows) e zero h = (and_parts (is_row row) (all_rows rows) e).0
row_at (row ∷ rows) e (suc i) h = row_at rows (and_parts (is_row row) (all_rows rows) e).1 i (le_of_suc-le-suc h)

-- the test over all 192 numbers
schedule_passes : all_rows sigma ≡ true
schedule_passes = refl

pub row_is : (i : ℕ) → i < 12 → is_row (get_or sigma i []) ≡ true
row_is i h = row_at sigma schedule_passes i h

-- the first rows of the schedule are rows of it
pub length-rows : (n : ℕ) (rows : List (List ℕ)) → rows ≡ take n sigma → n ≤ 12 → length rows ≡ n
length-rows n rows first few = ap length first ∙ length-take-le n sigma few

pub row_of : (n i : ℕ) (rows : List (List ℕ)) → rows ≡ take n sigma → n ≤ 12 → i < length rows → get_or rows i [] ≡ get_or sigma i []
row_of n i rows first few inside =
    ap (λ xs. get_or xs i []) first ∙ get_or-take n sigma i [] (omega (arith, length-rows n rows first few))
