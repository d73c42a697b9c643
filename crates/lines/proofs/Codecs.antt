-- The kinds of lines: what each reads is what it writes.
use Rattle.std.proofs.Common.{◌≡◌, ℕ, ◌/◌, ◌%◌, ◌<◌, ◌≤◌, Bool, true, false, cond, not, eqb, List, [], ◌∷◌, length, Some, None, Ok, decimal, Option, refl, ap, ◌∙◌, ⊎_elim, arith}
use Rattle.std.proofs.lemmas.Fmt.{digits_decimal}
use Rattle.std.proofs.ByRecursion.{All-from_get_or}
use Rattle.std.proofs.lemmas.Str.Parse.{numerals_by_value, tells_all_ascii_digits, not_in_digits}
use Rattle.std.proofs.lemmas.Bool.{eq-eqb, cases_lt, lt-ltb, le-ltb, cond-true}
use Rattle.std.specs.Char.{digit_char}
use Rattle.std.specs.Str.{all_ascii_digits}
use Rattle.byte_strings.proofs.Decimals.{decimal_is_read, numbered_is_decimal}
use Rattle.byte_strings.proofs.Hexadecimals.{hex_is_read, hex_within_is_hex}
use Rattle.byte_strings.specs.Decimal.{numbered}
use Rattle.byte_strings.specs.Hexadecimal.{hex, hex_within}
use Rattle.byte_strings.specs.Strings.{AreBytes}
use Rattle.fault.specs.Faults.{on, unless}
use Rattle.fault.specs.declared.refusal.Refusal.TheVariants.{NumberRange}
use Rattle.lines.specs.declared.range.Range.{Range}
use Rattle.lines.specs.Lines.{Line, read_bytes, then, formed, nothing, inside, exactly, fixed_line, number_line, bytes_line}
use Rattle.lines.proofs.Cuts.{Clean, never_ok, never_some, then_back, formed_back}

-- A line is faithful if what it reads is what it writes, and has x if it reads x from what it writes of x. Its name does not matter for either.

abbrev pub Faithful : {A : Type 0} → Line A → Type 0
Faithful {A} l = (v : List ℕ) (x : A) → l.read v ≡ Ok x → v ≡ l.write x

abbrev pub Has : {A : Type 0} → Line A → A → Type 0
Has l x = Clean (l.write x) × (l.read (l.write x) ≡ Ok x)

pub fixed_faithful : (n : ℕ) → Faithful (fixed_line n [])
fixed_faithful n v x h = go v (formed_back n (nothing v) h)
  where
    go : (v : List ℕ) → nothing v ≡ Some x → v ≡ []
    go [] e = refl
    go (c ∷ v) e = absurd (never_some e)

pub fixed_has : (n : ℕ) → Has (fixed_line n []) tt
fixed_has n = (tt, refl)

pub number_faithful : (n : ℕ) (range : Range) → Faithful (number_line n [] range)
number_faithful n range v x h =
    let p = then_back (formed n (numbered v)) (λ y. unless (on (not (inside range y)) NumberRange n ∷ []) y) h in
    numbered_is_decimal v (formed_back n (numbered v) p.1) ∙ ap decimal (go p.0 (inside range p.0) p.2)
  where
    go : (y : ℕ) (b : Bool) → unless (on (not b) NumberRange n ∷ []) y ≡ Ok x → y ≡ x
    go y true e = cc
    go y false e = absurd (never_ok e)

decimal_clean : (x : ℕ) → x < 10000 → Clean (decimal x)
decimal_clean x h =
    let own = numerals_by_value (λ ds. all_ascii_digits ds ≡ true) tells_all_ascii_digits in
    All-from_get_or (λ c. c ≡ 10 → ⊥) (decimal x) 0 (not_in_digits own (decimal x) 10 (digits_decimal own x (omega arith)) (λ i. omega (arith, i.0)))

pub number_has : (n : ℕ) (range : Range) (x : ℕ) → inside range x ≡ true → x < 10000 → Has (number_line n [] range) x
number_has n range x h small = (
  decimal_clean x small,
  ap (λ o. then (formed n o) (λ y. unless (on (not (inside range y)) NumberRange n ∷ []) y)) (decimal_is_read x small) ∙ ap (λ b. unless (on (not b) NumberRange n ∷ []) x) h,
)

read_bytes_back : (n most size : ℕ) (v : List ℕ) {bs : List ℕ} → read_bytes n most size v ≡ Ok bs → hex_within most v ≡ Some bs
read_bytes_back n most size v {bs} h = go (hex_within most v) (formed_back n (exactly size (hex_within most v)) h)
  where
    same : (w : List ℕ) (b : Bool) → cond b (Some w) None ≡ Some bs → w ≡ bs
    same w true j = cc
    same w false j = absurd (never_some j)

    go : (o : Option (List ℕ)) → exactly size o ≡ Some bs → o ≡ Some bs
    go None i = absurd (never_some i)
    go (Some w) i = ap Some (same w (eqb (length w) size) i)

pub bytes_faithful : (n : ℕ) (most size : ℕ) → Faithful (bytes_line n [] most size)
bytes_faithful n most size v bs h = hex_within_is_hex most v (read_bytes_back n most size v h)

hex_clean : (bs : List ℕ) → Clean (hex bs)
hex_clean [] = tt
hex_clean (b ∷ bs) = (λ e. omega (arith, large (b / 16)), (λ e. omega (arith, large (b % 16)), hex_clean bs))
  where
    large : (d : ℕ) → 48 ≤ digit_char d
    large d = ⊎_elim (λ h. rw (lt-ltb d 10 h) (omega arith)) (λ h. rw (le-ltb d 10 h) (omega arith)) (cases_lt d 10)

pub bytes_has : (n : ℕ) (most size : ℕ) (bs : List ℕ) → size ≤ most → length bs ≡ size → AreBytes bs → Has (bytes_line n [] most size) bs
bytes_has n most size bs le e small = (
  hex_clean bs,
  ap (λ o. formed n (exactly size o)) (hex_is_read most bs (omega arith) small) ∙ ap (formed n) (cond-true (eqb (length bs) size) (Some bs) None (eq-eqb (length bs) size e)),
)
