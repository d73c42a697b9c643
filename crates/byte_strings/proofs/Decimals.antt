-- Decimal text: what its reader and its writer do at each digit, and that they are inverse to each other.
use Rattle.std.proofs.Common.{◌≡◌, ℕ, zero, suc, ◌+◌, ◌-◌, ◌*◌, ◌^◌, ◌<◌, ◌≤◌, Bool, true, false, cond, not, ◌&&◌, eqb, ltb, leb, List, [], ◌∷◌, length, get_or, take, Some, None, decimal, sym, refl, ap, ◌∙◌, subst, ⊎_elim, arith}
use native.Mathlib.Nat.{pow-le-pow_right}
use Rattle.std.proofs.lemmas.Fmt.{decimal_digit, decimal_nonempty, decimal_is_IsNumeral, decimal-digits_value, digits_value-decimal, first_decimal, length-decimal-le}
use Rattle.std.proofs.lemmas.Int.Digits.{digits_value-lt, digits_value_more, digits_more}
use Rattle.std.proofs.lemmas.List.{length-take-le}
use Rattle.std.proofs.lemmas.Str.Parse.{IsNumeralModel, numerals_by_value, tells_all_ascii_digits, digits_value_short}
use Rattle.std.proofs.lemmas.Bool.{ne_eqb, le-ltb, lt-ltb, le-leb, and_parts, and_cases, and_left, and_right, leb-true, ltb-false, eqb-false, not-true, cases_lt}
use Rattle.std.specs.Str.Parse.{digits_value, AllDigits}
use Rattle.std.specs.Int.{is_in_range}
use Rattle.std.specs.Char.{is_ascii_digit, digit_value}
use Rattle.std.specs.Str.{all_ascii_digits}
use Rattle.byte_strings.specs.Decimal.{leading_zero, numeral, numbered}

own : IsNumeralModel (λ ds. all_ascii_digits ds ≡ true) (digits_value 10)
own = numerals_by_value (λ ds. all_ascii_digits ds ≡ true) tells_all_ascii_digits

-- reading

not_digits : (v : List ℕ) (i : ℕ) → i < length v → is_ascii_digit (get_or v i 0) ≡ false → all_ascii_digits v ≡ false
not_digits [] i lt e = absurd (omega arith)
not_digits (c ∷ v) zero lt e = rw e
not_digits (c ∷ v) (suc i) lt e = go (is_ascii_digit c) (not_digits v i (omega arith) e)
  where
    go : (b : Bool) → all_ascii_digits v ≡ false → (b && all_ascii_digits v) ≡ false
    go true h = h
    go false h = refl

-- a byte that is not a digit
pub numbered_none : (v : List ℕ) (i : ℕ) → i < length v → is_ascii_digit (get_or v i 0) ≡ false → numbered v ≡ None
numbered_none v i lt e = rw (not_digits v i lt e)

pub numbered_some : (v : List ℕ) (n : ℕ) → AllDigits 10 v → n ≡ digits_value 10 v → 1 ≤ length v → length v ≤ 4 → leading_zero v ≡ false → numbered v ≡ Some n
numbered_some v n d e low high lead = rw (own.from v d, le-leb 1 (length v) low, le-leb (length v) 4 high, lead, e)

-- before the last digit the number is below 1000
pub short_value : (v : List ℕ) (i : ℕ) → i < length v → length v ≤ 4 → AllDigits 10 (take i v) → digits_value 10 (take i v) < 1000
short_value v i lt le d =
    let l = length-take-le i v (omega arith) in
    let k : i ≤ 3 = omega arith in
    let m : 10 ^ i ≤ 10 ^ 3 = pow-le-pow_right (omega arith) k in
    let p : digits_value 10 (take i v) < 10 ^ i = subst (λ k. digits_value 10 (take i v) < 10 ^ k) l (digits_value-lt 10 (take i v) d) in
    omega arith

digit_value_lem : (c : ℕ) → is_ascii_digit c ≡ true → digit_value c ≡ c - 48
digit_value_lem c e =
    let p = and_parts (leb 48 c) (leb c 57) e in
    rw (le-ltb c 48 (leb-true 48 c p.0), lt-ltb c 58 (omega (arith, leb-true c 57 p.1)))

-- one digit more
pub one_more : (v : List ℕ) (i n x : ℕ) → i < length v → is_ascii_digit (get_or v i 0) ≡ true → x ≡ get_or v i 0 - 48 → AllDigits 10 (take i v) → n ≡ digits_value 10 (take i v) → AllDigits 10 (take (i + 1) v) × (10 * n + x ≡ digits_value 10 (take (i + 1) v))
one_more v i n x lt dig e ds is =
    let p = and_parts (leb 48 (get_or v i 0)) (leb (get_or v i 0) 57) dig in
    let dv = digit_value_lem (get_or v i 0) dig in (
      digits_more 10 v i lt ds (omega (arith, dv, leb-true (get_or v i 0) 57 p.1)),
      omega (arith, dv, digits_value_more 10 v i lt),
    )

-- the two are inverse

decimal_lead : (n : ℕ) → n < 10000 → leading_zero (decimal n) ≡ false
decimal_lead n h =
    ⊎_elim
    (λ some. and_right (ltb 1 (length (decimal n))) _ (ne_eqb (get_or (decimal n) 0 0) 48 (λ z. omega (arith, first_decimal n some (omega arith)))))
    (λ none. and_left _ (eqb (get_or (decimal n) 0 0) 48) (le-ltb 1 (length (decimal n)) (omega (arith, ap length (decimal_digit n (omega arith))))))
    (cases_lt 0 n)

pub decimal_is_read : (n : ℕ) → n < 10000 → numbered (decimal n) ≡ Some n
decimal_is_read n h =
    numbered_some (decimal n) n (decimal_is_IsNumeral n (omega arith)).0.1 (sym (digits_value-decimal own n (omega arith))) (decimal_nonempty n (omega arith)) (length-decimal-le 4 n (omega arith) (omega arith) (omega arith)) (decimal_lead n h)

pub numbered_is_decimal : (v : List ℕ) {n : ℕ} → numbered v ≡ Some n → v ≡ decimal n
numbered_is_decimal v {n} e = go (numeral v) refl e
  where
    go : (b : Bool) → numeral v ≡ b → cond b (Some (digits_value 10 v)) None ≡ Some n → v ≡ decimal n
    go false i h = let z : ◌≡◌ {A = ℕ} 0 1 = cc in absurd (omega arith)
    go true i h =
        let a = and_parts (all_ascii_digits v) (is_in_range 1 4 (length v) && not (leading_zero v)) i in
        let b = and_parts (is_in_range 1 4 (length v)) (not (leading_zero v)) a.1 in
        let c = and_parts (leb 1 (length v)) (leb (length v) 4) b.0 in
        let low : 1 ≤ length v = leb-true 1 (length v) c.0 in
        let high : length v ≤ 4 = leb-true (length v) 4 c.1 in
        let lead : get_or v 0 0 ≡ 48 → length v ≡ 1 = λ z. ⊎_elim (λ long. omega (arith, ltb-false 1 (length v) long)) (λ no. absurd (eqb-false (get_or v 0 0) 48 no z)) (and_cases (ltb 1 (length v)) (eqb (get_or v 0 0) 48) (not-true (leading_zero v) b.1)) in
        let same : digits_value 10 v ≡ n = cc in
        sym (decimal-digits_value own v a.0 low lead (omega (arith, digits_value_short own v 4 a.0 high))) ∙ ap decimal same
