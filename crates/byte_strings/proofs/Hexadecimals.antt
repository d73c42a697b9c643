-- Hexadecimal text: what its reader and its writer do at each byte, and that they are inverse to each other.
use Rattle.std.proofs.Common.{◌≡◌, ℕ, zero, suc, ◌+◌, ◌*◌, ◌/◌, ◌%◌, ◌<◌, ◌≤◌, Bool, true, false, cond, ◌&&◌, eqb, leb, List, [], ◌∷◌, ◌++◌, length, get_or, take, Some, None, Option, option_map, sym, refl, ap, ◌∙◌, ◌⊎◌, ⊎_elim, append_assoc, append-nil, arith}
use Rattle.std.proofs.lemmas.List.{take_more}
use Rattle.std.proofs.lemmas.Bool.Decides.{nat_tests}
use Rattle.std.proofs.lemmas.Bool.{eqb-true, le-leb, lt-leb, and_parts, cases_lt, cond-true, cond-false}
use Rattle.std.specs.Char.{digit_char}
use Rattle.std.specs.Option.{option_zip, option_and_then}
use Rattle.hex.specs.Hex.{lower_digits, encode_lower, encode_with}
use Rattle.byte_strings.specs.Hexadecimal.{hex, nibble, digit_pair, unhex, hex_within}
use Rattle.byte_strings.specs.Strings.{AreBytes}

-- reading: the next pair of digits

pub unhex_more : (bs pair rest : List ℕ) {h l : ℕ} → length pair ≡ 2 → Some h ≡ nibble (get_or pair 0 0) → Some l ≡ nibble (get_or pair 1 0) → unhex bs (pair ++ rest) ≡ unhex (bs ++ ((16 * h + l) ∷ [])) rest
unhex_more bs [] rest n eh el = absurd (omega arith)
unhex_more bs (c ∷ []) rest n eh el = absurd (omega arith)
unhex_more bs (c ∷ (d ∷ [])) rest n eh el = rw (← eh, ← el)
unhex_more bs (c ∷ (d ∷ (x ∷ v))) rest n eh el = absurd (omega arith)

pub unhex_stop : (bs pair rest : List ℕ) → length pair ≡ 2 → (None ≡ nibble (get_or pair 0 0)) ⊎ (None ≡ nibble (get_or pair 1 0)) → unhex bs (pair ++ rest) ≡ None
unhex_stop bs [] rest n e = absurd (omega arith)
unhex_stop bs (c ∷ []) rest n e = absurd (omega arith)
unhex_stop bs (c ∷ (d ∷ [])) rest n e = ⊎_elim (λ h. rw (← h)) (λ l. rw (← l) (none (nibble c))) e
  where
    none : (o : Option ℕ) → option_and_then (λ b. unhex (bs ++ (b ∷ [])) rest) (option_map (λ p. 16 * p.0 + p.1) (option_zip o None)) ≡ None
    none None = refl
    none (Some x) = refl
unhex_stop bs (c ∷ (d ∷ (x ∷ v))) rest n e = absurd (omega arith)

-- no bytes: an odd number of digits, too many, or one of them is not a digit

none : (b : Bool) {o : Option (List ℕ)} → o ≡ None → cond b o None ≡ None
none true h = h
none false h = refl

unhex_odd : (bs v : List ℕ) → (length v % 2 ≡ 0 → ⊥) → unhex bs v ≡ None
unhex_odd bs [] e = absurd (e refl)
unhex_odd bs (c ∷ []) e = refl
unhex_odd bs (c ∷ (d ∷ v)) e = go (λ b. unhex_odd (bs ++ (b ∷ [])) v (λ z. e (omega arith))) (digit_pair c d)
  where
    go : ((b : ℕ) → unhex (bs ++ (b ∷ [])) v ≡ None) → (o : Option ℕ) → option_and_then (λ b. unhex (bs ++ (b ∷ [])) v) o ≡ None
    go ih None = refl
    go ih (Some b) = ih b

pub hex_within_odd : (n : ℕ) (v : List ℕ) → (length v % 2 ≡ 0 → ⊥) → hex_within n v ≡ None
hex_within_odd n v e = none (leb (length v / 2) n) (unhex_odd [] v e)

pub hex_within_long : (n : ℕ) (v : List ℕ) → n < length v / 2 → hex_within n v ≡ None
hex_within_long n v h = cond-false (leb (length v / 2) n) (unhex [] v) None (lt-leb (length v / 2) n h)

pub hex_within_none : (n : ℕ) (v : List ℕ) → unhex [] v ≡ None → hex_within n v ≡ None
hex_within_none n v e = none (leb (length v / 2) n) e

pub hex_within_some : (n : ℕ) (v : List ℕ) {bs : List ℕ} → length v / 2 ≤ n → unhex [] v ≡ Some bs → hex_within n v ≡ Some bs
hex_within_some n v h e = cond-true (leb (length v / 2) n) (unhex [] v) None (le-leb (length v / 2) n h) ∙ e

-- writing

hex_push : (bs : List ℕ) (b : ℕ) → hex (bs ++ (b ∷ [])) ≡ hex bs ++ (digit_char (b / 16) ∷ (digit_char (b % 16) ∷ []))
hex_push [] b = refl
hex_push (x ∷ bs) b = ap (λ l. digit_char (x / 16) ∷ (digit_char (x % 16) ∷ l)) (hex_push bs b)

pub hex_more : (a bytes : List ℕ) (i : ℕ) {o p q : List ℕ} {h l : ℕ} → i < length bytes → o ≡ a ++ hex (take i bytes) → p ≡ o ++ (h ∷ []) → q ≡ p ++ (l ∷ []) → h ≡ digit_char (get_or bytes i 0 / 16) → l ≡ digit_char (get_or bytes i 0 % 16) → q ≡ a ++ hex (take (i + 1) bytes)
hex_more a bytes i {o} {p} {q} {h} {l} lt eo ep eq eh el =
    eq ∙ ap (λ x. x ++ (l ∷ [])) ep ∙ append_assoc o (h ∷ []) (l ∷ []) ∙ (λ j. eo j ++ (eh j ∷ (el j ∷ []))) ∙ append_assoc a (hex (take i bytes)) _ ∙ ap (λ x. a ++ x) (sym (hex_push (take i bytes) (get_or bytes i 0)) ∙ ap hex (sym (take_more bytes i 0 lt)))

pub length-hex : (bs : List ℕ) → length (hex bs) ≡ 2 * length bs
length-hex [] = refl
length-hex (b ∷ bs) = omega (arith, length-hex bs)

-- the library's table of digits has the same ones

abbrev same_digits : ℕ → Bool
same_digits zero = true
same_digits (suc n) = eqb (get_or lower_digits n 0) (digit_char n) && same_digits n

same_digit : (n d : ℕ) → same_digits n ≡ true → d < n → get_or lower_digits d 0 ≡ digit_char d
same_digit zero d h lt = absurd (omega arith)
same_digit (suc n) d h lt =
    let p = and_parts (eqb (get_or lower_digits n 0) (digit_char n)) (same_digits n) h in
    ⊎_elim (λ below. same_digit n d p.1 below) (λ top. let e : d ≡ n = omega arith in rw e (eqb-true _ _ p.0)) (cases_lt d n)

pub encode_lower_is_hex : (bs : List ℕ) → AreBytes bs → encode_lower bs ≡ hex bs
unfolding encode_with
encode_lower_is_hex [] h = refl
encode_lower_is_hex (b ∷ bs) h =
    let small = h 0 in
    let high = same_digit 16 (b / 16) refl (omega arith) in
    let low = same_digit 16 (b % 16) refl (omega arith) in
    λ i. high i ∷ (low i ∷ encode_lower_is_hex bs (λ k. h (suc k)) i)

-- the two are inverse

nibble_of : (d : ℕ) → d < 16 → nibble (digit_char d) ≡ Some d
nibble_of d h = grind (arith, nat_tests)

unhex-hex : (bs ys : List ℕ) → AreBytes ys → unhex bs (hex ys) ≡ Some (bs ++ ys)
unhex-hex bs [] h = ap Some (sym (append-nil bs))
unhex-hex bs (y ∷ ys) h =
    let small = h 0 in
    let same : 16 * (y / 16) + y % 16 ≡ y = omega arith in
    rw (nibble_of (y / 16) (omega arith), nibble_of (y % 16) (omega arith), same) (unhex-hex (bs ++ (y ∷ [])) ys (λ k. h (suc k)) ∙ ap Some (append_assoc bs (y ∷ []) ys))

char_of : (c d : ℕ) → nibble c ≡ Some d → (c ≡ digit_char d) × (d < 16)
char_of c d e = grind (arith, nat_tests)

bytes_cons : (b : ℕ) (bs : List ℕ) → b < 256 → AreBytes bs → AreBytes (b ∷ bs)
bytes_cons b bs h all zero = h
bytes_cons b bs h all (suc k) = all k

unhex_is_hex : (bs v : List ℕ) {out : List ℕ} → unhex bs v ≡ Some out → (ys : List ℕ) × (out ≡ bs ++ ys) × (v ≡ hex ys) × AreBytes ys
unhex_is_hex bs [] {out} e = let i : bs ≡ out = cc in ([], sym i ∙ sym (append-nil bs), refl, λ k. omega arith)
unhex_is_hex bs (c ∷ []) e = cc
unhex_is_hex bs (c ∷ (d ∷ v)) {out} e = go (λ b. unhex_is_hex (bs ++ (b ∷ [])) v) (nibble c) (nibble d) refl refl e
  where
    go : ((b : ℕ) → unhex (bs ++ (b ∷ [])) v ≡ Some out → (ys : List ℕ) × (out ≡ (bs ++ (b ∷ [])) ++ ys) × (v ≡ hex ys) × AreBytes ys) → (h l : Option ℕ) → nibble c ≡ h → nibble d ≡ l → option_and_then (λ b. unhex (bs ++ (b ∷ [])) v) (option_map (λ p. 16 * p.0 + p.1) (option_zip h l)) ≡ Some out → (ys : List ℕ) × (out ≡ bs ++ ys) × (c ∷ (d ∷ v) ≡ hex ys) × AreBytes ys
    go ih None l i j t = cc
    go ih (Some h) None i j t = cc
    go ih (Some h) (Some l) i j t =
        let x = 16 * h + l in
        let p = char_of c h i in
        let q = char_of d l j in
        let r = ih x t in
        let high : h ≡ x / 16 = omega arith in
        let low : l ≡ x % 16 = omega arith in (
          x ∷ r.0,
          r.1 ∙ append_assoc bs (x ∷ []) r.0,
          λ k. (p.0 ∙ ap digit_char high) k ∷ ((q.0 ∙ ap digit_char low) k ∷ r.2 k),
          bytes_cons x r.0 (omega arith) r.3,
        )

pub hex_is_read : (n : ℕ) (bs : List ℕ) → length bs ≤ n → AreBytes bs → hex_within n (hex bs) ≡ Some bs
hex_is_read n bs h small = hex_within_some n (hex bs) (omega (arith, length-hex bs)) (unhex-hex [] bs small)

pub hex_within_is_hex : (n : ℕ) (v : List ℕ) {bs : List ℕ} → hex_within n v ≡ Some bs → v ≡ hex bs
hex_within_is_hex n v {bs} e = go (leb (length v / 2) n) e
  where
    go : (b : Bool) → cond b (unhex [] v) None ≡ Some bs → v ≡ hex bs
    go false h = let z : ◌≡◌ {A = ℕ} 0 1 = cc in absurd (omega arith)
    go true h = let r = unhex_is_hex [] v h in r.2 ∙ ap hex (sym r.1)
