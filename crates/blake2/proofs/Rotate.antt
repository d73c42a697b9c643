-- The two halves of a rotation have no bit in common, so `or` and `xor` join them alike.
use Rattle.std.proofs.Common.{◌≡◌, ℕ, ◌+◌, ◌-◌, ◌*◌, ◌/◌, ◌%◌, ◌^◌, ◌<◌, ◌≤◌, sym, ap, ◌∙◌, ⊎_elim, add-zero, mod-eq_of_lt, arith}
use native.Mathlib.Nat.{mul-mod_left, mod_self}
use lib.Bits.{bit_or, bit_xor, or_shifted_r, xor_shifted, xor_comm, or_self, xor_zero_r}
use Rattle.std.proofs.lemmas.Nat.{shr_below, shl-shr, mod-pow-add, mod_below}
use Rattle.std.proofs.lemmas.Bool.{cases_eq}
use Rattle.blake2.specs.Compression.{rotr}
use Rattle.blake2.specs.Width.{Width}

either : (b k x : ℕ) → k ≤ b → x < 2 ^ b
    → bit_or (x / 2 ^ k) ((x * 2 ^ (b - k)) % 2 ^ b) ≡ bit_xor (x / 2 ^ k) ((x * 2 ^ (b - k)) % 2 ^ b)
either b k x hk hx =
    let j = b - k in
    let e : b ≡ j + k = omega arith in
    let e2 : b ≡ k + j = omega arith in
    let high : (x * 2 ^ j) % 2 ^ b ≡ (x % 2 ^ k) * 2 ^ j =
    ap (λ (n : ℕ). (x * 2 ^ j) % 2 ^ n) e2 ∙ mod-pow-add (x * 2 ^ j) k j
    ∙ rw (shl-shr x j, mul-mod_left x (2 ^ j)) (add-zero ((x % 2 ^ k) * 2 ^ j)) in
    let small : x < 2 ^ (j + k) = rw (sym e) hx in
    let low : x / 2 ^ k < 2 ^ j = shr_below x j k small in
    let a = or_shifted_r (x % 2 ^ k) j (x / 2 ^ k) low in
    let d = xor_comm (x / 2 ^ k) ((x % 2 ^ k) * 2 ^ j) ∙ xor_shifted (x % 2 ^ k) j (x / 2 ^ k) low in
    ap (bit_or (x / 2 ^ k)) high ∙ a ∙ sym d ∙ ap (bit_xor (x / 2 ^ k)) (sym high)

-- what a machine's rotation gives, by any number of places
pub rotated : (w : Width) (by x : ℕ) → 0 < w.bits → x < 2 ^ w.bits
    → bit_or (x / 2 ^ (by % w.bits)) ((x * 2 ^ ((w.bits - by % w.bits) % w.bits)) % 2 ^ w.bits) ≡ rotr w (by % w.bits) x
unfolding rotr
rotated w by x some small =
    let b = w.bits in
    let k = by % b in
    let inside : k < b = mod_below by b some in
    ⊎_elim
    (λ z.
    let all : b - k ≡ b = omega arith in
    let none : (b - k) % b ≡ 0 = ap (λ n. n % b) all ∙ mod_self b in
    let high : x * 2 ^ (b - k) % 2 ^ b ≡ 0 = ap (λ n. x * 2 ^ n % 2 ^ b) all ∙ mul-mod_left x (2 ^ b) in
    let whole : x * 2 ^ ((b - k) % b) % 2 ^ b ≡ x = ap (λ n. x * 2 ^ n % 2 ^ b) none ∙ ap (λ n. n % 2 ^ b) (omega arith) ∙ mod-eq_of_lt small in
    let same : x / 2 ^ k ≡ x = ap (λ n. x / 2 ^ n) z ∙ omega arith in
    rw (whole, high, same) (or_self x ∙ sym (xor_zero_r x)))
    (λ nz.
    let less : (b - k) % b ≡ b - k = mod-eq_of_lt (omega arith) in
    rw less (either b k x (omega arith) small))
    (cases_eq k 0)
