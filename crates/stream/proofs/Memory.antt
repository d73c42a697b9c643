-- A chain value, a state and a stream over any word are small in memory: the size of their fields, one after another, each rounded up to its alignment.
use Rattle.std.proofs.Common.{ℕ, ◌+◌, ◌-◌, ◌*◌, ◌%◌, ◌^◌, ◌<◌, ◌≤◌, max, arith}
use native.Mathlib.Nat.{mod-le}
use prog.Memory.{up}

up_most : (k e n : ℕ) → k ≤ 8 → e ≤ n → up k e ≤ n + 8
up_most k e n hk he = omega (arith, mod-le (k - e % k) k)

-- one field more, of c bytes
field : (k e n c : ℕ) → k ≤ 8 → e ≤ n → up k e + c ≤ n + 8 + c
field k e n c hk he = let u = up_most k e n hk he in omega arith

join : (x y m n : ℕ) → x ≤ m → y ≤ n → x + y ≤ m + n
join x y m n hx hy = omega arith

below : (x n : ℕ) → x ≤ n → n < 2 ^ 63 → x < 2 ^ 63
below x n h l = omega arith

-- a is the alignment of a word, and s its size
module _ (a s : ℕ) (ha : a ≤ 8) (hs : s ≤ 8) where
  words_most : up (max a 1) (up a 0 + 8 * s) ≤ 80
  words_most = up_most (max a 1) _ 72 (omega arith) (join (up a 0) (8 * s) 8 64 (up_most a 0 0 ha (omega arith)) (omega arith))

  chain_most : up (max (max a 1) 8) (up 8 (up (max a 1) 0 + up (max a 1) (up a 0 + 8 * s)) + 8) ≤ 112
  chain_most =
      let front = up_most (max a 1) 0 0 (omega arith) (omega arith) in
      up_most (max (max a 1) 8) _ 104 (omega arith) (field 8 _ 88 8 (omega arith) (join _ _ 8 80 front words_most))

  pub chain_fits : up (max (max a 1) 8) (up 8 (up (max a 1) 0 + up (max a 1) (up a 0 + 8 * s)) + 8) < 2 ^ 63
  chain_fits = below _ 112 chain_most (omega arith)
