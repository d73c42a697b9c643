-- What a store, a mark and a making leave in each record of a node table.
use Rattle.std.proofs.Common.{◌≡◌, ℕ, zero, suc, ◌+◌, ◌-◌, ◌*◌, ◌<◌, ◌≤◌, true, false, not, eqb, ◌≢◌, List, ◌∷◌, ◌++◌, length, get_or, take, drop, set, replicate, sym, refl, ap, ◌∙◌, append_assoc, arith, length-append, length-drop, length-set, length-take-le, get_or-drop, get_or-set_other, get_or-take, get_or-set_same, drop-drop, take_at, drop-set-lt, drop_at}
use native.Mathlib.Decide.{ℕ_discrete, dec_lt}
use lib.ListN.{length-replicate}
use lib.Seq.{drop-append-add, take-set-le, drop-set-add, get_or_at}
use borrow.Rule.Slice.PartMut.{put_mid}
use Rattle.std.proofs.lemmas.List.{drop-take}
use Rattle.std.proofs.lemmas.Slice.{drop-put_mid, take-put_mid_below}
use Rattle.tree.specs.Records.{marked, held, stored, zeros, store, mark, fresh}

pub length-stored : (d : List ℕ) → length d ≤ 64 → length (stored d) ≡ 64
unfolding stored
length-stored d h = simp (length-append, length-replicate) (omega arith)

-- the digest's own bytes
pub stored-digest : (d : List ℕ) (n : ℕ) → length d ≡ n → take n (stored d) ≡ d
unfolding stored
stored-digest d n e = take_at d _ n e

-- A table that is cut before and behind record i, of 65 bytes.
cut-length : (t : List ℕ) (i : ℕ) → 65 * i + 65 ≤ length t → length (take (65 * i) t) ≡ 65 * i
cut-length t i h = length-take-le (65 * i) t (omega arith)

pub length-store : (t : List ℕ) (i : ℕ) (d : List ℕ) → length d ≤ 64 → 65 * i + 65 ≤ length t → length (store t i d) ≡ length t
unfolding store
length-store t i d hd h =
    let a = length-stored d hd in
    let b = cut-length t i h in
    let c = length-drop (65 * i + 65) t in
    simp (length-append) (omega arith)

pub marked-store : (t : List ℕ) (i : ℕ) (d : List ℕ) → 65 * i + 65 ≤ length t → marked (store t i d) i ≡ false
unfolding marked store
marked-store t i d h =
    rw (get_or_at (take (65 * i) t) 0 (stored d ++ drop (65 * i + 65) t) 0 (65 * i) (cut-length t i h))

pub held-store : (t : List ℕ) (i : ℕ) (d : List ℕ) → length d ≤ 64 → 65 * i + 65 ≤ length t → held (store t i d) i ≡ stored d
unfolding held store
held-store t i d hd h =
    let b = cut-length t i h in
    let s = stored d ++ drop (65 * i + 65) t in
    let e : drop (65 * i + 1) (take (65 * i) t ++ (0 ∷ s)) ≡ s = sym (drop-drop 1 (65 * i) (take (65 * i) t ++ (0 ∷ s))) ∙ ap (drop 1) (drop_at (take (65 * i) t) (0 ∷ s) (65 * i) b) in
    rw e (take_at (stored d) (drop (65 * i + 65) t) 64 (length-stored d hd))

-- a store overwrites record i, and no other part of the table, w bytes from x on
store_is : (t : List ℕ) (i : ℕ) (d : List ℕ) → store t i d ≡ put_mid (65 * i) 65 t (0 ∷ stored d)
unfolding store
store_is t i d = ap (λ r. take (65 * i) t ++ ((0 ∷ stored d) ++ r)) (sym (drop-drop 65 (65 * i) t))

pub part_other : (t : List ℕ) (i i' : ℕ) (d : List ℕ) (x w : ℕ) → length d ≤ 64 → 65 * i + 65 ≤ length t → i' ≢ i → 65 * i' ≤ x → x + w ≤ 65 * i' + 65
    → take w (drop x (store t i d)) ≡ take w (drop x t)
part_other t i i' d x w hd h ne lo hi =
    ap (λ s. take w (drop x s)) (store_is t i d)
    ∙ elim (dec_lt i i') [
      | yes l ↦ ap (take w) (drop-put_mid (65 * i) 65 t (0 ∷ stored d) x (omega arith) (omega arith) (omega (arith, length-stored d hd)))
      | no l ↦
          sym (drop-take x w (put_mid (65 * i) 65 t (0 ∷ stored d)))
          ∙ ap (drop x) (take-put_mid_below (65 * i) 65 t (0 ∷ stored d) (x + w) (omega arith) (omega arith))
          ∙ drop-take x w t
    ]

byte_part : (t : List ℕ) (x : ℕ) → get_or t x 0 ≡ get_or (take 1 (drop x t)) 0 0
byte_part t x =
    let e : x ≡ x + 0 = omega arith in
    ap (λ y. get_or t y 0) e ∙ sym (get_or-drop x t 0 0) ∙ sym (get_or-take 1 (drop x t) 0 0 (omega arith))

pub marked-store_other : (t : List ℕ) (i i' : ℕ) (d : List ℕ) → length d ≤ 64 → 65 * i + 65 ≤ length t → i' ≢ i → marked (store t i d) i' ≡ marked t i'
unfolding marked
marked-store_other t i i' d hd h ne =
    ap (λ b. not (eqb b 0))
    (byte_part (store t i d) (65 * i') ∙ ap (λ y. get_or y 0 0) (part_other t i i' d (65 * i') 1 hd h ne (omega arith) (omega arith))
    ∙ sym (byte_part t (65 * i')))

pub held-store_other : (t : List ℕ) (i i' : ℕ) (d : List ℕ) → length d ≤ 64 → 65 * i + 65 ≤ length t → i' ≢ i → held (store t i d) i' ≡ held t i'
unfolding held
held-store_other t i i' d hd h ne = part_other t i i' d (65 * i' + 1) 64 hd h ne (omega arith) (omega arith)

-- marks
pub length-mark : (t : List ℕ) (i : ℕ) → length (mark t i) ≡ length t
unfolding mark
length-mark t i = length-set t (65 * i) 1

pub marked-mark : (t : List ℕ) (i : ℕ) → 65 * i + 65 ≤ length t → marked (mark t i) i ≡ true
unfolding marked mark
marked-mark t i h = ap (λ b. not (eqb b 0)) (get_or-set_same t (65 * i) 1 0 (omega arith))

pub marked-mark_other : (t : List ℕ) (i i' : ℕ) → i' ≢ i → marked (mark t i) i' ≡ marked t i'
unfolding marked mark
marked-mark_other t i i' ne = ap (λ b. not (eqb b 0)) (get_or-set_other t (65 * i) (65 * i') 1 0 (omega arith))

-- a mark stays where another is set
pub mark_stays : (t : List ℕ) (i x : ℕ) → 65 * x + 65 ≤ length t → marked t i ≡ true → marked (mark t x) i ≡ true
mark_stays t i x h e =
    elim (ℕ_discrete i x) [
      | yes q ↦ rw q (marked-mark t x h)
      | no ne ↦ marked-mark_other t x i ne ∙ e
    ]

pub held-mark : (t : List ℕ) (i i' : ℕ) → held (mark t i) i' ≡ held t i'
unfolding held mark
held-mark t i i' =
    elim (dec_lt i' i) [
      | yes l ↦
          let e : 65 * i ≡ (65 * i' + 1) + (65 * i - (65 * i' + 1)) = omega arith in
          let y = 65 * i - (65 * i' + 1) in
          ap (λ z. take 64 (drop (65 * i' + 1) (set t z 1))) e
          ∙ ap (take 64) (drop-set-add (65 * i' + 1) t y 1) ∙ take-set-le 64 (drop (65 * i' + 1) t) y 1 (omega arith)
      | no l ↦ ap (take 64) (drop-set-lt (65 * i' + 1) t (65 * i) 1 (omega arith))
    ]

-- the table that a making leaves
length-zeros : length zeros ≡ 64
unfolding zeros
length-zeros = refl

pub length-fresh : (m : ℕ) → length (fresh m) ≡ 65 * m
unfolding fresh zeros
length-fresh zero = refl
length-fresh (suc m) = let a = length-fresh m in let b = length-append (1 ∷ replicate 64 0) (fresh m) in omega arith

fresh_at : (m i : ℕ) (r : List ℕ) → i < m → (rest : List ℕ) × (drop (65 * i) (fresh m ++ r) ≡ 1 ∷ (zeros ++ rest))
unfolding fresh zeros
fresh_at zero i r l = absurd (omega arith)
fresh_at (suc m) zero r l = (fresh m ++ r, append_assoc (1 ∷ zeros) (fresh m) r)
fresh_at (suc m) (suc i) r l =
    let ih = fresh_at m i r (omega arith) in
    let q : 65 * suc i ≡ 65 + 65 * i = omega arith in (
      ih.0,
      ap (drop (65 * suc i)) (append_assoc (1 ∷ zeros) (fresh m) r) ∙ ap (λ y. drop y ((1 ∷ zeros) ++ (fresh m ++ r))) q
          ∙ drop-append-add (1 ∷ zeros) (fresh m ++ r) (65 * i) ∙ ih.1,
    )

pub marked-fresh : (m i : ℕ) (r : List ℕ) → i < m → marked (fresh m ++ r) i ≡ true
unfolding marked
marked-fresh m i r l =
    let e = fresh_at m i r l in
    let q : 65 * i ≡ 65 * i + 0 = omega arith in
    ap (λ b. not (eqb b 0)) (ap (λ y. get_or (fresh m ++ r) y 0) q ∙ sym (get_or-drop (65 * i) (fresh m ++ r) 0 0) ∙ ap (λ y. get_or y 0 0) e.1)

pub held-fresh : (m i : ℕ) (r : List ℕ) → i < m → held (fresh m ++ r) i ≡ zeros
unfolding held
held-fresh m i r l =
    let e = fresh_at m i r l in
    ap (take 64) (sym (drop-drop 1 (65 * i) (fresh m ++ r)) ∙ ap (drop 1) e.1) ∙ take_at zeros e.0 64 length-zeros
