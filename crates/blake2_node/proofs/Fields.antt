-- Fields that are put into a block one after another.
use Rattle.std.proofs.Common.{◌≡◌, ℕ, ◌+◌, ◌-◌, ◌≤◌, List, [], ◌∷◌, ◌++◌, length, take, drop, replicate, sym, ap, ◌∙◌, arith}
use borrow.Rule.Slice.PartMut.{put_mid}
use Rattle.std.proofs.lemmas.List.{append_assoc, drop_at, drop-replicate, length-append, take_at}
use Rattle.blake2.specs.Bytes.{le_bytes, pad}
use Rattle.blake2.specs.declared.variant.Variant.{Variant}
use Rattle.blake2.specs.declared.variant.Variant.TheVariants.{B, S}
use Rattle.label.specs.Labels.{Parts}
use Rattle.nodehash.specs.declared.position.Position.{Position}
use Rattle.blake2_node.specs.Parameters.{fields, offset_length, zeros_length}

pub next_place : (front field : List ℕ) (at next : ℕ) → length front ≡ at → next ≡ at + length field → length (front ++ field) ≡ next
next_place front field at next here e = omega (arith, length-append front field)

-- a field that is written after a front takes the place of zeros
pub put_after : (n k at : ℕ) (front field block last : List ℕ) → at + length field ≤ n → length front ≡ at → block ≡ pad n front → k ≡ length field → last ≡ field
    → put_mid at k block last ≡ pad n (front ++ field)
unfolding pad
put_after n k at front field block last room here zeros size copy =
    let rest : List ℕ = replicate (n - length front) 0 in
    let before : take at block ≡ front = ap (take at) zeros ∙ take_at front rest at here in
    let behind : drop k (drop at block) ≡ replicate (n - length (front ++ field)) 0 =
    ap (λ xs. drop k (drop at xs)) zeros ∙ ap (drop k) (drop_at front rest at here) ∙ drop-replicate k (n - length front) 0
    ∙ ap (λ m. replicate m 0) (omega (arith, length-append front field)) in
    (λ i. before i ++ (copy i ++ behind i)) ∙ sym (append_assoc front field (replicate (n - length (front ++ field)) 0))

-- the first bytes of an offset, as many as it has
pub offset_bytes : (v : Variant) (n x : ℕ) (bytes : List ℕ) → n ≡ offset_length v → bytes ≡ le_bytes 8 x → take n bytes ≡ le_bytes (offset_length v) x
offset_bytes B n x bytes e b = rw (e, b)
offset_bytes S n x bytes e b = rw (e, b)

pub some_zeros : (v : Variant) (n : ℕ) → n ≡ zeros_length v → take {A = ℕ} n (replicate 14 0) ≡ replicate (zeros_length v) 0
some_zeros B n e = rw e
some_zeros S n e = rw e

regroup : (a b c d e f g : List ℕ) → (((((a ++ b) ++ c) ++ d) ++ e) ++ f) ++ g ≡ a ++ (b ++ (c ++ (d ++ (e ++ (f ++ g)))))
regroup a b c d e f g = simp append_assoc

-- the fields, as they are put one after another
pub all_fields : (p : Parts) (position : Position) {b₀ b₁ b₂ b₃ b₄ b₅ b₆ b₇ page at zeros salt layout : List ℕ}
    → b₀ ≡ [] → b₁ ≡ b₀ ++ (p.digest ∷ p.key ∷ p.fanout ∷ p.depth ∷ []) → b₂ ≡ b₁ ++ page → b₃ ≡ b₂ ++ at → b₄ ≡ b₃ ++ (position.depth ∷ p.digest ∷ [])
    → b₅ ≡ b₄ ++ zeros → b₆ ≡ b₅ ++ salt → b₇ ≡ b₆ ++ layout
    → page ≡ le_bytes 4 p.page → at ≡ le_bytes (offset_length p.variant) position.offset → zeros ≡ replicate (zeros_length p.variant) 0 → salt ≡ p.salt → layout ≡ p.layout
    → b₇ ≡ fields p position
all_fields p position {page = page} {at} {zeros} {salt} {layout} e₀ e₁ e₂ e₃ e₄ e₅ e₆ e₇ f g h k l =
    let numbers : List ℕ = p.digest ∷ p.key ∷ p.fanout ∷ p.depth ∷ [] in
    let node : List ℕ = position.depth ∷ p.digest ∷ [] in
    rw (e₇, e₆, e₅, e₄, e₃, e₂, e₁, e₀) (regroup numbers page at node zeros salt layout ∙ (λ i. numbers ++ (f i ++ (g i ++ (node ++ (h i ++ (k i ++ l i)))))))
