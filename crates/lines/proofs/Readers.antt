-- A reader at one line after another.
use Rattle.std.proofs.Common.{◌≡◌, ℕ, ◌+◌, List, Ok, Err, Result, sym, ap, ◌∙◌, subst}
use Rattle.fault.specs.declared.fault.Fault.{Fault}
use Rattle.lines.proofs.Cuts.{then_back, never_ok}
use Rattle.lines.specs.Lines.{Line, valued, then, read_line}
use Rattle.lines.specs.Reader.{Reader, value_of, moved, past}

value_refused : {A B : Type 0} (m : Result (A × B) Fault) {e : Fault} → value_of m ≡ Err e → m ≡ Err e
value_refused (Ok p) h = absurd (never_ok (sym h))
value_refused (Err d) h = cc

-- an accepted line is taken
line_taken : {A : Type 0} (l : Line A) (r : Reader) {x : A} → l.number ≡ r.taken + 1 → value_of (read_line l r.left) ≡ Ok x → (read_line l r.left ≡ Ok (x, (past l.name r).left)) × ((past l.name r).taken ≡ r.taken + 1)
line_taken {A} l r {x} n h =
    let a = then_back (read_line l r.left) (λ p. Ok p.0) h in
    let b = then_back (valued l.number l.name r.left) (λ p. then (l.read p.0) (λ x. Ok (x, p.1))) a.1 in
    let c = then_back (l.read b.0.0) (λ x. Ok (x, b.0.1)) b.2 in
    let e : past l.name r ≡ record { taken = r.taken + 1; left = b.0.1 } = ap (λ k. moved r (valued k l.name r.left)) (sym n) ∙ ap (moved r) b.1 in
    let z : a.0.0 ≡ x = cc a.2 in
    let w : ◌≡◌ {A = A × List ℕ} (c.0, b.0.1) a.0 = cc c.2 in
    (a.1 ∙ (λ i. Ok (z i, (sym (ap (λ p. p.1) w) ∙ sym (ap (λ r. r.left) e)) i)), ap (λ r. r.taken) e)

-- What a function that reads line after line knows at line k + 1: how many lines are taken, and that its answer y is what f makes of this line and what follows.

module _ {A C : Type 0} {y : Result C Fault} (line : ℕ → Line A) (f : A × List ℕ → Result C Fault) (k : ℕ) (r : Reader) (numbered : (line (k + 1)).number ≡ k + 1) where
  pub accepted_line : {r' : Reader} {x : A} → Ok x ≡ value_of (read_line (line (r.taken + 1)) r.left) → r' ≡ past (line (k + 1)).name r → (r.taken ≡ k) × (y ≡ then (read_line (line (k + 1)) r.left) f) → (r'.taken ≡ k + 1) × (y ≡ f (x, r'.left))
  accepted_line {r'} {x} h e at =
      let g : value_of (read_line (line (k + 1)) r.left) ≡ Ok x = subst (λ n. value_of (read_line (line (n + 1)) r.left) ≡ Ok x) at.0 (sym h) in
      let t = line_taken (line (k + 1)) r (numbered ∙ ap (λ n. n + 1) (sym at.0)) g in
      (ap (λ r. r.taken) e ∙ t.1 ∙ ap (λ n. n + 1) at.0, at.1 ∙ ap (λ m. then m f) t.0 ∙ ap (λ r. f (x, r.left)) (sym e))

  pub refused_line : {e : Fault} → Err e ≡ value_of (read_line (line (r.taken + 1)) r.left) → (r.taken ≡ k) × (y ≡ then (read_line (line (k + 1)) r.left) f) → y ≡ Err e
  refused_line {e} h at =
      let g : value_of (read_line (line (k + 1)) r.left) ≡ Err e = subst (λ n. value_of (read_line (line (n + 1)) r.left) ≡ Err e) at.0 (sym h) in
      at.1 ∙ ap (λ m. then m f) (value_refused (read_line (line (k + 1)) r.left) g)
