-- Numbers below a bound: what was found first, and sums that differ at one number.
use Rattle.std.proofs.Common.{◌≡◌, ℕ, zero, suc, ◌+◌, ◌<◌, ◌≤◌, Bool, true, false, cond, ◌≢◌, List, ◌++◌, Some, None, Option, refl, ◌∙◌, ap₂, arith}
use native.Mathlib.Decide.{ℕ_discrete}
use Rattle.std.specs.Option.{option_or}
use Rattle.tree.specs.Below.{first, total, joined_from}

-- a number below one more is below, or it is the bound
pub by_last : {A : Type 0} → (i n : ℕ) → i < suc n → (i < n → A) → (i ≡ n → A) → A
by_last i n h low high = elim (ℕ_discrete i n) [ yes e ↦ high e | no ne ↦ low (omega arith) ]

-- where none was found, none passes
pub first_none : (p : ℕ → Bool) (n : ℕ) → first p n ≡ None → (i : ℕ) → i < n → p i ≡ false
unfolding first
first_none p zero e i h = absurd (omega arith)
first_none p (suc n) e i h = go (first_none p n) (first p n) refl (p n) refl e
  where
    go : ((first p n ≡ None) → (i : ℕ) → i < n → p i ≡ false) → (o : Option ℕ) → first p n ≡ o → (b : Bool) → p n ≡ b → option_or o (cond b (Some n) None) ≡ None → p i ≡ false
    go ih (Some x) e₁ b e₂ e₃ = cc
    go ih None e₁ true e₂ e₃ = cc
    go ih None e₁ false e₂ e₃ = by_last i n h (ih e₁ i) (λ q. rw q e₂)

-- j is the least number below n that passes
pub record First (p : ℕ → Bool) (n j : ℕ) : Type 0 where
  pub below : j < n
  pub passes : p j ≡ true
  pub least : (i : ℕ) → i < j → p i ≡ false

pub first_some : (p : ℕ → Bool) (n j : ℕ) → first p n ≡ Some j → First p n j
unfolding first
first_some p zero j e = absurd (cc)
first_some p (suc n) j e = go (first_some p n) (first p n) refl (p n) refl e
  where
    go : ((j : ℕ) → first p n ≡ Some j → First p n j) → (o : Option ℕ) → first p n ≡ o → (b : Bool) → p n ≡ b → option_or o (cond b (Some n) None) ≡ Some j → First p (suc n) j
    go ih (Some x) e₁ b e₂ e₃ =
        let r = ih j (e₁ ∙ e₃) in
        record { below = omega (arith, r.below); passes = r.passes; least = r.least }
    go ih None e₁ true e₂ e₃ =
        let q : n ≡ j = cc in
        record { below = omega arith; passes = rw (← q) e₂; least = λ i h. first_none p n e₁ i (omega arith) }
    go ih None e₁ false e₂ e₃ = absurd (cc)

pub total_same : (f g : ℕ → ℕ) (n : ℕ) → ((i : ℕ) → i < n → f i ≡ g i) → total f n ≡ total g n
unfolding total
total_same f g zero h = refl
total_same f g (suc n) h = ap₂ ◌+◌ (total_same f g n (λ i l. h i (omega arith))) (h n (omega arith))

-- where two sums differ at one number only
pub total_one : (f g : ℕ → ℕ) (n j d : ℕ) → j < n → f j ≡ d + g j → ((i : ℕ) → i < n → i ≢ j → f i ≡ g i) → total f n ≡ d + total g n
unfolding total
total_one f g zero j d l e h = absurd (omega arith)
total_one f g (suc n) j d l e h =
    by_last j n l
    (λ low. let a = total_one f g n j d low e (λ i m ne. h i (omega arith) ne) in let b = h n (omega arith) (omega arith) in omega arith)
    (λ q. let a = total_same f g n (λ i m. h i (omega arith) (omega arith)) in let b : f n ≡ d + g n = rw (← q) e in omega arith)

pub total_zero : (f : ℕ → ℕ) (n : ℕ) → total f n ≡ 0 → (i : ℕ) → i < n → f i ≡ 0
unfolding total
total_zero f zero e i l = absurd (omega arith)
total_zero f (suc n) e i l = by_last i n l (λ low. total_zero f n (omega arith) i low) (λ q. rw q (omega arith))

pub total_none : (f : ℕ → ℕ) (n : ℕ) → ((i : ℕ) → i < n → f i ≡ 0) → total f n ≡ 0
unfolding total
total_none f zero h = refl
total_none f (suc n) h = let a = total_none f n (λ i l. h i (omega arith)) in let b = h n (omega arith) in omega arith

-- what is summed before a later number has this number's part in it
pub total_grows : (f : ℕ → ℕ) (k n : ℕ) → k < n → total f k + f k ≤ total f n
unfolding total
total_grows f k zero l = absurd (omega arith)
total_grows f k (suc n) l = by_last k n l (λ low. let a = total_grows f k n low in omega arith) (λ q. rw q (omega arith))

pub joined_same : (f g : ℕ → List ℕ) (c n : ℕ) → ((i : ℕ) → i < n → f (c + i) ≡ g (c + i)) → joined_from f c n ≡ joined_from g c n
unfolding joined_from
joined_same f g c zero h = refl
joined_same f g c (suc n) h = ap₂ ◌++◌ (joined_same f g c n (λ i l. h i (omega arith))) (h n (omega arith))
