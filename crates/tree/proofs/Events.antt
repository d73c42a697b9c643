-- What one more event leaves of what is said over events.
use Rattle.std.proofs.Common.{◌≡◌, ℕ, true, false, cond, not, ◌||◌, List, [], ◌∷◌, is_some, Some, None, Ok, Err, Result, refl, ap, ◌∙◌, ap₂}
use mathlib.Core.Bool.{or-true}
use mathlib.Core.Path.{fun_ext}
use Rattle.fault.specs.declared.fault.Fault.{Fault}
use Rattle.tree.specs.declared.answer.Reply.{Reply}
use Rattle.tree.specs.Calls.{Call, Put, told}
use Rattle.tree.specs.Runs.{Making, Event, did, put_in, latest, page_after, put_beneath, works, last_worked, since_worked, any_put, is_stale}

-- An event that changes no page, no mark and no digest.
pub record Quiet (e : Event) : Type 0 where
  pub no_put : put_in e ≡ None
  pub no_work : (k j : ℕ) → works k j e ≡ false

-- a refused call is quiet
pub refused_quiet : (c : Call) (x : Fault) → Quiet (did c (Err x))
unfolding put_in works
refused_quiet (Put p bytes) x = record { no_put = refl; no_work = λ k j. refl }
refused_quiet _ x = record { no_put = refl; no_work = λ k j. refl }

-- so a call is quiet if it is where it is accepted
pub told_quiet : {A : Type 0} (c : Call) (f : A → Reply) (r : Result A Fault) → ((x : A) → Quiet (did c (Ok (f x)))) → Quiet (did c (told f r))
unfolding told
told_quiet c f (Ok x) h = h x
told_quiet c f (Err x) h = refused_quiet c x

pub pages_same : (m : Making) (e : Event) (es : List Event) → put_in e ≡ None → page_after m (e ∷ es) ≡ page_after m es
unfolding page_after latest
pages_same m e es q = fun_ext (λ p. ap (λ o. latest p o (page_after m es p)) q)

module _ (k j : ℕ) (e : Event) (es : List Event) where
  pub last_same : works k j e ≡ false → last_worked k j (e ∷ es) ≡ last_worked k j es
  unfolding last_worked
  last_same q = ap (λ b. cond b (Some es) (last_worked k j es)) q

  since_same : works k j e ≡ false → since_worked k j (e ∷ es) ≡ e ∷ since_worked k j es
  unfolding since_worked
  since_same q = ap (λ b. cond b [] (e ∷ since_worked k j es)) q

  pub last_now : works k j e ≡ true → last_worked k j (e ∷ es) ≡ Some es
  unfolding last_worked
  last_now q = rw q

  module _ (f : ℕ) where
    stale_next : works k j e ≡ false
        → is_stale f k j (e ∷ es) ≡ (not (is_some (last_worked k j es)) || (put_beneath f k j (put_in e) || any_put f k j (since_worked k j es)))
    unfolding is_stale any_put
    stale_next q = ap₂ (λ a b. not (is_some a) || any_put f k j b) (last_same q) (since_same q)

    -- an event that neither works a node nor puts a page beneath it leaves it stale or not, as it was
    pub stale_same : works k j e ≡ false → put_beneath f k j (put_in e) ≡ false → is_stale f k j (e ∷ es) ≡ is_stale f k j es
    unfolding is_stale
    stale_same q r = stale_next q ∙ ap (λ b. not (is_some (last_worked k j es)) || (b || any_put f k j (since_worked k j es))) r

    -- a put beneath a node makes it stale
    pub stale_put : works k j e ≡ false → put_beneath f k j (put_in e) ≡ true → is_stale f k j (e ∷ es) ≡ true
    stale_put q r = stale_next q ∙ rw r (or-true _)

    -- and work on it makes it not stale
    pub stale_worked : works k j e ≡ true → is_stale f k j (e ∷ es) ≡ false
    unfolding is_stale last_worked since_worked any_put
    stale_worked q = rw q
