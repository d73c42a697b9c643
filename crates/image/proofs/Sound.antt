-- Images that are made or refused.
use Rattle.std.proofs.Common.{◌≡◌, ℕ, Bool, true, false, cond, List, ◌∷◌, is_ok, refl, arith}
use Rattle.std.proofs.lemmas.Bool.{false≢true}
use Rattle.fault.specs.Faults.{Row, on, unless}
use Rattle.fault.specs.declared.refusal.Refusal.{Refusal}
use Rattle.image.specs.Pages.{Pages, WellFormed, no_pages}

pub none_sound : WellFormed no_pages
none_sound = record {
  few = omega arith;
  low = omega arith;
  high = omega arith;
  whole = λ k past. absurd (omega arith);
  some = λ k past. absurd (omega arith);
  most = λ k past. absurd (omega arith);
}

-- an image that is made where `ok`, and else has no pages
pub made_sound : (ok : Bool) (m : Pages) → (ok ≡ true → WellFormed m) → WellFormed (cond ok m no_pages)
made_sound true m h = h refl
made_sound false m h = none_sound

-- where a check accepts, the condition of its first row does not hold
pub row_passed : (bad : Bool) (refusal : Refusal) (at : ℕ) (rows : List Row) → is_ok (unless {A = Unit {0}} (on bad refusal at ∷ rows) tt) ≡ true → bad ≡ false
row_passed true refusal at rows h = absurd (false≢true h)
row_passed false refusal at rows h = refl
