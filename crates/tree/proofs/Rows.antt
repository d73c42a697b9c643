-- What rows of refusals tell of the answer of a call, and what its answer tells of the rows.
use Rattle.std.proofs.Common.{◌≡◌, ℕ, zero, suc, true, false, List, [], ◌∷◌, take, drop, Ok, Err, Result, refl}
use Rattle.fault.specs.Faults.{Row, on, unless}
use Rattle.fault.specs.declared.fault.Fault.{Fault}

-- No condition of these rows holds.
abbrev pub Passed : List Row → Type 0
Passed [] = Unit {0}
Passed (on bad refusal at ∷ rows) = (bad ≡ false) × Passed rows

module _ {A : Type 0} where
  pub passed_from_ok : (rows : List Row) (x y : A) → unless rows x ≡ Ok y → Passed rows
  passed_from_ok [] x y e = tt
  passed_from_ok (on true refusal at ∷ rows) x y e = (cc, passed_from_ok rows x y (cc))
  passed_from_ok (on false refusal at ∷ rows) x y e = (refl, passed_from_ok rows x y e)

  pub ok_from_passed : (rows : List Row) (x : A) → Passed rows → unless rows x ≡ Ok x
  ok_from_passed [] x h = refl
  ok_from_passed (on bad refusal at ∷ rows) x h = rw h.0 (ok_from_passed rows x h.1)

  -- and the answer is then the one that was to be given
  pub answer_from_ok : (rows : List Row) (x y : A) → unless rows x ≡ Ok y → x ≡ y
  answer_from_ok rows x y e = let p = ok_from_passed rows x (passed_from_ok rows x y e) in cc

  -- where the conditions of the first n rows do not hold, the others decide
  pub after_passed : (n : ℕ) (rows : List Row) (x : A) → Passed (take n rows) → unless rows x ≡ unless (drop n rows) x
  after_passed zero rows x h = refl
  after_passed (suc n) [] x h = refl
  after_passed (suc n) (on bad refusal at ∷ rows) x h = rw h.0 (after_passed n rows x h.1)

  -- what holds of a call that is refused, and of one that passes all rows, holds of the call
  pub by_rows : (P : Result A Fault → Type 0) (rows : List Row) (x : A) → ((e : Fault) → P (Err e)) → (Passed rows → P (Ok x)) → P (unless rows x)
  by_rows P [] x stopped passed = passed tt
  by_rows P (on true refusal at ∷ rows) x stopped passed = stopped _
  by_rows P (on false refusal at ∷ rows) x stopped passed = by_rows P rows x stopped (λ h. passed (refl, h))
