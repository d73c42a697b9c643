-- The fault that each refusal gives, and rows of refusals in their checking order.
use Rattle.std.specs.Prelude.{ℕ, Bool, cond, ◌&&◌, ◌||◌, List, [], ◌∷◌, ◌++◌, Ok, Err, codes, decimal, Result, ◌==◌, nat_le}
use Rattle.fault.specs.declared.fault.Fault.{Fault}
use Rattle.fault.specs.declared.refusal.Refusal.{Refusal}
use Rattle.fault.specs.Numbers.{number_of, module_of, name_of}
use Rattle.fault.specs.Sentences.{sentence_of}

-- The place of a refusal: `at`, the line or page that it is about, for 21 to 23 and 35 to 38; the label's layout line, 9, for 61 and 62; its page line, 7, for 63; else 0.
abbrev pub place_of : Refusal → ℕ → ℕ
place_of refusal at =
    let n = number_of refusal in
    cond ((nat_le 21 n && nat_le n 23) || (nat_le 35 n && nat_le n 38)) at
    (cond (nat_le 61 n && nat_le n 62) 9
    (cond (n == 63) 7 0))

-- The fault that a refusal gives.
abbrev pub fault : Refusal → ℕ → Fault
fault refusal at = record { number = refusal; «module» = module_of refusal; place = place_of refusal at }

-- A row of a call's refusals: on this condition, this refusal about this line or page.
pub data Row : Type 0 where
  on : Bool → Refusal → ℕ → Row

-- What a call answers: the fault of the first row whose condition holds, or else x.
abbrev pub unless : {A : Type 0} → List Row → A → Result A Fault
unless [] x = Ok x
unless (on condition refusal at ∷ rows) x = cond condition (Err (fault refusal at)) (unless rows x)

-- What a fault prints: number, module, place and sentence.
abbrev pub fault_text : Fault → List ℕ
fault_text f =
    decimal (number_of f.number) ++ (codes " " ++ (name_of f.«module» ++ (codes " " ++ (decimal f.place
    ++ (codes ": " ++ sentence_of f.number)))))
