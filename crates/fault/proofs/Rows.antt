-- Rows of refusals, one list after another.
use Rattle.std.proofs.Common.{◌≡◌, true, false, List, [], ◌∷◌, ◌++◌, Ok, Err, refl}
use Rattle.fault.specs.Faults.{Row, on, unless}
use Rattle.fault.specs.declared.fault.Fault.{Fault}

-- where the first rows refuse, that is the answer
pub rows_stop : {A : Type 0} (rows more : List Row) (x : A) (e : Fault) → unless {A = Unit {0}} rows tt ≡ Err e → unless (rows ++ more) x ≡ Err e
rows_stop [] more x e h = cc
rows_stop (on true refusal at ∷ rows) more x e h = cc
rows_stop (on false refusal at ∷ rows) more x e h = rows_stop rows more x e h

-- where they do not, the answer is that of the rows after them
pub rows_pass : {A : Type 0} (rows more : List Row) (x : A) → unless {A = Unit {0}} rows tt ≡ Ok tt → unless (rows ++ more) x ≡ unless more x
rows_pass [] more x h = refl
rows_pass (on true refusal at ∷ rows) more x h = cc
rows_pass (on false refusal at ∷ rows) more x h = rows_pass rows more x h
