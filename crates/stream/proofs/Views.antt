-- Streams as their callers see them.
use Rattle.std.proofs.Common.{◌≡◌, ℕ, ◌+◌, ◌^◌, ◌≤◌, Bool, cond, List, length, is_ok, Ok, Err, ap}
use Rattle.std.proofs.lemmas.Bool.{le-ltb}
use Rattle.fault.specs.Faults.{fault}
use Rattle.fault.specs.declared.refusal.Refusal.TheVariants.{StreamLength}
use Rattle.stream.specs.Streams.{View, add_answer, taken, added}

-- views are equal where all that they say is equal
pub view_is : (v u : View) → v.length ≡ u.length → v.total ≡ u.total → ((n : ℕ) → v.blocks n ≡ u.blocks n) → ((rest : List ℕ) → v.digest rest ≡ u.digest rest) → v ≡ u
view_is v u length total blocks digest = λ i. record { length = length i; total = total i; blocks = λ n. blocks n i; digest = λ rest. digest rest i }

-- a piece that there is room for is taken
pub accepted : (v : View) (n : ℕ) → v.total + n ≤ 2 ^ 40 → add_answer v n ≡ Ok tt
accepted v n room = ap (λ (late : Bool). cond late (Err (fault StreamLength 0)) (Ok tt)) (le-ltb (2 ^ 40) (v.total + n) room)

pub added_is : (v : View) (piece : List ℕ) → v.total + length piece ≤ 2 ^ 40 → added v piece ≡ taken v piece
added_is v piece room = ap (λ answer. cond (is_ok answer) (taken v piece) v) (accepted v (length piece) room)
