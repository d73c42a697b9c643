-- That estimates suffice: a put marks at most one node in each layer, and no other call marks any.
use Rattle.std.proofs.Common.{◌≡◌, ℕ, ◌+◌, ◌*◌, ◌≤◌, Bool, true, false, cond, List, [], ◌∷◌, ◌++◌, length, set, is_some, is_ok, Some, None, Option, refl, mul-le-mul_right, add-mul, arith}
use Rattle.std.proofs.Math.Nat.{le_refl}
use Rattle.nodehash.specs.declared.position.Position.{Position}
use Rattle.tree.specs.declared.answer.Reply.TheVariants.{Done}
use Rattle.tree.specs.Calls.{Call, Open, Put, Withdraw, Step, Root, Stale, told, answer_of, state_of, next_node, open_state, put_rows, put_answer, put_state, withdraw_state, step_table, step_state, estimate_rows, estimate_answer}
use Rattle.tree.specs.Laws.{marks_left, put_count, Suffices}
use Rattle.tree.specs.Marks.{marks, mark_path}
use Rattle.tree.specs.Runs.{Making, Accepted, shape_in, view_after, state_after, Event, did, events, put_in}
use Rattle.tree.specs.Shapes.{layer_count}
use Rattle.tree.specs.Views.{State}
use Rattle.tree.proofs.Invariant.{seal, Inv, inv_run, put_there}
use Rattle.tree.proofs.Marks.{next_some, marks-path}
use Rattle.tree.proofs.Rows.{by_rows, answer_from_ok}
use Rattle.tree.proofs.Steps.{step-weighed}

module _ (m : Making) (s : State) (es : List Event) (i : Inv m s es) where
  -- a call that would leave no more marks leaves no more, refused or not
  either_way : (b : Bool) (new : State) (a : ℕ) → marks (shape_in m) new.table ≤ marks (shape_in m) s.table
      → marks (shape_in m) (cond b new s).table ≤ a + marks (shape_in m) s.table
  either_way true new a h = omega arith
  either_way false new a h = omega arith

  step-marks : (o : Option Position) → next_node (seal m s) ≡ o → marks (shape_in m) (step_table (seal m s) o) ≤ marks (shape_in m) s.table
  unfolding step_table marks
  step-marks (Some v) e = let a = step-weighed m s es i v.depth v.offset (next_some (shape_in m) s.table v e) (λ k j. 1) in omega arith
  step-marks None e = omega arith

  -- the marks that a call adds at most
  abbrev added : Call → ℕ
  added c = cond (is_some (put_in (did c (answer_of (seal m s) c)))) 1 0 * layer_count (shape_in m)

  put-marks : (p : ℕ) (bytes : List ℕ) → marks (shape_in m) (put_state (seal m s) p bytes).table ≤ added (Put p bytes) + marks (shape_in m) s.table
  unfolding answer_of put_in put_state put_answer told
  put-marks p bytes =
      by_rows
      (λ r. marks (shape_in m) (cond (is_ok r) put-new s).table
      ≤ cond (is_some (put_in (did (Put p bytes) (told (λ _. Done) r)))) 1 0 * layer_count (shape_in m) + marks (shape_in m) s.table)
      (put_rows (seal m s) p (length bytes)) tt
      (λ e. omega arith)
      (λ h.
      let there = put_there m s es p (length bytes) i h in
      let a = marks-path (shape_in m) m.hash.wide p there s.table i.long (layer_count (shape_in m)) (omega arith) in
      omega arith)
    where
      put-new : State
      put-new = record { pages = set s.pages p bytes; opened = None; table = mark_path (shape_in m) p (layer_count (shape_in m)) s.table }

  call_marks : (c : Call) → marks (shape_in m) (state_of (seal m s) c).table ≤ added c + marks (shape_in m) s.table
  unfolding state_of open_state withdraw_state step_state
  call_marks (Open p out) = either_way _ _ _ (le_refl _)
  call_marks (Put p bytes) = put-marks p bytes
  call_marks (Withdraw p) = either_way _ _ _ (le_refl _)
  call_marks (Step work) = either_way _ _ _ (step-marks _ refl)
  call_marks (Root out) = omega arith
  call_marks Stale = omega arith

module _ (m : Making) (acc : Accepted m) (calls : List Call) where
  puts_mark : (more : List Call) → marks_left m (more ++ calls) ≤ put_count m calls more * layer_count (shape_in m) + marks_left m calls
  unfolding put_count state_after
  puts_mark [] = omega arith
  puts_mark (c ∷ more) =
      let a = puts_mark more in
      let b = call_marks m (state_after m (more ++ calls)) (events m (more ++ calls)) (inv_run m acc (more ++ calls)) c in
      rw add-mul (omega arith)

pub estimate_suffices : (m : Making) → Accepted m → (calls more : List Call) → marks_left m calls ≡ 0 → Suffices m calls more
unfolding estimate_answer
estimate_suffices m acc calls more worked pages n e l =
    let a = puts_mark m acc calls more in
    let b : put_count m calls more * layer_count (shape_in m) ≤ length pages * layer_count (shape_in m) = mul-le-mul_right (layer_count (shape_in m)) l in
    let d : length pages * layer_count (shape_in m) ≡ n = answer_from_ok (estimate_rows (view_after m calls) pages) _ n e in
    omega arith
