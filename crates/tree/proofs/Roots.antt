-- What a root reading and a stale count answer in a run.
use Rattle.std.proofs.Common.{◌≡◌, ℕ, cond, ◌≢◌, List, ◌∷◌, length, is_ok, Ok, Err, Result, sym, refl, ap, ◌∙◌, arith, eqb-true}
use borrow.Author.Tests.{not-false}
use Rattle.fault.specs.declared.fault.Fault.{Fault}
use Rattle.image.specs.Pages.{count}
use Rattle.tree.specs.declared.answer.Reply.{Reply}
use Rattle.tree.specs.declared.answer.Reply.TheVariants.{Opened, Done, Stepped, RootRead, Counted}
use Rattle.tree.specs.Calls.{Call, Open, Put, Withdraw, Step, Root, Stale, told, answer_of, buffer_of, state_of, root_rows, root_answer, root_out, stale_rows, stale_answer}
use Rattle.tree.specs.Laws.{root_after, RootTrue, CountTrue}
use Rattle.tree.specs.Marks.{marks}
use Rattle.tree.specs.Runs.{Making, Accepted, shape_in, state_after, Event, did, events, put_in}
use Rattle.tree.specs.Shapes.{root_layer, layer_count, IsNode}
use Rattle.tree.specs.Trees.{tree_root}
use Rattle.tree.specs.Views.{State, digest_at}
use Rattle.tree.proofs.Events.{pages_same}
use Rattle.tree.proofs.Invariant.{seal, Inv, inv_run, digest_true, some_pages}
use Rattle.tree.proofs.Marks.{marks_zero}
use Rattle.tree.proofs.Rows.{passed_from_ok, answer_from_ok}
use Rattle.tree.proofs.Shapes.{layer_some}

-- what gave this reply was not refused
told_ok : {A : Type 0} (f : A → Reply) (r : Result A Fault) (y : Reply) → told f r ≡ Ok y → (x : A) × (r ≡ Ok x) × (f x ≡ y)
unfolding told
told_ok f (Ok x) y e = (x, refl, cc)
told_ok f (Err x) y e = absurd (cc)

-- and it is one of the replies that the call can give
told_other : {A : Type 0} (f : A → Reply) (r : Result A Fault) (y : Reply) → ((x : A) → f x ≢ y) → told f r ≢ Ok y
told_other f r y ne e = let t = told_ok f r y e in ne t.0 t.2

module _ (m : Making) (acc : Accepted m) where
  root_node : IsNode (shape_in m) (root_layer (shape_in m)) 0
  unfolding layer_count
  root_node =
      let b = layer_some (shape_in m) (root_layer (shape_in m)) m.hash.wide (some_pages m acc) in
      record { low = omega arith; left = omega arith }

  module _ (s : State) (es : List Event) (i : Inv m s es) where
    -- with no node marked, the root's digest is the tree's
    pub root_held : marks (shape_in m) s.table ≡ 0 → digest_at (seal m s) (root_layer (shape_in m)) 0 ≡ root_after m es
    unfolding tree_root
    root_held e = digest_true m s es i _ _ root_node (marks_zero (shape_in m) s.table e _ _ root_node)

    -- a root that is given out is the tree's
    root_given : (out : List ℕ) → answer_of (seal m s) (Root out) ≡ Ok RootRead
        → buffer_of (seal m s) (Root out) ≡ root_after m (did (Root out) (answer_of (seal m s) (Root out)) ∷ es)
    unfolding answer_of buffer_of root_answer root_out put_in
    root_given out e =
        let ok : root_answer (seal m s) (length out) ≡ Ok tt = (told_ok (λ _. RootRead) _ RootRead e).1 in
        let z : marks (shape_in m) s.table ≡ 0 = eqb-true _ _ (not-false _ (passed_from_ok (root_rows (seal m s) (length out)) tt tt ok).1.1.1.1.0) in
        ap (λ r. cond (is_ok r) (digest_at (seal m s) (root_layer (shape_in m)) 0) out) ok
        ∙ root_held z ∙ ap (tree_root m.hash (count m.image)) (sym (pages_same m _ es refl))

  -- and only a root reading gives one out
  pub root_true : (calls : List Call) → RootTrue m calls
  unfolding events answer_of
  root_true calls (Open p out) e = absurd (told_other Opened _ RootRead (λ x q. cc) e)
  root_true calls (Put p bytes) e = absurd (told_other (λ _. Done) _ RootRead (λ x q. cc) e)
  root_true calls (Withdraw p) e = absurd (told_other (λ _. Done) _ RootRead (λ x q. cc) e)
  root_true calls (Step work) e = absurd (told_other Stepped _ RootRead (λ x q. cc) e)
  root_true calls (Root out) e = root_given (state_after m calls) (events m calls) (inv_run m acc calls) out e
  root_true calls Stale e = absurd (told_other Counted _ RootRead (λ x q. cc) e)

-- a stale count counts the marks, and no other call counts
pub count_true : (m : Making) (calls : List Call) → CountTrue m calls
unfolding answer_of state_of stale_answer state_after
count_true m calls (Open p out) n e = absurd (told_other Opened _ (Counted n) (λ x q. cc) e)
count_true m calls (Put p bytes) n e = absurd (told_other (λ _. Done) _ (Counted n) (λ x q. cc) e)
count_true m calls (Withdraw p) n e = absurd (told_other (λ _. Done) _ (Counted n) (λ x q. cc) e)
count_true m calls (Step work) n e = absurd (told_other Stepped _ (Counted n) (λ x q. cc) e)
count_true m calls (Root out) n e = absurd (told_other (λ _. RootRead) _ (Counted n) (λ x q. cc) e)
count_true m calls Stale n e =
    let t = told_ok Counted _ (Counted n) e in
    let a = answer_from_ok (stale_rows (seal m (state_after m calls))) _ t.0 t.1 in
    cc
