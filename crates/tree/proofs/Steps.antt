-- Steps alone, from a run that leaves no page open.
use Rattle.std.proofs.Common.{◌≡◌, ℕ, ◌+◌, ◌<◌, ◌≤◌, Bool, true, false, cond, not, ◌&&◌, eqb, List, [], ◌∷◌, ◌++◌, length, is_some, is_ok, Some, None, Ok, Err, Option, sym, refl, ap, ◌∙◌, subst, arith, le-ltb, eq-eqb, ne_eqb}
use mathlib.Core.Bool.{and-false}
use native.Mathlib.Decide.{ℕ_discrete}
use Rattle.fault.specs.Faults.{on, unless, fault}
use Rattle.fault.specs.declared.refusal.Refusal.TheVariants.{NodeMarked}
use Rattle.image.specs.Pages.{count, page_at}
use Rattle.nodehash.specs.Hashing.{digest_length, node}
use Rattle.nodehash.specs.declared.position.Position.{Position}
use Rattle.tree.specs.declared.answer.Reply.TheVariants.{Stepped, RootRead}
use Rattle.tree.specs.Calls.{Call, Step, Root, told, answer_of, buffer_of, state_of, next_node, is_unreadable, work_rows, page_rows, work_on, step_table, step_answer, step_state, root_rows, root_answer, root_out}
use Rattle.tree.specs.Laws.{IsStep, StepsAlone, reported, root_after, blocks_after, marks_left, Clear, StepsAccepted, RootWaits, RootComes, BlocksSum}
use Rattle.tree.specs.Marks.{marks, short}
use Rattle.tree.specs.Runs.{Making, Accepted, shape_in, base_of, state_after, view_after, answer_to, Event, events, put_in, page_after, blocks_in}
use Rattle.tree.specs.Shapes.{layer_size, root_layer}
use Rattle.tree.specs.Trees.{tree_blocks}
use Rattle.tree.specs.Views.{State, digest_at}
use Rattle.tree.proofs.Events.{pages_same}
use Rattle.tree.proofs.Invariant.{seal, Inv, inv_run, input_true, step_unmarked, step-marked_other}
use Rattle.tree.proofs.Marks.{Ready, next_none, next_some, marks_zero, weighed, weighed_none, weighed_one}
use Rattle.tree.proofs.Roots.{root_held}
use Rattle.tree.proofs.Rows.{ok_from_passed, after_passed}

-- what holds of each step holds of a call that is one
by_step : (P : Call → Type 0) → ((work : List ℕ) → length work ≡ 4096 → P (Step work)) → (c : Call) → IsStep c → P c
by_step P h (Step work) e = h work e
by_step P h _ e = absurd e

-- what no step breaks holds after steps alone
by_steps : (P : List Call → Type 0) → P [] → ((work : List ℕ) (more : List Call) → length work ≡ 4096 → P more → P (Step work ∷ more))
    → (more : List Call) → StepsAlone more → P more
by_steps P none one [] h = none
by_steps P none one (c ∷ more) h = by_step (λ c. P more → P (c ∷ more)) (λ work e. one work more e) c h.0 (by_steps P none one more h.1)

module _ (m : Making) (s : State) (es : List Event) (i : Inv m s es) where
  -- a node that is worked loses its mark and nothing else does
  pub step-weighed : (k₀ j₀ : ℕ) → Ready (shape_in m) s.table k₀ j₀ → (w : ℕ → ℕ → ℕ)
      → weighed (shape_in m) w s.table ≡ w k₀ j₀ + weighed (shape_in m) w (step_table (seal m s) (Some (node k₀ j₀)))
  step-weighed k₀ j₀ ready w =
      weighed_one (shape_in m) w s.table _ k₀ j₀ ready.node ready.is_marked
      (step_unmarked m s es i k₀ j₀ ready) (step-marked_other m s es i k₀ j₀ ready)

  step-blocks : (k₀ j₀ : ℕ) → Ready (shape_in m) s.table k₀ j₀
      → blocks_in (Ok (Stepped (work_on (seal m s) (Some (node k₀ j₀))))) ≡ blocks_after m es k₀ j₀
  unfolding work_on tree_blocks
  step-blocks k₀ j₀ ready = ap (λ x. m.hash.blocks k₀ (length x)) (input_true m s es i k₀ j₀ ready)

  module _ (acc : Accepted m) where
    not_void : (base_of m).void ≡ false
    not_void = ap (λ r. not (is_ok r)) acc

    not_short : short (shape_in m) s.table ≡ false
    unfolding short
    not_short = le-ltb _ _ i.long

    module _ (readable : (p : ℕ) → p < count m.image → (page_at m.image p).state.readable ≡ true) (work : List ℕ) (fits : length work ≡ 4096) where
      next_readable : (o : Option Position) → next_node (seal m s) ≡ o → is_unreadable (seal m s) o ≡ false
      unfolding is_unreadable layer_size
      next_readable (Some v) e =
          let c = next_some (shape_in m) s.table v e in
          elim (ℕ_discrete v.depth 0) [
            | yes q ↦
                let l : v.offset < count m.image = subst (λ k. v.offset < layer_size (shape_in m) k) q c.node.left in
                ap (λ b. eqb v.depth 0 && not b) (readable v.offset l) ∙ and-false _
            | no ne ↦ ap (λ b. b && not (page_at m.image v.offset).state.readable) (ne_eqb v.depth 0 ne)
          ]
      next_readable None e = refl

      -- a step is not refused
      step_ok : step_answer (seal m s) (length work) ≡ Ok (work_on (seal m s) (next_node (seal m s)))
      unfolding step_answer
      step_ok =
          ok_from_passed (work_rows (seal m s) (length work) ++ page_rows (seal m s)) _
          (not_void, (not_short, (ap not (eq-eqb (length work) 4096 fits), (next_readable _ refl, tt))))

      pub step_answer_lem : answer_of (seal m s) (Step work) ≡ Ok (Stepped (work_on (seal m s) (next_node (seal m s))))
      unfolding answer_of told
      step_answer_lem = ap (told Stepped) step_ok

      pub step_state_lem : state_of (seal m s) (Step work)
          ≡ record { pages = s.pages; opened = s.opened; table = step_table (seal m s) (next_node (seal m s)) }
      unfolding state_of step_state
      step_state_lem =
          ap (λ r. cond (is_ok r) (record { pages = s.pages; opened = s.opened; table = step_table (seal m s) (next_node (seal m s)) }) s) step_ok

      -- a step with a node marked takes one mark away, and reports the blocks of its node
      record Lowered : Type 0 where
        marks-less : marks (shape_in m) s.table ≡ 1 + marks (shape_in m) (state_of (seal m s) (Step work)).table
        blocks-less : weighed (shape_in m) (blocks_after m es) s.table
            ≡ blocks_in (answer_of (seal m s) (Step work)) + weighed (shape_in m) (blocks_after m es) (state_of (seal m s) (Step work)).table

      step_lowers : 0 < marks (shape_in m) s.table → Lowered
      unfolding marks
      step_lowers some = go (next_node (seal m s)) refl
        where
          go : (o : Option Position) → next_node (seal m s) ≡ o → Lowered
          go (Some v) e =
              let r = next_some (shape_in m) s.table v e in
              let a : answer_of (seal m s) (Step work) ≡ Ok (Stepped (work_on (seal m s) (Some v))) = step_answer_lem ∙ ap (λ (o : Option Position). Ok (Stepped (work_on (seal m s) o))) e in
              let b : (state_of (seal m s) (Step work)).table ≡ step_table (seal m s) (Some v) = ap (λ x. x.table) step_state_lem ∙ ap (step_table (seal m s)) e in
              record {
                marks-less = rw b (step-weighed v.depth v.offset r (λ k j. 1));
                blocks-less =
                    rw (a, b)
                    (step-weighed v.depth v.offset r (blocks_after m es)
                    ∙ ap (λ x. x + weighed (shape_in m) (blocks_after m es) (step_table (seal m s) (Some v))) (sym (step-blocks v.depth v.offset r)));
              }
          go None e = absurd (let z = weighed_none (shape_in m) (λ k j. 1) s.table (next_none (shape_in m) s.table e) in omega arith)

    -- a root reading with no page open
    module _ (closed : s.opened ≡ None) (out : List ℕ) (fits : length out ≡ digest_length m.hash) where
      root_asks : (b : Bool) → eqb (marks (shape_in m) s.table) 0 ≡ b → root_answer (seal m s) (length out) ≡ unless (on (not b) NodeMarked 0 ∷ []) tt
      unfolding root_answer
      root_asks b e =
          after_passed 4 (root_rows (seal m s) (length out)) tt
          (not_void, (not_short, (ap not (eq-eqb (length out) (digest_length m.hash) fits), (ap is_some closed, tt))))
          ∙ ap (λ x. unless (on (not x) NodeMarked 0 ∷ []) tt) e

      root_refused : 0 < marks (shape_in m) s.table → answer_of (seal m s) (Root out) ≡ Err (fault NodeMarked 0)
      unfolding answer_of told
      root_refused some = ap (told (λ _. RootRead)) (root_asks false (ne_eqb (marks (shape_in m) s.table) 0 (omega arith)))

      root_read : marks (shape_in m) s.table ≡ 0
          → (answer_of (seal m s) (Root out) ≡ Ok RootRead) × (buffer_of (seal m s) (Root out) ≡ root_after m es)
      unfolding answer_of told buffer_of root_out
      root_read e =
          let r = root_asks true (eq-eqb (marks (shape_in m) s.table) 0 e) in (
            ap (told (λ _. RootRead)) r,
            ap (λ r. cond (is_ok r) (digest_at (seal m s) (root_layer (shape_in m)) 0) out) r ∙ root_held m acc s es i e,
          )

module _ (m : Making) (acc : Accepted m) (calls : List Call) (clear : Clear m calls) where
  inv_at : (more : List Call) → Inv m (state_after m (more ++ calls)) (events m (more ++ calls))
  inv_at more = inv_run m acc (more ++ calls)

  closed_at : (more : List Call) → StepsAlone more → (state_after m (more ++ calls)).opened ≡ None
  unfolding state_after
  closed_at =
      by_steps (λ more. (state_after m (more ++ calls)).opened ≡ None) clear.closed
      (λ work more fits h. ap (λ x. x.opened) (step_state_lem m _ _ (inv_at more) acc clear.readable work fits) ∙ h)

  pages_at : (more : List Call) → StepsAlone more → page_after m (events m (more ++ calls)) ≡ page_after m (events m calls)
  unfolding events put_in
  pages_at =
      by_steps (λ more. page_after m (events m (more ++ calls)) ≡ page_after m (events m calls)) refl
      (λ work more fits h. pages_same m _ (events m (more ++ calls)) refl ∙ h)

  record Left (more : List Call) : Type 0 where
    fewer_marks : marks_left m (more ++ calls) + length more ≡ marks_left m calls
    fewer_blocks : reported m calls more + weighed (shape_in m) (blocks_after m (events m calls)) (state_after m (more ++ calls)).table
        ≡ weighed (shape_in m) (blocks_after m (events m calls)) (state_after m calls).table

  left_at : (more : List Call) → StepsAlone more → length more ≤ marks_left m calls → Left more
  unfolding state_after reported
  left_at [] h l = record { fewer_marks = omega arith; fewer_blocks = omega arith }
  left_at (c ∷ more) h l =
      let ih = left_at more h.1 (omega arith) in
      let a = ih.fewer_marks in
      let b = ih.fewer_blocks in
      by_step (λ c. Left (c ∷ more))
      (λ work fits.
      let low = step_lowers m _ _ (inv_at more) acc clear.readable work fits (omega arith) in
      let d = low.marks-less in
      let f = subst (λ page. weighed (shape_in m) (tree_blocks m.hash (count m.image) page) (state_after m (more ++ calls)).table
      ≡ blocks_in (answer_to m (more ++ calls) (Step work))
      + weighed (shape_in m) (tree_blocks m.hash (count m.image) page) (state_of (view_after m (more ++ calls)) (Step work)).table)
      (pages_at more h.1) low.blocks-less in
      record { fewer_marks = omega arith; fewer_blocks = omega arith })
      c h.0

  pub steps_accepted : StepsAccepted m calls
  steps_accepted more h =
      by_step (λ c. is_ok (answer_to m (more ++ calls) c) ≡ true)
      (λ work fits. rw (step_answer_lem m _ _ (inv_at more) acc clear.readable work fits))

  pub root_waits : RootWaits m calls
  root_waits more h l out fits =
      let a = (left_at more h (omega arith)).fewer_marks in
      root_refused m _ _ (inv_at more) acc (closed_at more h) out fits (omega arith)

  none_left : (more : List Call) → StepsAlone more → length more ≡ marks_left m calls → marks_left m (more ++ calls) ≡ 0
  none_left more h l = let a = (left_at more h (omega arith)).fewer_marks in omega arith

  pub root_comes : RootComes m calls
  root_comes more h l out fits = root_read m _ _ (inv_at more) acc (closed_at more h) out fits (none_left more h l)

  pub blocks-sum : BlocksSum m calls
  blocks-sum more h l =
      let a = (left_at more h (omega arith)).fewer_blocks in
      let z = weighed_none (shape_in m) (blocks_after m (events m calls)) (state_after m (more ++ calls)).table
      (marks_zero (shape_in m) (state_after m (more ++ calls)).table (none_left more h l)) in
      omega arith
