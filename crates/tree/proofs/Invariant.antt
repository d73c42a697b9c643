-- What holds all through a run.
use Rattle.std.proofs.Common.{◌≡◌, ℕ, ◌+◌, ◌*◌, ◌<◌, ◌≤◌, true, false, cond, ◌&&◌, eqb, ◌≢◌, List, [], ◌∷◌, ◌++◌, map, length, get_or, take, drop, set, is_ok, Some, None, Ok, Err, Option, Result, sym, refl, ap, ◌∙◌, subst, arith, length-append, length-set, get_or-set_other, get_or-set_same, eq-eqb, ne_eqb, eqb-true, leb-false}
use mathlib.Core.Bool.{and-false}
use mathlib.Core.Path.{fun_ext}
use native.Mathlib.Decide.{ℕ_discrete}
use borrow.Author.Tests.{eqb-false, not-false}
use lib.ListN.{length-map}
use Rattle.std.proofs.Math.ListN.{get_or-map}
use Rattle.std.proofs.lemmas.Bool.{true≢false}
use Rattle.fault.specs.Faults.{Row, unless}
use Rattle.fault.specs.declared.fault.Fault.{Fault}
use Rattle.image.specs.Pages.{Page, absent, count}
use Rattle.nodehash.specs.Hashing.{digest_length, fanout_of, node}
use Rattle.nodehash.specs.declared.position.Position.{Position}
use Rattle.tree.specs.declared.answer.Reply.{Reply}
use Rattle.tree.specs.declared.answer.Reply.TheVariants.{Done, Stepped, RootRead, Counted}
use Rattle.tree.specs.Calls.{Call, Open, Put, Withdraw, Step, Root, Stale, told, answer_of, state_of, next_node, input_of, work_on, step_table}
use Rattle.tree.specs.Calls.{open_rows, open_answer, open_state, put_rows, put_answer, put_state, withdraw_rows, withdraw_answer, withdraw_state, work_rows, page_rows, step_answer, step_state}
use Rattle.tree.specs.Laws.{digest_after, held_from}
use Rattle.tree.specs.Marks.{marked_at, held_at, mark_path}
use Rattle.tree.specs.Records.{stored, fresh}
use Rattle.tree.specs.Runs.{Making, Accepted, shape_in, check_rows, check_answer, base_of, made, made_table, state_after, Event, did, events, put_in, latest, page_after, put_beneath, works, last_worked, since_worked, any_put, is_stale}
use Rattle.tree.specs.Shapes.{layer_count, node_count, place, path, beneath, is_last, IsNode}
use Rattle.tree.specs.Trees.{input, tree}
use Rattle.tree.specs.Views.{State, View, page_bytes, is_open, digest_at}
use Rattle.tree.proofs.Events.{Quiet, told_quiet, refused_quiet, pages_same, last_same, last_now, stale_same, stale_put, stale_worked}
use Rattle.tree.proofs.Marks.{Long, room, Ready, next_some, length-path, held-path, path_off, path_on}
use Rattle.tree.proofs.Records.{stored-digest, length-store, marked-store, held-store, marked-store_other, held-store_other, length-fresh, marked-fresh, held-fresh}
use Rattle.tree.proofs.Rows.{Passed, passed_from_ok, by_rows}
use Rattle.tree.proofs.Shapes.{place-below, place_other, group_node}
use Rattle.tree.proofs.Trees.{tree_is, tree-length, input_same, tree_other}

open_is : (o : Option ℕ) (p : ℕ) → is_open o p ≡ true → o ≡ Some p
unfolding is_open
open_is (Some q) p e = ap Some (eqb-true q p e)
open_is None p e = absurd (true≢false (sym e))

module _ (m : Making) where
  -- the seal in this state
  abbrev pub seal : State → View
  seal s = record { base = base_of m; state = s }

  -- What holds of a state after events.
  pub record Inv (s : State) (es : List Event) : Type 0 where
    pub pages_are : (p : ℕ) → page_bytes s p ≡ page_after m es p
    pub as_many : length s.pages ≡ count m.image
    pub open_in : (p : ℕ) → s.opened ≡ Some p → p < count m.image
    pub long : Long (shape_in m) s.table
    pub unmarked : (k j : ℕ) → IsNode (shape_in m) k j → marked_at (shape_in m) s.table k j ≡ false
        → held_at (shape_in m) s.table k j ≡ stored (digest_after m es k j)
    pub stale : (k j : ℕ) → IsNode (shape_in m) k j → marked_at (shape_in m) s.table k j ≡ is_stale (fanout_of m.hash) k j es
    pub old : (k j : ℕ) → IsNode (shape_in m) k j → held_at (shape_in m) s.table k j ≡ held_from m k j (last_worked k j es)

  inv_quiet : (s : State) (es : List Event) (e : Event) (o : Option ℕ) → Inv s es → Quiet e
      → ((p : ℕ) → o ≡ Some p → p < count m.image)
      → Inv (record { pages = s.pages; opened = o; table = s.table }) (e ∷ es)
  unfolding put_beneath page_bytes
  inv_quiet s es e o i q h =
      let w = pages_same m e es q.no_put in
      record {
        pages_are = λ p. i.pages_are p ∙ ap (λ page. page p) (sym w);
        as_many = i.as_many;
        open_in = h;
        long = i.long;
        unmarked = λ k j v u. i.unmarked k j v u ∙ ap (λ page. stored (tree m.hash (count m.image) page k j)) (sym w);
        stale = λ k j v. i.stale k j v ∙ sym (stale_same k j e es _ (q.no_work k j) (ap (put_beneath _ k j) q.no_put));
        old = λ k j v. i.old k j v ∙ ap (held_from m k j) (sym (last_same k j e es (q.no_work k j)));
      }

  -- a call that is refused leaves the invariant, so it has to be shown of calls that no row stops
  inv_rows : {A : Type 0} (s : State) (es : List Event) (c : Call) (rows : List Row) (x : A) (f : A → Reply) (new : State) → Inv s es
      → (Passed rows → Inv new (did c (Ok (f x)) ∷ es))
      → Inv (cond (is_ok (unless rows x)) new s) (did c (told f (unless rows x)) ∷ es)
  unfolding told
  inv_rows s es c rows x f new i h =
      by_rows (λ r. Inv (cond (is_ok r) new s) (did c (told f r) ∷ es)) rows x
      (λ e. inv_quiet s es (did c (Err e)) s.opened i (refused_quiet c e) i.open_in)
      h

  -- and calls that change nothing leave it
  inv_told : {A : Type 0} (s : State) (es : List Event) (c : Call) (f : A → Reply) → Inv s es → ((x : A) → Quiet (did c (Ok (f x))))
      → (r : Result A Fault) → Inv s (did c (told f r) ∷ es)
  inv_told s es c f i q r = inv_quiet s es (did c (told f r)) s.opened i (told_quiet c f r q) i.open_in

  inv_open : (s : State) (es : List Event) (p : ℕ) (out : List ℕ) → Inv s es
      → Inv (open_state (seal s) p (length out)) (did (Open p out) (answer_of (seal s) (Open p out)) ∷ es)
  unfolding open_state open_answer answer_of put_in works
  inv_open s es p out i =
      inv_rows s es (Open p out) (open_rows (seal s) p (length out)) p _ _ i
      (λ e.
      let l : p < count m.image = leb-false _ _ e.1.1.0 in
      inv_quiet s es _ (Some p) i (record { no_put = refl; no_work = λ k j. refl }) (λ q r. let z : p ≡ q = cc in omega arith))

  inv_withdraw : (s : State) (es : List Event) (p : ℕ) → Inv s es
      → Inv (withdraw_state (seal s) p) (did (Withdraw p) (answer_of (seal s) (Withdraw p)) ∷ es)
  unfolding withdraw_state withdraw_answer answer_of put_in works
  inv_withdraw s es p i =
      inv_rows s es (Withdraw p) (withdraw_rows (seal s) p) tt _ _ i
      (λ e. inv_quiet s es _ None i (record { no_put = refl; no_work = λ k j. refl }) (λ q r. absurd (cc)))

  -- PUT

  module _ (s : State) (es : List Event) (p : ℕ) (bytes : List ℕ) (i : Inv s es) (there : p < count m.image) where
    abbrev put_event : Event
    put_event = did (Put p bytes) (Ok Done)

    put_page : (q : ℕ) → get_or (set s.pages p bytes) q [] ≡ page_after m (put_event ∷ es) q
    unfolding page_bytes page_after put_in latest
    put_page q =
        elim (ℕ_discrete p q) [
          | yes e ↦
              let l : q < length s.pages = rw (← e) (rw i.as_many there) in
              rw (eq-eqb p q e, e) (get_or-set_same s.pages q bytes [] l)
          | no ne ↦ rw (ne_eqb p q ne) (get_or-set_other s.pages p q bytes [] (λ e. ne (sym e)) ∙ i.pages_are q)
        ]

    put_other : (q : ℕ) → q ≢ p → page_after m (put_event ∷ es) q ≡ page_after m es q
    unfolding page_after put_in latest
    put_other q ne = rw (ne_eqb p q (λ e. ne (sym e)))

    put-works : (k j : ℕ) → works k j put_event ≡ false
    unfolding works
    put-works k j = refl

    put-beneath : (k j : ℕ) → put_beneath (fanout_of m.hash) k j (put_in put_event) ≡ eqb (path (fanout_of m.hash) p k) j
    unfolding put_beneath put_in beneath
    put-beneath k j = refl

    abbrev put_table : List ℕ
    put_table = mark_path (shape_in m) p (layer_count (shape_in m)) s.table

    put_off : (k j : ℕ) → IsNode (shape_in m) k j → path (fanout_of m.hash) p k ≢ j
        → marked_at (shape_in m) put_table k j ≡ marked_at (shape_in m) s.table k j
    put_off k j v ne = path_off (shape_in m) m.hash.wide p there s.table i.long _ k j (omega arith) v ne

    put_on : (k j : ℕ) → IsNode (shape_in m) k j → path (fanout_of m.hash) p k ≡ j → marked_at (shape_in m) put_table k j ≡ true
    put_on k j v e =
        subst (λ x. marked_at (shape_in m) put_table k x ≡ true) e
        (path_on (shape_in m) m.hash.wide p there s.table i.long _ k (omega arith) v.low)

    put-held : (k j : ℕ) → held_at (shape_in m) put_table k j ≡ held_at (shape_in m) s.table k j
    put-held k j = held-path (shape_in m) p _ s.table k j

    inv_written : Inv (record { pages = set s.pages p bytes; opened = None; table = put_table }) (put_event ∷ es)
    unfolding page_bytes
    inv_written = record {
      pages_are = put_page;
      as_many = length-set s.pages p bytes ∙ i.as_many;
      open_in = λ q r. absurd (cc);
      long = rw length-path i.long;
      unmarked = λ k j v u.
          elim (ℕ_discrete (path (fanout_of m.hash) p k) j) [
            | yes e ↦ absurd (true≢false (sym (put_on k j v e) ∙ u))
            | no ne ↦
                put-held k j ∙ i.unmarked k j v (sym (put_off k j v ne) ∙ u)
                ∙ ap stored (sym (tree_other m.hash (count m.image) _ _ p put_other k j ne))
          ];
      stale = λ k j v.
          elim (ℕ_discrete (path (fanout_of m.hash) p k) j) [
            | yes e ↦ put_on k j v e ∙ sym (stale_put k j put_event es _ (put-works k j) (put-beneath k j ∙ eq-eqb _ j e))
            | no ne ↦
                put_off k j v ne ∙ i.stale k j v
                ∙ sym (stale_same k j put_event es _ (put-works k j) (put-beneath k j ∙ ne_eqb _ j ne))
          ];
      old = λ k j v. put-held k j ∙ i.old k j v ∙ ap (held_from m k j) (sym (last_same k j put_event es (put-works k j)));
    }

  -- an accepted put names a page that there is
  pub put_there : (s : State) (es : List Event) (p n : ℕ) → Inv s es → Passed (put_rows (seal s) p n) → p < count m.image
  put_there s es p n i e = i.open_in p (open_is s.opened p (not-false _ e.1.1.0))

  inv_put : (s : State) (es : List Event) (p : ℕ) (bytes : List ℕ) → Inv s es
      → Inv (put_state (seal s) p bytes) (did (Put p bytes) (answer_of (seal s) (Put p bytes)) ∷ es)
  unfolding put_state put_answer answer_of
  inv_put s es p bytes i =
      inv_rows s es (Put p bytes) (put_rows (seal s) p (length bytes)) tt _ _ i (λ e. inv_written s es p bytes i (put_there s es p (length bytes) i e))

  -- STEP

  -- the digest that an unmarked node holds is the tree's
  pub digest_true : (s : State) (es : List Event) → Inv s es → (k j : ℕ) → IsNode (shape_in m) k j → marked_at (shape_in m) s.table k j ≡ false
      → digest_at (seal s) k j ≡ digest_after m es k j
  unfolding digest_at
  digest_true s es i k j v u =
      ap (take (digest_length m.hash)) (i.unmarked k j v u)
      ∙ stored-digest _ _ (tree-length m.hash (count m.image) (page_after m es) k j)

  module _ (s : State) (es : List Event) (i : Inv s es) (k₀ j₀ : ℕ) (ready : Ready (shape_in m) s.table k₀ j₀) where
    -- the input of the node that is worked is the tree's
    pub input_true : input_of (seal s) (node k₀ j₀) ≡ input m.hash (count m.image) (page_after m es) (digest_after m es) k₀ j₀
    unfolding input_of
    input_true =
        ap (λ page. input m.hash (count m.image) page (digest_at (seal s)) k₀ j₀) (fun_ext i.pages_are)
        ∙ input_same m.hash (count m.image) (page_after m es) _ _ k₀ j₀
        (λ k c e l. digest_true s es i k _ (group_node (shape_in m) k₀ k j₀ c ready.node e l) (ready.bare k c e l))

    abbrev step-digest : List ℕ
    step-digest = m.hash.digest (node k₀ j₀) (is_last (shape_in m) k₀ j₀) (input_of (seal s) (node k₀ j₀))

    step-digest_true : step-digest ≡ digest_after m es k₀ j₀
    step-digest_true =
        ap (m.hash.digest (node k₀ j₀) (is_last (shape_in m) k₀ j₀)) input_true
        ∙ sym (tree_is m.hash (count m.image) (page_after m es) k₀ j₀)

    step-digest-short : length step-digest ≤ 64
    step-digest-short = rw m.hash.sized m.hash.short

    step_room : 65 * place (shape_in m) k₀ j₀ + 65 ≤ length s.table
    step_room = room (shape_in m) s.table k₀ j₀ i.long ready.node

    abbrev pub worked_table : List ℕ
    worked_table = step_table (seal s) (Some (node k₀ j₀))

    pub step_unmarked : marked_at (shape_in m) worked_table k₀ j₀ ≡ false
    unfolding step_table marked_at
    step_unmarked = marked-store s.table _ _ step_room

    step-held : held_at (shape_in m) worked_table k₀ j₀ ≡ stored (digest_after m es k₀ j₀)
    unfolding step_table held_at
    step-held = held-store s.table _ _ step-digest-short step_room ∙ ap stored step-digest_true

    abbrev Other : ℕ → ℕ → Type 0
    Other k j = (k ≡ k₀) × (j ≡ j₀) → ⊥

    pub step-marked_other : (k j : ℕ) → IsNode (shape_in m) k j → Other k j
        → marked_at (shape_in m) worked_table k j ≡ marked_at (shape_in m) s.table k j
    unfolding step_table marked_at
    step-marked_other k j v ne =
        marked-store_other s.table _ _ _ step-digest-short step_room (place_other (shape_in m) k j k₀ j₀ v ready.node ne)

    step-held_other : (k j : ℕ) → IsNode (shape_in m) k j → Other k j → held_at (shape_in m) worked_table k j ≡ held_at (shape_in m) s.table k j
    unfolding step_table held_at
    step-held_other k j v ne =
        held-store_other s.table _ _ _ step-digest-short step_room (place_other (shape_in m) k j k₀ j₀ v ready.node ne)

    step-length : length worked_table ≡ length s.table
    unfolding step_table
    step-length = length-store s.table _ _ step-digest-short step_room

    by_node : (P : ℕ → ℕ → Type 0) → P k₀ j₀ → ((k j : ℕ) → Other k j → P k j) → (k j : ℕ) → P k j
    by_node P here there k j =
        elim (ℕ_discrete k k₀) [
          | yes e ↦
              elim (ℕ_discrete j j₀) [
                | yes q ↦ subst (λ x. P x j) (sym e) (subst (P k₀) (sym q) here)
                | no ne ↦ there k j (λ r. ne r.1)
              ]
          | no ne ↦ there k j (λ r. ne r.0)
        ]

    module _ (work : List ℕ) where
      abbrev step_event : Event
      step_event = did (Step work) (Ok (Stepped (work_on (seal s) (Some (node k₀ j₀)))))

      step-works : works k₀ j₀ step_event ≡ true
      unfolding works work_on
      step-works = rw (eq-eqb k₀ k₀ refl, eq-eqb j₀ j₀ refl)

      step-works_other : (k j : ℕ) → Other k j → works k j step_event ≡ false
      unfolding works work_on
      step-works_other k j ne =
          elim (ℕ_discrete k₀ k) [
            | yes e ↦ ap (λ b. eqb k₀ k && b) (ne_eqb j₀ j (λ q. ne (sym e, sym q))) ∙ and-false _
            | no n ↦ ap (λ b. b && eqb j₀ j) (ne_eqb k₀ k n)
          ]

      step_no_put : put_in step_event ≡ None
      unfolding put_in
      step_no_put = refl

      step-beneath : (k j : ℕ) → put_beneath (fanout_of m.hash) k j (put_in step_event) ≡ false
      unfolding put_in put_beneath
      step-beneath k j = refl

      inv_worked : Inv (record { pages = s.pages; opened = s.opened; table = worked_table }) (step_event ∷ es)
      unfolding held_from page_bytes
      inv_worked =
          let w = pages_same m step_event es step_no_put in
          record {
            pages_are = λ p. i.pages_are p ∙ ap (λ page. page p) (sym w);
            as_many = i.as_many;
            open_in = i.open_in;
            long = rw step-length i.long;
            unmarked =
                by_node
                (λ k j. IsNode (shape_in m) k j → marked_at (shape_in m) worked_table k j ≡ false
                → held_at (shape_in m) worked_table k j ≡ stored (digest_after m (step_event ∷ es) k j))
                (λ v u. step-held ∙ ap (λ page. stored (tree m.hash (count m.image) page k₀ j₀)) (sym w))
                (λ k j ne v u.
                step-held_other k j v ne ∙ i.unmarked k j v (sym (step-marked_other k j v ne) ∙ u)
                ∙ ap (λ page. stored (tree m.hash (count m.image) page k j)) (sym w));
            stale =
                by_node
                (λ k j. IsNode (shape_in m) k j → marked_at (shape_in m) worked_table k j ≡ is_stale (fanout_of m.hash) k j (step_event ∷ es))
                (λ v. step_unmarked ∙ sym (stale_worked k₀ j₀ step_event es _ step-works))
                (λ k j ne v.
                step-marked_other k j v ne ∙ i.stale k j v
                ∙ sym (stale_same k j step_event es _ (step-works_other k j ne) (step-beneath k j)));
            old =
                by_node
                (λ k j. IsNode (shape_in m) k j → held_at (shape_in m) worked_table k j ≡ held_from m k j (last_worked k j (step_event ∷ es)))
                (λ v. step-held ∙ ap (held_from m k₀ j₀) (sym (last_now k₀ j₀ step_event es step-works)))
                (λ k j ne v.
                step-held_other k j v ne ∙ i.old k j v
                ∙ ap (held_from m k j) (sym (last_same k j step_event es (step-works_other k j ne))));
          }

  inv_stepped : (s : State) (es : List Event) (work : List ℕ) → Inv s es → (o : Option Position) → next_node (seal s) ≡ o
      → Inv (record { pages = s.pages; opened = s.opened; table = step_table (seal s) o }) (did (Step work) (Ok (Stepped (work_on (seal s) o))) ∷ es)
  unfolding step_table work_on put_in works
  inv_stepped s es work i (Some v) e = inv_worked s es i v.depth v.offset (next_some (shape_in m) s.table v e) work
  inv_stepped s es work i None e =
      inv_quiet s es _ s.opened i (record { no_put = refl; no_work = λ k j. refl }) i.open_in

  inv_step : (s : State) (es : List Event) (work : List ℕ) → Inv s es
      → Inv (step_state (seal s) (length work)) (did (Step work) (answer_of (seal s) (Step work)) ∷ es)
  unfolding step_state step_answer answer_of
  inv_step s es work i =
      inv_rows s es (Step work) (work_rows (seal s) (length work) ++ page_rows (seal s)) _ _ _ i
      (λ e. inv_stepped s es work i (next_node (seal s)) refl)

  -- ANY CALL

  inv_call : (s : State) (es : List Event) (c : Call) → Inv s es → Inv (state_of (seal s) c) (did c (answer_of (seal s) c) ∷ es)
  unfolding state_of answer_of put_in works
  inv_call s es (Open p out) i = inv_open s es p out i
  inv_call s es (Put p bytes) i = inv_put s es p bytes i
  inv_call s es (Withdraw p) i = inv_withdraw s es p i
  inv_call s es (Step work) i = inv_step s es work i
  inv_call s es (Root out) i = inv_told s es (Root out) (λ _. RootRead) i (λ x. record { no_put = refl; no_work = λ k j. refl }) _
  inv_call s es Stale i = inv_told s es Stale Counted i (λ x. record { no_put = refl; no_work = λ k j. refl }) _

  -- THE MAKING

  -- an accepted making has pages
  pub some_pages : Accepted m → 1 ≤ count m.image
  unfolding check_answer
  some_pages acc =
      let ne = eqb-false (count m.image) 0 (passed_from_ok (check_rows m) tt tt acc).1.0 in
      omega arith

  abbrev fresh_table : List ℕ
  fresh_table = fresh (node_count (shape_in m)) ++ drop (65 * node_count (shape_in m)) m.table

  made-fresh : Accepted m → made_table m ≡ fresh_table
  unfolding made_table
  made-fresh acc = ap (λ r. cond (is_ok r) fresh_table m.table) acc

  inv_fresh : Accepted m → Inv (record { pages = map (λ (p : Page). p.bytes) m.image.pages; opened = None; table = fresh_table }) []
  unfolding page_bytes page_after is_stale last_worked since_worked any_put held_from marked_at held_at
  inv_fresh acc = record {
    pages_are = λ p. get_or-map (λ (x : Page). x.bytes) m.image.pages p absent;
    as_many = length-map m.image.pages (λ (x : Page). x.bytes);
    open_in = λ p e. absurd (cc);
    long =
        let q = length-append (fresh (node_count (shape_in m))) (drop (65 * node_count (shape_in m)) m.table) in
        let r = length-fresh (node_count (shape_in m)) in
        omega arith;
    unmarked = λ k j v u. absurd (true≢false (sym (marked-fresh _ _ _ (place-below (shape_in m) k j v)) ∙ u));
    stale = λ k j v. marked-fresh _ _ _ (place-below (shape_in m) k j v);
    old = λ k j v. held-fresh _ _ _ (place-below (shape_in m) k j v);
  }

  -- ALL THROUGH A RUN

  pub inv_run : Accepted m → (calls : List Call) → Inv (state_after m calls) (events m calls)
  unfolding state_after events made
  inv_run acc [] =
      subst (λ t. Inv (record { pages = map (λ (p : Page). p.bytes) m.image.pages; opened = None; table = t }) []) (sym (made-fresh acc)) (inv_fresh acc)
  inv_run acc (c ∷ calls) = inv_call (state_after m calls) (events m calls) c (inv_run acc calls)
