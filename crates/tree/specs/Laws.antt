-- What holds of a run: its law, that estimates suffice, and that the layers of a tree end at its root.
use Rattle.std.specs.Prelude.{◌≡◌, ℕ, ◌+◌, ◌<◌, ◌≤◌, Bool, if◌then◌else◌, List, [], ◌∷◌, ◌++◌, length, is_some, IsOk, IsTrue, IsFalse, Some, None, Ok, Err, Option, ◌≢◌}
use Rattle.fault.specs.Faults.{fault}
use Rattle.fault.specs.declared.refusal.Refusal.TheVariants.{NodeMarked}
use Rattle.image.specs.Pages.{count, page_at}
use Rattle.nodehash.specs.Hashing.{digest_length, fanout_of}
use Rattle.tree.specs.declared.answer.Reply.TheVariants.{RootRead, Counted}
use Rattle.tree.specs.declared.shape.Shape.{Shape}
use Rattle.tree.specs.Calls.{Call, Step, Root, estimate_answer}
use Rattle.tree.specs.Marks.{marked_at, held_at, marks}
use Rattle.tree.specs.Records.{stored, zeros}
use Rattle.tree.specs.Runs.{Making, Event, did, shape_in, state_after, view_after, answer_to, buffer_after, events, put_in, page_after, last_worked, is_stale, blocks_in}
use Rattle.tree.specs.Shapes.{IsNode, layer_size, layer_count, root_layer, over_nodes}
use Rattle.tree.specs.Trees.{tree, tree_blocks, tree_root}

-- calls that are steps alone, each with a work buffer of 4,096 bytes
abbrev pub IsStep : Call → Type 0
IsStep (Step work) = length work ≡ 4096
IsStep _ = ⊥

abbrev pub StepsAlone : List Call → Type 0
StepsAlone [] = Unit {0}
StepsAlone (c ∷ more) = IsStep c × StepsAlone more

-- the blocks that the answers to more calls report in all
unfoldable pub reported : Making → List Call → List Call → ℕ
reported m calls [] = 0
reported m calls (c ∷ more) = reported m calls more + blocks_in (answer_to m (more ++ calls) c)

module _ (m : Making) where
  -- the digest that the tree of the image as it is after these events gives node k:j
  abbrev pub digest_after : List Event → ℕ → ℕ → List ℕ
  digest_after es k j = tree m.hash (count m.image) (page_after m es) k j

  -- that tree's root
  abbrev pub root_after : List Event → List ℕ
  root_after es = tree_root m.hash (count m.image) (page_after m es)

  -- the blocks that it gives node k:j
  abbrev pub blocks_after : List Event → ℕ → ℕ → ℕ
  blocks_after es k j = tree_blocks m.hash (count m.image) (page_after m es) k j

  -- what a node holds that was last worked when these events had happened, or never
  unfoldable pub held_from : ℕ → ℕ → Option (List Event) → List ℕ
  held_from k j (Some before) = stored (digest_after before k j)
  held_from k j None = zeros

module _ (m : Making) (calls : List Call) where
  -- after the run, node k:j is marked
  abbrev pub is_marked : ℕ → ℕ → Bool
  is_marked k j = marked_at (shape_in m) (state_after m calls).table k j

  -- and holds these 64 bytes
  abbrev pub holds : ℕ → ℕ → List ℕ
  holds k j = held_at (shape_in m) (state_after m calls).table k j

  -- so many nodes are marked
  abbrev pub marks_left : ℕ
  marks_left = marks (shape_in m) (state_after m calls).table

  -- Every unmarked node holds the digest that the tree of the image as it then is gives it.
  abbrev pub UnmarkedTrue : Type 0
  UnmarkedTrue = (k j : ℕ) → IsNode (shape_in m) k j → IsFalse (is_marked k j) → holds k j ≡ stored (digest_after m (events m calls) k j)

  -- A node is marked exactly when it was never worked or an accepted put on a page beneath it came since.
  abbrev pub MarkedStale : Type 0
  MarkedStale = (k j : ℕ) → IsNode (shape_in m) k j → is_marked k j ≡ is_stale (fanout_of m.hash) k j (events m calls)

  -- A marked node holds the digest that the tree gave it when it was last worked, or zeros if it never was.
  abbrev pub MarkedOld : Type 0
  MarkedOld = (k j : ℕ) → IsNode (shape_in m) k j → IsTrue (is_marked k j) → holds k j ≡ held_from m k j (last_worked k j (events m calls))

  -- A root that a further call gives out is the root of the tree of the image as it then is.
  abbrev pub RootTrue : Type 0
  RootTrue = (c : Call) → answer_to m calls c ≡ Ok RootRead → buffer_after m calls c ≡ root_after m (events m (c ∷ calls))

  -- A further stale count that is accepted answers how many nodes are marked.
  abbrev pub CountTrue : Type 0
  CountTrue = (c : Call) (n : ℕ) → answer_to m calls c ≡ Ok (Counted n) → n ≡ marks (shape_in m) (state_after m (c ∷ calls)).table

  -- All pages are readable and none is open. Let steps alone follow.
  pub record Clear : Type 0 where
    pub readable : (p : ℕ) → p < count m.image → IsTrue (page_at m.image p).state.readable
    pub closed : (state_after m calls).opened ≡ None

  -- None of them is refused.
  abbrev pub StepsAccepted : Type 0
  StepsAccepted = (more : List Call) → StepsAlone more → (c : Call) → IsStep c → IsOk (answer_to m (more ++ calls) c)

  -- After fewer steps than nodes are marked, a root reading gets 51.
  abbrev pub RootWaits : Type 0
  RootWaits =
      (more : List Call) → StepsAlone more → length more < marks_left
      → (out : List ℕ) → length out ≡ digest_length m.hash
      → answer_to m (more ++ calls) (Root out) ≡ Err (fault NodeMarked 0)

  -- After as many it gives the root.
  abbrev pub RootComes : Type 0
  RootComes =
      (more : List Call) → StepsAlone more → length more ≡ marks_left
      → (out : List ℕ) → length out ≡ digest_length m.hash
      → (answer_to m (more ++ calls) (Root out) ≡ Ok RootRead)
      × (buffer_after m (more ++ calls) (Root out) ≡ root_after m (events m (more ++ calls)))

  -- Their reported blocks sum to the blocks that the tree gives the nodes that were marked.
  abbrev pub BlocksSum : Type 0
  BlocksSum =
      (more : List Call) → StepsAlone more → length more ≡ marks_left
      → reported m calls more ≡ over_nodes (shape_in m) (λ k j. if is_marked k j then blocks_after m (events m calls) k j else 0)

  -- The law of this run.
  pub record Holds : Type 0 where
    pub unmarked_true : UnmarkedTrue
    pub marked_stale : MarkedStale
    pub marked_old : MarkedOld
    pub root_true : RootTrue
    pub count_true : CountTrue
    pub steps_accepted : Clear → StepsAccepted
    pub root_waits : Clear → RootWaits
    pub root_comes : Clear → RootComes
    pub blocks_sum : Clear → BlocksSum

-- how many of more calls are accepted puts
unfoldable pub put_count : Making → List Call → List Call → ℕ
put_count m calls [] = 0
put_count m calls (c ∷ more) = put_count m calls more + (if is_some (put_in (did c (answer_to m (more ++ calls) c))) then 1 else 0)

-- An estimate after these calls suffices for more calls: where these have no more accepted puts than the estimate was given pages, at most as many nodes are marked as it answered.
abbrev pub Suffices : Making → List Call → List Call → Type 0
Suffices m calls more =
    (pages : List ℕ) (n : ℕ) → estimate_answer (view_after m calls) pages ≡ Ok n → put_count m calls more ≤ length pages
    → marks_left m (more ++ calls) ≤ n

-- The layers of a tree end at its root.
pub record Ends (s : Shape) : Type 0 where
  pub above_pages : 1 ≤ root_layer s
  pub one_node : layer_size s (root_layer s) ≡ 1
  pub earliest : (k : ℕ) → 1 ≤ k → k < root_layer s → layer_size s k ≢ 1
  pub few : layer_count s ≤ 13
