-- Runs: the making of a seal and then calls, in any order and number; and what happened in a run.
use Rattle.std.specs.Prelude.{◌≡◌, ℕ, ◌*◌, Bool, false, if◌then◌else◌, not, ◌&&◌, ◌||◌, List, [], ◌∷◌, ◌++◌, map, drop, is_some, is_ok, Some, None, Ok, Option, Result, ◌==◌, nat_lt}
use Rattle.fault.specs.Faults.{Row, on, unless}
use Rattle.fault.specs.declared.fault.Fault.{Fault}
use Rattle.fault.specs.declared.refusal.Refusal.TheVariants.{HashUnfit, PageLength, NoPages, DepthLimit, TableLength}
use Rattle.image.specs.Pages.{Page, Pages, count, page_at}
use Rattle.nodehash.specs.Hashing.{Hashing, depth_limit, page_length}
use Rattle.tree.specs.declared.answer.Reply.TheVariants.{Stepped}
use Rattle.tree.specs.declared.shape.Shape.{Shape}
use Rattle.tree.specs.Calls.{Answer, Call, Put, answer_of, buffer_of, state_of}
use Rattle.tree.specs.Marks.{short}
use Rattle.tree.specs.Records.{fresh}
use Rattle.tree.specs.Shapes.{layer_count, node_count, beneath}
use Rattle.tree.specs.Trees.{shape_of}
use Rattle.tree.specs.Views.{Base, State, View}

-- What a seal is made from.
pub record Making : Type 0 where
  pub hash : Hashing
  pub image : Pages
  pub table : List ℕ

-- the shape of its tree
abbrev pub shape_in : Making → Shape
shape_in m = shape_of m.hash (count m.image)

-- The check: 41 the node hash is unfit; 43 there are no pages; 42 the page length is not the label's; 44 there are more layers than the label's depth; 45 the table is short.
abbrev pub check_rows : Making → List Row
check_rows m =
    on (not m.hash.fit) HashUnfit 0
    ∷ on (count m.image == 0) NoPages 0
    ∷ on (not (m.image.size == page_length m.hash)) PageLength 0
    ∷ on (nat_lt (depth_limit m.hash) (layer_count (shape_in m))) DepthLimit 0
    ∷ on (short (shape_in m) m.table) TableLength 0
    ∷ []

unfoldable pub check_answer : Making → Result (Unit {0}) Fault
check_answer m = unless (check_rows m) tt

-- The making is accepted.
abbrev pub Accepted : Making → Type 0
Accepted m = check_answer m ≡ Ok tt

-- What the seal keeps; where the check refuses, it is void.
abbrev pub base_of : Making → Base
base_of m = record {
  hash = m.hash;
  count = count m.image;
  state_at = λ p. (page_at m.image p).state;
  void = not (is_ok (check_answer m));
}

-- The table that the making leaves: each node marked and zero, and what stands past the root as it was; where the check refuses, all as it was.
unfoldable pub made_table : Making → List ℕ
made_table m =
    if is_ok (check_answer m) then fresh (node_count (shape_in m)) ++ drop (65 * node_count (shape_in m)) m.table else m.table

-- The state that the making leaves.
unfoldable pub made : Making → State
made m = record { pages = map (λ (p : Page). p.bytes) m.image.pages; opened = None; table = made_table m }

-- Runs go back in time: the last call stands first. Each call takes the seal as the call before left it.
unfoldable pub state_after : Making → List Call → State
state_after m [] = made m
state_after m (c ∷ calls) = state_of (record { base = base_of m; state = state_after m calls }) c

-- the seal after a making and calls
abbrev pub view_after : Making → List Call → View
view_after m calls = record { base = base_of m; state = state_after m calls }

-- what a further call answers
abbrev pub answer_to : Making → List Call → Call → Answer
answer_to m calls c = answer_of (view_after m calls) c

-- what it leaves in its buffer
abbrev pub buffer_after : Making → List Call → Call → List ℕ
buffer_after m calls c = buffer_of (view_after m calls) c

-- What happened: a call, and its answer.
pub data Event : Type 0 where
  did : Call → Answer → Event

unfoldable pub events : Making → List Call → List Event
events m [] = []
events m (c ∷ calls) = did c (answer_to m calls c) ∷ events m calls

-- THE WORDS OF THE LAW, over what happened alone

-- the page and the bytes of an accepted put
unfoldable pub put_in : Event → Option (ℕ × List ℕ)
put_in (did (Put p bytes) a) = if is_ok a then Some (p, bytes) else None
put_in (did _ a) = None

-- the bytes of page p after a put, if there was one, from those before
unfoldable pub latest : ℕ → Option (ℕ × List ℕ) → List ℕ → List ℕ
latest p (Some put) before = if put.0 == p then put.1 else before
latest p None before = before

-- the image as it is after these events: each page has its bytes of the making, or those of its last accepted put
unfoldable pub page_after : Making → List Event → ℕ → List ℕ
page_after m [] p = (page_at m.image p).bytes
page_after m (e ∷ es) p = latest p (put_in e) (page_after m es p)

-- the page of a put, if there was one, is beneath node k:j
unfoldable pub put_beneath : ℕ → ℕ → ℕ → Option (ℕ × List ℕ) → Bool
put_beneath f k j (Some put) = beneath f put.0 k j
put_beneath f k j None = false

-- a step works the node whose position it answers
abbrev pub answers_node : ℕ → ℕ → Answer → Bool
answers_node k j (Ok (Stepped (Some w))) = w.position.depth == k && w.position.offset == j
answers_node k j _ = false

unfoldable pub works : ℕ → ℕ → Event → Bool
works k j (did c a) = answers_node k j a

-- what had happened when node k:j was last worked, if it ever was
unfoldable pub last_worked : ℕ → ℕ → List Event → Option (List Event)
last_worked k j [] = None
last_worked k j (e ∷ es) = if works k j e then Some es else last_worked k j es

-- what has happened since
unfoldable pub since_worked : ℕ → ℕ → List Event → List Event
since_worked k j [] = []
since_worked k j (e ∷ es) = if works k j e then [] else e ∷ since_worked k j es

-- an accepted put on a page beneath node k:j is among these events
unfoldable pub any_put : ℕ → ℕ → ℕ → List Event → Bool
any_put f k j [] = false
any_put f k j (e ∷ es) = put_beneath f k j (put_in e) || any_put f k j es

-- node k:j was never worked, or an accepted put on a page beneath it came since
unfoldable pub is_stale : ℕ → ℕ → ℕ → List Event → Bool
is_stale f k j es = not (is_some (last_worked k j es)) || any_put f k j (since_worked k j es)

-- the blocks that an answer reports
abbrev pub blocks_in : Answer → ℕ
blocks_in (Ok (Stepped (Some w))) = w.blocks
blocks_in _ = 0
