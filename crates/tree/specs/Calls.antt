-- The calls on a seal: what each answers, what it leaves in its buffer, and the state after it, for every argument.
use Rattle.std.specs.Prelude.{ℕ, suc, ◌*◌, Bool, true, false, if◌then◌else◌, not, ◌&&◌, List, [], ◌∷◌, ◌++◌, length, replicate, is_some, is_ok, Some, None, Ok, Err, Option, Result, ◌==◌, nat_le, nat_lt, slice_set}
use Rattle.std.specs.Option.{option_map}
use Rattle.fault.specs.Faults.{Row, on, unless}
use Rattle.fault.specs.declared.fault.Fault.{Fault}
use Rattle.fault.specs.declared.refusal.Refusal.TheVariants.{PageBuffer, PageUnreadable, TableLength, SealVoid, WorkBuffer, PageOpen, TicketPage, RootWhileOpen, NodeMarked, RootBuffer, PageList}
use Rattle.image.specs.Answers.{write_rows}
use Rattle.nodehash.specs.Hashing.{digest_length}
use Rattle.nodehash.specs.declared.position.Position.{Position}
use Rattle.tree.specs.declared.answer.Reply.{Reply}
use Rattle.tree.specs.declared.answer.Reply.TheVariants.{Opened, Done, Stepped, RootRead, Counted}
use Rattle.tree.specs.declared.answer.Worked.{Worked}
use Rattle.tree.specs.Marks.{marks, mark_path, next, short}
use Rattle.tree.specs.Records.{store}
use Rattle.tree.specs.Shapes.{layer_count, root_layer, place, is_last}
use Rattle.tree.specs.Trees.{input}
use Rattle.tree.specs.Views.{View, State, shape, page_bytes, is_open, digest_at}

-- Open copies page p into a buffer of n bytes and gives a ticket for it.
-- 46 the seal is void; 48 a page is open; then as a write of the page would be refused: 35, 36, 37, 38.
abbrev pub open_rows : View → ℕ → ℕ → List Row
open_rows v p n =
    on v.base.void SealVoid 0
    ∷ on (is_some v.state.opened) PageOpen 0
    ∷ write_rows v.base.count (length (page_bytes v.state p)) (v.base.state_at p) p n

-- It answers the page of the ticket.
unfoldable pub open_answer : View → ℕ → ℕ → Result ℕ Fault
open_answer v p n = unless (open_rows v p n) p

-- the buffer after it
unfoldable pub open_out : View → ℕ → List ℕ → List ℕ
open_out v p out = if is_ok (open_answer v p (length out)) then page_bytes v.state p else out

unfoldable pub open_state : View → ℕ → ℕ → State
open_state v p n = if is_ok (open_answer v p n) then record v.state { opened = Some p } else v.state

-- Put writes the bytes to the open page, marks the page's path and closes the page.
-- 46; 45 the table is short; 49 the ticket's page p is not the open one; 36 there are not as many bytes as the page has.
abbrev pub put_rows : View → ℕ → ℕ → List Row
put_rows v p n =
    on v.base.void SealVoid 0
    ∷ on (short (shape v) v.state.table) TableLength 0
    ∷ on (not (is_open v.state.opened p)) TicketPage 0
    ∷ on (not (n == length (page_bytes v.state p))) PageBuffer p
    ∷ []

unfoldable pub put_answer : View → ℕ → ℕ → Result (Unit {0}) Fault
put_answer v p n = unless (put_rows v p n) tt

unfoldable pub put_state : View → ℕ → List ℕ → State
put_state v p bytes =
    if is_ok (put_answer v p (length bytes)) then
    record {
      pages = slice_set v.state.pages p bytes;
      opened = None;
      table = mark_path (shape v) p (layer_count (shape v)) v.state.table;
    }
    else v.state

-- Withdraw closes the page and does nothing else: 46; 49.
abbrev pub withdraw_rows : View → ℕ → List Row
withdraw_rows v p = on v.base.void SealVoid 0 ∷ on (not (is_open v.state.opened p)) TicketPage 0 ∷ []

unfoldable pub withdraw_answer : View → ℕ → Result (Unit {0}) Fault
withdraw_answer v p = unless (withdraw_rows v p) tt

unfoldable pub withdraw_state : View → ℕ → State
withdraw_state v p = if is_ok (withdraw_answer v p) then record v.state { opened = None } else v.state

-- Step works the next node: it stores its digest and removes its mark.
-- 46; 45; 47 the work buffer is not 4,096 bytes long; 37 the node's page cannot be read.
abbrev pub work_rows : View → ℕ → List Row
work_rows v n =
    on v.base.void SealVoid 0
    ∷ on (short (shape v) v.state.table) TableLength 0
    ∷ on (not (n == 4096)) WorkBuffer 0
    ∷ []

-- the node that a step works
abbrev pub next_node : View → Option Position
next_node v = next (shape v) v.state.table

-- a node is a page that cannot be read
unfoldable pub is_unreadable : View → Option Position → Bool
is_unreadable v (Some node) = node.depth == 0 && not (v.base.state_at node.offset).readable
is_unreadable v None = false

unfoldable pub offset_of : Option Position → ℕ
offset_of (Some node) = node.offset
offset_of None = 0

abbrev pub page_rows : View → List Row
page_rows v = on (is_unreadable v (next_node v)) PageUnreadable (offset_of (next_node v)) ∷ []

-- the input of a node, from the pages and from the digests that the table holds
unfoldable pub input_of : View → Position → List ℕ
input_of v node = input v.base.hash v.base.count (page_bytes v.state) (digest_at v) node.depth node.offset

-- what is answered of the node that was worked: its position and its blocks
unfoldable pub work_on : View → Option Position → Option Worked
work_on v = option_map (λ node. record { position = node; blocks = v.base.hash.blocks node.depth (length (input_of v node)) })

-- the table once a node was worked
unfoldable pub step_table : View → Option Position → List ℕ
step_table v (Some node) =
    store v.state.table (place (shape v) node.depth node.offset)
    (v.base.hash.digest node (is_last (shape v) node.depth node.offset) (input_of v node))
step_table v None = v.state.table

unfoldable pub step_answer : View → ℕ → Result (Option Worked) Fault
step_answer v n = unless (work_rows v n ++ page_rows v) (work_on v (next_node v))

-- the work buffer after it: all zero, once its length was accepted
unfoldable pub step_work : View → List ℕ → List ℕ
step_work v work = if is_ok (unless (work_rows v (length work)) (length work)) then replicate 4096 0 else work

unfoldable pub step_state : View → ℕ → State
step_state v n = if is_ok (step_answer v n) then record v.state { table = step_table v (next_node v) } else v.state

-- Root copies the root's digest out.
-- 46; 45; 52 the output is not as long as the digest; 50 a page is open; 51 a node is marked.
abbrev pub root_rows : View → ℕ → List Row
root_rows v n =
    on v.base.void SealVoid 0
    ∷ on (short (shape v) v.state.table) TableLength 0
    ∷ on (not (n == digest_length v.base.hash)) RootBuffer 0
    ∷ on (is_some v.state.opened) RootWhileOpen 0
    ∷ on (not (marks (shape v) v.state.table == 0)) NodeMarked 0
    ∷ []

unfoldable pub root_answer : View → ℕ → Result (Unit {0}) Fault
root_answer v n = unless (root_rows v n) tt

-- the output after it
unfoldable pub root_out : View → List ℕ → List ℕ
root_out v out = if is_ok (root_answer v (length out)) then digest_at v (root_layer (shape v)) 0 else out

-- Stale count answers how many nodes are marked: 46; 45.
abbrev pub stale_rows : View → List Row
stale_rows v = on v.base.void SealVoid 0 ∷ on (short (shape v) v.state.table) TableLength 0 ∷ []

unfoldable pub stale_answer : View → Result ℕ Fault
stale_answer v = unless (stale_rows v) (marks (shape v) v.state.table)

-- The pages rise strictly from page a on, and each is below n.
unfoldable pub rises_within : ℕ → ℕ → List ℕ → Bool
rises_within a n [] = true
rises_within a n (p ∷ pages) = nat_le a p && (nat_lt p n && rises_within (suc p) n pages)

-- Estimate answers how many nodes puts on these pages mark at most: one in each layer for each page.
-- 46; 53 the list does not rise strictly, or a page is absent.
abbrev pub estimate_rows : View → List ℕ → List Row
estimate_rows v pages =
    on v.base.void SealVoid 0 ∷ on (not (rises_within 0 v.base.count pages)) PageList 0 ∷ []

unfoldable pub estimate_answer : View → List ℕ → Result ℕ Fault
estimate_answer v pages = unless (estimate_rows v pages) (length pages * layer_count (shape v))

-- A call, with its arguments.
pub data Call : Type 0 where
  Open : ℕ → List ℕ → Call  -- the page, and the caller's buffer
  Put : ℕ → List ℕ → Call  -- the ticket's page, and the bytes
  Withdraw : ℕ → Call  -- the ticket's page
  Step : List ℕ → Call  -- the work buffer
  Root : List ℕ → Call  -- the output
  Stale : Call

-- The answer of any call: what it gives, or the fault that it is refused with.
abbrev pub Answer : Type 0
Answer = Result Reply Fault

-- the answer of one call as that of any
unfoldable pub told : {A : Type 0} → (A → Reply) → Result A Fault → Answer
told f (Ok x) = Ok (f x)
told f (Err e) = Err e

unfoldable pub answer_of : View → Call → Answer
answer_of v (Open p out) = told Opened (open_answer v p (length out))
answer_of v (Put p bytes) = told (λ _. Done) (put_answer v p (length bytes))
answer_of v (Withdraw p) = told (λ _. Done) (withdraw_answer v p)
answer_of v (Step work) = told Stepped (step_answer v (length work))
answer_of v (Root out) = told (λ _. RootRead) (root_answer v (length out))
answer_of v Stale = told Counted (stale_answer v)

-- the call's own buffer after it
unfoldable pub buffer_of : View → Call → List ℕ
buffer_of v (Open p out) = open_out v p out
buffer_of v (Put p bytes) = bytes
buffer_of v (Withdraw p) = []
buffer_of v (Step work) = step_work v work
buffer_of v (Root out) = root_out v out
buffer_of v Stale = []

unfoldable pub state_of : View → Call → State
state_of v (Open p out) = open_state v p (length out)
state_of v (Put p bytes) = put_state v p bytes
state_of v (Withdraw p) = withdraw_state v p
state_of v (Step work) = step_state v (length work)
state_of v (Root out) = v.state
state_of v Stale = v.state
