-- A chip dump: one state byte a page, 0 fine, 1 locked, 2 unreadable.
use Rattle.std.specs.Prelude.{ℕ, Bool, not, ◌&&◌, ◌||◌, List, [], ◌∷◌, length, is_ok, ◌==◌, slice_index}
use Rattle.std.specs.List.{list_any}
use Rattle.fault.specs.Faults.{on, unless}
use Rattle.fault.specs.declared.refusal.Refusal.TheVariants.{ImageShape, PageStates}
use Rattle.image.specs.Answers.{Answer}
use Rattle.image.specs.Pages.{Pages, state_of}
use Rattle.image.specs.declared.state.PageState.{PageState}
use Rattle.bench.specs.Buffers.{image_of, pages_of, shape_bad}

-- Whether a state byte is none of the three.
abbrev pub any_strange : List ℕ → Bool
any_strange states = list_any (λ s. not (is_ok (state_of s))) states

-- The check: 31; 32 where there is not one state byte for each page, or one is above 2.
abbrev pub dump_answer : ℕ → List ℕ → ℕ → Answer
dump_answer size states len =
    unless (on (shape_bad size len) ImageShape 0 ∷ on (not (length states == pages_of size len) || any_strange states) PageStates 0 ∷ []) tt

-- The state of page k, by its state byte; a byte above 2 counts as 0.
abbrev pub dump_state : List ℕ → ℕ → PageState
dump_state states k = record { readable = not (slice_index states k == 2); locked = (slice_index states k == 1) }

-- The image that is made of a buffer and its states.
abbrev pub dump_made : ℕ → List ℕ → List ℕ → Pages
dump_made size states buffer = image_of (is_ok (dump_answer size states (length buffer))) size (dump_state states) buffer

-- What a dump stands for that has these, whatever the state bytes are: they were tested when it was made.
abbrev pub dump_held : ℕ → List ℕ → List ℕ → Pages
dump_held size states buffer =
    image_of (not (shape_bad size (length buffer)) && length states == pages_of size (length buffer)) size (dump_state states) buffer
