-- A seal as its callers see it.
use Rattle.std.specs.Prelude.{ℕ, Bool, false, List, [], take, Some, None, Option, ◌==◌, slice_index_or}
use Rattle.image.specs.declared.state.PageState.{PageState}
use Rattle.nodehash.specs.Hashing.{Hashing, digest_length}
use Rattle.tree.specs.declared.shape.Shape.{Shape}
use Rattle.tree.specs.Marks.{held_at}
use Rattle.tree.specs.Trees.{shape_of}

-- What a seal keeps from its making on.
pub record Base : Type 0 where
  pub hash : Hashing
  pub count : ℕ  -- how many pages its image has
  pub state_at : ℕ → PageState  -- what may be done with each page
  pub void : Bool  -- whether its making was refused

-- What calls change.
pub record State : Type 0 where
  pub pages : List (List ℕ)  -- the bytes of each page
  pub opened : Option ℕ  -- the open page, if there is one
  pub table : List ℕ  -- the node table

pub record View : Type 0 where
  pub base : Base
  pub state : State

-- the shape of its tree
abbrev pub shape : View → Shape
shape v = shape_of v.base.hash v.base.count

-- the bytes of page p
unfoldable pub page_bytes : State → ℕ → List ℕ
page_bytes s p = slice_index_or s.pages p []

-- p is the open page
unfoldable pub is_open : Option ℕ → ℕ → Bool
is_open (Some q) p = q == p
is_open None p = false

-- the digest that node k:j holds
unfoldable pub digest_at : View → ℕ → ℕ → List ℕ
digest_at v k j = take (digest_length v.base.hash) (held_at (shape v) v.state.table k j)
