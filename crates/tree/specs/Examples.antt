-- A small run whose figures can be added up by hand.
use Rattle.std.specs.Prelude.{ℕ, ◌+◌, ◌*◌, true, false, List, [], ◌∷◌, replicate, sum, refl}
use Rattle.std.proofs.Common.{arith}
use Rattle.image.specs.Pages.{Page}
use Rattle.label.specs.Examples.{example}
use Rattle.nodehash.specs.Hashing.{Hashing}
use Rattle.tree.specs.Calls.{Call, Open, Put, Step}
use Rattle.tree.specs.Runs.{Making}

-- A node hash that adds: a digest is one number, the sum of the input, ten times the depth, and the offset.
abbrev pub adding : Hashing
adding = record {
  label = record example { digest = 1; key = 0; fanout = 2; depth = 3; page = 2 };
  fit = true;
  digest = λ node last input. (sum input + (10 * node.depth + node.offset)) ∷ [];
  blocks = λ depth n. 1;
  sized = λ node last input. refl;
  short = omega arith;
  wide = omega arith;
  narrow = omega arith;
  few = λ depth n few. omega arith;
}

-- a page that can be read and written
abbrev pub page_of : List ℕ → Page
page_of bytes = record { bytes = bytes; state = record { readable = true; locked = false } }

-- Three pages, so that the layers have 3, 2 and 1 nodes, with a table that has room for more.
abbrev pub small : Making
small = record {
  hash = adding;
  image = record { size = 2; pages = page_of (1 ∷ 2 ∷ []) ∷ page_of (3 ∷ 4 ∷ []) ∷ page_of (5 ∷ []) ∷ [] };
  table = replicate 400 9;
}

abbrev pub step : Call
step = Step (replicate 4096 0)

-- all six nodes are worked: 3, 8 and 7 over the pages, 21 and 18 above them, and the root 59
abbrev pub worked : List Call
worked = step ∷ step ∷ step ∷ step ∷ step ∷ step ∷ []

-- then the last page is edited
abbrev pub edited : List Call
edited = Put 2 (6 ∷ []) ∷ Open 2 (0 ∷ []) ∷ worked

-- and its path worked again
abbrev pub reworked : List Call
reworked = step ∷ step ∷ step ∷ edited
