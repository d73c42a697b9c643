-- What a state of the hash means: what will come of it, as a function of the bytes that are still to follow.
use Rattle.std.specs.Prelude.{ℕ, ◌+◌, Bool, List, ◌++◌, take}
use Rattle.stream.specs.Hash.{ended}
use Rattle.stream.specs.declared.state.State.{State}

-- A state's type says which words it has, X, what the trait `Word` fixes for them, W, and their `^`, V.

-- how many bytes went in
abbrev pub count : {X W V : _} → State X W V → ℕ
count s = s.chain.t + s.filled

-- the last chain value, once `rest` has gone in
unfoldable pub meaning : {X W V : _} → State X W V → Bool → List ℕ → List ℕ
meaning {X} {W} s node rest = ended W.width node s.chain.t (take s.filled s.wait ++ rest) s.chain.h
