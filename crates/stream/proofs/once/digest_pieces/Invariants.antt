use Rattle.std.proofs.Common.{◌≡◌, take}
use Rattle.std.specs.List.{flat_map}
use Rattle.stream.specs.Views.{view_of}
use Rattle.stream.specs.Streams.{fresh, taken}
use Rattle.stream.proofs.once.digest_pieces.Given as goal

-- the stream has taken the pieces so far
abbrev pub invariant-loop-piece : goal.invariant-loop-piece
invariant-loop-piece g l =
    view_of l.stream ≡ taken (fresh g.W.Word.width l.digest_len l.key) (flat_map (λ piece. piece.now) (take l.piece-index l.pieces))
