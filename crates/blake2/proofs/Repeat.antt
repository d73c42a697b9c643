-- One more turn of a loop of the document.
use Rattle.std.proofs.Common.{◌≡◌, ℕ, ◌+◌, refl, add-one}
use Rattle.blake2.specs.Compression.{repeat}

pub repeat_none : {X : Type 0} (f : ℕ → X → X) (x : X) → repeat 0 f x ≡ x
unfolding repeat
repeat_none f x = refl

pub repeat_more : {X : Type 0} (n : ℕ) (f : ℕ → X → X) (x : X) → repeat (n + 1) f x ≡ f n (repeat n f x)
unfolding repeat
repeat_more n f x = rw (add-one n)
