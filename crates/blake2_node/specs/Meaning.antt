-- What a node hash by BLAKE2 means.
use Rattle.std.specs.Prelude.{ℕ, List, Option}
use Rattle.blake2.specs.Width.{Width}
use Rattle.label.specs.Meaning.{parts}
use Rattle.label.specs.declared.label.Label.{Label}
use Rattle.nodehash.specs.Hashing.{Hashing}
use Rattle.blake2_node.specs.Nodes.{fits, digest_of, blocks_of}
use Rattle.blake2_node.specs.Sound.{sized, short, few}

-- The node hash with words of this width, a label and a key.
abbrev pub hashing : Width → Label → Option (List ℕ) → Hashing
hashing w l key = record {
  label = parts l;
  fit = fits w (parts l) key;
  digest = digest_of w (parts l) key;
  blocks = blocks_of w (parts l) key;
  sized = sized w l key;
  short = short l;
  wide = l.fanout_low;
  narrow = l.fanout_high;
  few = few w l key;
}
