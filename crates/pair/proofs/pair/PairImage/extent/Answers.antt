use Rattle.std.proofs.Common.{rules}
use Rattle.pair.proofs.Joins.{extent_joined}
use Rattle.pair.proofs.pair.PairImage.extent.Goals as goal

pub returns : goal.returns
returns g c = search (rules, extent_joined)
