use Rattle.std.proofs.Common.{rules}
use Rattle.bench.specs.Sound.{cut_at}
use Rattle.bench.proofs.bench.BenchImageImage.state.Goals as goal

pub returns : goal.returns
returns c = search (rules, cut_at)
