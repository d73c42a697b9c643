use Rattle.std.proofs.Common.{rules}
use Rattle.bench.proofs.Dumps.{state_is, state_there, state_within}
use Rattle.bench.proofs.dump.ChipDumpImage.state.Goals as goal

pub bounds-self-page : goal.bounds-self-page
bounds-self-page c = search (rules, state_within)

pub returns : goal.returns
returns c = search (rules, state_there, state_is)
