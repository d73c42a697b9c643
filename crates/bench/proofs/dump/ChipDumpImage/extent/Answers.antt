use Rattle.std.proofs.Common.{rules}
use Rattle.bench.proofs.Dumps.{extent_held}
use Rattle.bench.proofs.dump.ChipDumpImage.extent.Goals as goal

pub returns-in-Some : goal.returns-in-Some
returns-in-Some c = search (rules, extent_held)
