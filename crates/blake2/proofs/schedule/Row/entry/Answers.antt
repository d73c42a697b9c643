use Rattle.blake2.proofs.Schedules.{entry_below}
use Rattle.blake2.proofs.schedule.Row.entry.Goals as goal

pub returns-clause-bound : goal.returns-clause-bound
returns-clause-bound c = entry_below c.args.self.entries.now c.args.self.rule c.args.k
