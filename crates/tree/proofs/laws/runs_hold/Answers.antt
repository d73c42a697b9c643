use Rattle.tree.proofs.Runs.{run_law}
use Rattle.tree.proofs.laws.runs_hold.Goals as goal

pub returns : goal.returns
returns c = λ m acc calls. run_law m (cc) calls
