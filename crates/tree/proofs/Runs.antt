-- The law of every run, from its parts.
use Rattle.std.proofs.Common.{List}
use Rattle.tree.specs.Calls.{Call}
use Rattle.tree.specs.Laws.{Holds}
use Rattle.tree.specs.Runs.{Making, Accepted}
use Rattle.tree.proofs.Invariant.{inv_run}
use Rattle.tree.proofs.Roots.{root_true, count_true}
use Rattle.tree.proofs.Steps.{steps_accepted, root_waits, root_comes, blocks-sum}

pub run_law : (m : Making) → Accepted m → (calls : List Call) → Holds m calls
run_law m acc calls =
    let i = inv_run m acc calls in
    record {
      unmarked_true = i.unmarked;
      marked_stale = i.stale;
      marked_old = λ k j v u. i.old k j v;
      root_true = root_true m acc calls;
      count_true = count_true m calls;
      steps_accepted = steps_accepted m acc calls;
      root_waits = root_waits m acc calls;
      root_comes = root_comes m acc calls;
      blocks_sum = blocks-sum m acc calls;
    }
