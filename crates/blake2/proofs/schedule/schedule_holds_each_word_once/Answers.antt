use Rattle.blake2.proofs.Schedules.{row_is, entry_once, entry_below}
use Rattle.blake2.proofs.schedule.schedule_holds_each_word_once.Goals as goal

pub returns : goal.returns
returns c = record {
  once = λ i k row entry. entry_once _ (row_is i row) k entry;
  below = λ i k row entry. entry_below _ (row_is i row) k;
}
