use Rattle.sr_database_history.proofs.Kept.{fresh_holds, stays_held, held_from, stored_holds}
use Rattle.sr_database_history.proofs.keeping.what_holds_stays.Goals as goal

pub returns : goal.returns
returns c = record {
  at_first = fresh_holds;
  kept = stays_held;
  on = held_from;
  stored = stored_holds;
}
