use Rattle.sr_logform.proofs.Counting.{entry_long}
use Rattle.sr_database_history.specs.Recorded.{own, taken, ddl, sync, entry_of}
use Rattle.sr_database_history.proofs.Bounds.{short, ends_within}
use Rattle.sr_database_history.proofs.keeping.entries_have_bounds.Goals as goal

pub returns : goal.returns
returns c = record {
  ops = λ r. entry_long (entry_of r);
  own = λ s place changes fits. short s place (own changes) fits;
  taken = λ s place user at dones fits. short s place (taken user at dones) fits;
  ddl = λ s place statement fits. short s place (ddl statement) fits;
  sync = λ s place user tables fits. short s place (sync user tables) fits;
  end = ends_within;
}
