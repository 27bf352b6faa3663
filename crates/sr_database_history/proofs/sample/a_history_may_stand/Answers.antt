use Rattle.sr_database_history.proofs.Sampled.{sample_stored, sample_ends, updated, came, tables_are}
use Rattle.sr_database_history.proofs.sample.a_history_may_stand.Goals as goal

pub returns-clause-stands : goal.returns-clause-stands
returns-clause-stands c = sample_stored

pub returns-clause-ends : goal.returns-clause-ends
returns-clause-ends c = sample_ends

pub returns-clause-updated : goal.returns-clause-updated
returns-clause-updated c = updated

pub returns-clause-came : goal.returns-clause-came
returns-clause-came c = came

pub returns-clause-tables : goal.returns-clause-tables
returns-clause-tables c = tables_are
