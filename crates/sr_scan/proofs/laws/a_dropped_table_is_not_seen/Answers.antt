use Rattle.sr_scan.proofs.Dropped.{before_drop, after_drop}
use Rattle.sr_scan.proofs.laws.a_dropped_table_is_not_seen.Goals as goal

pub returns : goal.returns
returns c = record { before = before_drop; after = after_drop }
