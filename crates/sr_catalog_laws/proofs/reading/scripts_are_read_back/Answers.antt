use Rattle.sr_database_history.proofs.Kept.{stored_holds}
use Rattle.sr_catalog_laws.proofs.Written.{script_written}
use Rattle.sr_catalog_laws.proofs.reading.scripts_are_read_back.Goals as goal
use Rattle.sr_catalog_script_laws.proofs.Spelled.{new_spelled, script_again, script_normal, still_spelled}

pub returns : goal.returns
returns c = record {
  new = new_spelled;
  next = still_spelled;
  stored = λ publisher rs stored. (stored_holds publisher rs stored).catalog;
  normal = script_normal;
  written = script_written;
  again = script_again;
}
