-- Why each call is refused, and what it leaves then.
use Rattle.std.specs.Prelude.{◌≡◌, ℕ, ◌+◌, length}
use Rattle.sr_logfile.specs.Log.{Log}
use Rattle.sr_logfile.specs.Logs.{gate_of}
use Rattle.sr_logform.specs.Entries.{entry_spelling}
use Rattle.sr_logform.specs.Limits.{longest_body}
use Rattle.sr_logform.specs.declared.entry.Entry.{Entry}
use Rattle.sr_database.specs.Commits.{IsLong, HasNoRoom, framed_size}

-- the record is longer than its kind may be
pub record IsTooLong (entry : Entry) (size limit : ℕ) : Type 0 where
  pub long : IsLong entry
  pub size_is : size ≡ length (entry_spelling entry)
  pub limit_is : limit ≡ longest_body entry

-- the record, of a length that it may have, has no room
pub record IsTooFar (log : Log) (entry : Entry) (end need : ℕ) : Type 0 where
  pub short : ¬ (IsLong entry)
  pub full : HasNoRoom log entry
  pub end_is : end ≡ gate_of log + 1
  pub need_is : need ≡ framed_size entry
