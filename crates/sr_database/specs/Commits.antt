-- What may be committed.
use Rattle.std.specs.Prelude.{◌≡◌, ◌<◌, ℕ, ◌+◌, List, length}
use Rattle.sr_logfile.specs.Log.{Log}
use Rattle.sr_logfile.specs.Logs.{IsFull}
use Rattle.sr_logfile.specs.Records.{IsFramed, body_of}
use Rattle.sr_logform.specs.Entries.{entry_spelling, IsEntry}
use Rattle.sr_logform.specs.Limits.{longest_body, farthest_end}
use Rattle.sr_logform.specs.declared.entry.Entry.{Entry}

-- the number of bytes of its record with the gate behind it
abbrev pub framed_size : Entry → ℕ
framed_size entry = length (entry_spelling entry) + 5

-- it is longer than its kind may be
abbrev pub IsLong : Entry → Type 0
IsLong entry = longest_body entry < length (entry_spelling entry)

-- its record has no room behind a log: in the file, or in front of the last offset
abbrev pub HasNoRoom : Log → Entry → Type 0
HasNoRoom log entry = IsFull log (framed_size entry) (farthest_end entry)

-- neither
pub record HasRoom (log : Log) (entry : Entry) : Type 0 where
  pub short : ¬ (IsLong entry)
  pub room : ¬ (HasNoRoom log entry)

-- a record that may be committed: the entry has a spelling, which is the body that is framed, and there is room
pub record IsPrepared (log : Log) (entry : Entry) (framed : List ℕ) : Type 0 where
  pub framed_is : IsFramed framed
  pub body_is : body_of framed ≡ entry_spelling entry
  pub kept : IsEntry entry
  pub room : HasRoom log entry
