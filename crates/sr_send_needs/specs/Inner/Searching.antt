-- A log read on until it gives a user something past an offset.
use Rattle.std.specs.Prelude.{◌≡◌, ◌≤◌, ◌<◌, ℕ, Bool, true, false, nat_lt, min, List, [], ◌∷◌, ◌++◌, Option, Some, None, Result, Ok, Err, IsTrue}
use Rattle.sr_base.specs.declared.offset.Offset.{Offset}
use Rattle.sr_book.specs.Entries.{Name}
use Rattle.sr_database.specs.Databases.{IsDatabase}
use Rattle.sr_database.specs.Views.{View}
use Rattle.sr_database_files.specs.Inner.Openings.{ReadAlone}
use Rattle.sr_database_files.specs.declared.fault.DatabaseFault.{DatabaseFault}
use Rattle.sr_database_history.specs.Folds.{fresh, state_of, end_of}
use Rattle.sr_database_history.specs.Recorded.{Recorded}
use Rattle.sr_logform.specs.declared.entry.Entry.{Entry}
use Rattle.sr_logform.specs.declared.op.Transaction.{Transaction}
use Rattle.sr_scan.specs.Inner.Scanners.{Scan, IsFed}
use Rattle.sr_site.specs.Seen.{Seen}
use Rattle.sr_send_needs.specs.Needs.{end_before}

-- something was found, and its end lies past an offset
abbrev pub is_past : ℕ → ℕ → Option Transaction → Bool
is_past sent end None = false
is_past sent end (Some t) = nat_lt sent end

-- a scanner went on after an entry, and this tells whether it gives something past an offset
pub record IsAsked (old : Scan) (sent : ℕ) (end : Offset) (entry : Entry) (new : Scan) (past : Bool) : Type 0 where
  pub found : Option Transaction
  pub fed : IsFed old end entry found new
  pub past_is : past ≡ is_past sent end.0 found

-- the first of the entries that are left gives a user nothing past an offset, and a scanner goes on after it
pub record IsPassed (publisher : Name) (done left : List Recorded) (sent : ℕ) (scan : Scan) (end : Offset) (user : Name) : Type 0 where
  pub r : Recorded
  pub rest : List Recorded
  pub left_is : left ≡ r ∷ rest
  pub end_is : end.0 ≡ end_of (done ++ r ∷ [])
  pub catalog : scan.catalog ≡ (state_of publisher (done ++ r ∷ [])).catalog
  pub same : end_before sent (state_of publisher done) (end_of done) left user ≡ end_before sent (state_of publisher (done ++ r ∷ [])) (end_of (done ++ r ∷ [])) rest user

-- a step to the end of the next entry
pub record Passes (db : View) (sent : ℕ) (old new : Scan) (at end : Offset) (seen : Seen) : Type 0 where
  pub later : at.0 < end.0
  pub within : end.0 ≤ db.log.end
  pub user : new.user ≡ old.user
  pub passed : IsTrue seen.observable → (publisher : Name) (done left : List Recorded) → IsDatabase db publisher (done ++ left) seen → at.0 ≡ end_of done → old.catalog ≡ (state_of publisher done).catalog
      → IsPassed publisher done left sent new end old.user

-- there is none: of a limit and the place before the first entry that gives something the lesser is that of the limit and this offset
pub record Stops (db : View) (sent limit : ℕ) (scan : Scan) (at : Offset) (seen : Seen) : Type 0 where
  pub least : IsTrue seen.observable → (publisher : Name) (done left : List Recorded) → IsDatabase db publisher (done ++ left) seen → at.0 ≡ end_of done → scan.catalog ≡ (state_of publisher done).catalog
      → min limit (end_before sent (state_of publisher done) (end_of done) left scan.user) ≡ min limit at.0

abbrev pub IsStep : View → ℕ → ℕ → Scan → Scan → Offset → Seen → Option Offset → Type 0
IsStep db sent limit old new at seen None = Stops db sent limit old at seen
IsStep db sent limit old new at seen (Some end) = Passes db sent old new at end seen

-- the answer of a step: to the end of an entry, if that gives nothing past the offset
abbrev pub step_to : Offset → Result Bool DatabaseFault → Result (Option Offset) DatabaseFault
step_to end (Ok true) = Ok None
step_to end (Ok false) = Ok (Some end)
step_to end (Err fault) = Err fault

-- of a history the entries up to an offset give a user nothing past another
pub record HasPassed (publisher : Name) (es : List Recorded) (user : Name) (sent : ℕ) (scan : Scan) (at : Offset) : Type 0 where
  pub done : List Recorded
  pub left : List Recorded
  pub parts : es ≡ done ++ left
  pub at_is : at.0 ≡ end_of done
  pub catalog : scan.catalog ≡ (state_of publisher done).catalog
  pub same : end_before sent (fresh publisher) 0 es user ≡ end_before sent (state_of publisher done) (end_of done) left user

-- a log is being read on
pub record SearchedTo (db : View) (sent : ℕ) (user : Name) (scan : Scan) (at : Offset) (before now : Seen) : Type 0 where
  pub read : ReadAlone before now
  pub steady : now.disk_faults ≡ before.disk_faults
  pub from_base : db.log.base ≤ at.0
  pub within : at.0 ≤ db.log.end
  pub user_is : scan.user ≡ user
  pub passed : IsTrue before.observable → (publisher : Name) (es : List Recorded) → IsDatabase db publisher es before → HasPassed publisher es user sent scan at
