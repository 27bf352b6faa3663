-- Reads, one after the other.
use Rattle.std.proofs.Common.{◌≡◌, ◌++◌, Bool, List, [], Result, Ok, Err, refl, sym, subst, ◌∙◌, le_refl}
use Rattle.std.specs.Prelude.{IsTrue, IfErr, IsErrAnd}
use Rattle.sr_base.specs.declared.offset.Offset.{Offset}
use Rattle.sr_book.specs.Entries.{Name}
use Rattle.sr_database.specs.Databases.{IsDatabase, HasDatabase}
use Rattle.sr_database.proofs.InForce.{in_force_stays}
use Rattle.sr_database.specs.InForce.{HasLogInForce}
use Rattle.sr_database.specs.Inner.Causes.{EntryCause}
use Rattle.sr_database.specs.Inner.Entries.{IsEnd}
use Rattle.sr_database.specs.Views.{View}
use Rattle.sr_database_files.specs.Inner.Openings.{ReadAlone}
use Rattle.sr_database_files.specs.declared.fault.DatabaseFault.{DatabaseFault}
use Rattle.sr_database_files.specs.declared.fault.DatabaseFault.TheVariants as store
use Rattle.sr_database_history.specs.Recorded.{Recorded}
use Rattle.sr_send.proofs.Posts.{posted_read, posted_database, posted_before, rose_from}
use Rattle.sr_send.specs.Inner.Posting.{Posted}
use Rattle.sr_send_needs.specs.Inner.Ends.{IsEndOf}
use Rattle.sr_send_needs.specs.Inner.Reading.{SearchCause, NeedCause, IsReadRefusal, IsToldAs}
use Rattle.sr_send_needs.specs.declared.fault.NeedFault.{NeedFault}
use Rattle.sr_site.specs.Inner.Growing.{disk_stays_on}
use Rattle.sr_site.specs.Seen.{Seen}

-- ---- what is left as it was

pub read_none : (seen : Seen) → ReadAlone seen seen
read_none seen = record {
  stays = record { observable = refl; first = refl; grows = λ moment there. there; mail = refl; mail_faults = refl; later = le_refl seen.disk_faults };
  files = λ told. refl;
  happened = λ told. refl;
}

pub told_then : (before now : Seen) → ReadAlone before now → IsTrue before.observable → IsTrue now.observable
told_then before now read told = subst (λ (b : Bool). IsTrue b) (sym read.stays.observable) told

pub told_before : (before now : Seen) → ReadAlone before now → IsTrue now.observable → IsTrue before.observable
told_before before now read told = subst (λ (b : Bool). IsTrue b) read.stays.observable told

pub read_on : (before middle now : Seen) → ReadAlone before middle → ReadAlone middle now → ReadAlone before now
read_on before middle now one other = record {
  stays = disk_stays_on before middle now one.stays other.stays;
  files = λ told. other.files (told_then before middle one told) ∙ one.files told;
  happened = λ told. other.happened (told_then before middle one told) ∙ one.happened told;
}

pub as_posted : (before now : Seen) → ReadAlone before now → Posted before now []
as_posted before now read = posted_read before now read.stays read.files read.happened

pub database_on : (db : View) (publisher : Name) (es : List Recorded) (before now : Seen) → ReadAlone before now → IsTrue before.observable → IsDatabase db publisher es before → IsDatabase db publisher es now
database_on db publisher es before now read told database = posted_database db publisher es before now [] (as_posted before now read) told database

pub database_back : (db : View) (publisher : Name) (es : List Recorded) (before now : Seen) → ReadAlone before now → IsTrue before.observable → IsDatabase db publisher es now → IsDatabase db publisher es before
database_back db publisher es before now read told database = posted_before db publisher es before now [] (as_posted before now read) told database

pub in_force_on : (db : View) (before now : Seen) → ReadAlone before now → IsTrue before.observable → HasLogInForce db before → HasLogInForce db now
in_force_on db before now read told has = in_force_stays db before now read.stays.first (read.files told) (read.happened told) has

-- ---- faults

-- an offset is an end of each history that the value is the database of
abbrev pub IsEndOfEach : View → Offset → Seen → Type 0
IsEndOfEach db at seen = IsTrue seen.observable → (publisher : Name) (es : List Recorded) → IsDatabase db publisher es seen → IsEndOf es at.0

end_there : (db : View) (at : Offset) (first before : Seen) → ReadAlone first before → IsEndOfEach db at first → IsTrue first.observable → HasDatabase db first → IsEnd db at before
end_there db at first before read ends told has =
    let end = ends told has.publisher has.es has.is in
    record {
      publisher = has.publisher;
      done = end.done;
      left = end.left;
      is = subst (λ (es : List Recorded). IsDatabase db has.publisher es before) end.parts (database_on db has.publisher has.es first before read told has.is);
      after_is = end.place_is;
    }

-- that of a read behind others
pub search_of : (db : View) (at : Offset) (first before now : Seen) (fault : DatabaseFault) → ReadAlone first before → before.disk_faults ≡ first.disk_faults → IsEndOfEach db at first → EntryCause db at before now fault
    → SearchCause db first now fault
search_of db at first before now store.Missing read steady ends cause = absurd cause
search_of db at first before now store.Exists read steady ends cause = absurd cause
search_of db at first before now (store.Damaged file place) read steady ends cause =
    (λ told has. cause.0 (told_then first before read told) (end_there db at first before read ends told has), cause.1 ∙ steady)
search_of db at first before now store.Disk read steady ends cause = rose_from first.disk_faults before.disk_faults now.disk_faults steady cause
search_of db at first before now (store.Full end need) read steady ends cause = absurd cause
search_of db at first before now (store.Long size limit) read steady ends cause = absurd cause
search_of db at first before now store.Memory read steady ends cause = cause ∙ steady

end_on : (db : View) (at : Offset) (first before : Seen) → ReadAlone first before → IsTrue first.observable → IsEnd db at first → IsEnd db at before
end_on db at first before read told end = record {
  publisher = end.publisher;
  done = end.done;
  left = end.left;
  is = database_on db end.publisher (end.done ++ end.left) first before read told end.is;
  after_is = end.after_is;
}

entry_from : (db : View) (at : Offset) (first before now : Seen) (fault : DatabaseFault) → ReadAlone first before → before.disk_faults ≡ first.disk_faults → EntryCause db at before now fault → EntryCause db at first now fault
entry_from db at first before now store.Missing read steady cause = absurd cause
entry_from db at first before now store.Exists read steady cause = absurd cause
entry_from db at first before now (store.Damaged file place) read steady cause =
    (λ told end. cause.0 (told_then first before read told) (end_on db at first before read told end), cause.1 ∙ steady)
entry_from db at first before now store.Disk read steady cause = rose_from first.disk_faults before.disk_faults now.disk_faults steady cause
entry_from db at first before now (store.Full end need) read steady cause = absurd cause
entry_from db at first before now (store.Long size limit) read steady cause = absurd cause
entry_from db at first before now store.Memory read steady cause = cause ∙ steady

pub entry_behind : {T : Type 0} (db : View) (at : Offset) (first before now : Seen) (result : Result T DatabaseFault) → ReadAlone first before → before.disk_faults ≡ first.disk_faults → IfErr result (EntryCause db at before now)
    → IfErr result (EntryCause db at first now)
entry_behind db at first before now (Ok x) read steady cause = tt
entry_behind db at first before now (Err fault) read steady cause = entry_from db at first before now fault read steady cause

-- that of a search behind reads
pub search_from : (db : View) (first before now : Seen) (fault : DatabaseFault) → ReadAlone first before → before.disk_faults ≡ first.disk_faults → SearchCause db before now fault → SearchCause db first now fault
search_from db first before now store.Missing read steady cause = absurd cause
search_from db first before now store.Exists read steady cause = absurd cause
search_from db first before now (store.Damaged file place) read steady cause = (
  λ told has. cause.0 (told_then first before read told)
      (record { publisher = has.publisher; es = has.es; is = database_on db has.publisher has.es first before read told has.is }),
  cause.1 ∙ steady,
)
search_from db first before now store.Disk read steady cause = rose_from first.disk_faults before.disk_faults now.disk_faults steady cause
search_from db first before now (store.Full end need) read steady cause = absurd cause
search_from db first before now (store.Long size limit) read steady cause = absurd cause
search_from db first before now store.Memory read steady cause = cause ∙ steady

pub search_behind : {T : Type 0} (db : View) (first before now : Seen) (result : Result T DatabaseFault) → ReadAlone first before → before.disk_faults ≡ first.disk_faults → IfErr result (SearchCause db before now)
    → IfErr result (SearchCause db first now)
search_behind db first before now (Ok x) read steady cause = tt
search_behind db first before now (Err fault) read steady cause = search_from db first before now fault read steady cause

-- what holds of a fault holds of the answer that is it
pub if_fault : {T : Type 0} (holds : DatabaseFault → Type 0) (fault : DatabaseFault) (result : Result T DatabaseFault) → IsErrAnd result (λ e. e ≡ fault) → holds fault → IfErr result holds
if_fault holds fault (Ok x) is so = tt
if_fault holds fault (Err e) is so = subst holds (sym is) so

-- a fault is told
pub search_refused : (db : View) (before now : Seen) (fault : DatabaseFault) → SearchCause db before now fault → IsReadRefusal fault
search_refused db before now store.Missing cause = absurd cause
search_refused db before now store.Exists cause = absurd cause
search_refused db before now (store.Damaged file place) cause = tt
search_refused db before now store.Disk cause = tt
search_refused db before now (store.Full end need) cause = absurd cause
search_refused db before now (store.Long size limit) cause = absurd cause
search_refused db before now store.Memory cause = tt

pub cause_told : (db : View) (before now : Seen) (fault : DatabaseFault) (told : NeedFault) → SearchCause db before now fault → IsToldAs fault told → NeedCause db before now told
cause_told db before now store.Missing told cause is = absurd cause
cause_told db before now store.Exists told cause is = absurd cause
cause_told db before now (store.Damaged file place) told cause is = subst (NeedCause db before now) (sym is) cause
cause_told db before now store.Disk told cause is = subst (NeedCause db before now) (sym is) cause
cause_told db before now (store.Full end need) told cause is = absurd cause
cause_told db before now (store.Long size limit) told cause is = absurd cause
cause_told db before now store.Memory told cause is = subst (NeedCause db before now) (sym is) cause
