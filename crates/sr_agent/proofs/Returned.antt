-- What a crash may leave behind a stretch in which no call of the disk failed: the history with all that was committed.
use Rattle.std.proofs.Common.{◌≡◌, ℕ, ◌≤◌, Bool, List, [], ◌∷◌, ◌++◌, Ok, Err, refl, sym, ap, subst, ◌∙◌, inl, inr, arith, append_assoc, append-nil}
use Rattle.std.specs.Prelude.{IsTrue, false}
use Rattle.sr_book.specs.Entries.{Name}
use Rattle.sr_book.specs.declared.book.Book.{Book}
use Rattle.sr_catalog_schema.specs.Catalogs.{Lists}
use Rattle.sr_database.specs.Databases.{IsDatabase}
use Rattle.sr_database.specs.Views.{View}
use Rattle.sr_database_history.specs.Folds.{books_of}
use Rattle.sr_database_history.specs.Recorded.{Recorded}
use Rattle.sr_receive.specs.Entering.{Reached}
use Rattle.sr_receive.proofs.Acted.{quiet_both}
use Rattle.sr_receive_gather.specs.Gathers.{GatherCause, HappenedInPart, fetches}
use Rattle.sr_receive_gather.specs.MessageFiles.{FetchedFile}
use Rattle.sr_receive_gather.specs.Purges.{PurgeCause, PurgedInPart, Removes, removals}
use Rattle.sr_receive_gather.specs.declared.bag.Filed.{Filed}
use Rattle.sr_receive_gather.specs.declared.fault.ReceiveFault.{ReceiveFault}
use Rattle.sr_receive_gather.specs.declared.fault.ReceiveFault.TheVariants as receives
use Rattle.sr_receive_gather.specs.declared.report.Report.{Report}
use Rattle.sr_site.specs.Causes.{Rose}
use Rattle.sr_site.specs.Happenings.{Happening, listed, removed}
use Rattle.sr_site.specs.Images.{IsSettled}
use Rattle.sr_site.specs.Seen.{Seen}
use Rattle.sr_database_meaning.specs.Standing.{StandsAs}
use Rattle.sr_agent.specs.Stops.{RemovedInPart, untouched, begun}
use Rattle.sr_agent.specs.PartnerPasses.{PartnerPass, files_of, partner_pass_entries}
use Rattle.sr_agent.specs.declared.fault.AgentFault.{AgentFault}
use Rattle.sr_agent.proofs.Gathered.{IsQuietly, fetches_quietly, quiet_last}
use Rattle.sr_agent.proofs.Joints.{settled_as, still_there}
use Rattle.sr_agent.proofs.Removing.{are_removed}

-- where no call of the disk failed, all that a crash may leave stands for the history
abbrev pub SettlesAs : Name → List Recorded → Seen → Seen → Type 0
SettlesAs publisher es before now = ¬ (Rose before.disk_faults now.disk_faults) → IsSettled (StandsAs publisher es) now

-- a count that rose since then rose since before
pub rose_before : (before middle now : ℕ) → before ≤ middle → Rose middle now → Rose before now
rose_before before middle now later rose = omega (arith, rose, later)

pub settles_before : (publisher : Name) (es : List Recorded) (before middle now : Seen) → before.disk_faults ≤ middle.disk_faults → SettlesAs publisher es middle now → SettlesAs publisher es before now
settles_before publisher es before middle now later settles none = settles (λ rose. none (rose_before before.disk_faults middle.disk_faults now.disk_faults later rose))

-- ---- entries that were committed

pub reached_settles : (db new : View) (publisher : Name) (es : List Recorded) (before now : Seen) (entries broken : List Recorded) → IsTrue before.observable → IsDatabase db publisher es before
    → Reached db new before now entries broken → SettlesAs publisher (es ++ (entries ++ broken)) before now
reached_settles db new publisher es before now entries [] told database reached none =
    subst (λ (rs : List Recorded). IsSettled (StandsAs publisher (es ++ rs)) now) (sym (append-nil entries))
    (settled_as new publisher (es ++ entries) now (reached.database told reached.state.0 publisher es database))
reached_settles db new publisher es before now entries (r ∷ []) told database reached none = absurd (none reached.state.1)
reached_settles db new publisher es before now entries (r ∷ other ∷ rs) told database reached none = absurd reached.state

-- ---- listings, fetches and removals change nothing of it

quietly_on : (before middle now : List Happening) → IsQuietly before middle → IsQuietly middle now → IsQuietly before now
quietly_on before middle now one two = record {
  more = two.more ++ one.more;
  is = two.is ∙ ap (λ (l : List Happening). two.more ++ l) one.is ∙ sym (append_assoc two.more one.more before);
  quiet = quiet_both two.more one.more two.quiet one.quiet;
}

listed_quietly : (address : List ℕ) (before now : List Happening) (more : Bool) (fetched_files : List FetchedFile) → HappenedInPart address before now more fetched_files → IsQuietly before now
listed_quietly address before now more fetched_files (inl none) = elim none.happened [
  | inl same ↦ record { more = []; is = same; quiet = tt }
  | inr one ↦ record { more = listed address one.0 (Err one.1) ∷ []; is = one.2; quiet = tt }
]
listed_quietly address before now more fetched_files (inr some) =
    let first : List Happening = listed address some.folder (Ok some.listing) ∷ before in
    let then : List Happening = fetches address fetched_files first in
    quietly_on before then now
    (quietly_on before first then (record { more = listed address some.folder (Ok some.listing) ∷ []; is = refl; quiet = tt }) (fetches_quietly address fetched_files first))
    (record { more = some.part.last; is = some.part.happened; quiet = quiet_last address some.part.left some.part.last some.part.one })

removed_all : (address : List ℕ) (done : List Filed) (before now : List Happening) → now ≡ removals address done before → IsQuietly before now
removed_all address done before now is =
    let removal = are_removed address done before in
    record { more = removal.more; is = is ∙ removal.is; quiet = removal.quiet }

removed_some : (address : List ℕ) (done left : List Filed) (before now : List Happening) → Removes address done left before now → IsQuietly before now
removed_some address done [] before now is = removed_all address done before now is
removed_some address done (f ∷ left) before now (inl is) = removed_all address done before now is
removed_some address done (f ∷ left) before now (inr is) =
    quietly_on before (removals address done before) now (removed_all address done before (removals address done before) refl)
    (record { more = removed address f.name false ∷ []; is = is; quiet = tt })

-- a gathering that a fault ended
pub gathered_settled : (db : View) (publisher : Name) (es : List Recorded) (before now : Seen) (catalog : Lists) (end : ℕ) (reports reports' : List Report) (why : ReceiveFault) → IsTrue before.observable
    → IsDatabase db publisher es before → GatherCause catalog end before now reports reports' why → IsSettled (StandsAs publisher es) now
gathered_settled db publisher es before now catalog end reports reports' why told database cause =
    let quietly = listed_quietly catalog.publisher before.happened now.happened cause.more cause.fetched_files (cause.happened told) in
    settled_as db publisher es now (still_there db publisher es before now quietly.more cause.stays quietly.is quietly.quiet database)

purged_settled : (new : View) (publisher : Name) (es : List Recorded) (address : List ℕ) (book : Book) (files : List Filed) (before now : Seen) → IsTrue now.observable → IsDatabase new publisher es before
    → PurgedInPart address book files before now → IsSettled (StandsAs publisher es) now
purged_settled new publisher es address book files before now told database part =
    let quietly = removed_some address part.done part.left before.happened now.happened (part.happened (subst (λ (b : Bool). IsTrue b) part.stays.observable told)) in
    settled_as new publisher es now (still_there new publisher es before now quietly.more part.stays quietly.is quietly.quiet database)

cause_settled : (new : View) (publisher : Name) (es : List Recorded) (address : List ℕ) (book : Book) (files : List Filed) (before now : Seen) (why : ReceiveFault) → IsTrue now.observable
    → IsDatabase new publisher es before → PurgeCause address book files before now why → IsSettled (StandsAs publisher es) now
cause_settled new publisher es address book files before now receives.Disk told database cause = absurd cause
cause_settled new publisher es address book files before now receives.Mail told database cause = purged_settled new publisher es address book files before now told database cause.1
cause_settled new publisher es address book files before now (receives.Full end need) told database cause = absurd cause
cause_settled new publisher es address book files before now (receives.Long size limit) told database cause = absurd cause
cause_settled new publisher es address book files before now receives.Memory told database cause = purged_settled new publisher es address book files before now told database cause.1

-- dead files were being removed, or none was yet
pub removed_settled : (new : View) (publisher : Name) (es there : List Recorded) (fetched_files : List FetchedFile) (t : PartnerPass) (between now : Seen) (fault : AgentFault) (purge : Bool) (whole : Type 0)
    → IsTrue now.observable → IsDatabase new publisher there between → RemovedInPart publisher es fetched_files t between now fault purge whole → IsSettled (StandsAs publisher there) now
removed_settled new publisher es there fetched_files t between now fault purge whole told database (untouched same untold) =
    subst (λ (s : Seen). IsSettled (StandsAs publisher there) s) (sym same) (settled_as new publisher there between database)
removed_settled new publisher es there fetched_files t between now fault purge whole told database (begun on all why cause is) =
    cause_settled new publisher there publisher (books_of t.user (es ++ partner_pass_entries publisher es fetched_files t)) (files_of fetched_files t) between now why told database cause
