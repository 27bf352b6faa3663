-- What stands once the root, the snapshot and the log were read.
use Rattle.std.proofs.Common.{◌≡◌, ℕ, ◌≤◌, List, [], Result, Ok, Err, refl, sym, ◌∙◌, ap, subst, arith}
use Rattle.std.specs.Prelude.{IsTrue, IfOk}
use Rattle.sr_base.specs.Fields.{IsName}
use Rattle.sr_book.specs.Entries.{Name}
use Rattle.sr_catalog_schema.specs.Catalogs.{Lists}
use Rattle.sr_catalog_script_laws.specs.Scripts.{IsSpellable}
use Rattle.sr_database_files.specs.Books.{BookMap}
use Rattle.sr_database_history.specs.Folds.{State, state_from}
use Rattle.sr_database_history.specs.Inner.Laws.{Holds}
use Rattle.sr_database_history.specs.Recorded.{Recorded}
use Rattle.sr_database_history.proofs.Joined.{le-end_from}
use Rattle.sr_database_history.proofs.Kept.{held_from}
use Rattle.sr_logfile.specs.Log.{Log}
use Rattle.sr_logfile.specs.Inner.Log.{InOrder}
use Rattle.sr_logfile.specs.Inner.Moments.{IsAsRead}
use Rattle.sr_logfile.specs.Records.{Spells}
use Rattle.sr_logform.specs.declared.change.Change.{Change}
use Rattle.sr_rows.specs.Marks.{Marked, RowMap}
use Rattle.sr_site.specs.Files.{Files, bytes_of}
use Rattle.sr_site.specs.Images.{IsSettled}
use Rattle.sr_site.specs.Seen.{Seen}
use Rattle.sr_site.specs.declared.file.File.{File}
use Rattle.sr_site.specs.declared.file.File.TheVariants.{Root}
use Rattle.sr_snapshot.specs.Beginnings.{Beginning}
use Rattle.sr_snapshot.specs.Snapshots.{IsSnapshot}
use Rattle.sr_database_meaning.specs.Generations.{generation_in, snapshot_of, log_of}
use Rattle.sr_database_meaning.specs.Standing.{bodies, StandFrom}
use Rattle.sr_database_meaning.proofs.Beginnings.{publisher_from, ends_within}
use Rattle.sr_database.specs.Databases.{ArePending, IsFrom, HasBeginning}
use Rattle.sr_database.specs.Inner.Sound.{IsSound}
use Rattle.sr_database_files.specs.Inner.Openings.{SyncedAlone, AreInForce}
use Rattle.sr_database_replay.specs.Inner.Replays.{IsReplayed, HasReplayed}
use Rattle.sr_database.specs.Inner.Opened.{IsReplayedBehind, IsOpened}
use Rattle.sr_database.specs.Views.{View, committed}
use Rattle.sr_database_files.specs.declared.fault.DatabaseFault.{DatabaseFault}
use Rattle.sr_database.proofs.Opened.{opened}
use Rattle.sr_database_files.proofs.Quiet.{told_then, synced_then, settled_then}
use Rattle.sr_database.proofs.Values.{none_pending}

-- ---- the value of what was read

pub replayed_is : (catalog base_catalog : Lists) (rows : Marked) (pending : List Change) (books : BookMap) (log : Log) (b : Beginning) (es : List Recorded) → pending ≡ [] → IsReplayed catalog rows books log.end b es → log.base ≡ b.place → base_catalog ≡ b.state.catalog
    → IsFrom (record { catalog = catalog; base_catalog = base_catalog; rows = rows; pending = pending; books = books; log = log }) b es
replayed_is catalog base_catalog rows pending books log b es none is base same =
    record {
      begins = is.begins;
      stored = is.stored;
      catalog = is.catalog_is;
      marked = ap (λ (m : Marked). m.marked) is.rows_are;
      pending = subst (λ (p : List Change). ArePending catalog rows p) (sym none) (subst (λ (m : Marked). ArePending catalog m []) (sym is.rows_are) (none_pending catalog (state_from b.state es).rows));
      books = is.books_are;
      base = base;
      base_catalog = same;
      end = is.position_is;
    }

-- a value behind a beginning is sound
pub from_sound : (view : View) (b : Beginning) (es : List Recorded) → IsFrom view b es → IsSound view
from_sound view b es is =
    record {
      name = subst (λ (n : Name). IsName n) (sym (ap (λ (c : Lists). c.publisher) is.catalog ∙ publisher_from b.state es)) is.begins.publisher;
      holds = subst (λ (s : State). Holds s) (sym states) (held_from b.state b.place es (record { rows = is.begins.rows; catalog = is.begins.catalog }) is.stored);
      pending = is.pending;
      base_catalog = subst (λ (c : Lists). IsSpellable c) (sym is.base_catalog) is.begins.catalog;
      order = record {
        order = omega (arith, is.base, is.end, le-end_from b.place es);
        limit = omega (arith, is.end, ends_within b.state b.place es is.begins.place is.stored);
      };
    }
  where
    states : committed view ≡ state_from b.state es
    states = λ i. record { catalog = is.catalog i; rows = is.marked i }

pub replayed_sound : (catalog base_catalog : Lists) (rows : Marked) (pending : List Change) (books : BookMap) (log : Log) (base end : ℕ) → pending ≡ [] → log.base ≡ base → log.end ≡ end
    → IsReplayedBehind catalog rows books end base base_catalog → IsSound (record { catalog = catalog; base_catalog = base_catalog; rows = rows; pending = pending; books = books; log = log })
replayed_sound catalog base_catalog rows pending books log base end none base_is end_is behind =
    from_sound (record { catalog = catalog; base_catalog = base_catalog; rows = rows; pending = pending; books = books; log = log }) behind.beginning behind.es
    (replayed_is catalog base_catalog rows pending books log behind.beginning behind.es none (subst (λ (n : ℕ). IsReplayed catalog rows books n behind.beginning behind.es) (sym end_is) behind.is) (base_is ∙ behind.base_is) behind.catalog_is)

pub replayed_behind : (catalog : Lists) (rows : Marked) (books : BookMap) (position : ℕ) (base_catalog : Lists) (b : Beginning) (log : File) (seen : Seen) → HasReplayed catalog rows books position b log seen → base_catalog ≡ b.state.catalog
    → IsReplayedBehind catalog rows books position b.place base_catalog
replayed_behind catalog rows books position base_catalog b log seen has same = record { beginning = b; es = has.left; is = has.is; base_is = refl; catalog_is = same }

-- it is that of the entries that the log spells, which was read at a later moment
pub opened_of : (db : View) (catalog : Lists) (rows : Marked) (books : BookMap) (position : ℕ) (b : Beginning) (log : File) (before now : Seen) → db.log.file ≡ log → HasReplayed catalog rows books position b log now
    → ((es : List Recorded) → IsReplayed catalog rows books position b es → IsFrom db b es) → (IsTrue before.observable → IsTrue now.observable) → (IsTrue before.observable → now.files ≡ before.files) → IsOpened db log b before
opened_of db catalog rows books position b log before now file has of at files =
    record { file_is = file; left = has.left; is = of has.left has.is; spells = λ told. subst (λ (f : Files). Spells b.place (bodies has.left) (bytes_of f log)) (files told) (has.spells (at told)) }

pub opened_before : (log : File) (b : Beginning) (before now : Seen) → SyncedAlone before now → (result : Result View DatabaseFault) → IfOk result (λ db. IsOpened db log b now) → IfOk result (λ db. IsOpened db log b before)
opened_before log b before now alone (Ok db) has =
    record {
      file_is = has.file_is;
      left = has.left;
      is = has.is;
      spells = λ told. subst (λ (f : Files). Spells b.place (bodies has.left) (bytes_of f log)) (alone.only told).files (has.spells (told_then before now alone.stays told));
    }
opened_before log b before now alone (Err fault) has = tt

-- ---- the database

module _ (start first middle end : Seen) (snapshot log : File) (one : SyncedAlone start first) (two : SyncedAlone first middle) (three : SyncedAlone middle end) (named : AreInForce snapshot log start) (b : Beginning)
    (root : IsTrue start.observable → IsSettled (IsAsRead Root first) first) (kept_is : IsTrue first.observable → IsSnapshot b (bytes_of first.files snapshot)) (settled : IsTrue first.observable → IsSettled (IsAsRead snapshot middle) middle) where
  has_beginning : (db : View) → IsTrue start.observable → IsSettled (IsAsRead log end) end → IsOpened db log b middle → HasBeginning db end
  has_beginning db told logs has =
      let g = named.generation in
      let then : IsTrue first.observable = told_then start first one.stays told in
      let later : IsTrue middle.observable = told_then first middle two.stays then in
      let two_three : SyncedAlone first end = synced_then first middle end two three in
      let on : end.files ≡ first.files = (two_three.only then).files in
      let all : end.files ≡ start.files = on ∙ (one.only told).files in
      let last : end.files ≡ middle.files = (three.only later).files in
      let stands : StandFrom b has.left end.files = record {
        generation = g;
        root = ap (λ (f : Files). generation_in f.root) all ∙ named.named told;
        snapshot = subst (λ (s : File). IsSnapshot b (bytes_of end.files s)) named.snapshot_is (subst (λ (f : Files). IsSnapshot b (bytes_of f snapshot)) (sym on) (kept_is then));
        stored = has.is.stored;
        log = subst (λ (l : File). Spells b.place (bodies has.left) (bytes_of end.files l)) named.log_is (subst (λ (f : Files). Spells b.place (bodies has.left) (bytes_of f log)) (sym last) (has.spells later));
      } in
      record {
        beginning = b;
        es = has.left;
        is = opened db b has.left end has.is stands (sym (has.file_is ∙ named.log_is))
            (settled_then Root first end two_three then (root told))
            (subst (λ (s : File). IsSettled (IsAsRead s end) end) named.snapshot_is (settled_then snapshot middle end three later (settled then)))
            (subst (λ (l : File). IsSettled (IsAsRead l end) end) named.log_is logs);
      }

  pub opened_database : (result : Result View DatabaseFault) → IsTrue start.observable → (IsTrue middle.observable → IfOk result (λ db. IsSettled (IsAsRead log end) end)) → IfOk result (λ db. IsOpened db log b middle) → IfOk result (λ db. HasBeginning db end)
  opened_database (Ok db) told logs has = has_beginning db told (logs (told_then first middle two.stays (told_then start first one.stays told))) has
  opened_database (Err fault) told logs has = tt
