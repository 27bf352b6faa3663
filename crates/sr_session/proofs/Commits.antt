-- One entry, committed or not.
use Rattle.std.proofs.Common.{◌≡◌, ◌+◌, Bool, true, false, ℕ, List, [], ◌∷◌, ◌++◌, Option, Ok, Err, codes, refl, sym, ap, subst, ◌∙◌}
use Rattle.std.specs.Prelude.{IsTrue}
use Rattle.std.specs.Fmt.{decimal}
use Rattle.std.proofs.lemmas.List.{append-nil}
use Rattle.sr_ast.specs.declared.stmt.Passthrough.{Passthrough}
use Rattle.sr_base.specs.declared.offset.Offset.{Offset}
use Rattle.sr_book.specs.Entries.{Name}
use Rattle.sr_database_history.specs.Folds.{State, next, size}
use Rattle.sr_database_history.specs.Recorded.{Recorded}
use Rattle.sr_logform.specs.declared.change.Change.{Change}
use Rattle.sr_logform.specs.declared.entry.Entry.{Entry}
use Rattle.sr_site.specs.Causes.{DiskStays}
use Rattle.sr_site.specs.Seen.{Seen}
use Rattle.sr_database_meaning.specs.Events.{attaches_in, commit}
use Rattle.sr_database_meaning.specs.Traces.{Went}
use Rattle.sr_database.specs.Causes.{IsTooFar, IsTooLong}
use Rattle.sr_database.specs.Inner.Causes.{CommitCause, IsBegun}
use Rattle.sr_database.specs.Commits.{HasRoom}
use Rattle.sr_database.specs.Inner.Commits.{CanCommit}
use Rattle.sr_database.specs.Advances.{Advances}
use Rattle.sr_database.specs.Databases.{IsDatabase}
use Rattle.sr_database.specs.InForce.{HasLogInForce}
use Rattle.sr_database.proofs.Advancing.{none_advanced}
use Rattle.sr_database.specs.Views.{View, committed}
use Rattle.sr_database.proofs.Rooms.{room_at}
use Rattle.sr_database_files.specs.declared.fault.DatabaseFault.{DatabaseFault}
use Rattle.sr_database_files.specs.declared.fault.DatabaseFault.TheVariants as store
use Rattle.sr_session_script.specs.Acts.{commits, line}
use Rattle.sr_session_script.specs.Meaning.{Stepped, goes, enters}
use Rattle.sr_session_script.specs.Works.{Work}
use Rattle.sr_session.specs.Inner.Faults.{fault_of_store}
use Rattle.sr_session.specs.Inner.Ready.{IsReady, work_of}
use Rattle.sr_session.specs.Inner.Steps.{acts_in, Came, Took}
use Rattle.sr_session.specs.declared.fault.StepFault.TheVariants.{Memory}
use Rattle.sr_session.proofs.Reaching.{reached_still}

-- nothing was done
pub came_none : (view : View) (seen : Seen) (lines lines' : List ℕ) → view.log.usable ≡ true → lines' ≡ lines → Came view view seen seen lines lines' [] []
came_none view seen lines lines' usable same = record {
  reached = reached_still view view seen [] refl refl refl usable (none_advanced view);
  said = same ∙ sym (append-nil lines);
}

-- for want of memory nothing is done of a step
pub took_none : (meant : Stepped) (view : View) (seen : Seen) (lines lines' : List ℕ) (region : Option Passthrough) → view.log.usable ≡ true → lines' ≡ lines
    → Took meant view view seen seen lines lines' region (Err Memory)
took_none meant view seen lines lines' region usable same = record { acts = []; prefix = (acts_in meant, refl); came = came_none view seen lines lines' usable same }

-- what `commit` says where it succeeds
pub record Committed (old new : View) (before now : Seen) (entry : Entry) (offset : Offset) : Type 0 where
  pub offset_is : offset.0 ≡ new.log.end
  pub ready : (new.log.usable ≡ true) × (new.pending ≡ [])
  pub value : (r : Recorded) → CanCommit old entry r → Advances old new (r ∷ [])
  pub in_force : IsTrue before.observable → HasLogInForce new now
  pub database : IsTrue before.observable → (publisher : Name) (es : List Recorded) (r : Recorded) → IsDatabase old publisher es before → CanCommit old entry r → IsDatabase new publisher (es ++ r ∷ []) now
  pub went : IsTrue before.observable → (publisher : Name) (es : List Recorded) (r : Recorded) → IsDatabase old publisher es before → CanCommit old entry r → Went before now publisher es (commit r ∷ [])
  pub room : HasRoom old.log entry
  pub attached : IsTrue before.observable → attaches_in now.happened ≡ attaches_in before.happened
  pub stays : DiskStays before now
  pub steady : now.disk_faults ≡ before.disk_faults

abbrev work_with : State → Option Passthrough → Work
work_with s region = record { state = s; pending = []; region = region }

abbrev with_pending_of : State → List Change → Option Passthrough → Work
with_pending_of s p region = record { state = s; pending = p; region = region }

work_same : (s t : State) (p : List Change) (region : Option Passthrough) → s ≡ t → p ≡ [] → work_with t region ≡ record { state = s; pending = p; region = region }
work_same s t p region state none =
    ap (λ (x : State). work_with x region) (sym state) ∙ ap (λ (l : List Change). with_pending_of s l region) (sym none)

line_at : (lines lines' : List ℕ) (place end : ℕ) → lines' ≡ lines ++ line (codes "committed " ++ decimal place) → place ≡ end → lines' ≡ lines ++ (line (codes "committed " ++ decimal end) ++ [])
line_at lines lines' place end said same =
    said ∙ ap (λ (n : ℕ). lines ++ line (codes "committed " ++ decimal n)) same ∙ sym (ap (λ l. lines ++ l) (append-nil (line (codes "committed " ++ decimal end))))

pub entered : (old new : View) (before now : Seen) (lines lines' : List ℕ) (region : Option Passthrough) (entry : Entry) (offset : Offset) (r : Recorded)
    → IsReady old before → CanCommit old entry r → Committed old new before now entry offset → lines' ≡ lines ++ line (codes "committed " ++ decimal offset.0)
    → Took (enters r (work_of old region)) old new before now lines lines' region (Ok tt)
entered old new before now lines lines' region entry offset r ready can done said =
    let on = done.value r can in
    let end : new.log.end ≡ old.log.end + (size r + 5) = on.end in
    record {
      acts = commits r ∷ [];
      is = ap (λ (w : Work). goes (commits r ∷ []) w) (work_same (committed new) (next (committed old) r) new.pending region on.state done.ready.1);
      came = record {
        reached = record {
          state = (done.ready.0, done.steady);
          room = (room_at old.log entry r old.log.end can.is refl done.room, tt);
          value = λ yes. on;
          end = λ yes. end;
          in_force = λ told yes has. done.in_force told;
          database = λ told yes publisher es database. done.database told publisher es r database can;
          went = λ told publisher es database. done.went told publisher es r database can;
          attached = done.attached;
          stays = done.stays;
        };
        said = line_at lines lines' offset.0 (old.log.end + (size r + 5)) said (done.offset_is ∙ end);
      };
    }

-- what `commit` says where it is refused
pub record NotCommitted (old new : View) (before now : Seen) (entry : Entry) (fault : DatabaseFault) : Type 0 where
  pub cause : CommitCause old new entry before now fault
  pub went : IsTrue before.observable → (publisher : Name) (es : List Recorded) (r : Recorded) → IsDatabase old publisher es before → CanCommit old entry r → IsBegun (Err fault)
      → Went before now publisher es (commit r ∷ [])
  pub attached : IsTrue before.observable → attaches_in now.happened ≡ attaches_in before.happened
  pub stays : DiskStays before now

came_same : (old new : View) (before now : Seen) (lines lines' : List ℕ) → new ≡ old → now ≡ before → old.log.usable ≡ true → lines' ≡ lines → Came old new before now lines lines' [] []
came_same old new before now lines lines' value site usable same =
    subst (λ (v : View). Came old v before now lines lines' [] []) (sym value) (subst (λ (s : Seen). Came old old before s lines lines' [] []) (sym site) (came_none old before lines lines' usable same))

true_not_false : (b : Bool) → b ≡ false → b ≡ true → ⊥
true_not_false b one two = let no : true ≡ false = sym two ∙ one in cc

pub not_entered : (old new : View) (before now : Seen) (lines lines' : List ℕ) (region : Option Passthrough) (entry : Entry) (r : Recorded) (fault : DatabaseFault)
    → IsReady old before → CanCommit old entry r → NotCommitted old new before now entry fault → lines' ≡ lines
    → Took (enters r (work_of old region)) old new before now lines lines' region (Err (fault_of_store fault))
not_entered old new before now lines lines' region entry r store.Missing ready can done same = absurd done.cause
not_entered old new before now lines lines' region entry r store.Exists ready can done same = absurd done.cause
not_entered old new before now lines lines' region entry r (store.Damaged file at) ready can done same = absurd done.cause
not_entered old new before now lines lines' region entry r store.Disk ready can done same = record {
  acts = [];
  broken = r ∷ [];
  end = record { entry = r; prefix = ([], refl); why = refl };
  came = record {
    reached = record {
      state = (done.cause.0.spent, done.cause.0.rose);
      room = tt;
      value = λ yes. absurd (true_not_false new.log.usable done.cause.0.spent yes);
      in_force = λ told yes has. absurd (true_not_false new.log.usable done.cause.0.spent yes);
      end = λ yes. absurd (true_not_false new.log.usable done.cause.0.spent yes);
      database = λ told yes publisher es database. absurd (true_not_false new.log.usable done.cause.0.spent yes);
      went = λ told publisher es database. done.went told publisher es r database can tt;
      attached = done.attached;
      stays = done.stays;
    };
    said = same ∙ sym (append-nil lines);
  };
}
not_entered old new before now lines lines' region entry r (store.Full end need) ready can done same = record {
  acts = [];
  broken = [];
  end = (
    refl,
    record {
      entry = r;
      prefix = ([], refl);
      why = subst (λ (e : Entry). IsTooFar new.log e end need) (sym can.is) (subst (λ (v : View). IsTooFar v.log entry end need) (sym done.cause.1.value) done.cause.0);
    },
  );
  came = came_same old new before now lines lines' done.cause.1.value done.cause.1.site ready.usable same;
}
not_entered old new before now lines lines' region entry r (store.Long size limit) ready can done same = record {
  acts = [];
  broken = [];
  end = (refl, record { entry = r; prefix = ([], refl); why = subst (λ (e : Entry). IsTooLong e size limit) (sym can.is) done.cause.0 });
  came = came_same old new before now lines lines' done.cause.1.value done.cause.1.site ready.usable same;
}
not_entered old new before now lines lines' region entry r store.Memory ready can done same = record {
  acts = [];
  prefix = (commits r ∷ [], refl);
  came = came_same old new before now lines lines' done.cause.value done.cause.site ready.usable same;
}
