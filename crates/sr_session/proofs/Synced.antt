-- SYNCHRONIZE.
use Rattle.std.proofs.Common.{◌≡◌, true, not, ℕ, List, [], Option, None, Result, Ok, Err, refl, sym, ap, subst, ◌∙◌}
use Rattle.sr_ast.specs.declared.create.SubscriptionRule.{SubscriptionRule}
use Rattle.sr_ast.specs.declared.stmt.Passthrough.{Passthrough}
use Rattle.sr_ast.specs.declared.stmt.Stmt.{Stmt}
use Rattle.sr_ast.specs.declared.stmt.Stmt.TheVariants as stmt
use Rattle.sr_catalog_change.specs.Changes.{refusal}
use Rattle.sr_catalog_ddl.specs.Subscriptions.{is_started, missing_unless, synchronize_causes}
use Rattle.sr_catalog_ddl.specs.Users.{is_remote}
use Rattle.sr_database_history.specs.Fitting.{Knows, FitsState}
use Rattle.sr_database_history.specs.Folds.{State}
use Rattle.sr_database_history.specs.Recorded.{sync}
use Rattle.sr_logform.specs.Inner.Entries.{IsShortEntry}
use Rattle.sr_logform.specs.declared.entry.Entry.{Entry}
use Rattle.sr_logform.specs.declared.entry.Entry.TheVariants.{Sync}
use Rattle.sr_catalog_script_laws.proofs.ReplayCauses.{NoCause, no_cause_of, first_of-None, where_true-None}
use Rattle.sr_catalog_schema.specs.Catalogs.{Lists}
use Rattle.sr_catalog_schema.specs.Firsts.{where_true}
use Rattle.sr_catalog_schema.specs.Members.{user_name}
use Rattle.sr_catalog_schema.specs.Names.{named}
use Rattle.sr_database.specs.Inner.Commits.{CanCommit, CanCommitSome}
use Rattle.sr_database.specs.Views.{View, committed}
use Rattle.sr_session_script.specs.Inner.Answers.{IsStop}
use Rattle.sr_session_script.specs.Meaning.{Stepped, enters, accepted, synchronized}
use Rattle.sr_session_script.specs.Synced.{views_of}
use Rattle.sr_session_script.specs.Works.{Work}
use Rattle.sr_session_script.specs.declared.refusal.Refusal.{Refusal}
use Rattle.sr_session_script.specs.declared.refusal.Stop.{Stop}
use Rattle.sr_site.specs.Seen.{Seen}
use Rattle.sr_session.specs.Inner.Faults.{fault_of_stop}
use Rattle.sr_session.specs.Inner.Ready.{work_of}
use Rattle.sr_session.specs.Inner.Steps.{Took}
use Rattle.sr_session.specs.declared.fault.StepFault.{StepFault}
use Rattle.sr_session.proofs.Catalogs.{none_refuses}
use Rattle.sr_session.proofs.Quiet.{took_ok, took_stop}
use Rattle.sr_session.proofs.Regions.{remote_known, not_not}

-- the user of a subscription that may be synchronized is granted
user_known : (s : State) (r : SubscriptionRule) → refusal s.catalog (stmt.Synchronize r) ≡ None → Knows s r.user
unfolding synchronize_causes
user_known s r none =
    let no : NoCause (synchronize_causes s.catalog r) = no_cause_of s.catalog (stmt.Synchronize r) none in
    let parts = first_of-None (missing_unless (is_started s.catalog r) s.catalog r) (where_true (not (is_remote (named user_name r.user s.catalog.users))) r.user) no.missing in
    remote_known (named user_name r.user s.catalog.users) (not_not _ (where_true-None _ r.user parts.1))

-- its entry
pub can_sync : (view : View) (r : SubscriptionRule) (s : State) (entry : Entry) → view.pending ≡ [] → s ≡ committed view → refusal view.catalog (stmt.Synchronize r) ≡ None
    → entry ≡ Sync r.user (views_of s r) → IsShortEntry entry → CanCommit view entry (sync r.user (views_of (committed view) r))
unfolding FitsState
can_sync view r s entry none same accepts is short = record {
  is = ap (λ (x : State). Sync r.user (views_of x r)) (sym same) ∙ sym is;
  meant = tt;
  short = short;
  follows = (none, user_known (committed view) r accepts);
}

pub can_sync_some : (view : View) (r : SubscriptionRule) (s : State) (entry : Entry) → view.pending ≡ [] → s ≡ committed view → refusal view.catalog (stmt.Synchronize r) ≡ None
    → entry ≡ Sync r.user (views_of s r) → IsShortEntry entry → CanCommitSome view entry
can_sync_some view r s entry none same accepts is short = record { r = sync r.user (views_of (committed view) r); can = can_sync view r s entry none same accepts is short }

abbrev recording : SubscriptionRule → Work → Unit {0} → Stepped
recording r w done = enters (sync r.user (views_of w.state r)) w

-- the statement as it was given
meant_as : (c catalog : Lists) (s : Stmt) (r : SubscriptionRule) → c ≡ catalog → s ≡ stmt.Synchronize r → accepted c s ≡ accepted catalog (stmt.Synchronize r)
meant_as c catalog s r one two = λ i. accepted (one i) (two i)

pub not_refused : (c catalog : Lists) (s : Stmt) (r : SubscriptionRule) → c ≡ catalog → s ≡ stmt.Synchronize r → accepted c s ≡ Ok tt → refusal catalog (stmt.Synchronize r) ≡ None
not_refused c catalog s r one two fine = none_refuses catalog (stmt.Synchronize r) (sym (meant_as c catalog s r one two) ∙ fine)

-- it is refused, or there is no memory
pub synced_stop : (view : View) (seen : Seen) (lines : List ℕ) (region : Option Passthrough) (c : Lists) (s : Stmt) (r : SubscriptionRule) (why : Stop) → view.log.usable ≡ true
    → c ≡ view.catalog → s ≡ stmt.Synchronize r → IsStop (accepted c s) why
    → Took (synchronized r (work_of view region)) view view seen seen lines lines region (Err (fault_of_stop why))
synced_stop view seen lines region c s r why usable one two is =
    took_stop (accepted view.catalog (stmt.Synchronize r)) (recording r (work_of view region)) view seen lines lines region why usable refl
    (subst (λ (m : Result (Unit {0}) Refusal). IsStop m why) (meant_as c view.catalog s r one two) is)

-- its entry is committed, or not
pub synced_entry : (old new : View) (first second : Seen) (lines lines' : List ℕ) (region : Option Passthrough) (c : Lists) (s : Stmt) (r : SubscriptionRule) (result : Result (Unit {0}) StepFault)
    → c ≡ old.catalog → s ≡ stmt.Synchronize r → accepted c s ≡ Ok tt
    → Took (enters (sync r.user (views_of (committed old) r)) (work_of old region)) old new first second lines lines' region result
    → Took (synchronized r (work_of old region)) old new first second lines lines' region result
synced_entry old new first second lines lines' region c s r result one two fine took =
    took_ok (accepted old.catalog (stmt.Synchronize r)) (recording r (work_of old region)) tt old new first second lines lines' region result
    (sym (meant_as c old.catalog s r one two) ∙ fine) took
