-- Passthrough regions.
use Rattle.std.proofs.Common.{◌≡◌, ◌<◌, ◌^◌, Bool, true, false, not, ℕ, List, [], ◌∷◌, ◌++◌, Option, Some, None, IsSome, Result, Ok, Err, length, codes, refl, sym, ap, subst, ◌∙◌}
use Rattle.std.specs.Prelude.{⊤}
use Rattle.std.specs.List.{AllByRecursion}
use Rattle.sr_ast.specs.Layout.{printed}
use Rattle.sr_ast.specs.declared.stmt.Passthrough.{Passthrough}
use Rattle.sr_ast.specs.declared.stmt.Stmt.{Stmt}
use Rattle.sr_ast.specs.declared.stmt.Stmt.TheVariants as stmt
use Rattle.sr_book.specs.Entries.{Name}
use Rattle.sr_catalog_change.specs.Changes.{refusal}
use Rattle.sr_catalog_ddl.specs.Users.{is_remote, passthrough_causes}
use Rattle.sr_exec_dml.specs.FittingChanges.{ChangesFit}
use Rattle.sr_database_history.specs.Fitting.{Knows, FitsState, IsAcceptedPass, MayHaveChanges}
use Rattle.sr_database_history.specs.Folds.{State, next, state_from}
use Rattle.sr_database_history.specs.Recorded.{Recorded, pass, IsCarried}
use Rattle.sr_database_history.proofs.Granted.{stays_known}
use Rattle.sr_logform.specs.Entries.{AreUsers as AreLogUsers}
use Rattle.sr_logform.specs.Outcomes.{IsShortChange}
use Rattle.sr_base.specs.Fields.{IsListOf}
use Rattle.sr_logform.specs.declared.change.Change.{Change}
use Rattle.sr_logform.specs.declared.entry.Entry.TheVariants.{Pass}
use Rattle.sr_catalog_script_laws.proofs.ReplayCauses.{NoCause, no_cause_of, first_of-None, where_true-None}
use Rattle.sr_catalog_schema.specs.Firsts.{first_among, where_true}
use Rattle.sr_catalog_schema.specs.Members.{user_name}
use Rattle.sr_catalog_schema.specs.Names.{named}
use Rattle.sr_catalog_schema.specs.declared.user.User.{User}
use Rattle.sr_database.specs.Inner.Commits.{CanCommit, CanCommitSome}
use Rattle.sr_database.proofs.Advancing.{none_advanced}
use Rattle.sr_database.specs.Views.{View, committed}
use Rattle.sr_session_script.specs.Works.{region_of}
use Rattle.sr_session_script.proofs.Regions.{once_distinct, once_all}
use Rattle.sr_session_script.specs.Acts.{line, region_begins, region_ends}
use Rattle.sr_session_script.specs.Inner.Answers.{IsStop}
use Rattle.sr_session_script.specs.Meaning.{Stepped, goes, stops, accepted, then_step, began, ended, refused_in, uncarried}
use Rattle.sr_session_script.specs.Works.{Work}
use Rattle.sr_session_script.specs.declared.refusal.Refusal.{Refusal}
use Rattle.sr_session_script.specs.declared.refusal.Refusal.TheVariants.{Ddl}
use Rattle.sr_session_script.specs.declared.refusal.Stop.{Stop}
use Rattle.sr_site.specs.Seen.{Seen}
use Rattle.sr_catalog_schema.specs.declared.fault.DdlFault.{DdlFault}
use Rattle.sr_session.specs.Inner.Faults.{fault_of_stop}
use Rattle.sr_session.specs.Inner.Ready.{AreUsers, work_of}
use Rattle.sr_session.specs.Inner.Steps.{Took}
use Rattle.sr_session.specs.declared.fault.StepFault.TheVariants.{Refused}
use Rattle.sr_session.proofs.Commits.{came_none}
use Rattle.sr_session.proofs.Quiet.{came_still, took_stop}
use Rattle.sr_session.proofs.Catalogs.{none_refuses}

-- ---- the users of a region are granted

pub remote_known : (o : Option User) → is_remote o ≡ true → IsSome o
remote_known None is = absurd (let no : false ≡ true = is in cc)
remote_known (Some u) is = refl

pub not_not : (b : Bool) → not b ≡ false → b ≡ true
not_not true is = refl
not_not false is = absurd (let no : true ≡ false = is in cc)

each_remote : (s : State) (users : List Name) → first_among (λ n. where_true (not (is_remote (named user_name n s.catalog.users))) n) users ≡ None → AllByRecursion (Knows s) users
each_remote s [] none = tt
each_remote s (n ∷ users) none =
    let parts = first_of-None (where_true (not (is_remote (named user_name n s.catalog.users))) n) _ none in
    (remote_known (named user_name n s.catalog.users) (not_not _ (where_true-None _ n parts.0)), each_remote s users parts.1)

pub users_known : (s : State) (p : Passthrough) → refusal s.catalog (stmt.Passthrough p) ≡ None → AllByRecursion (Knows s) p.users
unfolding passthrough_causes
users_known s p none =
    let no : NoCause (passthrough_causes s.catalog p.users) = no_cause_of s.catalog (stmt.Passthrough p) none in
    each_remote s p.users no.missing

-- so they are at a region's beginning
pub begin_users : (s : State) (p : Passthrough) → refusal s.catalog (stmt.Passthrough p) ≡ None → AreUsers s (Some (region_of p))
begin_users s p none = (once_all (Knows s) [] p.users (users_known s p none), once_distinct [] p.users)

-- and stay so
all_known : (s : State) (r : Recorded) (users : List Name) → AllByRecursion (Knows s) users → AllByRecursion (Knows (next s r)) users
all_known s r [] all = tt
all_known s r (n ∷ users) all = (stays_known s r n all.0, all_known s r users all.1)

users_stay : (s : State) (r : Recorded) (region : Option Passthrough) → AreUsers s region → AreUsers (next s r) region
users_stay s r None users = tt
users_stay s r (Some p) users = (all_known s r p.users users.0, users.1)

pub users_on : (s : State) (rs : List Recorded) (region : Option Passthrough) → AreUsers s region → AreUsers (state_from s rs) region
users_on s [] region users = users
users_on s (r ∷ rs) region users = users_on (next s r) rs region (users_stay s r region users)

-- ---- the entry of a statement that is passed on

all_names : (names : List Name) → AllByRecursion (λ name. ⊤) names
all_names [] = tt
all_names (n ∷ names) = (tt, all_names names)

pub can_pass : (view : View) (region : Passthrough) (s : Stmt) (users : List Name) (text : List ℕ) (changes : List Change) → view.pending ≡ [] → AreUsers (committed view) (Some region) → IsCarried s
    → ChangesFit view.catalog view.rows.marked changes → IsAcceptedPass (committed view) region.only s → MayHaveChanges region.only s changes → users ≡ region.users → length region.users < 2 ^ 32
    → text ≡ printed s → length text < 2 ^ 32 → IsListOf IsShortChange changes → CanCommit view (Pass users region.only text changes) (pass region.users region.only s changes)
unfolding FitsState
can_pass view region s users text changes none known carried fit fine may users_is few text_is short short_changes = record {
  is = ap (λ (t : List ℕ). Pass region.users region.only t changes) (sym text_is) ∙ ap (λ (ns : List Name). Pass ns region.only text changes) (sym users_is);
  meant = carried;
  short = (subst (λ (ns : List Name). AreLogUsers (λ name. ⊤) ns) (sym users_is) (record { items = (few, all_names region.users); distinct = known.1 }), short, short_changes);
  follows = (none, (known.0, fit, fine, may));
}

pub can_pass_some : (view : View) (region : Passthrough) (s : Stmt) (users : List Name) (text : List ℕ) (changes : List Change) → view.pending ≡ [] → AreUsers (committed view) (Some region) → IsCarried s
    → ChangesFit view.catalog view.rows.marked changes → IsAcceptedPass (committed view) region.only s → MayHaveChanges region.only s changes → users ≡ region.users → length region.users < 2 ^ 32
    → text ≡ printed s → length text < 2 ^ 32 → IsListOf IsShortChange changes → CanCommitSome view (Pass users region.only text changes)
can_pass_some view region s users text changes none known carried fit fine may users_is few text_is short short_changes =
    record { r = pass region.users region.only s changes; can = can_pass view region s users text changes none known carried fit fine may users_is few text_is short short_changes }

-- ---- a region begins, and ends

abbrev beginning : Work → Passthrough → Unit {0} → Stepped
beginning w p done = goes (region_begins ∷ []) (record w { region = Some (region_of p) })

-- it does not begin
pub begin_stop : (view : View) (seen : Seen) (lines : List ℕ) (region later : Option Passthrough) (p : Passthrough) (why : Stop) → view.log.usable ≡ true
    → IsStop (accepted view.catalog (stmt.Passthrough p)) why → Took (began p (work_of view region)) view view seen seen lines lines later (Err (fault_of_stop why))
begin_stop view seen lines region later p why usable is = took_stop (accepted view.catalog (stmt.Passthrough p)) (beginning (work_of view region) p) view seen lines lines later why usable refl is

pub begin_done : (view : View) (seen : Seen) (lines lines' : List ℕ) (region : Option Passthrough) (p inside : Passthrough) → view.log.usable ≡ true
    → accepted view.catalog (stmt.Passthrough p) ≡ Ok tt → inside ≡ region_of p → lines' ≡ lines ++ line (codes "passthrough on")
    → Took (began p (work_of view region)) view view seen seen lines lines' (Some inside) (Ok tt)
begin_done view seen lines lines' region p inside usable fine is said = record {
  acts = region_begins ∷ [];
  is =
      ap (λ (m : Result (Unit {0}) Refusal). then_step m (beginning (work_of view region) p)) fine
      ∙ ap (λ (r : Passthrough). goes (region_begins ∷ []) (work_of view (Some r))) (sym is);
  came = came_still view view seen lines lines' (region_begins ∷ []) refl refl refl usable (none_advanced view) said;
}

pub region_users : (view : View) (p inside : Passthrough) → accepted view.catalog (stmt.Passthrough p) ≡ Ok tt → inside ≡ region_of p → AreUsers (committed view) (Some inside)
region_users view p inside fine is =
    subst (λ (r : Passthrough). AreUsers (committed view) (Some r)) (sym is) (begin_users (committed view) p (none_refuses view.catalog (stmt.Passthrough p) fine))

pub end_done : (view : View) (seen : Seen) (lines lines' : List ℕ) (region : Option Passthrough) → view.log.usable ≡ true → lines' ≡ lines ++ line (codes "passthrough off")
    → Took (ended (work_of view region)) view view seen seen lines lines' None (Ok tt)
end_done view seen lines lines' region usable said =
    record { acts = region_ends ∷ []; is = refl; came = came_still view view seen lines lines' (region_ends ∷ []) refl refl refl usable (none_advanced view) said }

-- ---- a statement that passthrough does not carry

pub uncarried_refused : (view : View) (seen : Seen) (lines : List ℕ) (region : Passthrough) (later : Option Passthrough) (name : Name) (s : Stmt) (fault : DdlFault) → view.log.usable ≡ true
    → fault ≡ uncarried region.only name view.catalog s → Took (refused_in region name s (work_of view (Some region))) view view seen seen lines lines later (Err (Refused (Ddl fault)))
uncarried_refused view seen lines region later name s fault usable is =
    record { acts = []; is = ap (λ (f : DdlFault). stops [] (Ddl f)) (sym is); came = came_none view seen lines lines usable refl }
