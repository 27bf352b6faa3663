-- What a script commits is the database's own, and says what is so in the state that the history before it comes to.
use Rattle.std.proofs.Common.{◌≡◌, ℕ, ◌+◌, Bool, true, false, List, [], ◌∷◌, ◌++◌, map, length, Option, Some, None, Result, Ok, Err, refl, sym, ap, subst, ◌∙◌, append-nil}
use Rattle.std.specs.Prelude.{⊤, IfOk}
use Rattle.std.specs.List.{AllByRecursion}
use Rattle.sr_ast.specs.declared.create.SubscriptionRule.{SubscriptionRule}
use Rattle.sr_ast.specs.declared.query.Dml.{Dml as DmlStatement}
use Rattle.sr_ast.specs.declared.stmt.Passthrough.{Passthrough}
use Rattle.sr_ast.specs.declared.stmt.Stmt.{Stmt}
use Rattle.sr_ast.specs.declared.stmt.Stmt.TheVariants as stmt
use Rattle.sr_base.specs.declared.value.Value.{Value as Cell}
use Rattle.sr_book.specs.Entries.{Name, local}
use Rattle.sr_database.specs.Databases.{IsDatabase}
use Rattle.sr_database.specs.Views.{View, committed}
use Rattle.sr_exec_dml.specs.Statements.{done}
use Rattle.sr_exec_dml.specs.declared.changes.Changes.{Changes}
use Rattle.sr_database_history.specs.Folds.{State, fresh, next, sees, state_from, state_of, with_changes}
use Rattle.sr_database_history.specs.Recorded.{Recorded, sync}
use Rattle.sr_database_history.proofs.Joined.{state_from-append, state_from-more}
use Rattle.sr_logform.specs.declared.change.Change.{Change}
use Rattle.sr_catalog_schema.specs.declared.fault.DmlFault.{DmlFault}
use Rattle.sr_catalog_schema.specs.declared.publication.Article.{Article}
use Rattle.sr_session_script.specs.Acts.{ScriptAct, commits, row, rows, region_begins, entries_of}
use Rattle.sr_session_script.specs.Meaning.{Stepped, goes, stops, accepted, after, began, catalog_changes, changed, changes_by, closing, committing, done_by, ended, enters, is_done_already, list_of, listing, on_catalog, on_rows, on_uncarried, on_views, once_closed, passed, recorded, row_changes, rows_by, then_step, unless_dml, with_pending, without_changes}
use Rattle.sr_session_script.specs.Scripts.{ScriptRun, going_on, last_acts, ran as script_of, ran_from}
use Rattle.sr_session_script.specs.Synced.{view_of, views_of}
use Rattle.sr_session_script.specs.Works.{Work, at_beginning, closed, region_of, visible}
use Rattle.sr_session_script.specs.declared.refusal.Refusal.{Refusal}
use Rattle.sr_session_script.proofs.Joins.{entries_of-append}
use Rattle.sr_session.specs.Ends.{EndsAs, DidAllActs}
use Rattle.sr_session.specs.Runs.{RanScript}
use Rattle.sr_session.specs.Said.{IsPrefix}
use Rattle.sr_session.specs.declared.fault.SessionFault.{SessionFault}
use Rattle.sr_session.specs.declared.fault.SessionFault.TheVariants as session
use Rattle.sr_session.proofs.Taking.{prefix_of_store, no_broken}
use Rattle.sr_site.specs.Seen.{Seen}
use Rattle.sr_site.specs.Streams.{Output}
use Rattle.sr_world.specs.Lawful.{AreChangesOf, ArePassedChanges, IsViewed, SaysSo}
use Rattle.sr_database.proofs.Commits.{committed_is}
use Rattle.sr_world_prefix.proofs.Along.{Steps}
use Rattle.sr_world_prefix.proofs.Steps.{IsOwnStep}

-- ---- entries, one after the other

-- an entry is the database's own, and says what is so in a state
abbrev IsOwnSaid : State → Recorded → Type 0
IsOwnSaid s r = (sees r ≡ local) × SaysSo s r

-- each of these entries is so, in the state behind those before it
abbrev pub AreOwnSaid : State → List Recorded → Type 0
AreOwnSaid s [] = ⊤
AreOwnSaid s (r ∷ rs) = IsOwnSaid s r × AreOwnSaid (next s r) rs

said_more : (s : State) (rs qs : List Recorded) → AreOwnSaid s rs → AreOwnSaid (state_from s rs) qs → AreOwnSaid s (rs ++ qs)
said_more s [] qs one two = two
said_more s (r ∷ rs) qs one two = (one.0, said_more (next s r) rs qs one.1 two)

said_prefix : (s : State) (rs qs : List Recorded) → AreOwnSaid s (rs ++ qs) → AreOwnSaid s rs
said_prefix s [] qs said = tt
said_prefix s (r ∷ rs) qs said = (said.0, said_prefix (next s r) rs qs said.1)

pub said_locals : (s : State) (rs : List Recorded) → AreOwnSaid s rs → AllByRecursion (λ r. sees r ≡ local) rs
said_locals s [] said = tt
said_locals s (r ∷ rs) said = (said.0.0, said_locals (next s r) rs said.1)

-- ---- acts

acts_more : (s : State) (acts more : List ScriptAct) → AreOwnSaid s (entries_of acts) → AreOwnSaid (state_from s (entries_of acts)) (entries_of more) → AreOwnSaid s (entries_of (acts ++ more))
acts_more s acts more one two = subst (λ (rs : List Recorded). AreOwnSaid s rs) (sym (entries_of-append acts more)) (said_more s (entries_of acts) (entries_of more) one two)

-- what a step commits is said, and the state of the work behind it is what that comes to
abbrev IsSaidStep : State → Stepped → Type 0
IsSaidStep s (goes acts w) = AreOwnSaid s (entries_of acts) × (w.state ≡ state_from s (entries_of acts))
IsSaidStep s (stops acts fault) = AreOwnSaid s (entries_of acts)

said_after : (s : State) (acts : List ScriptAct) (step : Stepped) → AreOwnSaid s (entries_of acts) → IsSaidStep (state_from s (entries_of acts)) step → IsSaidStep s (after acts step)
said_after s acts (goes more w) one two =
    (acts_more s acts more one two.0, two.1 ∙ sym (ap (state_from s) (entries_of-append acts more) ∙ state_from-append s (entries_of acts) (entries_of more)))
said_after s acts (stops more fault) one two = acts_more s acts more one two

said_then : {A : Type 0} (s : State) (x : Result A Refusal) (step : A → Stepped) → ((a : A) → IsSaidStep s (step a)) → IsSaidStep s (then_step x step)
said_then s (Err fault) step said = tt
said_then s (Ok a) step said = said a

-- ---- COMMIT

said_closing : (s : State) (changes : List Change) → AreOwnSaid s (entries_of (closing changes)) × (with_changes changes s ≡ state_from s (entries_of (closing changes)))
unfolding next
said_closing s [] = (tt, refl)
said_closing s (c ∷ changes) = (((refl, tt), tt), refl)

said_committing : (s : State) (changes : List Change) → AreOwnSaid s (entries_of (committing changes)) × (with_changes changes s ≡ state_from s (entries_of (committing changes)))
unfolding next
said_committing s [] = (tt, refl)
said_committing s (c ∷ changes) = (((refl, tt), tt), refl)

said_once : (w : Work) (step : Work → Stepped) → ((v : Work) → IsSaidStep v.state (step v)) → IsSaidStep w.state (once_closed w step)
said_once w step said =
    let closes = said_closing w.state w.pending in
    said_after w.state (closing w.pending) (step (closed w)) closes.0 (subst (λ (s : State). IsSaidStep s (step (closed w))) closes.1 (said (closed w)))

-- ---- statements

said_listing : (s : State) (found : List (List Cell)) (count : ℕ) → AreOwnSaid s (entries_of (map row found ++ rows count ∷ [])) × (s ≡ state_from s (entries_of (map row found ++ rows count ∷ [])))
said_listing s [] count = (tt, refl)
said_listing s (values ∷ found) count = said_listing s found count

said_recorded : (b : Bool) (s : Stmt) (w : Work) → IsSaidStep w.state (recorded b s w)
said_recorded true s w = (tt, refl)
said_recorded false s w = (((refl, tt), tt), refl)

said_changed : (s : Stmt) (w : Work) → IsSaidStep w.state (changed s w)
said_changed s w =
    let already = is_done_already w.state.catalog s in
    said_then w.state (accepted w.state.catalog s) (λ (x : Unit {0}). recorded already s w) (λ x. said_recorded already s w)

-- what a passed statement is found to change is what it changes
abbrev IsFound : Bool → State → Stmt → Result (List Change) Refusal → Type 0
IsFound only s statement found = IfOk found (λ changes. ArePassedChanges only s statement changes)

said_passed : (p : Passthrough) (s : Stmt) (found : Result (List Change) Refusal) (w : Work) → IsFound p.only w.state s found → IsSaidStep w.state (passed p s found w)
said_passed p s (Err fault) w is = tt
said_passed p s (Ok changes) w is = (((refl, is), tt), refl)

without_found : (s : State) (statement : Stmt) (x : Result (Unit {0}) Refusal) → AreChangesOf s statement [] → IsFound false s statement (without_changes x)
without_found s statement (Err fault) none = tt
without_found s statement (Ok done) none = none

catalog_found : (only : Bool) (s : State) (statement : Stmt) → AreChangesOf s statement [] → IsFound only s statement (catalog_changes only s statement)
catalog_found true s statement none = refl
catalog_found false s statement none = without_found s statement (accepted s.catalog statement) none

list_found : (x : Result Changes DmlFault) → IfOk (list_of (unless_dml x)) (λ changes. (count : ℕ) × (x ≡ Ok (record { list = changes; count = count })))
list_found (Err fault) = tt
list_found (Ok changes) = (changes.count, refl)

rows_found : (only : Bool) (s : State) (d : DmlStatement) → IsFound only s (stmt.Dml d) (row_changes only s d)
rows_found true s d = refl
rows_found false s d = list_found (done s.catalog s.rows d)

said_catalog : (region : Option Passthrough) (s : Stmt) → ((x : State) → AreChangesOf x s []) → (w : Work) → IsSaidStep w.state (on_catalog region s w)
said_catalog None s none w = said_changed s w
said_catalog (Some p) s none w = said_passed p s (catalog_changes p.only w.state s) w (catalog_found p.only w.state s (none w.state))

once_catalog : (w : Work) (s : Stmt) → ((x : State) → AreChangesOf x s []) → IsSaidStep w.state (once_closed w (on_catalog w.region s))
once_catalog w s none = said_once w (on_catalog w.region s) (said_catalog w.region s none)

said_uncarried : (region : Option Passthrough) (name : Name) (s : Stmt) (w : Work) → IsSaidStep w.state (on_uncarried region name s w)
said_uncarried None name s w = said_changed s w
said_uncarried (Some p) name s w = tt

all_viewed : (s : State) (user : Name) (articles : List Article) → AllByRecursion (IsViewed s user) (map (λ (a : Article). view_of s user a.table) articles)
unfolding view_of
all_viewed s user [] = tt
all_viewed s user (a ∷ articles) = (refl, all_viewed s user articles)

are_viewed : (s : State) (r : SubscriptionRule) → AllByRecursion (IsViewed s r.user) (views_of s r)
unfolding views_of
are_viewed s r = all_viewed s r.user _

said_views : (region : Option Passthrough) (r : SubscriptionRule) (w : Work) → IsSaidStep w.state (on_views region r w)
said_views None r w =
    said_then w.state (accepted w.state.catalog (stmt.Synchronize r)) (λ (x : Unit {0}). enters (sync r.user (views_of w.state r)) w) (λ x. (((refl, are_viewed w.state r), tt), refl))
said_views (Some p) r w = tt

said_rows : (region : Option Passthrough) (d : DmlStatement) (w : Work) → IsSaidStep w.state (on_rows region d w)
said_rows None d w = said_then w.state (changes_by (visible w) d) (λ (changes : Changes). goes (rows changes.count ∷ []) (with_pending changes.list w)) (λ changes. (tt, refl))
said_rows (Some p) d w =
    said_once w (λ v. passed p (stmt.Dml d) (row_changes p.only v.state d) v) (λ v. said_passed p (stmt.Dml d) (row_changes p.only v.state d) v (rows_found p.only v.state d))

said_done : (w : Work) (s : Stmt) → IsSaidStep w.state (done_by w s)
unfolding done_by
said_done w (stmt.GrantRemote g) = said_once w (on_uncarried w.region g.user (stmt.GrantRemote g)) (said_uncarried w.region g.user (stmt.GrantRemote g))
said_done w (stmt.GrantConsolidate g) = said_once w (on_uncarried w.region g.user (stmt.GrantConsolidate g)) (said_uncarried w.region g.user (stmt.GrantConsolidate g))
said_done w (stmt.SetOption o) = said_once w (on_uncarried w.region o.name (stmt.SetOption o)) (said_uncarried w.region o.name (stmt.SetOption o))
said_done w (stmt.Synchronize r) = said_once w (on_views w.region r) (said_views w.region r)
said_done w (stmt.Dml d) = said_rows w.region d w
said_done w (stmt.Select q) = said_then w.state (rows_by (visible w) q) (λ (found : List (List Cell)). goes (listing found) w) (λ found. said_listing w.state found (length found))
said_done w stmt.Commit = said_committing w.state w.pending
said_done w stmt.Rollback = (tt, refl)
said_done w (stmt.Passthrough p) =
    said_once w (began p) (λ v. said_then v.state (accepted v.state.catalog (stmt.Passthrough p)) (λ (x : Unit {0}). goes (region_begins ∷ []) (record v { region = Some (region_of p) })) (λ x. (tt, refl)))
said_done w stmt.PassthroughStop = said_once w ended (λ v. (tt, refl))
said_done w s = once_catalog w s (λ x. refl)

-- ---- scripts

said_last : (s : State) (changes : List Change) → AreOwnSaid s (entries_of (last_acts changes))
said_last s [] = tt
said_last s (c ∷ changes) = tt

said_going : (s : State) (number : ℕ) (rest : Work → ScriptRun) (step : Stepped) → IsSaidStep s step → ((v : Work) → AreOwnSaid v.state (entries_of (rest v).acts))
    → AreOwnSaid s (entries_of (going_on number rest step).acts)
said_going s number rest (goes acts w) said others = acts_more s acts (rest w).acts said.0 (subst (λ (x : State). AreOwnSaid x (entries_of (rest w).acts)) said.1 (others w))
said_going s number rest (stops acts fault) said others = said

said_ran : (count : ℕ) (w : Work) (statements : List Stmt) → AreOwnSaid w.state (entries_of (ran_from count w statements).acts)
said_ran count w [] = said_last w.state w.pending
said_ran count w (s ∷ statements) =
    said_going w.state (count + 1) (λ v. ran_from (count + 1) v statements) (done_by w s) (said_done w s) (λ v. said_ran (count + 1) v statements)

-- ---- what was done of it, and the commit that was begun

whole_done : (script : ScriptRun) (acts : List ScriptAct) (broken : List Recorded) → DidAllActs script acts broken → IsPrefix (acts ++ map commits broken) script.acts
whole_done script acts broken done = no_broken acts script.acts broken done.none ([], done.acts_are ∙ sym (append-nil acts))

prefix_done : (script : ScriptRun) (count : ℕ) (new : View) (acts : List ScriptAct) (broken : List Recorded) (result : Result ℕ SessionFault) → EndsAs script count new acts broken result
    → IsPrefix (acts ++ map commits broken) script.acts
prefix_done script count new acts broken (Ok number) end = whole_done script acts broken end.0
prefix_done script count new acts broken (Err (session.Statement number fault)) end = whole_done script acts broken end.0
prefix_done script count new acts broken (Err (session.Store fault)) end = prefix_of_store new acts script.acts broken fault end
prefix_done script count new acts broken (Err session.Sink) end = end
prefix_done script count new acts broken (Err session.Memory) end = no_broken acts script.acts broken end.0 end.1

entries_begun : (broken : List Recorded) → entries_of (map commits broken) ≡ broken
entries_begun [] = refl
entries_begun (r ∷ broken) = ap (λ (rs : List Recorded). r ∷ rs) (entries_begun broken)

-- all entries of a run of a script are the database's own and say what is so, each in its state: those that were committed, and the one whose
-- commit was begun
pub script_said : (old new : View) (before now : Seen) (written written' : Output) (statements : List Stmt) (result : Result ℕ SessionFault)
    → (ran : RanScript old new before now written written' statements result) → AreOwnSaid (committed old) (entries_of ran.acts ++ ran.broken)
script_said old new before now written written' statements result ran =
    let script : ScriptRun = script_of (committed old) statements in
    let prefix = prefix_done script (length statements) new ran.acts ran.broken result ran.ends in
    let entries : entries_of (ran.acts ++ map commits ran.broken) ≡ entries_of ran.acts ++ ran.broken
    = entries_of-append ran.acts (map commits ran.broken) ∙ ap (λ (rs : List Recorded). entries_of ran.acts ++ rs) (entries_begun ran.broken) in
    let whole : entries_of script.acts ≡ (entries_of ran.acts ++ ran.broken) ++ entries_of prefix.0
    = ap entries_of prefix.1 ∙ entries_of-append (ran.acts ++ map commits ran.broken) prefix.0 ∙ ap (λ (rs : List Recorded). rs ++ entries_of prefix.0) entries in
    said_prefix (committed old) (entries_of ran.acts ++ ran.broken) (entries_of prefix.0)
    (subst (λ (rs : List Recorded). AreOwnSaid (committed old) rs) whole (said_ran 0 (at_beginning (committed old)) statements))

-- ---- behind a history

said_steps : (publisher : Name) (es rs : List Recorded) → AreOwnSaid (state_of publisher es) rs → Steps (IsOwnStep publisher) es rs
said_steps publisher es [] said = tt
said_steps publisher es (r ∷ rs) said =
    (said.0, said_steps publisher (es ++ r ∷ []) rs (subst (λ (s : State). AreOwnSaid s rs) (sym (state_from-more (fresh publisher) es r)) said.1))

-- each entry of a run of a script, on the database of a history
pub script_says_so : (publisher : Name) (es : List Recorded) (old new : View) (before now : Seen) (written written' : Output) (statements : List Stmt) (result : Result ℕ SessionFault)
    → IsDatabase old publisher es before → (ran : RanScript old new before now written written' statements result)
    → Steps (IsOwnStep publisher) es (entries_of ran.acts ++ ran.broken)
script_says_so publisher es old new before now written written' statements result database ran =
    let said = script_said old new before now written written' statements result ran in
    said_steps publisher es (entries_of ran.acts ++ ran.broken) (subst (λ (s : State). AreOwnSaid s (entries_of ran.acts ++ ran.broken)) (committed_is old publisher es database.is) said)
