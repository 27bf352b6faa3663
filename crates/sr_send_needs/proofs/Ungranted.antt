-- A user who is not granted has a new book, and was given nothing.
use Rattle.std.proofs.Common.{◌≡◌, ℕ, ◌+◌, Bool, true, false, cond, List, [], ◌∷◌, ◌++◌, Option, Some, None, IsSome, option_map, bytes_eq, map, refl, sym, ap, ap₂, subst, ◌∙◌}
use Rattle.std.specs.Prelude.{not}
use Rattle.std.specs.List.{AllByRecursion}
use Rattle.std.proofs.lemmas.Bool.{and_parts}
use Rattle.sr_ast.specs.declared.stmt.Stmt.TheVariants as stmt
use Rattle.sr_base.specs.Values.{offset_from}
use Rattle.sr_book.specs.Books.{new_book}
use Rattle.sr_book.specs.Entries.{Name}
use Rattle.sr_catalog_ddl.specs.Subscriptions.{create_subscription_causes}
use Rattle.sr_catalog_schema.specs.Catalogs.{Lists}
use Rattle.sr_catalog_schema.specs.Firsts.{first_of, first_among, has, where_true}
use Rattle.sr_catalog_schema.specs.Members.{publication_name, user_name}
use Rattle.sr_catalog_schema.specs.Names.{named, taken}
use Rattle.sr_catalog_schema.specs.declared.publication.Article.{Article}
use Rattle.sr_catalog_schema.specs.declared.subscription.Subscription.{Subscription}
use Rattle.sr_catalog_schema.specs.declared.table.Table.{Table}
use Rattle.sr_catalog_schema.specs.declared.user.User.{User}
use Rattle.sr_catalog_script_laws.proofs.ReplayCauses.{first_of-None, where_true-None, no_cause_of}
use Rattle.sr_catalog_script_laws.proofs.ReplayLists.{found_as_taken}
use Rattle.sr_catalog_script_laws.proofs.ReplayNexts.{made_stands}
use Rattle.sr_catalog_script_laws.proofs.Standing.{SubscriptionStands, only_these}
use Rattle.sr_catalog_script_laws.specs.Scripts.{IsMadeByStatements, IsSpellable, subscription_rule}
use Rattle.sr_catalog_script_laws.proofs.Spelled.{still_spelled}
use Rattle.sr_database_history.proofs.Granted.{books_begin, known_from, stays_known}
use Rattle.sr_database_history.proofs.Kept.{fresh_holds, stays_held}
use Rattle.sr_database_history.specs.Fitting.{DoneFits, DonesFit, FitsState, Knows, Stored, stored_from}
use Rattle.sr_database_history.specs.Folds.{State, after_done, after_dones, books_of, done_changes, fresh, next, size, state_from, state_of, with_changes, with_statement}
use Rattle.sr_database_history.specs.Inner.Laws.{Holds}
use Rattle.sr_database_history.specs.Recorded.{Done, plain, ran, conflict, clash, IsLawfulDone, IsRecorded, Recorded, ddl, note, own, pass, sync}
use Rattle.sr_database_history.specs.Recorded.{taken as taken_from}
use Rattle.sr_exec_dml.specs.Statements.{table_named}
use Rattle.sr_exec_where.proofs.Fixed.{same_name}
use Rattle.sr_logform.specs.declared.change.Change.{Change}
use Rattle.sr_logform.specs.declared.op.Op.{Op}
use Rattle.sr_publish.specs.SubscribedTables.{is_live, article_in, source_in, source_of, subscribed_table_by, subscribed_table_in, subscribed_table_of}
use Rattle.sr_scan.specs.Given.{change_given, changes_given, dones_given, given_from, given_of, gives, pass_given, with_transaction}

pub new_book_of : (publisher user : Name) (es : List Recorded) → Stored publisher es → ¬ (Knows (state_of publisher es) user) → books_of user es ≡ new_book
new_book_of publisher user es stored unknown =
    sym (ap (λ (rs : List Recorded). books_of user rs) (append_nil es)) ∙ books_begin publisher user es [] stored unknown
  where
    append_nil : (rs : List Recorded) → rs ++ [] ≡ rs
    append_nil [] = refl
    append_nil (r ∷ rs) = ap (λ (l : List Recorded). r ∷ l) (append_nil rs)

-- ---- the user of a subscription is granted

not_not : (b : Bool) → not b ≡ false → b ≡ true
not_not true e = refl
not_not false e = cc

user_there : (c : Lists) (s : Subscription) → SubscriptionStands c.users c.tables c.publications (subscription_rule s) → IsSome (named user_name s.user c.users)
unfolding create_subscription_causes
user_there c s stands =
    let missing = (no_cause_of (only_these c.users c.tables c.publications) (stmt.CreateSubscription (subscription_rule s)) stands.accepted).missing in
    let both = first_of-None (where_true (not (taken publication_name s.publication c.publications)) s.publication) (where_true (not (taken user_name s.user c.users)) s.user) missing in
    let there : taken user_name s.user c.users ≡ true = not_not (taken user_name s.user c.users) (where_true-None (not (taken user_name s.user c.users)) s.user both.1) in
    sym (found_as_taken (λ (u : User). bytes_eq s.user u.name) c.users) ∙ there

module _ (c : Lists) (user : Name) (unknown : ¬ (IsSome (named user_name user c.users))) where
  no_source : (table : Name) (ss : List Subscription) → AllByRecursion (SubscriptionStands c.users c.tables c.publications) (map subscription_rule ss) → first_among (source_in c user table) ss ≡ None
  no_source table [] stand = refl
  no_source table (s ∷ ss) stand = ap₂ (λ x y. first_of x y) (nothing (is_live user s) refl) (no_source table ss stand.1) where
    nothing : (b : Bool) → is_live user s ≡ b → cond b (option_map {U = Name × Article} (λ (x : Article). (s.publication, x)) (article_in c table s)) None ≡ None
    nothing true live = absurd (unknown (subst (λ (n : Name). IsSome (named user_name n c.users)) (sym (same_name user s.user (and_parts s.started (bytes_eq user s.user) live).1)) (user_there c s stand.0)))
    nothing false live = refl

  in_none : (t : Option Table) (source : Option (Name × Article)) → source ≡ None → subscribed_table_in c user t source ≡ None
  in_none None source e = refl
  in_none (Some t) source e = ap (λ o. option_map (subscribed_table_by c user t) o) e

  has_no_table : IsMadeByStatements c → (table : Name) → subscribed_table_of c user table ≡ None
  unfolding subscribed_table_of
  has_no_table made table = in_none (table_named c table) (source_of c user table) (no_source table c.subscriptions (made_stands c made).each_subscription)

-- ---- what he is given

no_changes : (s : State) (user : Name) (changes : List Change) → ((table : Name) → subscribed_table_of s.catalog user table ≡ None) → changes_given s user changes ≡ []
no_changes s user [] none = refl
no_changes s user (c ∷ changes) none =
    ap₂ (λ (xs ys : List Op). xs ++ ys) (ap (λ o. change_given o s user c) (none c.table)) (no_changes (with_changes (c ∷ []) s) user changes none)

state_none : (s : State) (user : Name) → IsSpellable s.catalog → ¬ (Knows s user) → (changes : List Change) → changes_given s user changes ≡ []
state_none s user spelled unknown changes = no_changes s user changes (has_no_table s.catalog user unknown spelled.made)

not_his : (s : State) (user other : Name) → ¬ (Knows s user) → Knows s other → bytes_eq other user ≡ false
not_his s user other unknown knows = go (bytes_eq other user) refl where
  go : (b : Bool) → bytes_eq other user ≡ b → bytes_eq other user ≡ false
  go true is = absurd (unknown (subst (λ (n : Name). Knows s n) (same_name other user is) knows))
  go false is = is

done_spelled : (s : State) (d : Done) → IsSpellable s.catalog → IsLawfulDone d → DoneFits s d → IsSpellable (after_done d s).catalog
unfolding with_statement
done_spelled s (plain op changes) spelled meant fit = spelled
done_spelled s (ran statement changes) spelled meant fit = still_spelled s.catalog statement spelled meant.0 fit.outcome.catalog
done_spelled s (conflict op inserts before after) spelled meant fit = spelled
done_spelled s (clash op why) spelled meant fit = spelled

known_behind : (s : State) (user : Name) (dones : List Done) → Knows s user → Knows (after_dones dones s) user
unfolding next
known_behind s user dones knows = stays_known s (taken_from [] (offset_from 0) dones) user knows

no_dones : (s : State) (user : Name) (dones : List Done) → IsSpellable s.catalog → AllByRecursion IsLawfulDone dones → DonesFit s dones → ¬ (Knows (after_dones dones s) user) → dones_given false s user dones ≡ []
no_dones s user [] spelled meant fit unknown = refl
no_dones s user (d ∷ dones) spelled meant fit unknown =
    ap₂ (λ (xs ys : List Op). xs ++ ys) (state_none s user spelled (λ knows. unknown (known_behind s user (d ∷ dones) knows)) (done_changes d))
    (no_dones (after_done d s) user dones (done_spelled s d spelled meant.0 fit.0) meant.1 fit.1 unknown)

none_among : (s : State) (user : Name) (users : List Name) → ¬ (Knows s user) → AllByRecursion (Knows s) users → has users user ≡ false
none_among s user [] unknown all = refl
none_among s user (u ∷ users) unknown all = rw (not_his' u all.0) (none_among s user users unknown all.1) where
  not_his' : (other : Name) → Knows s other → bytes_eq user other ≡ false
  not_his' other knows = go (bytes_eq user other) refl where
    go : (b : Bool) → bytes_eq user other ≡ b → bytes_eq user other ≡ false
    go true is = absurd (unknown (subst (λ (n : Name). Knows s n) (sym (same_name user other is)) knows))
    go false is = is

passed_none : (s : State) (user : Name) (only : Bool) (changes : List Change) → IsSpellable s.catalog → ¬ (Knows s user) → pass_given only s user changes ≡ []
passed_none s user true changes spelled unknown = refl
passed_none s user false changes spelled unknown = state_none s user spelled unknown changes

nothing_of : (s : State) (r : Recorded) (user : Name) → Holds s → IsRecorded r → FitsState s r → ¬ (Knows s user) → ¬ (Knows (next s r) user) → gives s r user ≡ []
unfolding gives next FitsState
nothing_of s (own changes) user holds meant fit unknown still = state_none s user holds.catalog unknown changes
nothing_of s (taken_from other at dones) user holds meant fit unknown still = rw (not_his s user other unknown fit.0) (no_dones s user dones holds.catalog meant fit.1 still)
nothing_of s (ddl statement) user holds meant fit unknown still = refl
nothing_of s (sync other tables) user holds meant fit unknown still = rw (not_his s user other unknown fit) refl
nothing_of s (pass users only statement changes) user holds meant fit unknown still = rw (none_among s user users unknown fit.0) (passed_none s user only changes holds.catalog unknown)
nothing_of s (note other what) user holds meant fit unknown still = refl

nothing_from : (s : State) (place : ℕ) (rs : List Recorded) (user : Name) → Holds s → stored_from s place rs → ¬ (Knows (state_from s rs) user) → given_from s place rs user ≡ []
nothing_from s place [] user holds stored unknown = refl
nothing_from s place (r ∷ rs) user holds stored unknown =
    let after = λ (knows : Knows (next s r) user). unknown (known_from (next s r) rs user knows) in
    let none = nothing_of s r user holds stored.0.meant stored.0.state (λ knows. after (stays_known s r user knows)) after in
    ap (λ (ops : List Op). with_transaction (place + (size r + 5)) ops (given_from (next s r) (place + (size r + 5)) rs user)) none
    ∙ nothing_from (next s r) (place + (size r + 5)) rs user (stays_held s place r holds stored.0) stored.1 unknown

pub given_nothing : (publisher user : Name) (es : List Recorded) → Stored publisher es → ¬ (Knows (state_of publisher es) user) → given_of publisher es user ≡ []
given_nothing publisher user es stored unknown = nothing_from (fresh publisher) 0 es user (fresh_holds publisher) stored unknown
