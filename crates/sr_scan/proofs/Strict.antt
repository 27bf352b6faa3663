-- Names and keys of tables, behind statements in normal form.
use Rattle.std.proofs.Common.{◌≡◌, inl, inr, ℕ, Bool, true, false, List, [], ◌∷◌, map, filter_map, find, slice_get, Option, Some, None, option_map, bytes_eq, refl, sym, ap, ◌∙◌}
use Rattle.std.specs.List.{cons_option, AllByRecursion}
use Rattle.std.proofs.lemmas.Bool.{or_cases, or_left, or_right}
use Rattle.std.proofs.lemmas.Map.Made.{is_member-Decides}
use Rattle.std.proofs.lemmas.Slice.Eq.{bytes_eq-Decides}
use Rattle.sr_ast.specs.declared.create.ColumnRule.{ColumnRule}
use Rattle.sr_ast.specs.declared.create.CreateTable.{CreateTable}
use Rattle.sr_ast.specs.declared.stmt.Stmt.{Stmt}
use Rattle.sr_ast.specs.declared.stmt.Stmt.TheVariants as stmt
use Rattle.sr_base.specs.Fields.{IsName}
use Rattle.sr_base.proofs.Truths.{some_is}
use Rattle.sr_book.specs.Entries.{Name}
use Rattle.sr_catalog_change.specs.Changes.{refusal, next as catalog_next}
use Rattle.sr_catalog_ddl.specs.Tables.{rule_name, column_of, table_of}
use Rattle.sr_exec_dml.specs.Statements.{table_named}
use Rattle.sr_ast.specs.Normal.{IsSomeOf}
use Rattle.sr_ast.specs.NormalForms.{IsNormal, IsNormalRule, IsNormalTable}
use Rattle.sr_database_history.specs.Fitting.{IsAcceptedPass, DoneFits, DonesFit, FitsState, stored_from, Stored}
use Rattle.sr_database_history.specs.Folds.{State, fresh, with_changes, with_statement, after_done, after_dones, after_pass, next, state_from, state_of}
use Rattle.sr_database_history.specs.Recorded.{Done, plain, ran, conflict, clash, IsLawfulDone}
use Rattle.sr_database_history.specs.Recorded.{Recorded, own, taken, ddl, sync, pass, note, IsRecorded}
use Rattle.sr_logform.specs.declared.change.Change.{Change}
use Rattle.sr_publish.specs.SubscribedTables.{SubscribedTable, subscribed_table_of}
use Rattle.sr_publish.proofs.Orderly.{table_has_key, subscribed_table_in_order, found_in, find_passes}
use Rattle.sr_catalog_script_laws.specs.Scripts.{IsMadeByStatements}
use Rattle.sr_catalog_script_laws.proofs.Made.{new_made, still_made}
use Rattle.sr_catalog_script_laws.proofs.ReplayLists.{AllByRecursion-append, AllByRecursion-filter}
use Rattle.sr_catalog_script_laws.proofs.ReplayTables.{slice_get-map}
use Rattle.sr_catalog_schema.proofs.Places.{find-place}
use Rattle.sr_catalog_schema.specs.Catalogs.{Lists}
use Rattle.sr_catalog_schema.specs.Firsts.{has}
use Rattle.sr_catalog_schema.specs.Members.{column_name, key_names}
use Rattle.sr_catalog_schema.specs.Names.{place_of}
use Rattle.sr_catalog_schema.specs.declared.table.Column.{Column}
use Rattle.sr_catalog_schema.specs.declared.table.Table.{Table}
use Rattle.sr_scan.proofs.Applying.{name_of_table}
use Rattle.sr_scan.proofs.Moves.{subscribed_table_table}
use Rattle.sr_scan.proofs.Spelled.{IsStrict, IsProper}

-- accepted statements have made the catalog, and its tables are as statements in normal form make them
pub record IsGood (c : Lists) : Type 0 where
  pub made : IsMadeByStatements c
  pub strict : AllByRecursion IsStrict c.tables

-- ---- CREATE TABLE

-- a name at a place of the key is one of those that the statement names

abbrev places : List ColumnRule → List Name → List ℕ
places rules key = filter_map (λ n. place_of rule_name n rules) key

abbrev names_at : List ColumnRule → List ℕ → List Name
names_at rules places = filter_map (λ i. option_map column_name (slice_get (map column_of rules) i)) places

named_in : (m : Name) (rules : List ColumnRule) (key : List Name)
    → has (names_at rules (places rules key)) m ≡ true → has key m ≡ true
named_in m rules [] h = h
named_in m rules (n ∷ key) h = go (place_of rule_name n rules) refl h (named_in m rules key) where
  same : (i : ℕ) (x : Name) → place_of rule_name n rules ≡ Some i → option_map column_name (slice_get (map column_of rules) i) ≡ Some x
      → (r : Option ColumnRule) → slice_get rules i ≡ r → n ≡ x
  same i x e f None g = let no : Some x ≡ None = sym f ∙ (ap (option_map column_name) (slice_get-map column_of rules i ∙ ap (option_map column_of) g)) in cc
  same i x e f (Some r) g =
      let is : Some x ≡ Some r.name = sym f ∙ ap (option_map column_name) (slice_get-map column_of rules i ∙ ap (option_map column_of) g) in
      let one : find (λ (y : ColumnRule). bytes_eq n (rule_name y)) rules ≡ Some r = find-place (λ (y : ColumnRule). bytes_eq n (rule_name y)) rules i e ∙ g in
      (bytes_eq-Decides n r.name).0 (find_passes (λ (y : ColumnRule). bytes_eq n (rule_name y)) rules r one) ∙ sym (some_is is)

  at : (i : ℕ) → place_of rule_name n rules ≡ Some i → (o : Option Name) → option_map column_name (slice_get (map column_of rules) i) ≡ o
      → has (cons_option o (names_at rules (places rules key))) m ≡ true → (has (names_at rules (places rules key)) m ≡ true → has key m ≡ true) → has (n ∷ key) m ≡ true
  at i e None f k rest = or_right (bytes_eq m n) (has key m) (rest k)
  at i e (Some x) f k rest = elim (or_cases (bytes_eq m x) (has (names_at rules (places rules key)) m) k) as (λ _. has (n ∷ key) m ≡ true) [
    | inl here ↦ or_left (bytes_eq m n) (has key m) (ap (bytes_eq m) (same i x e f (slice_get rules i) refl) ∙ here)
    | inr there ↦ or_right (bytes_eq m n) (has key m) (rest there)
  ]

  go : (o : Option ℕ) → place_of rule_name n rules ≡ o → has (names_at rules (cons_option o (places rules key))) m ≡ true
      → (has (names_at rules (places rules key)) m ≡ true → has key m ≡ true) → has (n ∷ key) m ≡ true
  go None e k rest = or_right (bytes_eq m n) (has key m) (rest k)
  go (Some i) e k rest = at i e (option_map column_name (slice_get (map column_of rules) i)) refl k rest

each_rule : (t : CreateTable) → IsNormalTable t → AllByRecursion (IsNormalRule t.key) t.columns
each_rule t n = go t.columns n.columns where
  go : (rules : List ColumnRule) → IsSomeOf (IsNormalRule t.key) rules → AllByRecursion (IsNormalRule t.key) rules
  go [] h = absurd h
  go (r ∷ rules) h = h

made_strict : (t : CreateTable) → IsNormalTable t → IsStrict (table_of t)
unfolding table_of
made_strict t n = record { names = names t.columns (each_rule t n); key = keys t.columns (each_rule t n) } where
  names : (rules : List ColumnRule) → AllByRecursion (IsNormalRule t.key) rules → AllByRecursion (λ (c : Column). IsName c.name) (map column_of rules)
  names [] all = tt
  names (r ∷ rules) all = (all.0.name.written, names rules all.1)

  keys : (rules : List ColumnRule) → AllByRecursion (IsNormalRule t.key) rules
      → AllByRecursion (λ (c : Column). has (key_names (record { name = t.name; columns = map column_of t.columns; key = filter_map (λ x. place_of rule_name x t.columns) t.key })) c.name ≡ true → c.not_null ≡ true)
      (map column_of rules)
  keys [] all = tt
  keys (r ∷ rules) all = ((λ h. all.0.not_null ((is_member-Decides bytes_eq-Decides t.key r.name).0 (named_in r.name t.columns t.key h))), keys rules all.1)

-- ---- states

strict_next : (c : Lists) (s : Stmt) → IsNormal s → AllByRecursion IsStrict c.tables → AllByRecursion IsStrict (catalog_next c s).tables
unfolding catalog_next
strict_next c (stmt.CreateTable t) n all = AllByRecursion-append IsStrict c.tables (table_of t) all (made_strict t n)
strict_next c (stmt.DropTable name) n all = AllByRecursion-filter IsStrict _ c.tables all
strict_next c _ n all = all

statement_good : (s : State) (statement : Stmt) → IsNormal statement → refusal s.catalog statement ≡ None → IsGood s.catalog → IsGood (with_statement statement s).catalog
unfolding with_statement
statement_good s statement n accepted g = record { made = still_made s.catalog statement g.made accepted; strict = strict_next s.catalog statement n g.strict }

pub done_good : (s : State) (d : Done) → IsLawfulDone d → DoneFits s d → IsGood s.catalog → IsGood (after_done d s).catalog
done_good s (plain op changes) n f g = g
done_good s (ran statement changes) n f g = statement_good (with_changes changes s) statement n.0 f.outcome.catalog g
done_good s (conflict op inserts before after) n f g = g
done_good s (clash op why) n f g = g

dones_good : (s : State) (dones : List Done) → AllByRecursion IsLawfulDone dones → DonesFit s dones → IsGood s.catalog → IsGood (after_dones dones s).catalog
dones_good s [] n f g = g
dones_good s (d ∷ dones) n f g = dones_good (after_done d s) dones n.1 f.1 (done_good s d n.0 f.0 g)

pass_good : (only : Bool) (s : State) (statement : Stmt) (changes : List Change) → IsNormal statement → IsAcceptedPass s only statement → IsGood s.catalog
    → IsGood (after_pass only statement changes s).catalog
pass_good true s statement changes n f g = g
pass_good false s statement changes n f g = statement_good (with_changes changes s) statement n f.catalog g

pub entry_good : (s : State) (r : Recorded) → IsRecorded r → FitsState s r → IsGood s.catalog → IsGood (next s r).catalog
unfolding next FitsState
entry_good s (own changes) n f g = g
entry_good s (taken user at dones) n f g = dones_good s dones n f.1 g
entry_good s (ddl statement) n f g = statement_good s statement n.0 f.catalog g
entry_good s (sync user tables) n f g = g
entry_good s (pass users only statement changes) n f g = pass_good only s statement changes n.0 f.2 g
entry_good s (note user what) n f g = g

from_good : (s : State) (place : ℕ) (rs : List Recorded) → stored_from s place rs → IsGood s.catalog → IsGood (state_from s rs).catalog
from_good s place [] stored g = g
from_good s place (r ∷ rs) stored g = from_good (next s r) _ rs stored.1 (entry_good s r stored.0.meant stored.0.state g)

pub stored_good : (publisher : Name) (rs : List Recorded) → Stored publisher rs → IsGood (state_of publisher rs).catalog
stored_good publisher rs stored = from_good (fresh publisher) 0 rs stored (record { made = new_made publisher; strict = tt })

-- ---- shares

pub table_strict : (c : Lists) (name : Name) (t : Table) → IsGood c → table_named c name ≡ Some t → IsStrict t
table_strict c name t g e = found_in IsStrict (λ (x : Table). bytes_eq name x.name) c.tables t g.strict e

pub subscribed_table_proper : (c : Lists) (user table : Name) (s : SubscribedTable) → IsGood c → subscribed_table_of c user table ≡ Some s → IsProper s
subscribed_table_proper c user table s g e =
    let named = subscribed_table_table c user table s e in
    record {
      strict = table_strict c table s.table g named;
      key = table_has_key c table s.table g.made named;
      order = subscribed_table_in_order c user table s g.made e;
    }

pub subscribed_table_named : (c : Lists) (user table : Name) (s : SubscribedTable) → subscribed_table_of c user table ≡ Some s → table ≡ s.table.name
subscribed_table_named c user table s e = name_of_table c table s.table (subscribed_table_table c user table s e)
