-- What triggers leave fits.
use Rattle.std.proofs.Common.{◌≡◌, ◌≢◌, ◌||◌, ◌&&◌, ℕ, Bool, true, false, cond, not, map, List, [], ◌∷◌, ◌++◌, Option, Some, None, IsSome, refl, sym, ap, subst, ◌∙◌}
use Rattle.std.proofs.Math.ListN.{set as set_at}
use Rattle.std.proofs.lemmas.List.{get_or-set_other}
use Rattle.std.proofs.lemmas.List.Quantifiers.{position-Some}
use Rattle.std.proofs.lemmas.Option.{unwrap_or-slice_get, get_or_from_slice_get}
use Rattle.std.specs.Cmp.{Equal-is}
use Rattle.std.specs.FinMap.{get, insert, empty, get-insert, get-empty}
use Rattle.std.specs.List.{AllByRecursion, cons_option}
use Rattle.std.specs.Option.{option_and_then, option_map, is_some}
use Rattle.std.specs.Ordering.{eq_by_cmp}
use Rattle.std.specs.Prelude.{bytes_eq, filter_map, slice_get, unwrap_or}
use Rattle.sr_base.specs.declared.value.Value.{Value as Cell}
use Rattle.sr_base.specs.declared.value.Value.TheVariants.{Null}
use Rattle.sr_ast.specs.Chains.{Chain}
use Rattle.sr_ast.specs.Chains.Chain.{done, set, insert as put, when, choose}
use Rattle.sr_ast.specs.Terms.{Term}
use Rattle.sr_ast.specs.declared.create.CreateTrigger.{CreateTrigger}
use Rattle.sr_exec_dml.specs.Applying.{place_of, without_row, with_row, applied_in, applied}
use Rattle.sr_exec_fits.specs.Rows.{IsRow}
use Rattle.sr_exec_fits.proofs.Rows.{row_made as fitting_row}
use Rattle.sr_exec_dml.specs.FittingChanges.{FitsAt, IsFitChange, ChangesFit}
use Rattle.sr_exec_where.specs.Keys.{key_of}
use Rattle.sr_exec_where.specs.Naming.{names_of}
use Rattle.sr_exec_dml.specs.Statements.{table_named}
use Rattle.sr_exec_dml.proofs.Applied.{own_name}
use Rattle.sr_logform.specs.declared.change.Change.{Change}
use Rattle.sr_rows.specs.Marks.{Place, RowMap, place_cmp}
use Rattle.sr_rows.specs.Inner.Marks.{place_cmp_total}
use Rattle.sr_rows.proofs.Gathering.{exact_places}
use Rattle.sr_catalog_schema.specs.Catalogs.{Lists}
use Rattle.sr_catalog_schema.specs.Firsts.{has, first_of}
use Rattle.sr_catalog_schema.specs.Members.{column_name, key_names}
use Rattle.sr_catalog_schema.specs.Names.{place_of as place_named}
use Rattle.sr_catalog_schema.specs.declared.table.Column.{Column}
use Rattle.sr_catalog_schema.specs.declared.table.Table.{Table}
use Rattle.sr_catalog_schema.specs.declared.trigger.Trigger.{Trigger}
use Rattle.sr_catalog_triggers.specs.Triggers.{is_target, is_new, image_of}
use Rattle.sr_resolve_triggers.specs.Actions.{value_in, truth_in, set_where, new_set, variables_set, after_set, given, in_front, row_made, term_for, is_held, insertion, with_inserted, after_insert, branch, acted}
use Rattle.sr_resolve_triggers.specs.Firing.{firing, entered, after_trigger, after_triggers, first_bindings, left, fired}
use Rattle.sr_resolve_triggers.specs.Holding.{held_by}
use Rattle.sr_resolve_triggers.specs.Inner.Laws.{IsInserted, IsLeft}
use Rattle.sr_resolve_triggers.specs.Bindings.{UpdateConflict, Bindings}
use Rattle.sr_resolve_triggers.specs.declared.fired.Fired.{Fired}
use Rattle.sr_resolve_triggers.proofs.Fitting.{Stands, held_stands, set_fits}

-- ---- answers that are there

pub then_some : {A B : Type 0} (f : A → Option B) (o : Option A) (y : B) → option_and_then f o ≡ Some y → (x : A) × (o ≡ Some x) × (f x ≡ Some y)
then_some f None y h = cc
then_some f (Some x) y h = (x, refl, h)

pub map_some : {A B : Type 0} (f : A → B) (o : Option A) (y : B) → option_map f o ≡ Some y → (x : A) × (o ≡ Some x) × (f x ≡ y)
map_some f None y h = cc
map_some f (Some x) y h = let is : f x ≡ y = cc in (x, refl, is)

pub in_front_some : {A : Type 0} (o : Option A) (os : Option (List A)) (ys : List A) → in_front o os ≡ Some ys
    → (x : A) × (xs : List A) × (o ≡ Some x) × (os ≡ Some xs) × (x ∷ xs ≡ ys)
in_front_some None os ys h = cc
in_front_some (Some x) None ys h = cc
in_front_some (Some x) (Some xs) ys h = let is : x ∷ xs ≡ ys = cc in (x, xs, refl, refl, is)

-- ---- a column of no key is set

-- the column at the place of a name has the name
named_at : (name : List ℕ) (columns : List Column) (p : ℕ) (c : Column) → place_named column_name name columns ≡ Some p
    → slice_get columns p ≡ Some c → bytes_eq name c.name ≡ true
named_at name columns p c at is =
    let found = position-Some (λ (t : Column). bytes_eq name t.name) columns p c at in
    subst (λ (x : Column). bytes_eq name x.name ≡ true) (get_or_from_slice_get columns p c c is) found.1

-- a place of the key is another one
other_value : (columns : List Column) (name : List ℕ) (row : List Cell) (p : ℕ) (w : Cell) (q : ℕ) → q ≢ p
    → unwrap_or (slice_get (set_at row p w) q) Null ≡ unwrap_or (slice_get row q) Null
other_value columns name row p w q other = unwrap_or-slice_get (set_at row p w) q Null ∙ get_or-set_other row p q w Null other
    ∙ sym (unwrap_or-slice_get row q Null)

-- two tests fail
pub or_fails : (a b : Bool) → (a || b) ≡ false → (a ≡ false) × (b ≡ false)
or_fails true b h = cc
or_fails false b h = (refl, h)

key_kept_at : (columns : List Column) (name : List ℕ) (row : List Cell) (p : ℕ) (c : Column) (w : Cell) (places : List ℕ)
    → bytes_eq name c.name ≡ true → slice_get columns p ≡ Some c
    → has (filter_map (λ i. option_map column_name (slice_get columns i)) places) name ≡ false → key_of places (set_at row p w) ≡ key_of places row
key_kept_at columns name row p c w [] same at none = refl
key_kept_at columns name row p c w (q ∷ places) same at none = go (slice_get columns q) refl none
    (λ h. key_kept_at columns name row p c w places same at h) where
      both : q ≢ p → key_of places (set_at row p w) ≡ key_of places row → key_of (q ∷ places) (set_at row p w) ≡ key_of (q ∷ places) row
      both other rest = let head = other_value columns name row p w q other in λ i. head i ∷ rest i

      go : (o : Option Column) → slice_get columns q ≡ o
          → has (cons_option (option_map column_name o) (filter_map (λ i. option_map column_name (slice_get columns i)) places)) name ≡ false
          → (has (filter_map (λ i. option_map column_name (slice_get columns i)) places) name ≡ false → key_of places (set_at row p w) ≡ key_of places row)
          → key_of (q ∷ places) (set_at row p w) ≡ key_of (q ∷ places) row
      go None e h rest = both (λ is. let gone : None ≡ Some c = sym e ∙ ap (slice_get columns) is ∙ at in cc) (rest h)
      go (Some d) e h rest =
          let split = or_fails (bytes_eq name d.name) (has (filter_map (λ i. option_map column_name (slice_get columns i)) places) name) h in
          both (λ is.
          let one : Some d ≡ Some c = sym e ∙ ap (slice_get columns) is ∙ at in
          let column_is : d ≡ c = cc in
          let is_named : true ≡ false = sym same ∙ ap (λ (x : Column). bytes_eq name x.name) (sym column_is) ∙ split.0 in
          cc) (rest split.1)

key_kept : (t : Table) (name : List ℕ) (row : List Cell) (p : ℕ) (c : Column) (w : Cell) → place_named column_name name t.columns ≡ Some p
    → slice_get t.columns p ≡ Some c
    → has (key_names t) name ≡ false → key_of t.key (set_at row p w) ≡ key_of t.key row
key_kept t name row p c w at is none = key_kept_at t.columns name row p c w t.key (named_at name t.columns p c at is) is none

-- ---- changes, one more

pub applied_more : (catalog : Lists) (changes : List Change) (rows : RowMap) (c : Change)
    → applied catalog (changes ++ c ∷ []) rows ≡ applied_in (table_named catalog c.table) c (applied catalog changes rows)
applied_more catalog [] rows c = refl
applied_more catalog (d ∷ changes) rows c = applied_more catalog changes (applied_in (table_named catalog d.table) d rows) c

pub fit_more : (catalog : Lists) (changes : List Change) (rows : RowMap) (c : Change) → ChangesFit catalog rows changes
    → IsFitChange catalog (applied catalog changes rows) c
    → ChangesFit catalog rows (changes ++ c ∷ [])
fit_more catalog [] rows c fit one = (one, tt)
fit_more catalog (d ∷ changes) rows c fit one = (fit.0, fit_more catalog changes (applied_in (table_named catalog d.table) d rows) c fit.1 one)

all_more : {A : Type 0} (P : A → Type 0) (xs : List A) (x : A) → AllByRecursion P xs → P x → AllByRecursion P (xs ++ x ∷ [])
all_more P [] x h p = (p, tt)
all_more P (y ∷ xs) x h p = (h.0, all_more P xs x h.1 p)

-- ---- the row of an INSERT

row_fits : (value : Term → Option Cell) (names : List (List ℕ)) (es : List Term) (columns : List Column) (row : List Cell)
    → row_made value names es columns ≡ Some row → IsRow columns row
row_fits value names es [] row h = let is : [] ≡ row = cc in subst (IsRow []) is refl
row_fits value names es (c ∷ columns) row h =
    let found = in_front_some (held_by c (given value (term_for names es c.name))) (row_made value names es columns) row h in
    let stands = held_stands c (given value (term_for names es c.name)) found.0 found.2 in
    subst (IsRow (c ∷ columns)) found.4 (fitting_row c columns found.0 found.1 stands.0 stands.1 (row_fits value names es columns found.1 found.3))

-- ---- a bindings on the way

abbrev both_rows : Option (List Cell) → Option (List Cell) → Option (List Cell)
both_rows row other = first_of row other

record IsKept (base : UpdateConflict) (first : List Cell) (bindings : Bindings) : Type 0 where
  new : IsRow base.table.columns bindings.new
  key : key_of base.table.key bindings.new ≡ key_of base.table.key first
  inserts : ChangesFit base.catalog base.rows bindings.inserts
  inserted : AllByRecursion IsInserted bindings.inserts
  rows : (place : Place) → get (applied base.catalog bindings.inserts base.rows) place ≡ both_rows (get base.rows place) (get bindings.added place)

module _ (base : UpdateConflict) (first : List Cell) where
  abbrev Kept : Bindings → Type 0
  Kept bindings = IsKept base first bindings

  -- SET
  set_keeps : (trigger : CreateTrigger) (alias : Option (List ℕ)) (name : List ℕ) (v : Option Cell) (bindings s : Bindings) → Kept bindings
      → after_set base trigger alias name v bindings ≡ Some s → Kept s
  unfolding after_set
  set_keeps trigger None name v bindings s k h =
      let found = map_some (λ values. record bindings { variables = values }) (variables_set trigger name v bindings.variables) s h in
      let kept : Kept (record bindings { variables = found.0 }) = record { new = k.new; key = k.key; inserts = k.inserts; inserted = k.inserted; rows = k.rows } in
      subst Kept found.2 kept
  set_keeps trigger (Some alias) name v bindings s k h = go (is_new (image_of trigger.aliases alias)) (has (key_names base.table) name) refl h where
    made : (f : Bool) → has (key_names base.table) name ≡ f → f ≡ false
        → option_map (λ row. record bindings { new = row }) (new_set base.table name v bindings.new) ≡ Some s → Kept s
    made f e none g =
        let found = map_some (λ row. record bindings { new = row }) (new_set base.table name v bindings.new) s g in
        let place = then_some (λ p. option_map (set_at bindings.new p) (option_and_then (λ c. held_by c v) (slice_get base.table.columns p)))
        (place_named column_name name base.table.columns) found.0 found.1 in
        let value = map_some (set_at bindings.new place.0) (option_and_then (λ c. held_by c v) (slice_get base.table.columns place.0)) found.0 place.2 in
        let at = then_some (λ c. held_by c v) (slice_get base.table.columns place.0) value.0 value.1 in
        let stands = held_stands at.0 v value.0 at.2 in
        let fits : IsRow base.table.columns (set_at bindings.new place.0 value.0) = set_fits base.table.columns bindings.new place.0 at.0 value.0 k.new at.1 stands in
        let same = key_kept base.table name bindings.new place.0 at.0 value.0 place.1 at.1 (e ∙ none) ∙ k.key in
        let kept : Kept (record bindings { new = set_at bindings.new place.0 value.0 }) =
        record { new = fits; key = same; inserts = k.inserts; inserted = k.inserted; rows = k.rows } in
        subst Kept (ap (λ row. record bindings { new = row }) value.2 ∙ found.2) kept

    go : (n f : Bool) → has (key_names base.table) name ≡ f
        → cond (n && not f) (option_map (λ row. record bindings { new = row }) (new_set base.table name v bindings.new)) None ≡ Some s → Kept s
    go false f e g = cc
    go true true e g = cc
    go true false e g = made false e refl g

  -- INSERT
  held_none : (a b : Option (List Cell)) → (is_some a || is_some b) ≡ false → (a ≡ None) × (b ≡ None)
  held_none None None h = (refl, refl)
  held_none None (Some b) h = cc
  held_none (Some a) b h = cc

  module _ (table : Table) (named : table_named base.catalog table.name
      ≡ Some table) (row : List Cell) (bindings : Bindings) (k : Kept bindings) (fits : IsRow table.columns row)
      (free : is_held base bindings (place_of table row) ≡ false) where
    abbrev there : Place
    there = place_of table row

    abbrev before : RowMap
    before = applied base.catalog bindings.inserts base.rows

    gone : (get base.rows there ≡ None) × (get bindings.added there ≡ None)
    gone = held_none (get base.rows there) (get bindings.added there) free

    empty_there : get before there ≡ None
    empty_there = k.rows there ∙ ap (λ o. both_rows o (get bindings.added there)) gone.0 ∙ gone.1

    rows_after : applied base.catalog (bindings.inserts ++ insertion table row ∷ []) base.rows ≡ insert before there row
    rows_after = applied_more base.catalog bindings.inserts base.rows (insertion table row) ∙ ap (λ o. applied_in o (insertion table row) before) named

    at_place : (place : Place) (b : Bool) → eq_by_cmp place_cmp place there ≡ b
        → cond b (Some row) (get before place) ≡ both_rows (get base.rows place) (cond b (Some row) (get bindings.added place))
    at_place place false e = k.rows place
    at_place place true e =
        let same = exact_places place there ((Equal-is (place_cmp place there)).0 e) in
        sym (ap (λ o. both_rows o (Some row)) (ap (get base.rows) same ∙ gone.0))

    rows_kept : (place : Place) → get (applied base.catalog (bindings.inserts ++ insertion table row ∷ []) base.rows) place
        ≡ both_rows (get base.rows place) (get (insert bindings.added there row) place)
    rows_kept place =
        ap (λ (m : RowMap). get m place) rows_after ∙ get-insert place_cmp_total before there row place ∙ at_place place (eq_by_cmp place_cmp place there) refl
        ∙ sym (ap (λ o. both_rows (get base.rows place) o) (get-insert place_cmp_total bindings.added there row place))

    put_keeps : Kept (record bindings { added = insert bindings.added there row; inserts = bindings.inserts ++ insertion table row ∷ [] })
    put_keeps = record {
      new = k.new;
      key = k.key;
      inserts = fit_more base.catalog bindings.inserts base.rows (insertion table row) k.inserts
          (record { table = table; named = named; key = key_of table.key row; held = empty_there; fits = (fits, refl) });
      inserted = all_more IsInserted bindings.inserts (insertion table row) k.inserted (refl, refl);
      rows = rows_kept;
    }

  -- a bindings with a row inserted
  abbrev with_row_added : Table → List Cell → Bindings → Bindings
  with_row_added table row bindings = record bindings { added = insert bindings.added (place_of table row) row; inserts = bindings.inserts ++ insertion table row ∷ [] }

  with_keeps : (table : Table) → table_named base.catalog table.name ≡ Some table → (row : List Cell) (bindings s : Bindings) → Kept bindings → IsRow table.columns row
      → with_inserted base table row bindings ≡ Some s → Kept s
  with_keeps table named row bindings s k fits h = go (is_held base bindings (place_of table row)) refl h where
    go : (b : Bool) → is_held base bindings (place_of table row) ≡ b → cond b None (Some (with_row_added table row bindings)) ≡ Some s → Kept s
    go true e g = cc
    go false e g = let is : with_row_added table row bindings ≡ s = cc in subst Kept is (put_keeps table named row bindings k fits e)

  insert_keeps : (trigger : CreateTrigger) (name : List ℕ) (columns : List (List ℕ)) (es : List Term) (bindings s : Bindings) → Kept bindings
      → after_insert base trigger name columns es bindings ≡ Some s → Kept s
  unfolding after_insert
  insert_keeps trigger name columns es bindings s k h =
      let made : Table → Option (List Cell) = λ table. row_made (value_in base trigger bindings) (names_of table.columns columns) es table.columns in
      let into = then_some (λ table. option_and_then (λ row. with_inserted base table row bindings) (made table)) (table_named base.catalog name) s h in
      let row = then_some (λ row. with_inserted base into.0 row bindings) (made into.0) s into.2 in
      with_keeps into.0 (own_name base.catalog name into.0 into.1) row.0 bindings s k
      (row_fits (value_in base trigger bindings) (names_of into.0.columns columns) es into.0.columns row.0 row.1) row.2

  -- actions
  module _ (trigger : CreateTrigger) where
    acted_keeps : (actions : Chain) (bindings s : Bindings) → Kept bindings → acted base trigger actions bindings ≡ Some s → Kept s
    acted_keeps done bindings s k h = let is : bindings ≡ s = cc in subst Kept is k
    acted_keeps (set alias name e rest) bindings s k h =
        let one = then_some (acted base trigger rest) (after_set base trigger alias name (value_in base trigger bindings e) bindings) s h in
        acted_keeps rest one.0 s (set_keeps trigger alias name (value_in base trigger bindings e) bindings one.0 k one.1) one.2
    acted_keeps (put table columns es rest) bindings s k h =
        let one = then_some (acted base trigger rest) (after_insert base trigger table columns es bindings) s h in
        acted_keeps rest one.0 s (insert_keeps trigger table columns es bindings one.0 k one.1) one.2
    acted_keeps (when e taken rest) bindings s k h =
        let one = then_some (acted base trigger rest) (branch (truth_in base trigger bindings e) (acted base trigger taken bindings) (Some bindings)) s h in
        acted_keeps rest one.0 s (branches (truth_in base trigger bindings e) (acted base trigger taken bindings) (Some bindings) one.0
        (λ b. acted_keeps taken bindings one.0 k b) (λ b. let is : bindings ≡ one.0 = cc in subst Kept is k) one.1) one.2 where
          branches : (t : Option Bool) (p q : Option Bindings) (x : Bindings) → (p ≡ Some x → Kept x) → (q ≡ Some x → Kept x) → branch t p q ≡ Some x → Kept x
          branches None p q x f g b = cc
          branches (Some true) p q x f g b = f b
          branches (Some false) p q x f g b = g b
    acted_keeps (choose e taken other rest) bindings s k h =
        let one = then_some (acted base trigger rest) (branch (truth_in base trigger bindings e) (acted base trigger taken bindings)
        (acted base trigger other bindings)) s h in
        acted_keeps rest one.0 s (branches (truth_in base trigger bindings e) (acted base trigger taken bindings) (acted base trigger other bindings) one.0
        (λ b. acted_keeps taken bindings one.0 k b) (λ b. acted_keeps other bindings one.0 k b) one.1) one.2 where
          branches : (t : Option Bool) (p q : Option Bindings) (x : Bindings) → (p ≡ Some x → Kept x) → (q ≡ Some x → Kept x) → branch t p q ≡ Some x → Kept x
          branches None p q x f g b = cc
          branches (Some true) p q x f g b = f b
          branches (Some false) p q x f g b = g b

  -- triggers
  trigger_keeps : (o : Option CreateTrigger) (bindings s : Bindings) → Kept bindings → after_trigger base o bindings ≡ Some s → Kept s
  trigger_keeps None bindings s k h = let is : bindings ≡ s = cc in subst Kept is k
  trigger_keeps (Some trigger) bindings s k h =
      let kept : Kept (entered trigger bindings) = record { new = k.new; key = k.key; inserts = k.inserts; inserted = k.inserted; rows = k.rows } in
      acted_keeps trigger trigger.actions (entered trigger bindings) s kept h

  triggers_keep : (differing : List (List ℕ)) (triggers : List Trigger) (bindings s : Bindings) → Kept bindings
      → after_triggers base differing triggers bindings ≡ Some s → Kept s
  triggers_keep differing [] bindings s k h = let is : bindings ≡ s = cc in subst Kept is k
  triggers_keep differing (t ∷ triggers) bindings s k h =
      let one = then_some (after_triggers base differing triggers) (after_trigger base (firing base.table.name differing t) bindings) s h in
      triggers_keep differing triggers one.0 s (trigger_keeps (firing base.table.name differing t) bindings one.0 k one.1) one.2

  -- the beginning and the end
  or_none : (o : Option (List Cell)) → o ≡ both_rows o None
  or_none None = refl
  or_none (Some x) = refl

  begins : IsRow base.table.columns first → Kept (first_bindings first)
  begins fits = record {
    new = fits;
    key = refl;
    inserts = tt;
    inserted = tt;
    rows = λ place. or_none (get base.rows place) ∙ sym (ap (λ o. both_rows (get base.rows place) o) (get-empty place_cmp place));
  }

  ends : (s : Bindings) → Kept s → IsLeft base first (left s)
  ends s k = record {
    new = k.new;
    key = k.key;
    inserts = k.inserts;
    inserted = k.inserted;
    stay = λ place row h. k.rows place ∙ ap (λ o. both_rows o (get s.added place)) h;
  }

pub leaves : (base : UpdateConflict) (differing : List (List ℕ)) (new : List Cell) (f : Fired) → IsRow base.table.columns new
    → fired base differing new ≡ Some f → IsLeft base new f
unfolding fired
leaves base differing new f fits h =
    let found = map_some left (after_triggers base differing base.catalog.triggers (first_bindings new)) f h in
    subst (IsLeft base new) found.2
    (ends base new found.0 (triggers_keep base new differing base.catalog.triggers (first_bindings new) found.0 (begins base new fits) found.1))
