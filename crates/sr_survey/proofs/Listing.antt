-- A place is listed under the keys of rows and of entries.
use Rattle.std.proofs.Common.{◌≡◌, true, false, cond, List, [], ◌∷◌, ◌++◌, Some, None, filter_map, sym, ap, subst, ◌∙◌}
use Rattle.std.specs.List.{list_any, cons_option}
use Rattle.sr_base.specs.declared.value.Value.{Value as Cell}
use Rattle.sr_book.specs.Entries.{Name}
use Rattle.sr_catalog_schema.specs.Catalogs.{Lists}
use Rattle.sr_catalog_schema.specs.declared.publication.Article.{Article}
use Rattle.sr_catalog_schema.specs.declared.table.Table.{Table}
use Rattle.sr_exec_dml.specs.Statements.{table_named}
use Rattle.sr_exec_fits.specs.Rows.{is_row}
use Rattle.sr_logform.specs.declared.change.Change.{Change}
use Rattle.sr_logform.specs.declared.op.Op.{Op}
use Rattle.sr_logform.specs.declared.outcome.Outcome.{Outcome}
use Rattle.sr_survey.specs.Inner.Concerning.{has_run, back_key, ops_keys, taken_keys}
use Rattle.sr_survey.specs.Inner.Keyed.{article_key, routes_of, row_keys, keys_if, change_keys_in, change_keys}
use Rattle.sr_survey_places.proofs.Joined.{listed_none}
use Rattle.sr_survey_places.specs.Inner.Listed.{ByKey, IsListedUnder}
use Rattle.sr_survey_places.specs.declared.key.Key.{Key}
use Rattle.sr_survey_places.specs.declared.key.Key.TheVariants as keyed
use Rattle.sr_survey_places.specs.declared.place.Place.{Place}

pub listed_as : (a b : ByKey) (p : Place) (ks js : List Key) → ks ≡ js → IsListedUnder a ks p b → IsListedUnder a js p b
listed_as a b p ks js e h = subst (λ xs. IsListedUnder a xs p b) e h

pub route_none : (m : ByKey) (p : Place) (t : Table) (row : List Cell) (route : Name × Article) → article_key t row route ≡ None → IsListedUnder m (filter_map (article_key t row) (route ∷ [])) p m
route_none m p t row route e = listed_as m m p [] (cons_option (article_key t row route) []) (ap (λ o. cons_option o []) (sym e)) (listed_none m p)

pub route_some : (a b : ByKey) (p : Place) (t : Table) (row : List Cell) (route : Name × Article) (k : Key) → article_key t row route ≡ Some k → IsListedUnder a (k ∷ []) p b → IsListedUnder a (filter_map (article_key t row) (route ∷ [])) p b
route_some a b p t row route k e h = listed_as a b p (k ∷ []) (cons_option (article_key t row route) []) (ap (λ o. cons_option o []) (sym e)) h

pub row_none : (m : ByKey) (p : Place) (t : Table) (routes : List (Name × Article)) (row : List Cell) → is_row t.columns row ≡ false → IsListedUnder m (row_keys t routes row) p m
row_none m p t routes row e = listed_as m m p [] (row_keys t routes row) (ap (λ b. cond b (filter_map (article_key t row) routes) []) (sym e)) (listed_none m p)

pub row_some : (a b : ByKey) (p : Place) (t : Table) (routes : List (Name × Article)) (row : List Cell) → is_row t.columns row ≡ true → IsListedUnder a (filter_map (article_key t row) routes) p b → IsListedUnder a (row_keys t routes row) p b
row_some a b p t routes row e h = listed_as a b p (filter_map (article_key t row) routes) (row_keys t routes row) (ap (λ x. cond x (filter_map (article_key t row) routes) []) (sym e)) h

pub change_none : (m : ByKey) (p : Place) (c : Lists) (ch : Change) → table_named c ch.table ≡ None → IsListedUnder m (change_keys c ch) p m
change_none m p c ch e = listed_as m m p [] (change_keys c ch) (ap (λ o. change_keys_in o (routes_of c ch.table) ch) (sym e)) (listed_none m p)

pub change_some : (a b : ByKey) (p : Place) (c : Lists) (ch : Change) (t u : Table) (routes : List (Name × Article)) → table_named c ch.table ≡ Some t → u ≡ t → routes ≡ routes_of c ch.table
    → IsListedUnder a (keys_if u routes ch.before ++ keys_if u routes ch.after) p b → IsListedUnder a (change_keys c ch) p b
change_some a b p c ch t u routes named is are h =
    listed_as a b p (keys_if u routes ch.before ++ keys_if u routes ch.after) (change_keys c ch)
    (ap (λ (x : Table). keys_if x routes ch.before ++ keys_if x routes ch.after) is ∙ ap (λ rs. keys_if t rs ch.before ++ keys_if t rs ch.after) are
    ∙ ap (λ o. change_keys_in o (routes_of c ch.table) ch) (sym named)) h

pub taken_run : (a b : ByKey) (p : Place) (c : Lists) (from : Name) (ops : List (Op × Outcome)) → list_any has_run ops ≡ true → IsListedUnder a (keyed.Each ∷ []) p b → IsListedUnder a (taken_keys c from ops) p b
taken_run a b p c from ops e h = listed_as a b p (keyed.Each ∷ []) (taken_keys c from ops) (ap (λ x. cond x (keyed.Each ∷ []) (back_key from ops ∷ ops_keys c ops)) (sym e)) h

pub taken_told : (a b : ByKey) (p : Place) (c : Lists) (from : Name) (ops : List (Op × Outcome)) → list_any has_run ops ≡ false → IsListedUnder a (back_key from ops ∷ ops_keys c ops) p b → IsListedUnder a (taken_keys c from ops) p b
taken_told a b p c from ops e h = listed_as a b p (back_key from ops ∷ ops_keys c ops) (taken_keys c from ops) (ap (λ x. cond x (keyed.Each ∷ []) (back_key from ops ∷ ops_keys c ops)) (sym e)) h
