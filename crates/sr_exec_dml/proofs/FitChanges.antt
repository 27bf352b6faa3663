-- The changes of a statement fit the rows.
use Rattle.std.proofs.Common.{◌≡◌, ◌++◌, Bool, true, false, cond, map, List, [], ◌∷◌, Option, Some, None, Ok, refl, ap, subst, ◌∙◌}
use Rattle.std.specs.List.{AllByRecursion}
use Rattle.std.specs.Ordering.{is_eq}
use Rattle.std.specs.declared.cmp.Ordering.TheVariants.{Less}
use Rattle.std.specs.FinMap.{get}
use Rattle.sr_base.specs.Order.{key_cmp}
use Rattle.sr_rows.specs.Marks.{RowMap}
use Rattle.sr_rows.specs.Walks.{Entry, table_rows}
use Rattle.sr_logform.specs.declared.change.Change.{Change}
use Rattle.sr_catalog_schema.specs.Catalogs.{Lists}
use Rattle.sr_catalog_schema.specs.declared.table.Table.{Table}
use Rattle.sr_exec_dml.specs.declared.effect.RowEffect.{RowEffect}
use Rattle.sr_exec_dml.specs.declared.effect.RowEffect.TheVariants.{Stays, Goes, Becomes}
use Rattle.sr_exec_dml.specs.Applying.{applied_in}
use Rattle.sr_exec_dml.specs.Fitting.{TableFits}
use Rattle.sr_exec_fits.specs.Rows.{IsRow}
use Rattle.sr_exec_dml.specs.FittingChanges.{FitsAt, ChangesFit}
use Rattle.sr_exec_dml.specs.Holding.{under, one_of, keys_of, doubled, changes_at, changes_of, held}
use Rattle.sr_logform.specs.Outcomes.{is_same_row}
use Rattle.sr_exec_dml.specs.Inner.Laws.{StandUnderKeys}
use Rattle.sr_exec_dml.specs.Statements.{entry_of, staying, becoming, table_named}
use Rattle.sr_exec_dml.proofs.Afterwards.{stands, all_stand, changed_at}
use Rattle.sr_exec_dml.proofs.Differing.{undoubled-Ok, change_at}
use Rattle.sr_exec_dml.proofs.Folding.{Key, Rise, turned}
use Rattle.sr_exec_dml.proofs.Keeping.{AllFit}
use Rattle.sr_exec_dml.proofs.Outcomes.{row_under, keys_of-rise}

one_fits : (table : Table) (key : Key) (es : List Entry) → AllFit table es → (row : Key) → one_of (under key es) ≡ Some row → IsRow table.columns row
one_fits table key [] f row h = cc
one_fits table key (e ∷ es) f row h = go (is_eq (key_cmp key e.0)) h (one_fits table key es f.1 row) where
  go : (b : Bool) → one_of (cond b (e.1 ∷ under key es) (under key es)) ≡ Some row → (one_of (under key es) ≡ Some row → IsRow table.columns row) → IsRow table.columns row
  go true k rest = let is : e.1 ≡ row = cc in subst (IsRow table.columns) is f.0
  go false k rest = rest k

-- rows that stand under their keys
pub both_stand : (table : Table) (xs ys : List Entry) → StandUnderKeys table xs → StandUnderKeys table ys → StandUnderKeys table (xs ++ ys)
both_stand table [] ys f g = g
both_stand table (x ∷ xs) ys f g = (f.0, both_stand table xs ys f.1 g)

pub entries_stand : (table : Table) (rows : List Key) → StandUnderKeys table (map (entry_of table) rows)
entries_stand table [] = tt
entries_stand table (row ∷ rows) = (refl, entries_stand table rows)

staying_stand : (table : Table) (es : List Entry) (effects : List RowEffect) → StandUnderKeys table es → StandUnderKeys table (staying es effects)
staying_stand table [] effects f = tt
staying_stand table (e ∷ es) [] f = tt
staying_stand table (e ∷ es) (Stays ∷ effects) f = (f.0, staying_stand table es effects f.1)
staying_stand table (e ∷ es) (Goes ∷ effects) f = staying_stand table es effects f.1
staying_stand table (e ∷ es) (Becomes row ∷ effects) f = staying_stand table es effects f.1

pub moved_stand : (table : Table) (es : List Entry) (effects : List RowEffect) → StandUnderKeys table es → StandUnderKeys table (staying es effects ++ map (entry_of table) (becoming effects))
moved_stand table es effects f = both_stand table (staying es effects) (map (entry_of table) (becoming effects)) (staying_stand table es effects f) (entries_stand table (becoming effects))

module _ (catalog : Lists) (table : Table) (named : table_named catalog table.name ≡ Some table) (before after : List Entry) (first : StandUnderKeys table before) (last : StandUnderKeys table after) (fit : AllFit table after) where
  fits_at : (k : Key) → FitsAt table k (one_of (under k after))
  fits_at k = go (one_of (under k after)) refl where
    go : (o : Option Key) → one_of (under k after) ≡ o → FitsAt table k o
    go None e = tt
    go (Some row) e = (one_fits table k after fit row e, stands table k after last row e)

  -- under each of some keys stands the row before
  abbrev StandAt : List Key → RowMap → Type 0
  StandAt ks rows = AllByRecursion (λ q. get rows (table.name, q) ≡ one_of (under q before)) ks

  -- a change at a lesser key leaves these
  stay_at : (k : Key) (ks : List Key) (rows : RowMap) → is_same_row (one_of (under k before)) (one_of (under k after)) ≡ false → AllByRecursion (λ q. key_cmp k q ≡ Less) ks → StandAt ks rows
      → StandAt ks (applied_in (table_named catalog table.name) (change_at table.name before after k) rows)
  stay_at k [] rows d h s = tt
  stay_at k (q ∷ ks) rows d h s = (
    ap (λ o. get (applied_in o (change_at table.name before after k) rows) (table.name, q)) named
        ∙ changed_at table k (one_of (under k before)) (one_of (under k after)) rows q d (stands table k before first) (stands table k after last)
        ∙ ap (λ b. cond b (one_of (under k after)) (get rows (table.name, q))) (turned k q h.0) ∙ s.0,
    stay_at k ks rows d h.1 s.1,
  )

  fit_at : (ks : List Key) (rows : RowMap) → Rise ks → StandAt ks rows → ChangesFit catalog rows (changes_at table.name before after ks)
  fit_at [] rows r s = tt
  fit_at (k ∷ ks) rows r s = go (is_same_row (one_of (under k before)) (one_of (under k after))) refl (λ rs. fit_at ks rs r.1) where
    go : (b : Bool) → is_same_row (one_of (under k before)) (one_of (under k after)) ≡ b → ((rs : RowMap) → StandAt ks rs → ChangesFit catalog rs (changes_at table.name before after ks))
        → ChangesFit catalog rows (cond b (changes_at table.name before after ks) (change_at table.name before after k ∷ changes_at table.name before after ks))
    go true e more = more rows s.1
    go false e more = (
      record { table = table; named = named; key = k; held = s.0; fits = fits_at k },
      more (applied_in (table_named catalog table.name) (change_at table.name before after k) rows) (stay_at k ks rows e r.0 s.1),
    )

-- what is held of rows that fit, and of others that do
pub held_changes_fit : (catalog : Lists) (table : Table) (rows : RowMap) (after : List Entry) (changes : List Change) → table_named catalog table.name ≡ Some table → TableFits table rows → StandUnderKeys table after → AllFit table after
    → held table.name (table_rows rows table.name) after ≡ Ok changes → ChangesFit catalog rows changes
held_changes_fit catalog table rows after changes named fits last fit h =
    let before = table_rows rows table.name in
    let ks = keys_of before after in
    subst (ChangesFit catalog rows) (undoubled-Ok (doubled before after) (changes_of table.name before after) changes h).1
    (fit_at catalog table named before after (all_stand table rows fits) last fit ks rows (keys_of-rise before after) (all ks)) where
      all : (ks : List Key) → AllByRecursion (λ q. get rows (table.name, q) ≡ one_of (under q (table_rows rows table.name))) ks
      all [] = tt
      all (k ∷ ks) = (row_under rows table.name k, all ks)
