-- The row that a conflict met.
use Rattle.std.proofs.Common.{◌≡◌, ◌++◌, List, [], ◌∷◌, Some, sym, ap, subst, ◌∙◌}
use Rattle.sr_base.specs.declared.value.Value.{Value as Cell}
use Rattle.sr_book.specs.Entries.{Name}
use Rattle.sr_exec_dml.specs.Applying.{applied_in, applied}
use Rattle.sr_exec_dml.specs.FittingChanges.{IsFitChange, ChangesFit}
use Rattle.sr_exec_where.specs.Keys.{key_of}
use Rattle.sr_exec_dml.specs.Statements.{table_named}
use Rattle.sr_logform.specs.declared.change.Change.{Change}
use Rattle.sr_logform.specs.declared.op.Op.TheVariants.{Set}
use Rattle.sr_rows.specs.Marks.{RowMap, rows_of_table}
use Rattle.sr_catalog_schema.specs.Catalogs.{Lists}
use Rattle.sr_catalog_schema.specs.declared.table.Table.{Table}
use Rattle.sr_database_history.specs.Recorded.{conflict}
use Rattle.sr_database_history.specs.Folds.{State, row_change}
use Rattle.sr_database_history.specs.Fitting.{IsNamedKey, DoneFits}

-- the last of changes that fit fits the rows that the others leave
last_fits : (catalog : Lists) (changes : List Change) (rows : RowMap) (c : Change) → ChangesFit catalog rows (changes ++ c ∷ [])
    → IsFitChange catalog (applied catalog changes rows) c
last_fits catalog [] rows c fit = fit.0
last_fits catalog (d ∷ changes) rows c fit = last_fits catalog changes (applied_in (table_named catalog d.table) d rows) c fit.1

pub met : (s : State) (table : Name) (columns : List (Name × Cell)) (values : List (Name × Cell × Cell)) (inserts : List Change) (before after : List Cell)
    → DoneFits s (conflict (Set table columns values) inserts before after)
    → (t : Table) × (key : List Cell) × (table_named s.catalog table ≡ Some t) × IsNamedKey t columns key
    × (rows_of_table (applied s.catalog inserts s.rows) table key ≡ Some before) × (key_of t.key after ≡ key)
met s table columns values inserts before after fits =
    let rows = fits.outcome.1 in
    let last = last_fits s.catalog inserts s.rows (row_change (Set table columns values) before after) fits.changes in
    let found : Some last.table ≡ Some rows.table = sym last.named ∙ rows.named in
    let one : last.table ≡ rows.table = cc in
    let same : last.key ≡ rows.key = sym last.fits.1 ∙ ap (λ (t : Table). key_of t.key after) one ∙ rows.key_after in (
      rows.table,
      rows.key,
      rows.named,
      rows.meant,
      subst (λ (key : List Cell). rows_of_table (applied s.catalog inserts s.rows) table key ≡ Some before) same last.held,
      rows.key_after,
    )
