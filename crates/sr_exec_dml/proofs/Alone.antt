-- What a statement comes to whose condition fixes the key: by the row under it, and by what becomes of that row.
use Rattle.std.proofs.Common.{◌≡◌, Bool, true, false, cond, List, [], ◌∷◌, ℕ, Option, Some, None, Result, Ok, Err, refl, sym, ap, subst, ◌∙◌}
use Rattle.std.specs.Ordering.{is_eq}
use Rattle.std.specs.List.Sorted.{IsStrictlySortedBy}
use Rattle.std.specs.Map.{lookup}
use Rattle.std.specs.BTreeMap.{is_at}
use Rattle.sr_base.specs.Order.{key_cmp}
use Rattle.sr_ast.specs.declared.expr.Expr.{Expr}
use Rattle.sr_eval.specs.Inner.Laws.{AndIsBoth}
use Rattle.sr_rows.specs.Marks.{RowMap, rows_of_table}
use Rattle.sr_rows.specs.Walks.{table_rows}
use Rattle.sr_catalog_schema.specs.declared.table.Table.{Table}
use Rattle.sr_catalog_schema.specs.declared.fault.DmlFault.{DmlFault}
use Rattle.sr_exec_dml.specs.declared.changes.Changes.{Changes}
use Rattle.sr_exec_dml.specs.declared.edit.Edit.TheVariants.{Gone, Moved}
use Rattle.sr_exec_dml.specs.declared.effect.RowEffect.{RowEffect}
use Rattle.sr_exec_dml.specs.declared.effect.RowEffect.TheVariants.{Stays, Goes, Becomes}
use Rattle.sr_exec_dml.specs.Fitting.{TableFits}
use Rattle.sr_exec_dml.specs.Inner.Edits.{AreEdits, edit_at, with_pick, with_edit, picks_of, one_pick}
use Rattle.sr_exec_where.specs.Inner.Fixing.{only_key}
use Rattle.sr_exec_dml.specs.Holding.{with_change}
use Rattle.sr_exec_dml.specs.Sequences.{followed}
use Rattle.sr_exec_dml.specs.Statements.{counted, effect_of, effects_of, moved}
use Rattle.sr_exec_where.specs.Keys.{key_of}
use Rattle.sr_exec_dml.proofs.Effects.{moved_are, moved_fault}
use Rattle.sr_exec_dml.proofs.Picked.{only_picks}
use Rattle.sr_exec_dml.proofs.Folding.{Key}

-- the edits of one key
none_sorted : IsStrictlySortedBy key_cmp []
unfolding IsStrictlySortedBy
none_sorted = tt

one_sorted : (k : Key) → IsStrictlySortedBy key_cmp (k ∷ [])
unfolding IsStrictlySortedBy
one_sorted k = (tt, tt)

gone : (k : Key) → AreEdits (λ q. lookup (is_at (key_cmp q)) ((k, Gone) ∷ [])) (k ∷ []) []
gone k q = go (is_eq (key_cmp q k)) where
  go : (b : Bool) → cond b (Some Gone) None ≡ edit_at (cond b true false) []
  go true = refl
  go false = refl

changed : (k row : Key) → AreEdits (λ q. lookup (is_at (key_cmp q)) ((k, Moved row) ∷ [])) (k ∷ []) ((k, row) ∷ [])
changed k row q = go (is_eq (key_cmp q k)) where
  go : (b : Bool) → cond b (Some (Moved row)) None ≡ edit_at (cond b true false) (cond b (row ∷ []) [])
  go true = refl
  go false = refl

module _ (table : Table) (rows : RowMap) (sets : Option (List (List ℕ × Expr))) (condition : Option Expr) (key : Key) (both : AndIsBoth) (fits : TableFits table rows) (fixed : only_key table condition ≡ Some key) where
  -- what the statement comes to
  abbrev pub meant : Result Changes DmlFault
  meant = followed (effects_of table sets condition (table_rows rows table.name)) (moved table (table_rows rows table.name))

  picked_of : (o : Option Key) → rows_of_table rows table.name key ≡ o → picks_of table sets condition (table_rows rows table.name) ≡ one_pick table sets condition key o
  picked_of o is = only_picks table rows sets condition key both fits fixed ∙ ap (one_pick table sets condition key) is

  nothing : picks_of table sets condition (table_rows rows table.name) ≡ Ok [] → meant ≡ Ok (record { list = []; count = 0 })
  nothing is = moved_are table rows sets condition [] is [] none_sorted (λ q. refl)

  pub not_there : rows_of_table rows table.name key ≡ None → meant ≡ Ok (record { list = []; count = 0 })
  not_there is = nothing (picked_of None is)

  module _ (row : Key) (held : rows_of_table rows table.name key ≡ Some row) where
    pub picked_by : (effect : Result RowEffect DmlFault) → effect_of table sets condition row ≡ effect → picks_of table sets condition (table_rows rows table.name) ≡ with_pick key effect (Ok [])
    picked_by effect is = picked_of (Some row) held ∙ ap (λ f. with_pick key f (Ok [])) is

    pub it_faults : (fault : DmlFault) → effect_of table sets condition row ≡ Err fault → meant ≡ Err fault
    it_faults fault is = moved_fault table rows sets condition fault (picked_by (Err fault) is)

    pub it_stays : effect_of table sets condition row ≡ Ok Stays → meant ≡ Ok (record { list = []; count = 0 })
    it_stays is = nothing (picked_by (Ok Stays) is)

    pub it_goes : effect_of table sets condition row ≡ Ok Goes → meant ≡ Ok (record { list = with_change table.name (Some row) None []; count = 1 })
    it_goes is =
        moved_are table rows sets condition ((key, None) ∷ []) (picked_by (Ok Goes) is) ((key, Gone) ∷ []) (one_sorted key) (gone key)
        ∙ ap (λ o. followed (with_edit table.name key o Gone (Ok [])) (counted 1)) held

    pub it_becomes : (new : Key) → effect_of table sets condition row ≡ Ok (Becomes new) → key_of table.key row ≡ key_of table.key new
        → meant ≡ Ok (record { list = with_change table.name (Some row) (Some new) []; count = 1 })
    it_becomes new is same =
        let kept : key ≡ key_of table.key new = sym (fits key row held).1 ∙ same in
        moved_are table rows sets condition ((key, Some new) ∷ []) (picked_by (Ok (Becomes new)) is) ((key, Moved new) ∷ []) (one_sorted key)
        (subst (λ (k : Key). AreEdits (λ q. lookup (is_at (key_cmp q)) ((key, Moved new) ∷ [])) (key ∷ []) ((k, new) ∷ [])) kept (changed key new))
        ∙ ap (λ o. followed (with_edit table.name key o (Moved new) (Ok [])) (counted 1)) held
