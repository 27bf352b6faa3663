-- Where a condition fixes the key, the row under it is all that is picked.
use Rattle.std.proofs.Common.{◌≡◌, Bool, true, false, cond, ℕ, List, [], ◌∷◌, Option, Some, None, IsSome, Result, Ok, IsTrue, refl, sym, ap, ◌∙◌}
use Rattle.std.specs.List.{AllByRecursion}
use Rattle.std.specs.Ordering.{is_eq}
use Rattle.sr_base.specs.Order.{key_cmp}
use Rattle.sr_ast.specs.Exprs.{term_of}
use Rattle.sr_ast.specs.declared.expr.Expr.{Expr}
use Rattle.sr_ast.specs.Uses.{is_plain}
use Rattle.sr_eval.specs.Inner.Laws.{AndIsBoth}
use Rattle.sr_eval.specs.Meanings.{Meaning, meaning, is_true}
use Rattle.sr_eval.proofs.Plain.{plain_have_values}
use Rattle.sr_rows.specs.Marks.{RowMap, rows_of_table}
use Rattle.sr_rows.specs.Walks.{Entry, table_rows}
use Rattle.sr_rows.specs.Inner.Walks.{Rises}
use Rattle.sr_rows.proofs.Listing.{each_found, get-table_rows, table_rows-rise}
use Rattle.sr_catalog_schema.specs.declared.table.Table.{Table}
use Rattle.sr_catalog_schema.specs.declared.fault.DmlFault.{DmlFault}
use Rattle.sr_catalog_schema.specs.Members.{scope_of}
use Rattle.sr_exec_fits.specs.Rows.{IsRow}
use Rattle.sr_exec_where.specs.Inner.Fixing.{fixed_key, only_key}
use Rattle.sr_exec_where.specs.Keys.{key_of}
use Rattle.sr_exec_where.proofs.Fixed.{key_is}
use Rattle.sr_exec_dml.specs.declared.effect.RowEffect.TheVariants.{Stays}
use Rattle.sr_exec_dml.specs.Fitting.{TableFits}
use Rattle.sr_exec_dml.specs.Inner.Edits.{with_pick, picks_of, one_pick}
use Rattle.sr_exec_dml.specs.Holding.{under, one_of}
use Rattle.sr_exec_dml.specs.Sequences.{followed}
use Rattle.sr_exec_dml.specs.Statements.{tested, effect_selected, effect_if, effect_of}
use Rattle.sr_exec_dml.proofs.Folding.{Key, same_key, itself}
use Rattle.sr_exec_dml.proofs.Outcomes.{above_same, row_under}

false_stays : (o : Option Meaning) → IsSome o → is_true o ≡ false → tested o ≡ Ok false
false_stays None s h = cc
false_stays (Some m) s h = ap (λ (b : Bool). let r : Result Bool DmlFault = Ok b in r) h

module _ (table : Table) (sets : Option (List (List ℕ × Expr))) (e : Expr) (plain : IsTrue (is_plain (term_of e))) (and_is_both : AndIsBoth) (key : Key) (fixed : fixed_key table (term_of e) table.key ≡ Some key) where
  -- a row under another key is not selected
  other_stays : (k row : Key) → IsRow table.columns row → key_of table.key row ≡ k → is_eq (key_cmp key k) ≡ false → effect_of table sets (Some e) row ≡ Ok Stays
  other_stays k row f under_k apart = go (is_true (meaning (scope_of table) row (term_of e))) refl where
    go : (b : Bool) → is_true (meaning (scope_of table) row (term_of e)) ≡ b → effect_of table sets (Some e) row ≡ Ok Stays
    go true h = let is : key ≡ k = sym (key_is table row f and_is_both (term_of e) h table.key key fixed) ∙ under_k in let here : is_eq (key_cmp key k) ≡ true = ap (λ j. is_eq (key_cmp key j)) (sym is) ∙ itself key in cc
    go false h = ap (λ s. followed s (λ is_selected. effect_if is_selected (effect_selected table sets row))) (false_stays (meaning (scope_of table) row (term_of e)) (plain_have_values (scope_of table) row (term_of e) plain) h)

  -- so the row under the key is all that is picked
  pub fixed_picks : (es : List Entry) → Rises key_cmp es → AllByRecursion (λ x. IsRow table.columns x.1 × (key_of table.key x.1 ≡ x.0)) es → picks_of table sets (Some e) es ≡ one_pick table sets (Some e) key (one_of (under key es))
  fixed_picks [] r f = refl
  fixed_picks (x ∷ es) r f = go (is_eq (key_cmp key x.0)) refl (fixed_picks es r.1 f.1) where
    go : (b : Bool) → is_eq (key_cmp key x.0) ≡ b → picks_of table sets (Some e) es ≡ one_pick table sets (Some e) key (one_of (under key es))
        → with_pick x.0 (effect_of table sets (Some e) x.1) (picks_of table sets (Some e) es) ≡ one_pick table sets (Some e) key (one_of (cond b (x.1 ∷ under key es) (under key es)))
    go true h rest =
        let none : picks_of table sets (Some e) es ≡ Ok [] = rest ∙ ap (λ rows. one_pick table sets (Some e) key (one_of rows)) (above_same key x.0 es h r.0) in
        ap (with_pick x.0 (effect_of table sets (Some e) x.1)) none ∙ ap (λ k. with_pick k (effect_of table sets (Some e) x.1) (Ok [])) (sym (same_key key x.0 h))
    go false h rest = ap (λ effect. with_pick x.0 effect (picks_of table sets (Some e) es)) (other_stays x.0 x.1 f.0.0 f.0.1 h) ∙ rest

each_by : {P Q : Entry → Type 0} (es : List Entry) → ((x : Entry) → P x → Q x) → AllByRecursion P es → AllByRecursion Q es
each_by [] f h = tt
each_by (e ∷ es) f h = (f e h.0, each_by es f h.1)

-- the same of the rows of a table
pub only_picks : (table : Table) (rows : RowMap) (sets : Option (List (List ℕ × Expr))) (condition : Option Expr) (key : Key) → AndIsBoth → TableFits table rows → only_key table condition ≡ Some key
    → picks_of table sets condition (table_rows rows table.name) ≡ one_pick table sets condition key (rows_of_table rows table.name key)
only_picks table rows sets None key both fits h = cc
only_picks table rows sets (Some e) key both fits h = go (is_plain (term_of e)) refl h where
  go : (b : Bool) → is_plain (term_of e) ≡ b → cond b (fixed_key table (term_of e) table.key) None ≡ Some key → picks_of table sets (Some e) (table_rows rows table.name) ≡ one_pick table sets (Some e) key (rows_of_table rows table.name key)
  go false p k = cc
  go true p k =
      fixed_picks table sets e p both key k (table_rows rows table.name) (table_rows-rise rows table.name)
      (each_by (table_rows rows table.name) (λ x f. fits x.0 x.1 (get-table_rows rows table.name x.0 ∙ f)) (each_found (table_rows rows table.name) (table_rows-rise rows table.name)))
      ∙ ap (one_pick table sets (Some e) key) (sym (row_under rows table.name key))
