-- Rows that are pending: each stands behind those before, and is noted before those behind.
use Rattle.std.proofs.Common.{◌≡◌, ◌≤◌, true, map, length, take, drop, ℕ, List, [], ◌∷◌, ◌++◌, Option, Some, None, IsSome, Result, Ok, Err, arith, refl, sym, ap, subst, ◌∙◌}
use Rattle.std.specs.Option.{option_copied}
use Rattle.std.proofs.lemmas.List.{length-append, take-append-le, drop-append-le}
use Rattle.std.proofs.Math.Seq.{take-length, drop-length, drop-append_seam}
use Rattle.sr_base.specs.declared.value.Value.{Value as Cell}
use Rattle.sr_ast.specs.declared.expr.Expr.{Expr}
use Rattle.sr_catalog_schema.specs.declared.fault.DmlFault.{DmlFault}
use Rattle.sr_catalog_schema.specs.declared.table.Table.{Table}
use Rattle.sr_catalog_schema.specs.Members.{scope_of}
use Rattle.sr_exec_dml.specs.declared.effect.RowEffect.{RowEffect}
use Rattle.sr_exec_dml.specs.declared.effect.RowEffect.TheVariants.{Becomes}
use Rattle.sr_exec_where.specs.declared.prepared.Prepared.{Prepared}
use Rattle.sr_exec_dml.specs.Inner.Edits.{prefixed}
use Rattle.sr_exec_dml.specs.declared.pending.Pending.{Pending}
use Rattle.sr_exec_dml.specs.Inner.Pending.{and_pending, Adds, AreWhole, Awaits}
use Rattle.sr_exec_where.specs.Inner.Preparing.{IsPrepared, resolution_in}
use Rattle.sr_exec_dml.specs.Inner.Making.{new_row, selected_at}
use Rattle.sr_exec_dml.specs.Sequences.{followed}
use Rattle.sr_exec_dml.specs.Statements.{effect_of, effect_if, effect_selected, selected}
use Rattle.sr_exec_where.specs.Keys.{key_of}
use Rattle.sr_exec_dml.specs.Storing.{updated_row}
use Rattle.sr_exec_dml.specs.Inner.Unmoving.{Counted, and_change}
use Rattle.sr_exec_dml.proofs.Readied.{selected_by, updated_by}

-- a row behind the others
module _ (table : List ℕ) (width : ℕ) (row new : List Cell) (one : length new ≡ width) (rest : Counted) where
  pub one_more_pending : (olds : List (List Cell)) (values : List Cell) → AreWhole width olds values
      → and_pending table width olds values (and_change table row (Some new) rest) ≡ and_pending table width (olds ++ row ∷ []) (values ++ new) rest
  one_more_pending [] values none =
      ap (λ v. and_change table row (Some v) rest) (sym (take-length new) ∙ ap (λ n. take n new) one ∙ ap (λ v. take width (v ++ new)) (sym none))
  one_more_pending (old ∷ olds) values h =
      (λ i. and_change table old (Some (sym (take-append-le width values new h.0) i)) (one_more_pending olds (drop width values) h.1 i))
      ∙ ap (λ v. and_change table old (Some (take width (values ++ new))) (and_pending table width (olds ++ row ∷ []) v rest)) (sym (drop-append-le width values new h.0))

-- so there are as many values for each again
module _ (width : ℕ) (row new : List Cell) (one : length new ≡ width) where
  pub one_more_whole : (olds : List (List Cell)) (values : List Cell) → AreWhole width olds values → AreWhole width (olds ++ row ∷ []) (values ++ new)
  one_more_whole [] values none =
      subst (λ v. (width ≤ length (v ++ new)) × (drop width (v ++ new) ≡ [])) (sym none) (omega (arith, one), ap (λ n. drop n new) (sym one) ∙ drop-length new)
  one_more_whole (old ∷ olds) values h =
      let within : width ≤ length (values ++ new) = omega (arith, h.0, length-append values new) in
      (within, subst (AreWhole width (olds ++ row ∷ [])) (sym (drop-append-le width values new h.0)) (one_more_whole olds (drop width values) h.1))

-- values that are added
pub added : (before after : List Cell) (made : Result (List Cell) DmlFault) → prefixed before made ≡ Ok after → (new : List Cell) × (made ≡ Ok new) × (after ≡ before ++ new)
added before after (Err f) h = cc
added before after (Ok new) h = let same : before ++ new ≡ after = cc in (new, refl, sym same)

-- what becomes of a row that is selected and updated
effect_by : (table : Table) (sets : Option (List (List ℕ × Expr))) (condition : Option Expr) (row new : List Cell) → IsSome sets → selected (scope_of table) condition row ≡ Ok true
    → ((s : List (List ℕ × Expr)) → sets ≡ Some s → updated_row (scope_of table) row s table.columns row ≡ Ok new) → effect_of table sets condition row ≡ Ok (Becomes new)
effect_by table None condition row new there is made = cc
effect_by table (Some s) condition row new there is made =
    ap (λ b. followed b (λ b. effect_if b (effect_selected table (Some s) row))) is
    ∙ ap (λ r. followed r (λ new. Ok (Becomes new))) (made s refl)

pub effect_updated : (table : Table) (p : Prepared) (row new : List Cell) → IsPrepared table p → IsSome (option_copied p.sets) → selected_at row (resolution_in p.resolved_condition) ≡ Ok true
    → new_row row table.columns row (map resolution_in p.resolved_sets) ≡ Ok new → effect_of table (option_copied p.sets) p.condition.now row ≡ Ok (Becomes new)
effect_updated table p row new h there is made =
    effect_by table (option_copied p.sets) p.condition.now row new there (sym (selected_by table p row h) ∙ is) (λ s given. sym (updated_by table p row s h given) ∙ made)

-- the values that are added are those behind the ones that were there
pub added_behind : (effect : Result RowEffect DmlFault) (before after new : List Cell) → Adds effect before after true → new ≡ drop (length before) after → (effect ≡ Ok (Becomes new)) × (after ≡ before ++ new)
added_behind effect before after new a is =
    let same : new ≡ a.0 = is ∙ ap (drop (length before)) a.2 ∙ drop-append_seam before a.0 in
    (a.1 ∙ ap (λ r. Ok (Becomes r)) (sym same), a.2 ∙ ap (λ r. before ++ r) (sym same))

-- a row that is updated stands behind those that were there
pub awaits_one : (table : Table) (row new : List Cell) (effect : Result RowEffect DmlFault) (before after : Pending) → effect ≡ Ok (Becomes new) → AreWhole (length table.columns) before.olds.items before.values.items
    → after.olds.items ≡ before.olds.items ++ row ∷ [] → after.values.items ≡ before.values.items ++ new → key_of table.key row ≡ key_of table.key new → length new ≡ length table.columns → Awaits table row effect before after
awaits_one table row new effect before after is whole olds values same one = record {
  effect = Becomes new;
  is = is;
  keeps = same;
  whole = let width = length table.columns in
      subst (λ o. AreWhole width o after.values.items) (sym olds) (subst (AreWhole width (before.olds.items ++ row ∷ [])) (sym values) (one_more_whole width row new one before.olds.items before.values.items whole));
  behind = λ rest.
      let width = length table.columns in
      one_more_pending table.name width row new one rest before.olds.items before.values.items whole
      ∙ (λ i. and_pending table.name width (sym olds i) (sym values i) rest);
}

-- a fault behind them is the answer
pub pending_fault : (table : List ℕ) (width : ℕ) (olds : List (List Cell)) (values : List Cell) (fault : DmlFault) → and_pending table width olds values (Err fault) ≡ Err fault
pending_fault table width [] values fault = refl
pending_fault table width (old ∷ olds) values fault = ap (and_change table old (Some (take width values))) (pending_fault table width olds (drop width values) fault)
