-- Where each row keeps its key, what becomes of the rows where they stand is what the statement does.
use Rattle.std.proofs.Common.{◌≡◌, ◌++◌, ◌+◌, Bool, true, false, cond, map, length, ℕ, List, [], ◌∷◌, Option, Some, None, Result, Ok, Err, arith, refl, sym, ap, subst, ◌∙◌}
use Rattle.std.specs.List.{AllByRecursion}
use Rattle.std.proofs.lemmas.List.{append-nil}
use Rattle.std.specs.declared.cmp.Ordering.TheVariants.{Less}
use Rattle.std.specs.Ordering.{is_eq}
use Rattle.std.specs.List.Sorted.{IsStrictlySortedBy}
use Rattle.std.specs.Map.{lookup}
use Rattle.std.specs.BTreeMap.{is_at}
use Rattle.sr_base.specs.Order.{key_cmp}
use Rattle.sr_ast.specs.declared.expr.Expr.{Expr}
use Rattle.sr_rows.specs.Marks.{RowMap, rows_of_table}
use Rattle.sr_rows.specs.Walks.{Entry, table_rows}
use Rattle.sr_rows.specs.Inner.Walks.{Rises}
use Rattle.sr_rows.proofs.Listing.{table_rows-rise}
use Rattle.sr_rows.proofs.Cursors.{AreHeld, table_held}
use Rattle.sr_logform.specs.declared.change.Change.{Change}
use Rattle.sr_catalog_schema.specs.declared.table.Table.{Table}
use Rattle.sr_catalog_schema.specs.declared.fault.DmlFault.{DmlFault}
use Rattle.sr_exec_dml.specs.declared.edit.Edit.TheVariants.{Gone, Moved}
use Rattle.sr_exec_dml.specs.declared.effect.RowEffect.{RowEffect}
use Rattle.sr_exec_dml.specs.declared.effect.RowEffect.TheVariants.{Stays, Goes, Becomes}
use Rattle.sr_exec_dml.specs.Inner.Edits.{Edited, edit_at, is_taken, AreEdits, with_edit, settled, picked, taken_of, put_of}
use Rattle.sr_exec_dml.specs.Holding.{under, with_change}
use Rattle.sr_exec_dml.specs.Sequences.{front, followed}
use Rattle.sr_exec_where.specs.Keys.{key_of}
use Rattle.sr_exec_dml.specs.Statements.{selections, counted, effect_of, effects_of, moved}
use Rattle.sr_exec_dml.specs.Inner.Unmoving.{Counted, and_change, with_effect, unmoved, behind, KeepsKey, Keeps, KeepKeys}
use Rattle.sr_exec_dml.proofs.Folding.{Key, same_key}
use Rattle.sr_exec_dml.proofs.Effects.{Fated, one_each, length_picked, moved_by}

-- a change that is noted
pub noted : (done now : List Change) (count next : ℕ) (table : List ℕ) (row : Key) (after : Option Key) → ((later : List Change) → done ++ with_change table (Some row) after later ≡ now ++ later) → next ≡ count + 1
    → (rest : Counted) → behind done count (and_change table row after rest) ≡ behind now next rest
noted done now count next table row after list one (Err f) = refl
noted done now count next table row after list one (Ok found) =
    let sum : count + (found.1 + 1) ≡ next + found.1 = omega (arith, one) in
    λ i. Ok (list found.0 i, sum i)

-- nothing that is there before
pub behind-none : (rest : Counted) → behind [] 0 rest ≡ rest
behind-none (Err f) = refl
behind-none (Ok found) = let none : 0 + found.1 ≡ found.1 = omega arith in λ i. Ok (found.0, none i)

-- and nothing behind
pub behind-end : (changes : List Change) (count : ℕ) → behind changes count (Ok ([], 0)) ≡ Ok (changes, count)
behind-end changes count = let none : count + 0 ≡ count = omega arith in λ i. Ok (append-nil changes i, none i)

-- the changes of effects, each where its row stands
abbrev pub changes_kept : List ℕ → List Entry → List RowEffect → List Change
changes_kept table [] effects = []
changes_kept table (e ∷ es) [] = []
changes_kept table (e ∷ es) (Stays ∷ effects) = changes_kept table es effects
changes_kept table (e ∷ es) (Goes ∷ effects) = with_change table (Some e.1) None (changes_kept table es effects)
changes_kept table (e ∷ es) (Becomes row ∷ effects) = with_change table (Some e.1) (Some row) (changes_kept table es effects)

abbrev counted_of : Table → List Entry → Fated → Counted
counted_of table es effects = followed effects (λ fs. Ok (changes_kept table.name es fs, selections fs))

kept_step : (table : Table) (e : Entry) (es : List Entry) (effect : Result RowEffect DmlFault) (effects : Fated) → with_effect table.name e.1 effect (counted_of table es effects) ≡ counted_of table (e ∷ es) (front effect effects)
kept_step table e es (Err f) effects = refl
kept_step table e es (Ok Stays) (Err f) = refl
kept_step table e es (Ok Stays) (Ok fs) = refl
kept_step table e es (Ok Goes) (Err f) = refl
kept_step table e es (Ok Goes) (Ok fs) = refl
kept_step table e es (Ok (Becomes row)) (Err f) = refl
kept_step table e es (Ok (Becomes row)) (Ok fs) = refl

kept_are : (table : Table) (sets : Option (List (List ℕ × Expr))) (condition : Option Expr) (es : List Entry) → unmoved table sets condition es ≡ counted_of table es (effects_of table sets condition es)
kept_are table sets condition [] = refl
kept_are table sets condition (e ∷ es) =
    ap (with_effect table.name e.1 (effect_of table sets condition e.1)) (kept_are table sets condition es) ∙ kept_step table e es (effect_of table sets condition e.1) (effects_of table sets condition es)

-- each row that is put stands under the key of the row that it was
abbrev pub AllKeep : Table → List Entry → List RowEffect → Type 0
AllKeep table [] effects = Unit {0}
AllKeep table (e ∷ es) [] = Unit {0}
AllKeep table (e ∷ es) (Stays ∷ effects) = AllKeep table es effects
AllKeep table (e ∷ es) (Goes ∷ effects) = AllKeep table es effects
AllKeep table (e ∷ es) (Becomes row ∷ effects) = (key_of table.key row ≡ e.0) × AllKeep table es effects

all_keep-front : (table : Table) (e : Entry) (es : List Entry) (effect : Result RowEffect DmlFault) (rest : Fated) (effects : List RowEffect) (More : Type 0)
    → (More → (fs : List RowEffect) → rest ≡ Ok fs → AllKeep table es fs) → Keeps table e.0 effect More → front effect rest ≡ Ok effects → AllKeep table (e ∷ es) effects
all_keep-front table e es (Err f) rest effects More h k is = cc
all_keep-front table e es (Ok x) (Err f) effects More h k is = cc
all_keep-front table e es (Ok Stays) (Ok fs) effects More h k is = let same : Stays ∷ fs ≡ effects = cc in subst (AllKeep table (e ∷ es)) same (h k fs refl)
all_keep-front table e es (Ok Goes) (Ok fs) effects More h k is = let same : Goes ∷ fs ≡ effects = cc in subst (AllKeep table (e ∷ es)) same (h k fs refl)
all_keep-front table e es (Ok (Becomes row)) (Ok fs) effects More h k is = let same : Becomes row ∷ fs ≡ effects = cc in subst (AllKeep table (e ∷ es)) same (k.0, h k.1 fs refl)

all_keep : (table : Table) (sets : Option (List (List ℕ × Expr))) (condition : Option Expr) (es : List Entry) (effects : List RowEffect) → KeepKeys table sets condition es → effects_of table sets condition es ≡ Ok effects → AllKeep table es effects
all_keep table sets condition [] effects k is = tt
all_keep table sets condition (e ∷ es) effects k is =
    all_keep-front table e es (effect_of table sets condition e.1) (effects_of table sets condition es) effects (KeepKeys table sets condition es) (λ more fs same. all_keep table sets condition es fs more same) k is

-- the edits where the rows stand
abbrev pub edits_kept : List Entry → List RowEffect → List Edited
edits_kept [] effects = []
edits_kept (e ∷ es) [] = []
edits_kept (e ∷ es) (Stays ∷ effects) = edits_kept es effects
edits_kept (e ∷ es) (Goes ∷ effects) = (e.0, Gone) ∷ edits_kept es effects
edits_kept (e ∷ es) (Becomes row ∷ effects) = (e.0, Moved row) ∷ edits_kept es effects

settled_kept : (rows : RowMap) (table : List ℕ) (es : List Entry) (effects : List RowEffect) → AreHeld rows table es → settled table (rows_of_table rows table) (edits_kept es effects) ≡ Ok (changes_kept table es effects)
settled_kept rows table [] effects h = refl
settled_kept rows table (e ∷ es) [] h = refl
settled_kept rows table (e ∷ es) (Stays ∷ effects) h = settled_kept rows table es effects h.1
settled_kept rows table (e ∷ es) (Goes ∷ effects) h = λ i. with_edit table e.0 (h.0 i) Gone (settled_kept rows table es effects h.1 i)
settled_kept rows table (e ∷ es) (Becomes row ∷ effects) h = λ i. with_edit table e.0 (h.0 i) (Moved row) (settled_kept rows table es effects h.1 i)

-- their keys rise
keys_above : (k : Key) (es : List Entry) (effects : List RowEffect) → AllByRecursion (λ x. key_cmp k x.0 ≡ Less) es → AllByRecursion (λ x. key_cmp k x ≡ Less) (map (λ (u : Edited). u.0) (edits_kept es effects))
keys_above k [] effects h = tt
keys_above k (e ∷ es) [] h = tt
keys_above k (e ∷ es) (Stays ∷ effects) h = keys_above k es effects h.1
keys_above k (e ∷ es) (Goes ∷ effects) h = (h.0, keys_above k es effects h.1)
keys_above k (e ∷ es) (Becomes row ∷ effects) h = (h.0, keys_above k es effects h.1)

sorted_kept : (es : List Entry) (effects : List RowEffect) → Rises key_cmp es → IsStrictlySortedBy key_cmp (map (λ (u : Edited). u.0) (edits_kept es effects))
unfolding IsStrictlySortedBy
sorted_kept [] effects h = tt
sorted_kept (e ∷ es) [] h = tt
sorted_kept (e ∷ es) (Stays ∷ effects) h = sorted_kept es effects h.1
sorted_kept (e ∷ es) (Goes ∷ effects) h = (keys_above e.0 es effects h.0, sorted_kept es effects h.1)
sorted_kept (e ∷ es) (Becomes row ∷ effects) h = (keys_above e.0 es effects h.0, sorted_kept es effects h.1)

-- under a key below all no row is put
none_put : (table : Table) (k : Key) (es : List Entry) (effects : List RowEffect) → AllByRecursion (λ x. key_cmp k x.0 ≡ Less) es → AllKeep table es effects → under k (put_of table (picked es effects)) ≡ []
none_put table k [] effects h keep = refl
none_put table k (e ∷ es) [] h keep = refl
none_put table k (e ∷ es) (Stays ∷ effects) h keep = none_put table k es effects h.1 keep
none_put table k (e ∷ es) (Goes ∷ effects) h keep = none_put table k es effects h.1 keep
none_put table k (e ∷ es) (Becomes row ∷ effects) h keep =
    ap (λ j. cond (is_eq (key_cmp k j)) (row ∷ under k (put_of table (picked es effects))) (under k (put_of table (picked es effects)))) keep.0
    ∙ ap (λ o. cond (is_eq o) (row ∷ under k (put_of table (picked es effects))) (under k (put_of table (picked es effects)))) h.0
    ∙ none_put table k es effects h.1 keep.1

module _ (table : Table) (q : Key) (e : Entry) (es : List Entry) (effects : List RowEffect) (above : AllByRecursion (λ x. key_cmp e.0 x.0 ≡ Less) es) (keep : AllKeep table es effects)
    (rest : lookup (is_at (key_cmp q)) (edits_kept es effects) ≡ edit_at (is_taken q (taken_of (picked es effects))) (under q (put_of table (picked es effects)))) where
  none_here : is_eq (key_cmp q e.0) ≡ true → under q (put_of table (picked es effects)) ≡ []
  none_here t = ap (λ k. under k (put_of table (picked es effects))) (same_key q e.0 t) ∙ none_put table e.0 es effects above keep

  gone_here : (b : Bool) → is_eq (key_cmp q e.0) ≡ b → cond b (Some Gone) (lookup (is_at (key_cmp q)) (edits_kept es effects)) ≡ edit_at (cond b true (is_taken q (taken_of (picked es effects)))) (under q (put_of table (picked es effects)))
  gone_here false t = rest
  gone_here true t = sym (ap (edit_at true) (none_here t))

  moved_here : (row : Key) (b : Bool) → is_eq (key_cmp q e.0) ≡ b
      → cond b (Some (Moved row)) (lookup (is_at (key_cmp q)) (edits_kept es effects)) ≡ edit_at (cond b true (is_taken q (taken_of (picked es effects)))) (cond b (row ∷ under q (put_of table (picked es effects))) (under q (put_of table (picked es effects))))
  moved_here row false t = rest
  moved_here row true t = sym (ap (λ rows. edit_at true (row ∷ rows)) (none_here t))

edits_are : (table : Table) (es : List Entry) (effects : List RowEffect) → Rises key_cmp es → AllKeep table es effects → AreEdits (λ q. lookup (is_at (key_cmp q)) (edits_kept es effects)) (taken_of (picked es effects)) (put_of table (picked es effects))
edits_are table [] effects h keep q = refl
edits_are table (e ∷ es) [] h keep q = refl
edits_are table (e ∷ es) (Stays ∷ effects) h keep q = edits_are table es effects h.1 keep q
edits_are table (e ∷ es) (Goes ∷ effects) h keep q = gone_here table q e es effects h.0 keep (edits_are table es effects h.1 keep q) (is_eq (key_cmp q e.0)) refl
edits_are table (e ∷ es) (Becomes row ∷ effects) h keep q =
    moved_here table q e es effects h.0 keep.1 (edits_are table es effects h.1 keep.1 q) row (is_eq (key_cmp q e.0)) refl
    ∙ sym (ap (λ j. edit_at (cond (is_eq (key_cmp q e.0)) true (is_taken q (taken_of (picked es effects)))) (cond (is_eq (key_cmp q j)) (row ∷ under q (put_of table (picked es effects))) (under q (put_of table (picked es effects))))) keep.0)

-- what becomes of the rows is what the statement does
module _ (table : Table) (rows : RowMap) (sets : Option (List (List ℕ × Expr))) (condition : Option Expr) where
  counted_kept : (effects : Fated) (changes : List Change) (count : ℕ) → counted_of table (table_rows rows table.name) effects ≡ Ok (changes, count)
      → (fs : List RowEffect) × (effects ≡ Ok fs) × (changes_kept table.name (table_rows rows table.name) fs ≡ changes) × (selections fs ≡ count)
  counted_kept (Err f) changes count h = cc
  counted_kept (Ok fs) changes count h =
      let pair : (changes_kept table.name (table_rows rows table.name) fs, selections fs) ≡ (changes, count) = cc in
      (fs, refl, ap (λ (p : List Change × ℕ). p.0) pair, ap (λ (p : List Change × ℕ). p.1) pair)

  pub unmoved_are : (changes : List Change) (count : ℕ) → KeepKeys table sets condition (table_rows rows table.name) → unmoved table sets condition (table_rows rows table.name) ≡ Ok (changes, count)
      → followed (effects_of table sets condition (table_rows rows table.name)) (moved table (table_rows rows table.name)) ≡ counted count changes
  unmoved_are changes count keep is =
      let es = table_rows rows table.name in
      let found = counted_kept (effects_of table sets condition es) changes count (sym (kept_are table sets condition es) ∙ is) in
      let fs = found.0 in
      let one = one_each table sets condition es fs found.1 in
      let rise = table_rows-rise rows table.name in
      let all = all_keep table sets condition es fs keep found.1 in
      moved_by table rows sets condition fs found.1 (picked es fs) refl (edits_kept es fs) (sorted_kept es fs rise) (edits_are table es fs rise all)
      ∙ ap (λ r. followed r (counted (length (picked es fs)))) (settled_kept rows table.name es fs (table_held rows table.name))
      ∙ (λ i. counted ((length_picked es fs one ∙ found.3) i) (found.2 i))

  fault_kept : (effects : Fated) (fault : DmlFault) → counted_of table (table_rows rows table.name) effects ≡ Err fault → followed effects (moved table (table_rows rows table.name)) ≡ Err fault
  fault_kept (Err f) fault h = let same : f ≡ fault = cc in ap (λ x. Err x) same
  fault_kept (Ok fs) fault h = cc

  pub unmoved_fault : (fault : DmlFault) → unmoved table sets condition (table_rows rows table.name) ≡ Err fault → followed (effects_of table sets condition (table_rows rows table.name)) (moved table (table_rows rows table.name)) ≡ Err fault
  unmoved_fault fault is = fault_kept (effects_of table sets condition (table_rows rows table.name)) fault (sym (kept_are table sets condition (table_rows rows table.name)) ∙ is)

-- one row more that keeps its key
pub keeps_one : (table : Table) (key row : Key) (effect : RowEffect) (More : Type 0) → key_of table.key row ≡ key → KeepsKey table row effect → More → Keeps table key (Ok effect) More
keeps_one table key row Stays More is keep more = more
keeps_one table key row Goes More is keep more = more
keeps_one table key row (Becomes new) More is keep more = (sym keep ∙ is, more)
