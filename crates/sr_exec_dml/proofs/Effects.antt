-- What a statement takes and puts, by the effects of the rows.
use Rattle.std.proofs.Common.{◌≡◌, ◌++◌, Bool, true, false, cond, map, length, ℕ, List, [], ◌∷◌, Option, Result, Ok, Err, arith, refl, sym, ap, subst, ◌∙◌}
use Rattle.std.specs.List.{AllByRecursion}
use Rattle.std.specs.declared.cmp.Ordering.TheVariants.{Less}
use Rattle.std.specs.Ordering.{is_eq}
use Rattle.std.specs.List.Sorted.{IsStrictlySortedBy}
use Rattle.std.specs.Map.{lookup}
use Rattle.std.specs.BTreeMap.{is_at}
use Rattle.sr_base.specs.Order.{key_cmp}
use Rattle.sr_ast.specs.declared.expr.Expr.{Expr}
use Rattle.sr_rows.specs.Marks.{RowMap, rows_of_table}
use Rattle.sr_rows.specs.Walks.{Entry, table_rows}
use Rattle.sr_rows.specs.Inner.Walks.{Rises}
use Rattle.sr_rows.proofs.Listing.{table_rows-rise}
use Rattle.sr_catalog_schema.specs.declared.table.Table.{Table}
use Rattle.sr_catalog_schema.specs.declared.fault.DmlFault.{DmlFault}
use Rattle.sr_exec_dml.specs.declared.effect.RowEffect.{RowEffect}
use Rattle.sr_exec_dml.specs.declared.effect.RowEffect.TheVariants.{Stays, Goes, Becomes}
use Rattle.sr_exec_dml.specs.Inner.Edits.{Edited, is_taken, AreEdits, settled, picked, taken_of, put_of, Picks, with_pick, picks_of}
use Rattle.sr_exec_dml.specs.Holding.{under, held}
use Rattle.sr_exec_dml.specs.Sequences.{front, followed}
use Rattle.sr_exec_dml.specs.Statements.{staying, becoming, selections, counted, entry_of, effect_of, effects_of, moved}
use Rattle.sr_exec_dml.proofs.Folding.{Key, same_key}
use Rattle.sr_exec_dml.proofs.Outcomes.{under-append, above_same, after_of, row_under, one_under, settled_alike}

abbrev pub Pick : Type 0
Pick = Key × Option Key

abbrev pub Fated : Type 0
Fated = Result (List RowEffect) DmlFault

-- the picks are those of the effects
abbrev picked_of : List Entry → Fated → Picks
picked_of es effects = followed effects (λ fs. Ok (picked es fs))

pick_step : (e : Entry) (es : List Entry) (effect : Result RowEffect DmlFault) (effects : Fated) → with_pick e.0 effect (picked_of es effects) ≡ picked_of (e ∷ es) (front effect effects)
pick_step e es (Err f) effects = refl
pick_step e es (Ok Stays) (Err f) = refl
pick_step e es (Ok Stays) (Ok fs) = refl
pick_step e es (Ok Goes) (Err f) = refl
pick_step e es (Ok Goes) (Ok fs) = refl
pick_step e es (Ok (Becomes row)) (Err f) = refl
pick_step e es (Ok (Becomes row)) (Ok fs) = refl

pub picks_are : (table : Table) (sets : Option (List (List ℕ × Expr))) (condition : Option Expr) (es : List Entry) → picks_of table sets condition es ≡ picked_of es (effects_of table sets condition es)
picks_are table sets condition [] = refl
picks_are table sets condition (e ∷ es) =
    ap (with_pick e.0 (effect_of table sets condition e.1)) (picks_are table sets condition es) ∙ pick_step e es (effect_of table sets condition e.1) (effects_of table sets condition es)

-- one effect for each row
abbrev pub IsOneEach : List Entry → List RowEffect → Type 0
IsOneEach [] [] = Unit {0}
IsOneEach [] (f ∷ effects) = ⊥
IsOneEach (e ∷ es) [] = ⊥
IsOneEach (e ∷ es) (f ∷ effects) = IsOneEach es effects

front-Ok : (e : Entry) (es : List Entry) (effect : Result RowEffect DmlFault) (rest : Fated) (effects : List RowEffect) → ((fs : List RowEffect) → rest ≡ Ok fs → IsOneEach es fs) → front effect rest ≡ Ok effects → IsOneEach (e ∷ es) effects
front-Ok e es (Err f) rest effects h is = cc
front-Ok e es (Ok x) (Err f) effects h is = cc
front-Ok e es (Ok x) (Ok fs) effects h is = let same : x ∷ fs ≡ effects = cc in subst (IsOneEach (e ∷ es)) same (h fs refl)

pub one_each : (table : Table) (sets : Option (List (List ℕ × Expr))) (condition : Option Expr) (es : List Entry) (effects : List RowEffect) → effects_of table sets condition es ≡ Ok effects → IsOneEach es effects
one_each table sets condition [] [] h = tt
one_each table sets condition [] (f ∷ effects) h = cc
one_each table sets condition (e ∷ es) effects h = front-Ok e es (effect_of table sets condition e.1) (effects_of table sets condition es) effects (one_each table sets condition es) h

-- a key below all is not taken
not_taken : (k : Key) (es : List Entry) (effects : List RowEffect) → AllByRecursion (λ x. key_cmp k x.0 ≡ Less) es → is_taken k (taken_of (picked es effects)) ≡ false
not_taken k [] effects h = refl
not_taken k (e ∷ es) [] h = refl
not_taken k (e ∷ es) (Stays ∷ effects) h = not_taken k es effects h.1
not_taken k (e ∷ es) (Goes ∷ effects) h = ap (λ o. cond (is_eq o) true (is_taken k (taken_of (picked es effects)))) h.0 ∙ not_taken k es effects h.1
not_taken k (e ∷ es) (Becomes row ∷ effects) h = ap (λ o. cond (is_eq o) true (is_taken k (taken_of (picked es effects)))) h.0 ∙ not_taken k es effects h.1

alike : (b : Bool) (rows : List Key) → cond b rows rows ≡ rows
alike true rows = refl
alike false rows = refl

-- the rows that stay are those whose keys are not taken
module _ (q : Key) (e : Entry) (es : List Entry) (effects : List RowEffect) (above : AllByRecursion (λ x. key_cmp e.0 x.0 ≡ Less) es) (rest : under q (staying es effects) ≡ cond (is_taken q (taken_of (picked es effects))) [] (under q es)) where
  stays_here : (b : Bool) → is_eq (key_cmp q e.0) ≡ b → cond b (e.1 ∷ under q (staying es effects)) (under q (staying es effects)) ≡ cond (is_taken q (taken_of (picked es effects))) [] (cond b (e.1 ∷ under q es) (under q es))
  stays_here false t = rest
  stays_here true t =
      let free : is_taken q (taken_of (picked es effects)) ≡ false = ap (λ k. is_taken k (taken_of (picked es effects))) (same_key q e.0 t) ∙ not_taken e.0 es effects above in
      ap (λ rows. e.1 ∷ rows) (rest ∙ ap (λ b. cond b [] (under q es)) free) ∙ sym (ap (λ b. cond b [] (e.1 ∷ under q es)) free)

  goes_here : (b : Bool) → is_eq (key_cmp q e.0) ≡ b → under q (staying es effects) ≡ cond (cond b true (is_taken q (taken_of (picked es effects)))) [] (cond b (e.1 ∷ under q es) (under q es))
  goes_here false t = rest
  goes_here true t = rest ∙ ap (cond (is_taken q (taken_of (picked es effects))) []) (above_same q e.0 es t above) ∙ alike (is_taken q (taken_of (picked es effects))) []

under-staying : (q : Key) (es : List Entry) (effects : List RowEffect) → Rises key_cmp es → IsOneEach es effects → under q (staying es effects) ≡ cond (is_taken q (taken_of (picked es effects))) [] (under q es)
under-staying q [] [] h one = refl
under-staying q [] (f ∷ effects) h one = absurd one
under-staying q (e ∷ es) [] h one = absurd one
under-staying q (e ∷ es) (Stays ∷ effects) h one = stays_here q e es effects h.0 (under-staying q es effects h.1 one) (is_eq (key_cmp q e.0)) refl
under-staying q (e ∷ es) (Goes ∷ effects) h one = goes_here q e es effects h.0 (under-staying q es effects h.1 one) (is_eq (key_cmp q e.0)) refl
under-staying q (e ∷ es) (Becomes row ∷ effects) h one = goes_here q e es effects h.0 (under-staying q es effects h.1 one) (is_eq (key_cmp q e.0)) refl

-- the rows that are put
put_are : (table : Table) (es : List Entry) (effects : List RowEffect) → IsOneEach es effects → put_of table (picked es effects) ≡ map (entry_of table) (becoming effects)
put_are table [] [] one = refl
put_are table [] (f ∷ effects) one = absurd one
put_are table (e ∷ es) [] one = absurd one
put_are table (e ∷ es) (Stays ∷ effects) one = put_are table es effects one
put_are table (e ∷ es) (Goes ∷ effects) one = put_are table es effects one
put_are table (e ∷ es) (Becomes row ∷ effects) one = ap (λ xs. entry_of table row ∷ xs) (put_are table es effects one)

-- as many as are selected
pub length_picked : (es : List Entry) (effects : List RowEffect) → IsOneEach es effects → length (picked es effects) ≡ selections effects
length_picked [] [] one = refl
length_picked [] (f ∷ effects) one = absurd one
length_picked (e ∷ es) [] one = absurd one
length_picked (e ∷ es) (Stays ∷ effects) one = length_picked es effects one
length_picked (e ∷ es) (Goes ∷ effects) one = let n = length_picked es effects one in omega arith
length_picked (e ∷ es) (Becomes row ∷ effects) one = let n = length_picked es effects one in omega arith

-- afterwards there are the rows that stay and those that are put
afterwards : (table : Table) (es : List Entry) (effects : List RowEffect) → Rises key_cmp es → IsOneEach es effects → (q : Key)
    → under q (staying es effects ++ map (entry_of table) (becoming effects)) ≡ after_of (is_taken q (taken_of (picked es effects))) (under q es) (under q (put_of table (picked es effects)))
afterwards table es effects h one q =
    under-append q (staying es effects) (map (entry_of table) (becoming effects))
    ∙ (λ i. under-staying q es effects h one i ++ under q (sym (put_are table es effects one) i))
    ∙ go (is_taken q (taken_of (picked es effects))) where
      go : (b : Bool) → cond b [] (under q es) ++ under q (put_of table (picked es effects)) ≡ after_of b (under q es) (under q (put_of table (picked es effects)))
      go true = refl
      go false = refl

-- what the edits come to is what the statement does
module _ (table : Table) (rows : RowMap) (sets : Option (List (List ℕ × Expr))) (condition : Option Expr) where
  abbrev before : List Entry
  before = table_rows rows table.name

  pub moved_by : (effects : List RowEffect) → effects_of table sets condition (table_rows rows table.name) ≡ Ok effects → (picks : List Pick) → picked (table_rows rows table.name) effects ≡ picks
      → (ts : List Edited) → IsStrictlySortedBy key_cmp (map (λ (u : Edited). u.0) ts) → AreEdits (λ q. lookup (is_at (key_cmp q)) ts) (taken_of picks) (put_of table picks)
      → followed (effects_of table sets condition (table_rows rows table.name)) (moved table (table_rows rows table.name)) ≡ followed (settled table.name (rows_of_table rows table.name) ts) (counted (length picks))
  moved_by effects is picks same ts sorted edits =
      let es = table_rows rows table.name in
      let one = one_each table sets condition es effects is in
      let rise = table_rows-rise rows table.name in
      let after = staying es effects ++ map (entry_of table) (becoming effects) in
      let out : settled table.name (rows_of_table rows table.name) ts ≡ held table.name es after =
      settled_alike table.name es after (rows_of_table rows table.name) (λ q. lookup (is_at (key_cmp q)) ts) (taken_of picks) (put_of table picks) (row_under rows table.name) (one_under rows table.name)
      (λ q. subst (λ (ps : List Pick). under q after ≡ after_of (is_taken q (taken_of ps)) (under q es) (under q (put_of table ps))) same (afterwards table es effects rise one q)) edits ts sorted (λ q. refl) in
      ap (λ r. followed r (moved table es)) is
      ∙ (λ i. followed (sym out i) (counted ((sym (length_picked es effects one) ∙ ap length same) i)))

  no_fault : (effects : Fated) (picks : List Pick) → picked_of (table_rows rows table.name) effects ≡ Ok picks → (fs : List RowEffect) × (effects ≡ Ok fs) × (picked (table_rows rows table.name) fs ≡ picks)
  no_fault (Err f) picks h = cc
  no_fault (Ok fs) picks h = (fs, refl, cc)

  pub moved_are : (picks : List Pick) → picks_of table sets condition (table_rows rows table.name) ≡ Ok picks
      → (ts : List Edited) → IsStrictlySortedBy key_cmp (map (λ (u : Edited). u.0) ts) → AreEdits (λ q. lookup (is_at (key_cmp q)) ts) (taken_of picks) (put_of table picks)
      → followed (effects_of table sets condition (table_rows rows table.name)) (moved table (table_rows rows table.name)) ≡ followed (settled table.name (rows_of_table rows table.name) ts) (counted (length picks))
  moved_are picks is ts sorted edits =
      let found = no_fault (effects_of table sets condition (table_rows rows table.name)) picks (sym (picks_are table sets condition (table_rows rows table.name)) ∙ is) in
      moved_by found.0 found.1 picks found.2 ts sorted edits

  -- a fault of a row is the statement's
  fault_of : (effects : Fated) (fault : DmlFault) → picked_of (table_rows rows table.name) effects ≡ Err fault → followed effects (moved table (table_rows rows table.name)) ≡ Err fault
  fault_of (Err f) fault h = let same : f ≡ fault = cc in ap (λ x. Err x) same
  fault_of (Ok fs) fault h = cc

  pub moved_fault : (fault : DmlFault) → picks_of table sets condition (table_rows rows table.name) ≡ Err fault → followed (effects_of table sets condition (table_rows rows table.name)) (moved table (table_rows rows table.name)) ≡ Err fault
  moved_fault fault is = fault_of (effects_of table sets condition (table_rows rows table.name)) fault (sym (picks_are table sets condition (table_rows rows table.name)) ∙ is)
