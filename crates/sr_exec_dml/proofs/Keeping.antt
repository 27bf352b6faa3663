-- The rows that an INSERT makes fit, and those that an UPDATE makes of rows that fit.
use Rattle.std.proofs.Common.{◌≡◌, ◌++◌, ◌&&◌, not, Bool, true, false, cond, if◌then◌else◌, map, length, nat_le, ℕ, ℤ, List, [], ◌∷◌, Option, Some, None, Result, Ok, Err, IsTrue, refl, ap, subst, ◌∙◌}
use Rattle.std.specs.List.{AllByRecursion}
use Rattle.std.specs.Option.{option_map}
use Rattle.sr_base.specs.Fitting.{is_int}
use Rattle.sr_base_dates.specs.Fitting.{fitted}
use Rattle.sr_base_dates.specs.Calendar.{day_named}
use Rattle.sr_base.specs.declared.value.Kind.{Kind}
use Rattle.sr_base.specs.declared.value.Kind.TheVariants as kind
use Rattle.sr_base.specs.declared.value.Value.{Value}
use Rattle.sr_base.specs.declared.value.Value.TheVariants.{Null, Int, Big, Str, Date}
use Rattle.sr_ast.specs.Exprs.{term_of}
use Rattle.sr_ast.specs.declared.expr.Expr.{Expr}
use Rattle.sr_ast.specs.declared.query.Insert.{Insert}
use Rattle.sr_eval.specs.Comparisons.{is_null}
use Rattle.sr_eval.specs.Meanings.{Meaning, meaning, cell_of}
use Rattle.sr_rows.specs.Walks.{Entry}
use Rattle.sr_catalog_schema.specs.declared.table.Column.{Column}
use Rattle.sr_catalog_schema.specs.declared.table.Table.{Table}
use Rattle.sr_catalog_schema.specs.declared.fault.DmlFault.{DmlFault}
use Rattle.sr_catalog_schema.specs.declared.fault.DmlFault.TheVariants as fault
use Rattle.sr_exec_dml.specs.declared.effect.RowEffect.{RowEffect}
use Rattle.sr_exec_dml.specs.declared.effect.RowEffect.TheVariants.{Stays, Goes, Becomes}
use Rattle.sr_exec_where.specs.Checks.{Scope}
use Rattle.sr_catalog_schema.specs.Members.{scope_of}
use Rattle.sr_exec_fits.specs.Rows.{IsRow}
use Rattle.sr_exec_fits.proofs.Rows.{row_parts, row_made}
use Rattle.sr_exec_dml.specs.Sequences.{each, front, followed}
use Rattle.sr_exec_where.specs.Naming.{names_of, set_for}
use Rattle.sr_exec_dml.specs.Statements.{entry_of, inserted_rows, selected, effect_selected, effect_if, effect_of, effects_of, staying, becoming}
use Rattle.sr_exec_dml.specs.Storing.{allowed, fitting, stored, constant, value_for, inserted_row, updated_value, updated_row}

-- what fits stays as it is
fitted_int : (b : Bool) (n : ℤ) (w : Value) → is_int n ≡ b → (if b then Some (Int n) else None) ≡ Some w → fitted w kind.Int ≡ Some w
fitted_int true n w e h = let is : Int n ≡ w = cc in subst (λ v. fitted v kind.Int ≡ Some v) is (ap (λ b. if b then Some (Int n) else None) e)
fitted_int false n w e h = cc

fitted_day : (o : Option ℤ) (w : Value) → option_map Date o ≡ Some w → fitted w kind.Date ≡ Some w
fitted_day None w h = cc
fitted_day (Some d) w h = let is : Date d ≡ w = cc in subst (λ v. fitted v kind.Date ≡ Some v) is refl

pub fitted_again : (v : Value) (k : Kind) (w : Value) → fitted v k ≡ Some w → fitted w k ≡ Some w
fitted_again Null k w h = let is : Null ≡ w = cc in subst (λ v. fitted v k ≡ Some v) is refl
fitted_again (Int n) kind.Int w h = fitted_int (is_int n) n w refl h
fitted_again (Int n) kind.Big w h = let is : Big n ≡ w = cc in subst (λ v. fitted v kind.Big ≡ Some v) is refl
fitted_again (Int n) (kind.Varchar limit) w h = cc
fitted_again (Int n) kind.Date w h = cc
fitted_again (Big n) kind.Int w h = fitted_int (is_int n) n w refl h
fitted_again (Big n) kind.Big w h = let is : Big n ≡ w = cc in subst (λ v. fitted v kind.Big ≡ Some v) is refl
fitted_again (Big n) (kind.Varchar limit) w h = cc
fitted_again (Big n) kind.Date w h = cc
fitted_again (Str text) kind.Int w h = cc
fitted_again (Str text) kind.Big w h = cc
fitted_again (Str text) (kind.Varchar limit) w h = short (nat_le (length text) limit) refl h where
  short : (b : Bool) → nat_le (length text) limit ≡ b → (if b then Some (Str text) else None) ≡ Some w → fitted w (kind.Varchar limit) ≡ Some w
  short true e f = let is : Str text ≡ w = cc in subst (λ v. fitted v (kind.Varchar limit) ≡ Some v) is (ap (λ b. if b then Some (Str text) else None) e)
  short false e f = cc
fitted_again (Str text) kind.Date w h = fitted_day (day_named text) w h
fitted_again (Date d) kind.Int w h = cc
fitted_again (Date d) kind.Big w h = cc
fitted_again (Date d) (kind.Varchar limit) w h = cc
fitted_again (Date d) kind.Date w h = let is : Date d ≡ w = cc in subst (λ v. fitted v kind.Date ≡ Some v) is refl

-- what a column takes fits it
abbrev Fits : Column → Value → Type 0
Fits c w = (fitted w c.kind ≡ Some w) × (IsTrue (not (c.not_null && is_null w)))

both_false : (b : Bool) → not (b && false) ≡ true
both_false true = refl
both_false false = refl

allowed_is : (c : Column) (v w : Value) → allowed c v ≡ Ok w → (v ≡ w) × (not (c.not_null && is_null w) ≡ true)
allowed_is c Null w h = go c.not_null refl h where
  go : (b : Bool) → c.not_null ≡ b → cond b (Err (fault.Null c.name)) (Ok Null) ≡ Ok w → (Null ≡ w) × (not (c.not_null && is_null w) ≡ true)
  go true e f = cc
  go false e f = let is : Null ≡ w = cc in (is, ap (λ b. not (b && is_null w)) e)
allowed_is c (Int n) w h = let is : Int n ≡ w = cc in (is, subst (λ v. not (c.not_null && is_null v) ≡ true) is (both_false c.not_null))
allowed_is c (Big n) w h = let is : Big n ≡ w = cc in (is, subst (λ v. not (c.not_null && is_null v) ≡ true) is (both_false c.not_null))
allowed_is c (Str text) w h = let is : Str text ≡ w = cc in (is, subst (λ v. not (c.not_null && is_null v) ≡ true) is (both_false c.not_null))
allowed_is c (Date day) w h = let is : Date day ≡ w = cc in (is, subst (λ v. not (c.not_null && is_null v) ≡ true) is (both_false c.not_null))

fitting_fits : (c : Column) (v : Value) (o : Option Value) (w : Value) → fitted v c.kind ≡ o → fitting c o ≡ Ok w → Fits c w
fitting_fits c v None w e h = cc
fitting_fits c v (Some x) w e h = let is = allowed_is c x w h in (fitted_again v c.kind w (e ∙ ap (λ y. Some y) is.0), is.1)

stored_fits : (c : Column) (m : Option Meaning) (w : Value) → stored c m ≡ Ok w → Fits c w
stored_fits c None w h = cc
stored_fits c (Some m) w h = fitting_fits c (cell_of m) (fitted (cell_of m) c.kind) w refl h

-- a row of values that fit
with_front : (c : Column) (columns : List Column) (v : Result Value DmlFault) (rest : Result (List Value) DmlFault) (row : List Value) → ((w : Value) → v ≡ Ok w → Fits c w) → ((ws : List Value) → rest ≡ Ok ws → IsRow columns ws)
    → front v rest ≡ Ok row → IsRow (c ∷ columns) row
with_front c columns (Err e) rest row f g h = cc
with_front c columns (Ok w) (Err e) row f g h = cc
with_front c columns (Ok w) (Ok ws) row f g h = let is : w ∷ ws ≡ row = cc in subst (IsRow (c ∷ columns)) is (row_made c columns w ws (f w refl).0 (f w refl).1 (g ws refl))

inserted_row_fits : (names : List (List ℕ)) (es : List Expr) (columns : List Column) (row : List Value) → inserted_row names es columns ≡ Ok row → IsRow columns row
inserted_row_fits names es [] row h = let is : [] ≡ row = cc in subst (IsRow []) is refl
inserted_row_fits names es (c ∷ columns) row h =
    with_front c columns (stored c (constant (value_for names es c.name))) (inserted_row names es columns) row (stored_fits c (constant (value_for names es c.name))) (inserted_row_fits names es columns) h

updated_value_fits : (scope : Scope) (row : List Value) (c : Column) (old : Value) (e : Option Expr) → Fits c old → (w : Value) → updated_value scope row c old e ≡ Ok w → Fits c w
updated_value_fits scope row c old None f w h = let is : old ≡ w = cc in subst (Fits c) is f
updated_value_fits scope row c old (Some e) f w h = stored_fits c (meaning scope row (term_of e)) w h

updated_row_fits : (scope : Scope) (row : List Value) (sets : List (List ℕ × Expr)) (columns : List Column) (olds new : List Value) → IsRow columns olds → updated_row scope row sets columns olds ≡ Ok new → IsRow columns new
updated_row_fits scope row sets [] olds new f h = let is : [] ≡ new = cc in subst (IsRow []) is refl
updated_row_fits scope row sets (c ∷ columns) [] new f h = cc
updated_row_fits scope row sets (c ∷ columns) (old ∷ olds) new f h =
    let parts = row_parts c columns old olds f in
    with_front c columns (updated_value scope row c old (set_for sets c.name)) (updated_row scope row sets columns olds) new
    (updated_value_fits scope row c old (set_for sets c.name) (parts.0, parts.1)) (λ ws is. updated_row_fits scope row sets columns olds ws parts.2 is) h

-- each row fits the table
abbrev pub AllFit : Table → List Entry → Type 0
AllFit table entries = AllByRecursion (λ e. IsRow table.columns e.1) entries

-- all rows
both_fit : (table : Table) (xs ys : List Entry) → AllFit table xs → AllFit table ys → AllFit table (xs ++ ys)
both_fit table [] ys f g = g
both_fit table (x ∷ xs) ys f g = (f.0, both_fit table xs ys f.1 g)

each_fits : (table : Table) (make : List Expr → Result (List Value) DmlFault) (xs : List (List Expr)) (rows : List (List Value)) → ((es : List Expr) (row : List Value) → make es ≡ Ok row → IsRow table.columns row)
    → each make xs ≡ Ok rows → AllFit table (map (entry_of table) rows)
each_fits table make [] rows f h = let is : [] ≡ rows = cc in subst (λ rs. AllFit table (map (entry_of table) rs)) is tt
each_fits table make (x ∷ xs) rows f h = go (make x) refl (each make xs) refl h (each_fits table make xs) where
  go : (r : Result (List Value) DmlFault) → make x ≡ r → (rest : Result (List (List Value)) DmlFault) → each make xs ≡ rest → front r rest ≡ Ok rows
      → ((rs : List (List Value)) → ((es : List Expr) (row : List Value) → make es ≡ Ok row → IsRow table.columns row) → each make xs ≡ Ok rs → AllFit table (map (entry_of table) rs)) → AllFit table (map (entry_of table) rows)
  go (Err e) p rest q k more = cc
  go (Ok row) p (Err e) q k more = cc
  go (Ok row) p (Ok rs) q k more = let is : row ∷ rs ≡ rows = cc in subst (λ zs. AllFit table (map (entry_of table) zs)) is (f x row p, more rs f q)

pub inserts_keep_fit : (table : Table) (i : Insert) (before : List Entry) (rows : List (List Value)) → AllFit table before → inserted_rows table i ≡ Ok rows → AllFit table (before ++ map (entry_of table) rows)
inserts_keep_fit table i before rows f h =
    both_fit table before (map (entry_of table) rows) f (each_fits table (λ es. inserted_row (names_of table.columns i.columns) es table.columns) i.rows rows (λ es row is. inserted_row_fits (names_of table.columns i.columns) es table.columns row is) h)

-- the effect of one row
abbrev EffectFits : Table → RowEffect → Type 0
EffectFits table Stays = Unit {0}
EffectFits table Goes = Unit {0}
EffectFits table (Becomes row) = IsRow table.columns row

selected_fits : (table : Table) (sets : Option (List (List ℕ × Expr))) (row : List Value) → IsRow table.columns row → (effect : RowEffect) → effect_selected table sets row ≡ Ok effect → EffectFits table effect
selected_fits table None row f effect h = let is : Goes ≡ effect = cc in subst (EffectFits table) is tt
selected_fits table (Some sets) row f effect h = go (updated_row (scope_of table) row sets table.columns row) refl h where
  go : (r : Result (List Value) DmlFault) → updated_row (scope_of table) row sets table.columns row ≡ r → followed r (λ new. Ok (Becomes new)) ≡ Ok effect → EffectFits table effect
  go (Err e) p k = cc
  go (Ok new) p k = let is : Becomes new ≡ effect = cc in subst (EffectFits table) is (updated_row_fits (scope_of table) row sets table.columns row new f p)

effect_fits : (table : Table) (sets : Option (List (List ℕ × Expr))) (condition : Option Expr) (row : List Value) → IsRow table.columns row → (effect : RowEffect) → effect_of table sets condition row ≡ Ok effect → EffectFits table effect
effect_fits table sets condition row f effect h = go (selected (scope_of table) condition row) h where
  go : (r : Result Bool DmlFault) → followed r (λ is_selected. effect_if is_selected (effect_selected table sets row)) ≡ Ok effect → EffectFits table effect
  go (Err e) k = cc
  go (Ok true) k = selected_fits table sets row f effect k
  go (Ok false) k = let is : Stays ≡ effect = cc in subst (EffectFits table) is tt

moves : (table : Table) (e : Entry) (es : List Entry) (effect : RowEffect) (effects : List RowEffect) → IsRow table.columns e.1 → EffectFits table effect → AllFit table (staying es effects) → AllFit table (map (entry_of table) (becoming effects))
    → AllFit table (staying (e ∷ es) (effect ∷ effects)) × AllFit table (map (entry_of table) (becoming (effect ∷ effects)))
moves table e es Stays effects f g s b = ((f, s), b)
moves table e es Goes effects f g s b = (s, b)
moves table e es (Becomes row) effects f g s b = (s, (g, b))

all_moves : (table : Table) (sets : Option (List (List ℕ × Expr))) (condition : Option Expr) (es : List Entry) (effects : List RowEffect) → AllFit table es → effects_of table sets condition es ≡ Ok effects
    → AllFit table (staying es effects) × AllFit table (map (entry_of table) (becoming effects))
all_moves table sets condition [] effects f h = let is : [] ≡ effects = cc in subst (λ fs. AllFit table (staying [] fs) × AllFit table (map (entry_of table) (becoming fs))) is (tt, tt)
all_moves table sets condition (e ∷ es) effects f h = go (effect_of table sets condition e.1) refl (effects_of table sets condition es) refl h (λ fs. all_moves table sets condition es fs f.1) where
  go : (r : Result RowEffect DmlFault) → effect_of table sets condition e.1 ≡ r → (rest : Result (List RowEffect) DmlFault) → effects_of table sets condition es ≡ rest → front r rest ≡ Ok effects
      → ((fs : List RowEffect) → effects_of table sets condition es ≡ Ok fs → AllFit table (staying es fs) × AllFit table (map (entry_of table) (becoming fs))) → AllFit table (staying (e ∷ es) effects) × AllFit table (map (entry_of table) (becoming effects))
  go (Err x) p rest q k more = cc
  go (Ok effect) p (Err x) q k more = cc
  go (Ok effect) p (Ok fs) q k more =
      let is : effect ∷ fs ≡ effects = cc in
      let rest = more fs q in
      subst (λ zs. AllFit table (staying (e ∷ es) zs) × AllFit table (map (entry_of table) (becoming zs))) is (moves table e es effect fs f.0 (effect_fits table sets condition e.1 f.0 effect p) rest.0 rest.1)

pub moves_keep_fit : (table : Table) (sets : Option (List (List ℕ × Expr))) (condition : Option Expr) (before : List Entry) (effects : List RowEffect) → AllFit table before → effects_of table sets condition before ≡ Ok effects
    → AllFit table (staying before effects ++ map (entry_of table) (becoming effects))
moves_keep_fit table sets condition before effects f h =
    let fit = all_moves table sets condition before effects f h in both_fit table (staying before effects) (map (entry_of table) (becoming effects)) fit.0 fit.1
