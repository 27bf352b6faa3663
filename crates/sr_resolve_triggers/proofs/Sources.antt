-- Sources of expressions: their columns, their values, and that they fit.
use Rattle.std.proofs.Common.{◌≡◌, ℕ, map, List, [], ◌∷◌, ◌++◌, Option, Some, refl, sym, ap, subst, ◌∙◌}
use Rattle.std.proofs.lemmas.List.{append-nil, append_assoc}
use Rattle.sr_base.specs.declared.value.Kind.{Kind}
use Rattle.sr_base.specs.declared.value.Value.{Value as Cell}
use Rattle.sr_base.specs.declared.value.Value.TheVariants.{Null}
use Rattle.sr_ast.specs.declared.create.CreateTrigger.{CreateTrigger}
use Rattle.sr_ast.specs.declared.create.Image.{Image}
use Rattle.sr_ast.specs.declared.create.Image.TheVariants.{Old, New, Remote}
use Rattle.sr_eval.specs.Bounds.{IsRowOf}
use Rattle.sr_eval.specs.Inner.Bounds.{AreRows, columns_of, values_of}
use Rattle.sr_eval.specs.declared.bound.Bound.{Bound}
use Rattle.sr_exec_fits.specs.Rows.{IsRow}
use Rattle.sr_exec_fits.proofs.Rows.{row_of as row_of_table}
use Rattle.sr_catalog_schema.specs.declared.table.Column.{Column}
use Rattle.sr_catalog_schema.specs.declared.table.Table.{Table}
use Rattle.sr_catalog_triggers.specs.Triggers.{aliases_scope, variables_scope, trigger_scope}
use Rattle.sr_resolve_triggers.specs.Firing.{entered}
use Rattle.sr_resolve_triggers.specs.Inner.Running.{Columns, update_conflict_of, columns_behind, behind_alias, columns_left, values_left, AliasesFit}
use Rattle.sr_resolve_triggers.specs.Bindings.{UpdateConflict, Bindings, row_of, alias_values, values_of as trigger_values, UpdateConflictFits, BindingsFits}
use Rattle.sr_resolve_triggers.specs.declared.conflict.Conflict.{Conflict}

-- one source more
pub columns_more : (xs : List Bound) (b : Bound) (rest : Columns) → columns_of (xs ++ b ∷ []) ++ rest ≡ columns_of xs ++ (b.scope.now ++ rest)
columns_more [] b rest = ap (λ ys. ys ++ rest) (append-nil b.scope.now)
columns_more (x ∷ xs) b rest =
    append_assoc x.scope.now (columns_of (xs ++ b ∷ [])) rest ∙ ap (λ ys. x.scope.now ++ ys) (columns_more xs b rest)
    ∙ sym (append_assoc x.scope.now (columns_of xs) (b.scope.now ++ rest))

pub values_more : (xs : List Bound) (b : Bound) (rest : List Cell) → values_of (xs ++ b ∷ []) ++ rest ≡ values_of xs ++ (b.values.now ++ rest)
values_more [] b rest = ap (λ ys. ys ++ rest) (append-nil b.values.now)
values_more (x ∷ xs) b rest =
    append_assoc x.values.now (values_of (xs ++ b ∷ [])) rest ∙ ap (λ ys. x.values.now ++ ys) (values_more xs b rest)
    ∙ sym (append_assoc x.values.now (values_of xs) (b.values.now ++ rest))

pub fit_more : (xs : List Bound) (b : Bound) → AreRows xs → IsRowOf b.scope.now b.values.now → AreRows (xs ++ b ∷ [])
fit_more [] b fit row = (row, tt)
fit_more (x ∷ xs) b fit row = (fit.0, fit_more xs b fit.1 row)

-- the columns and values of all aliases
pub scope_left : (t : Table) (aliases : List (Image × List ℕ)) → columns_left (map (behind_alias t) aliases) ≡ aliases_scope t aliases
scope_left t [] = refl
scope_left t (a ∷ aliases) = ap (λ ys. columns_behind t a.1 ++ ys) (scope_left t aliases)

pub alias_values_left : (base : UpdateConflict) (bindings : Bindings) (t : Table) (aliases : List (Image × List ℕ))
    → values_left base bindings (map (behind_alias t) aliases) ≡ alias_values base bindings aliases
alias_values_left base bindings t [] = refl
alias_values_left base bindings t (a ∷ aliases) = ap (λ ys. row_of base bindings a.0 ++ ys) (alias_values_left base bindings t aliases)

-- a row fits its columns behind whatever name
behind_other : (a b : Option (List ℕ)) (columns : List Column) (row : List Cell) → IsRowOf (map (λ c. (a, c.name, c.kind)) columns) row
    → IsRowOf (map (λ c. (b, c.name, c.kind)) columns) row
behind_other a b [] [] fits = tt
behind_other a b [] (v ∷ row) fits = absurd fits
behind_other a b (c ∷ columns) [] fits = absurd fits
behind_other a b (c ∷ columns) (v ∷ row) fits = (fits.0, behind_other a b columns row fits.1)

image_fits : (base : UpdateConflict) (bindings : Bindings) (variables : List (List ℕ × Kind)) (image : Image) (alias : List ℕ) → UpdateConflictFits base
    → BindingsFits base variables bindings
    → IsRowOf (columns_behind base.table alias) (row_of base bindings image)
image_fits base bindings variables Old alias g s = row_of_table alias base.table.columns base.stored g.stored
image_fits base bindings variables New alias g s = row_of_table alias base.table.columns bindings.new s.new
image_fits base bindings variables Remote alias g s = behind_other (Some base.table.name) (Some alias) base.table.columns base.remote g.remote

pub aliases_fit : (base : UpdateConflict) (bindings : Bindings) (variables : List (List ℕ × Kind)) (aliases : List (Image × List ℕ)) → UpdateConflictFits base
    → BindingsFits base variables bindings
    → AliasesFit base bindings (map (behind_alias base.table) aliases)
aliases_fit base bindings variables [] g s = tt
aliases_fit base bindings variables (a ∷ aliases) g s = (image_fits base bindings variables a.0 a.1 g s, aliases_fit base bindings variables aliases g s)

-- at the beginning of a trigger
nulls_fit : (variables : List (List ℕ × Kind)) → IsRowOf (variables_scope variables) (map (λ _. Null) variables)
nulls_fit [] = tt
nulls_fit (v ∷ variables) = (refl, nulls_fit variables)

pub entered_fits : (base : UpdateConflict) (trigger : CreateTrigger) (bindings : Bindings) → IsRow base.table.columns bindings.new
    → BindingsFits base trigger.variables (entered trigger bindings)
entered_fits base trigger bindings row = record { new = row; variables = nulls_fit trigger.variables }

-- a trigger that begins, as the program keeps it
pub begun_fits : (conflict ran : Conflict) (rule trigger : CreateTrigger) (bindings s : Bindings) → ran ≡ conflict → trigger ≡ rule → s ≡ entered rule bindings
    → IsRow conflict.table.now.columns bindings.new → BindingsFits (update_conflict_of ran) trigger.variables s
begun_fits conflict ran rule trigger bindings s same rules is row =
    let fits = entered_fits (update_conflict_of conflict) rule bindings row in
    subst (λ (x : Conflict). BindingsFits (update_conflict_of x) trigger.variables s) (sym same)
    (subst (λ (g : CreateTrigger). BindingsFits (update_conflict_of conflict) g.variables s) (sym rules)
    (subst (λ (x : Bindings). BindingsFits (update_conflict_of conflict) rule.variables x) (sym is) fits))

-- the columns of all sources: of the variables, and behind them of each alias
pub scope_all : (t : Table) (trigger : CreateTrigger) (old xs : List Bound) (b : Bound) (left : List (Image × Columns)) (ys : Columns) → old ≡ []
    → xs ≡ old ++ b ∷ [] → b.scope.now ≡ variables_scope trigger.variables → left ≡ map (behind_alias t) trigger.aliases
    → ys ≡ columns_of xs ++ columns_left left → ys ≡ trigger_scope trigger t
scope_all t trigger old xs b left ys none one scope aliases is =
    let first : xs ≡ b ∷ [] = one ∙ ap (λ zs. zs ++ b ∷ []) none in
    is ∙ ap (λ zs. columns_of zs ++ columns_left left) first ∙ ap (λ zs. zs ++ columns_left left) (append-nil b.scope.now)
    ∙ ap (λ zs. zs ++ columns_left left) scope ∙ ap (λ zs. variables_scope trigger.variables ++ columns_left zs) aliases
    ∙ ap (λ zs. variables_scope trigger.variables ++ zs) (scope_left t trigger.aliases)

-- and their values
pub values_all : (base : UpdateConflict) (trigger : CreateTrigger) (bindings : Bindings) (t : Table) (old xs : List Bound) (b : Bound) (left : List (Image × Columns))
    (ys : List Cell) → old ≡ [] → xs ≡ old ++ b ∷ [] → b.values.now ≡ bindings.variables → left ≡ map (behind_alias t) trigger.aliases
    → ys ≡ values_of xs ++ values_left base bindings left → ys ≡ trigger_values base trigger bindings
values_all base trigger bindings t old xs b left ys none one values aliases is =
    let first : xs ≡ b ∷ [] = one ∙ ap (λ zs. zs ++ b ∷ []) none in
    is ∙ ap (λ zs. values_of zs ++ values_left base bindings left) first ∙ ap (λ zs. zs ++ values_left base bindings left) (append-nil b.values.now)
    ∙ ap (λ zs. zs ++ values_left base bindings left) values ∙ ap (λ zs. bindings.variables ++ values_left base bindings zs) aliases
    ∙ ap (λ zs. bindings.variables ++ zs) (alias_values_left base bindings t trigger.aliases)

pub ruleset one_more = (columns_more, values_more, fit_more)
