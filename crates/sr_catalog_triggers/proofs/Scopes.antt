-- What a name means in a trigger's scope, by the variables, the aliases and the columns.
use Rattle.std.proofs.Common.{◌≡◌, ℕ, Bool, true, false, cond, List, [], ◌∷◌, ◌++◌, map, Option, Some, None, refl, ap, sym, ◌∙◌}
use Rattle.std.specs.Prelude.{◌&&◌, ◌||◌, option_map, bytes_eq}
use Rattle.sr_base.specs.declared.value.Kind.{Kind}
use Rattle.sr_ast.specs.Classes.{kind_of, is_meant}
use Rattle.sr_ast.specs.declared.create.CreateTrigger.{CreateTrigger}
use Rattle.sr_ast.specs.declared.create.Image.{Image}
use Rattle.sr_catalog_schema.specs.Firsts.{first_of}
use Rattle.sr_catalog_schema.specs.Members.{column_name}
use Rattle.sr_catalog_schema.specs.Names.{named, taken}
use Rattle.sr_catalog_schema.specs.declared.table.Table.{Table}
use Rattle.sr_catalog_schema.specs.declared.table.Column.{Column}
use Rattle.sr_catalog_schema.proofs.Places.{flipped}
use Rattle.sr_catalog_schema.proofs.Scoped.{and_true, and_false, found, columns_behind, column_alone, other_alias, this_alias}
use Rattle.sr_catalog_triggers.specs.Inner.Scopes.{variable_kind, column_kind, behind_any, kind_behind, kind_behind_any}
use Rattle.sr_catalog_triggers.specs.Triggers.{Scope, variable_name, alias_name, variables_scope, aliases_scope, trigger_scope}

-- one list behind another
behind : (xs ys : Scope) (table : Option (List ℕ)) (n : List ℕ) → kind_of (xs ++ ys) table n ≡ first_of (kind_of xs table n) (kind_of ys table n)
behind [] ys table n = refl
behind (x ∷ xs) ys table n =
    elim (is_meant x.0 x.1 table n) as (λ b. cond b (Some x.2) (kind_of (xs ++ ys) table n) ≡ first_of (cond b (Some x.2) (kind_of xs table n)) (kind_of ys table n)) [
      | true ↦ refl
      | false ↦ behind xs ys table n
    ]

-- a name without a dot among the variables
variable_alone : (vs : List (List ℕ × Kind)) (n : List ℕ) → kind_of (variables_scope vs) None n ≡ option_map (λ v. v.1) (named variable_name n vs)
variable_alone [] n = refl
variable_alone (v ∷ vs) n =
    let same : (bytes_eq v.0 n && true) ≡ bytes_eq n v.0 = and_true (bytes_eq v.0 n) ∙ flipped v.0 n in
    (λ i. cond (same i) (Some v.1) (variable_alone vs n i)) ∙ sym (found (λ (w : List ℕ × Kind). w.1) (bytes_eq n v.0) v (named variable_name n vs))

-- no variable stands behind an alias
variable_behind : (vs : List (List ℕ × Kind)) (alias n : List ℕ) → kind_of (variables_scope vs) (Some alias) n ≡ None
variable_behind [] alias n = refl
variable_behind (v ∷ vs) alias n = (λ i. cond (and_false (bytes_eq v.0 n) i) (Some v.1) (kind_of (variables_scope vs) (Some alias) n)) ∙ variable_behind vs alias n

first_again : {A : Type 0} (a : Option A) → first_of a a ≡ a
first_again None = refl
first_again (Some x) = refl

first_alone : {A : Type 0} (a : Option A) → first_of a None ≡ a
first_alone None = refl
first_alone (Some x) = refl

-- a name without a dot among the columns behind the aliases
aliases_alone : (t : Table) (aliases : List (Image × List ℕ)) (n : List ℕ) → kind_of (aliases_scope t aliases) None n ≡ behind_any aliases (column_kind t n)
aliases_alone t [] n = refl
aliases_alone t (a ∷ rest) n =
    behind (columns_behind a.1 t.columns) (aliases_scope t rest) None n
    ∙ ((λ i. first_of (column_alone a.1 t.columns n i) (aliases_alone t rest n i)) ∙ again rest (column_kind t n))
  where
    again : (others : List (Image × List ℕ)) (k : Option Kind) → first_of k (behind_any others k) ≡ k
    again [] k = first_alone k
    again (o ∷ others) k = first_again k

-- a name behind an alias among the columns behind the aliases
aliases_behind : (t : Table) (aliases : List (Image × List ℕ)) (alias n : List ℕ)
    → kind_of (aliases_scope t aliases) (Some alias) n ≡ cond (taken alias_name alias aliases) (column_kind t n) None
aliases_behind t [] alias n = refl
aliases_behind t (a ∷ rest) alias n =
    behind (columns_behind a.1 t.columns) (aliases_scope t rest) (Some alias) n
    ∙ (ap (first_of (kind_of (columns_behind a.1 t.columns) (Some alias) n)) (aliases_behind t rest alias n) ∙ by (bytes_eq alias a.1) refl)
  where
    other : (b : Bool) → first_of (column_kind t n) (cond b (column_kind t n) None) ≡ column_kind t n
    other true = first_again (column_kind t n)
    other false = first_alone (column_kind t n)

    by : (b : Bool) → bytes_eq alias a.1 ≡ b
        → first_of (kind_of (columns_behind a.1 t.columns) (Some alias) n) (cond (taken alias_name alias rest) (column_kind t n) None)
        ≡ cond (bytes_eq alias a.1 || taken alias_name alias rest) (column_kind t n) None
    by true e =
        ap (λ k. first_of k (cond (taken alias_name alias rest) (column_kind t n) None)) (this_alias a.1 t.columns alias n (flipped a.1 alias ∙ e))
        ∙ (other (taken alias_name alias rest) ∙ sym (ap (λ b. cond (b || taken alias_name alias rest) (column_kind t n) None) e))
    by false e =
        ap (λ k. first_of k (cond (taken alias_name alias rest) (column_kind t n) None)) (other_alias a.1 t.columns alias n (flipped a.1 alias ∙ e))
        ∙ sym (ap (λ b. cond (b || taken alias_name alias rest) (column_kind t n) None) e)

-- in a trigger's scope a name without a dot is a variable, or else a column behind any alias
pub scope_alone : (g : CreateTrigger) (t : Table) (n : List ℕ) → kind_of (trigger_scope g t) None n ≡ first_of (variable_kind g n) (kind_behind_any g t n)
scope_alone g t n =
    behind (variables_scope g.variables) (aliases_scope t g.aliases) None n
    ∙ (λ i. first_of (variable_alone g.variables n i) (aliases_alone t g.aliases n i))

-- and a name behind an alias a column
pub scope_behind : (g : CreateTrigger) (t : Table) (alias n : List ℕ) → kind_of (trigger_scope g t) (Some alias) n ≡ kind_behind g t alias n
scope_behind g t alias n =
    behind (variables_scope g.variables) (aliases_scope t g.aliases) (Some alias) n
    ∙ (λ i. first_of (variable_behind g.variables alias n i) (aliases_behind t g.aliases alias n i))
