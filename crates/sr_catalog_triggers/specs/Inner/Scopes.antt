-- The types of a trigger's variables, and of the columns of its table, by their names.
use Rattle.std.specs.Prelude.{ℕ, List, [], ◌∷◌, Option, None, cond, option_map}
use Rattle.sr_base.specs.declared.value.Kind.{Kind}
use Rattle.sr_ast.specs.declared.create.CreateTrigger.{CreateTrigger}
use Rattle.sr_ast.specs.declared.create.Image.{Image}
use Rattle.sr_catalog_schema.specs.Members.{column_name, key_names}
use Rattle.sr_catalog_schema.specs.Names.{named, taken, HasFirsts}
use Rattle.sr_catalog_schema.specs.declared.table.Table.{Table}
use Rattle.sr_catalog_triggers.specs.Triggers.{variable_name, alias_name}
use Rattle.sr_catalog_triggers.specs.declared.scope.TriggerScope.TheInside.{Inside}

-- the type of the first variable of a name
abbrev pub variable_kind : CreateTrigger → List ℕ → Option Kind
variable_kind g n = option_map (λ v. v.1) (named variable_name n g.variables)

-- the type of the column of a name
abbrev pub column_kind : Table → List ℕ → Option Kind
column_kind t n = option_map (λ c. c.kind) (named column_name n t.columns)

-- this, where there is an alias
abbrev pub behind_any : List (Image × List ℕ) → Option Kind → Option Kind
behind_any [] kind = None
behind_any (a ∷ rest) kind = kind

-- the type of the column of a name, where there is an alias
abbrev pub kind_behind_any : CreateTrigger → Table → List ℕ → Option Kind
kind_behind_any g t n = behind_any g.aliases (column_kind t n)

-- the type of the column of a name behind this alias
abbrev pub kind_behind : CreateTrigger → Table → List ℕ → List ℕ → Option Kind
kind_behind g t alias n = cond (taken alias_name alias g.aliases) (column_kind t n) None

-- the indexes have the first variable, alias, column and key column of each name
abbrev pub IsIndexed : Inside → Type 0
IsIndexed s =
    HasFirsts variable_name s.variables s.rule.now.variables × HasFirsts alias_name s.aliases s.rule.now.aliases
    × HasFirsts column_name s.columns s.table.now.columns × HasFirsts (λ n. n) s.key (key_names s.table.now)
