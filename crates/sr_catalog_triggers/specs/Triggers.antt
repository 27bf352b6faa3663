-- CREATE TRIGGER and DROP TRIGGER, and which tables a trigger names.
use Rattle.std.specs.Prelude.{ℕ, Bool, true, false, not, ◌&&◌, ◌||◌, cond, nat_eq, nat_le, List}
use Rattle.std.specs.Prelude.{[], ◌∷◌, ◌++◌, length, map, is_some, Option, Some, None, option_map, bytes_eq}
use Rattle.std.specs.List.{list_any}
use Rattle.sr_base.specs.declared.value.Kind.{Kind}
use Rattle.sr_ast.specs.Classes.{class_in, unknown_in}
use Rattle.sr_ast.specs.Terms.{Term}
use Rattle.sr_ast.specs.Terms.Term.{column}
use Rattle.sr_ast.specs.Chains.{Chain}
use Rattle.sr_ast.specs.Chains.Chain.{done, set, insert, when, choose}
use Rattle.sr_ast.specs.declared.classes.Class.{Class}
use Rattle.sr_ast.specs.declared.create.CreateTrigger.{CreateTrigger}
use Rattle.sr_ast.specs.declared.create.Image.{Image}
use Rattle.sr_ast.specs.declared.create.Image.TheVariants.{Old, New, Remote}
use Rattle.sr_ast.specs.declared.stmt.Stmt.{Stmt}
use Rattle.sr_ast.specs.declared.stmt.Stmt.TheVariants as stmt
use Rattle.sr_catalog_schema.specs.Catalogs.{Lists}
use Rattle.sr_catalog_schema.specs.Causes.{Causes, no_cause}
use Rattle.sr_catalog_schema.specs.Firsts.{first_of, first_among, where_true, has, first_twice, first_absent}
use Rattle.sr_catalog_schema.specs.Names.{named, taken}
use Rattle.sr_ast.specs.Uses.{gives_truth, gives_value}
use Rattle.sr_catalog_schema.specs.Expressions.{refs}
use Rattle.sr_catalog_schema.specs.Members.{key_names, table_name, has_column, trigger_name}
use Rattle.sr_catalog_schema.specs.declared.table.Table.{Table}
use Rattle.sr_catalog_schema.specs.declared.trigger.Trigger.{Trigger}

abbrev pub variable_name : List ℕ × Kind → List ℕ
variable_name v = v.0

abbrev pub alias_name : Image × List ℕ → List ℕ
alias_name a = a.1

-- ---- a trigger's actions one by one

-- a part of an action: a SET, an INSERT, or the condition of an IF
pub data Part : Type 0 where
  assigned : Option (List ℕ) → List ℕ → Term → Part
  inserted : List ℕ → List (List ℕ) → List Term → Part
  tested : Term → Part

-- what the first part gives that gives something, in the order of the text
abbrev pub first_in : {A : Type 0} → (Part → Option A) → Chain → Option A
first_in f done = None
first_in f (set t n v rest) = first_of (f (assigned t n v)) (first_in f rest)
first_in f (insert t cs vs rest) = first_of (f (inserted t cs vs)) (first_in f rest)
first_in f (when c taken rest) = first_of (f (tested c)) (first_of (first_in f taken) (first_in f rest))
first_in f (choose c taken other rest) = first_of (f (tested c)) (first_of (first_in f taken) (first_of (first_in f other) (first_in f rest)))

-- ---- Exists

-- a column that an INSERT names twice
abbrev pub twice_in : Part → Option (List ℕ)
twice_in (assigned a n v) = None
twice_in (inserted t cs vs) = first_twice cs
twice_in (tested e) = None

-- ---- what a trigger's expressions may name

abbrev pub Scope : Type 0
Scope = List (Option (List ℕ) × List ℕ × Kind)

-- its variables
abbrev pub variables_scope : List (List ℕ × Kind) → Scope
variables_scope variables = map (λ v. (None, v.0, v.1)) variables

-- the columns of the table behind each alias
abbrev pub aliases_scope : Table → List (Image × List ℕ) → Scope
aliases_scope t [] = []
aliases_scope t (a ∷ rest) = map (λ c. (Some a.1, c.name, c.kind)) t.columns ++ aliases_scope t rest

-- the variables first, since a name without a dot is a variable
abbrev pub trigger_scope : CreateTrigger → Table → Scope
trigger_scope g t = variables_scope g.variables ++ aliases_scope t g.aliases

-- ---- Missing

-- a column behind an alias that is not there
abbrev pub absent_ref : Scope → Option (List ℕ) → List ℕ → Option (List ℕ)
absent_ref scope None n = None
absent_ref scope (Some alias) n = unknown_in scope (column (Some alias) n)

-- the leftmost of an expression
abbrev pub absent_of : Scope → Term → Option (List ℕ)
absent_of scope e = first_among (λ r. absent_ref scope r.0 r.1) (refs e)

-- what stands behind an alias that is there, and is no column
abbrev pub absent_target : List (Image × List ℕ) → Scope → Option (List ℕ) → List ℕ → Option (List ℕ)
absent_target aliases scope None n = None
absent_target aliases scope (Some alias) n = cond (taken alias_name alias aliases) (unknown_in scope (column (Some alias) n)) None

-- the table of an INSERT, or the first of its columns, that is not there
abbrev pub absent_columns : List ℕ → List (List ℕ) → Option Table → Option (List ℕ)
absent_columns t cs None = Some t
absent_columns t cs (Some found) = first_absent (has_column found) cs

-- what a part names that is not there
unfoldable pub absent_in_part : List Table → List (Image × List ℕ) → Scope → Part → Option (List ℕ)
absent_in_part tables aliases scope (assigned a n v) = first_of (absent_target aliases scope a n) (absent_of scope v)
absent_in_part tables aliases scope (inserted t cs vs) = first_of (absent_columns t cs (named table_name t tables)) (first_among (absent_of scope) vs)
absent_in_part tables aliases scope (tested e) = absent_of scope e

-- ---- BadType

-- a name without a dot that is no variable
abbrev pub is_undeclared : List (List ℕ × Kind) → Option (List ℕ) → List ℕ → Bool
is_undeclared variables None n = not (taken variable_name n variables)
is_undeclared variables (Some alias) n = false

abbrev pub has_undeclared : List (List ℕ × Kind) → Term → Bool
has_undeclared variables e = list_any (λ r. is_undeclared variables r.0 r.1) (refs e)

-- a value, or a condition, that names no variable of the trigger or has a wrong class
abbrev pub is_bad_expr : (Option Class → Bool) → List (List ℕ × Kind) → Scope → Term → Bool
is_bad_expr may_stand variables scope e = has_undeclared variables e || not (may_stand (class_in scope e))

-- the row that an alias stands for
abbrev pub image_of : List (Image × List ℕ) → List ℕ → Option Image
image_of aliases alias = option_map (λ a. a.0) (named alias_name alias aliases)

abbrev pub is_new : Option Image → Bool
is_new None = false
is_new (Some Old) = false
is_new (Some New) = true
is_new (Some Remote) = false

-- whether SET may write it: a variable, or a column of NEW that is not of the key
abbrev pub is_target : CreateTrigger → Table → Option (List ℕ) → List ℕ → Bool
is_target g t None n = taken variable_name n g.variables
is_target g t (Some alias) n = is_new (image_of g.aliases alias) && not (has (key_names t) n)

-- how many values an INSERT has to give
abbrev pub wanted : List (List ℕ) → Option Table → ℕ
wanted cs None = length cs
wanted cs (Some t) = cond (nat_eq (length cs) 0) (length t.columns) (length cs)

-- a part with a wrong target, a wrong count of values, an undeclared variable or a wrong class
unfoldable pub is_bad_part : CreateTrigger → List Table → Table → Scope → Part → Bool
is_bad_part g tables t scope (assigned a n v) = not (is_target g t a n) || is_bad_expr gives_value g.variables scope v
is_bad_part g tables t scope (inserted into cs vs) =
    not (nat_eq (length vs) (wanted cs (named table_name into tables))) || list_any (is_bad_expr gives_value g.variables scope) vs
is_bad_part g tables t scope (tested e) = is_bad_expr gives_truth g.variables scope e

-- ---- CREATE TRIGGER

-- the first column behind OF, or what its actions name, that is not there
abbrev pub absent_behind : List Table → CreateTrigger → Table → Option (List ℕ)
absent_behind tables g t =
    first_of (first_absent (has_column t) g.columns) (first_in (absent_in_part tables g.aliases (trigger_scope g t)) g.actions)

-- what a trigger names that is not there: its table; a column behind OF; what its actions name
unfoldable pub absent_in_trigger : List Table → CreateTrigger → Option Table → Option (List ℕ)
absent_in_trigger tables g None = Some g.table
absent_in_trigger tables g (Some t) = absent_behind tables g t

-- the trigger's name, where it declares a variable twice or has a bad part
abbrev pub bad_behind : List Table → CreateTrigger → Table → Option (List ℕ)
bad_behind tables g t =
    first_of (where_true (is_some (first_twice (map variable_name g.variables))) g.name)
    (first_in (λ part. where_true (is_bad_part g tables t (trigger_scope g t) part) g.name) g.actions)

-- a trigger on a table that is there
unfoldable pub bad_in_trigger : List Table → CreateTrigger → Option Table → Option (List ℕ)
bad_in_trigger tables g None = None
bad_in_trigger tables g (Some t) = bad_behind tables g t

-- the trigger's name, where it is taken, or a column that it or an INSERT names twice
abbrev pub taken_or_twice : Lists → CreateTrigger → Option (List ℕ)
taken_or_twice c g = first_of (where_true (taken trigger_name g.name c.triggers) g.name) (first_of (first_twice g.columns) (first_in twice_in g.actions))

-- what speaks against CREATE TRIGGER: the name is taken, a column is named twice; a table or a column is not there; a fault in its
-- variables and actions, by the trigger's name; there are 1,024 triggers already
unfoldable pub create_trigger_causes : Lists → CreateTrigger → Causes
create_trigger_causes c g = record no_cause {
  exists = taken_or_twice c g;
  missing = absent_in_trigger c.tables g (named table_name g.table c.tables);
  bad_type = bad_in_trigger c.tables g (named table_name g.table c.tables);
  too_many = where_true (nat_le 1024 (length c.triggers)) 1024;
}

-- the trigger that CREATE TRIGGER makes
abbrev pub trigger_of : CreateTrigger → Trigger
trigger_of g = record { name = g.name; table = g.table; stmt = stmt.CreateTrigger g }

-- what speaks against DROP TRIGGER: it is not there
unfoldable pub drop_trigger_causes : Lists → List ℕ → Causes
drop_trigger_causes c n = record no_cause { missing = where_true (not (taken trigger_name n c.triggers)) n }

-- ---- which tables a trigger names

-- an INSERT into a table
abbrev pub inserts_into : List ℕ → Part → Option (List ℕ)
inserts_into table (assigned a n v) = None
inserts_into table (inserted t cs vs) = where_true (bytes_eq table t) t
inserts_into table (tested e) = None

-- whether the actions of a trigger's statement insert into a table
abbrev pub stmt_names : List ℕ → Stmt → Bool
stmt_names table (stmt.CreateTrigger g) = is_some (first_in (inserts_into table) g.actions)
stmt_names table _ = false

-- whether a trigger stands on a table or inserts into it
unfoldable pub trigger_names : List ℕ → Trigger → Bool
trigger_names table t = bytes_eq table t.table || stmt_names table t.stmt
