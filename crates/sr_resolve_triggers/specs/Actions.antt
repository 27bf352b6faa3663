-- What the actions of a trigger do.
use Rattle.std.specs.Prelude.{ℕ, Bool, true, false, cond, ◌||◌, is_some, List, [], ◌∷◌, ◌++◌, Option, Some, None, slice_get, bytes_eq}
use Rattle.std.proofs.Math.ListN.{set as set_at}
use Rattle.std.specs.FinMap as map_of
use Rattle.std.specs.Option.{option_and_then, option_map}
use Rattle.sr_base.specs.declared.value.Value.{Value as Cell}
use Rattle.sr_base.specs.declared.value.Value.TheVariants.{Null}
use Rattle.sr_ast.specs.Chains.{Chain}
use Rattle.sr_ast.specs.Chains.Chain.{done, set, insert, when, choose}
use Rattle.sr_ast.specs.Terms.{Term}
use Rattle.sr_ast.specs.declared.create.CreateTrigger.{CreateTrigger}
use Rattle.sr_eval.specs.Meanings.{Meaning, meaning, cell_of, is_true}
use Rattle.sr_exec_dml.specs.Applying.{place_of}
use Rattle.sr_exec_where.specs.Naming.{names_of}
use Rattle.sr_exec_dml.specs.Statements.{table_named}
use Rattle.sr_logform.specs.declared.change.Change.{Change}
use Rattle.sr_rows.specs.Marks.{Place}
use Rattle.sr_catalog_schema.specs.Members.{column_name}
use Rattle.sr_catalog_schema.specs.Names.{place_of as place_named}
use Rattle.sr_catalog_schema.specs.declared.table.Column.{Column}
use Rattle.sr_catalog_schema.specs.declared.table.Table.{Table}
use Rattle.sr_catalog_triggers.specs.Triggers.{trigger_scope, is_target, variable_name}
use Rattle.sr_resolve_triggers.specs.Holding.{held_by, held_in}
use Rattle.sr_resolve_triggers.specs.Bindings.{UpdateConflict, Bindings, values_of}

-- ---- expressions: over the variables and the rows behind the aliases

abbrev pub meaning_in : UpdateConflict → CreateTrigger → Bindings → Term → Option Meaning
meaning_in base trigger bindings e = meaning (trigger_scope trigger base.table) (values_of base trigger bindings) e

-- the value of an expression; none where a number passes its type's end
unfoldable pub value_in : UpdateConflict → CreateTrigger → Bindings → Term → Option Cell
value_in base trigger bindings e = option_map cell_of (meaning_in base trigger bindings e)

-- whether a condition is true: it is not where it is false or unknown. None where a number passes its type's end
unfoldable pub truth_in : UpdateConflict → CreateTrigger → Bindings → Term → Option Bool
truth_in base trigger bindings e = option_map (λ m. is_true (Some m)) (meaning_in base trigger bindings e)

-- ---- SET

-- values with the one at a place set, where there is such a place, and a value for it
abbrev pub set_where : Option ℕ → (ℕ → Option Cell) → List Cell → Option (List Cell)
set_where place value values = option_and_then (λ p. option_map (set_at values p) (value p)) place

-- the row that is to stand, with a column set
abbrev pub new_set : Table → List ℕ → Option Cell → List Cell → Option (List Cell)
new_set table name v row = set_where (place_named column_name name table.columns) (λ p. option_and_then (λ c. held_by c v) (slice_get table.columns p)) row

-- the variables, with one set
abbrev pub variables_set : CreateTrigger → List ℕ → Option Cell → List Cell → Option (List Cell)
variables_set trigger name v values =
    set_where (place_named variable_name name trigger.variables) (λ p. option_and_then (λ variable. held_in variable v) (slice_get trigger.variables p)) values

-- SET writes a variable, or a column of NEW that is not of the key
unfoldable pub after_set : UpdateConflict → CreateTrigger → Option (List ℕ) → List ℕ → Option Cell → Bindings → Option Bindings
after_set base trigger None name v bindings = option_map (λ values. record bindings { variables = values }) (variables_set trigger name v bindings.variables)
after_set base trigger (Some alias) name v bindings =
    cond (is_target trigger base.table (Some alias) name) (option_map (λ row. record bindings { new = row }) (new_set base.table name v bindings.new)) None

-- ---- INSERT

-- the expression that stands for a column
abbrev pub term_for : List (List ℕ) → List Term → List ℕ → Option Term
term_for [] es column = None
term_for (name ∷ names) [] column = None
term_for (name ∷ names) (e ∷ es) column = cond (bytes_eq name column) (Some e) (term_for names es column)

-- its value; NULL where none stands for it
abbrev pub given : (Term → Option Cell) → Option Term → Option Cell
given value None = Some Null
given value (Some e) = value e

-- an item before others, where all are there
abbrev pub in_front : {A : Type 0} → Option A → Option (List A) → Option (List A)
in_front item items = option_and_then (λ x. option_map (λ xs. x ∷ xs) items) item

-- the row that an INSERT makes
abbrev pub row_made : (Term → Option Cell) → List (List ℕ) → List Term → List Column → Option (List Cell)
row_made value names es [] = Some []
row_made value names es (c ∷ columns) = in_front (held_by c (given value (term_for names es c.name))) (row_made value names es columns)

-- whether a row stands at a place: one from before the update, or one that a trigger has inserted
abbrev pub is_held : UpdateConflict → Bindings → Place → Bool
is_held base bindings place = is_some (map_of.get base.rows place) || is_some (map_of.get bindings.added place)

-- the change that a row makes which is inserted
abbrev pub insertion : Table → List Cell → Change
insertion table row = record { table = table.name; before = None; after = Some row }

-- with a row inserted, unless its key is held
abbrev pub with_inserted : UpdateConflict → Table → List Cell → Bindings → Option Bindings
with_inserted base table row bindings =
    cond (is_held base bindings (place_of table row)) None
    (Some (record bindings { added = map_of.insert bindings.added (place_of table row) row; inserts = bindings.inserts ++ insertion table row ∷ [] }))

-- INSERT puts a row into a table that is there
unfoldable pub after_insert : UpdateConflict → CreateTrigger → List ℕ → List (List ℕ) → List Term → Bindings → Option Bindings
after_insert base trigger name columns es bindings =
    option_and_then (λ table. option_and_then (λ row. with_inserted base table row bindings)
    (row_made (value_in base trigger bindings) (names_of table.columns columns) es table.columns)) (table_named base.catalog name)

-- ---- actions, one after the other

-- one of two, by a truth
abbrev pub branch : {A : Type 0} → Option Bool → Option A → Option A → Option A
branch None one other = None
branch (Some true) one other = one
branch (Some false) one other = other

-- what actions make of a bindings: nothing where one of them fails
abbrev pub acted : UpdateConflict → CreateTrigger → Chain → Bindings → Option Bindings
acted base trigger done bindings = Some bindings
acted base trigger (set alias name e rest) bindings =
    option_and_then (acted base trigger rest) (after_set base trigger alias name (value_in base trigger bindings e) bindings)
acted base trigger (insert table columns es rest) bindings = option_and_then (acted base trigger rest) (after_insert base trigger table columns es bindings)
acted base trigger (when e taken rest) bindings =
    option_and_then (acted base trigger rest) (branch (truth_in base trigger bindings e) (acted base trigger taken bindings) (Some bindings))
acted base trigger (choose e taken other rest) bindings =
    option_and_then (acted base trigger rest)
    (branch (truth_in base trigger bindings e) (acted base trigger taken bindings) (acted base trigger other bindings))
