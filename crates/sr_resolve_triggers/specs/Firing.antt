-- Which triggers a conflict fires, and what they leave.
use Rattle.std.specs.Prelude.{ℕ, Bool, true, cond, List, [], ◌∷◌, map, Option, Some, None, bytes_eq}
use Rattle.std.specs.List.{list_any}
use Rattle.std.specs.FinMap as map_of
use Rattle.std.specs.Option.{option_and_then, option_map}
use Rattle.sr_base.specs.declared.value.Value.{Value as Cell}
use Rattle.sr_base.specs.declared.value.Value.TheVariants.{Null}
use Rattle.sr_ast.specs.declared.create.CreateTrigger.{CreateTrigger}
use Rattle.sr_ast.specs.declared.stmt.Stmt.{Stmt}
use Rattle.sr_ast.specs.declared.stmt.Stmt.TheVariants as stmt
use Rattle.sr_catalog_schema.specs.Firsts.{has}
use Rattle.sr_catalog_schema.specs.declared.trigger.Trigger.{Trigger}
use Rattle.sr_resolve_triggers.specs.declared.fired.Fired.{Fired}
use Rattle.sr_resolve_triggers.specs.Actions.{acted}
use Rattle.sr_resolve_triggers.specs.Bindings.{UpdateConflict, Bindings}

-- whether a trigger fires that names these columns behind OF: where one of them differs, or where it names none
abbrev pub is_fired : List (List ℕ) → List (List ℕ) → Bool
is_fired differing [] = true
is_fired differing (name ∷ names) = list_any (has differing) (name ∷ names)

-- a trigger's statement, where it fires
abbrev pub firing_stmt : List (List ℕ) → Stmt → Option CreateTrigger
firing_stmt differing (stmt.CreateTrigger g) = cond (is_fired differing g.columns) (Some g) None
firing_stmt differing _ = None

-- the same of a trigger, where it stands on the table
abbrev pub firing : List ℕ → List (List ℕ) → Trigger → Option CreateTrigger
firing table differing t = cond (bytes_eq table t.table) (firing_stmt differing t.stmt) None

-- the bindings at the beginning of a trigger: each variable is NULL
abbrev pub entered : CreateTrigger → Bindings → Bindings
entered trigger bindings = record bindings { variables = map (λ _. Null) trigger.variables }

-- what a trigger makes of a bindings, if it fires
abbrev pub after_trigger : UpdateConflict → Option CreateTrigger → Bindings → Option Bindings
after_trigger base None bindings = Some bindings
after_trigger base (Some trigger) bindings = acted base trigger trigger.actions (entered trigger bindings)

-- triggers one after the other, each with the bindings that the one before has left
abbrev pub after_triggers : UpdateConflict → List (List ℕ) → List Trigger → Bindings → Option Bindings
after_triggers base differing [] bindings = Some bindings
after_triggers base differing (t ∷ triggers) bindings =
    option_and_then (after_triggers base differing triggers) (after_trigger base (firing base.table.name differing t) bindings)

-- the bindings before any trigger: the stored row with the values that came in
abbrev pub first_bindings : List Cell → Bindings
first_bindings new = record { new = new; variables = []; added = map_of.empty; inserts = [] }

-- what a bindings leaves: the inserted rows, and the row that is to stand
abbrev pub left : Bindings → Fired
left bindings = record { inserts = bindings.inserts; new = bindings.new }

-- what the triggers of a catalog make of a conflict in which these columns differ, in order of creation: nothing where one fails
unfoldable pub fired : UpdateConflict → List (List ℕ) → List Cell → Option Fired
fired base differing new = option_map left (after_triggers base differing base.catalog.triggers (first_bindings new))
