-- SET keeps rows and variables fitting.
use Rattle.std.proofs.Common.{◌≡◌, ℕ, Option, Some, None, Bor, sym, ap, ◌∙◌}
use Rattle.std.proofs.Math.ListN.{set as set_at}
use Rattle.std.specs.Option.{option_and_then, option_copied, option_map}
use Rattle.std.specs.Prelude.{slice_get}
use Rattle.sr_ast.specs.declared.create.CreateTrigger.{CreateTrigger}
use Rattle.sr_base.specs.declared.value.Value.{Value as Cell}
use Rattle.sr_base.specs.declared.value.Kind.{Kind}
use Rattle.std.proofs.Common.{List}
use Rattle.sr_catalog_schema.specs.Names.{place_of}
use Rattle.sr_catalog_schema.specs.declared.table.Column.{Column}
use Rattle.sr_catalog_triggers.specs.Triggers.{variable_name}
use Rattle.sr_resolve_triggers.specs.Actions.{set_where, after_set}
use Rattle.sr_resolve_triggers.specs.Holding.{held_by, held_in}
use Rattle.sr_resolve_triggers.specs.Bindings.{UpdateConflict, Bindings, BindingsFits}
use Rattle.sr_resolve_triggers.proofs.Fitting.{held_stands, set_fits, variable_fits}

-- the item at a place, as the program finds it
pub item_is : {A : Type 0} (xs ys : List A) (place : ℕ) (found : Option (Bor A)) (x : Bor A) → ys ≡ xs → option_copied found ≡ slice_get ys place
    → found ≡ Some x → slice_get xs place ≡ Some x.now
item_is xs ys place found x same at is = ap (λ l. slice_get l place) (sym same) ∙ sym at ∙ ap option_copied is

pub variable_set : (base : UpdateConflict) (variables : List (List ℕ × Kind)) (bindings : Bindings) (place : ℕ) (variable : List ℕ × Kind) (v : Option Cell) (w : Cell)
    → BindingsFits base variables bindings → slice_get variables place ≡ Some variable → held_in variable v ≡ Some w
    → BindingsFits base variables (record bindings { variables = set_at bindings.variables place w })
variable_set base variables bindings place variable v w fits at held =
    record { new = fits.new; variables = variable_fits variables bindings.variables place variable v w fits.variables at held }

pub column_set : (base : UpdateConflict) (variables : List (List ℕ × Kind)) (bindings : Bindings) (place : ℕ) (c : Column) (v : Option Cell) (w : Cell)
    → BindingsFits base variables bindings → slice_get base.table.columns place ≡ Some c → held_by c v ≡ Some w
    → BindingsFits base variables (record bindings { new = set_at bindings.new place w })
column_set base variables bindings place c v w fits at held =
    record { new = set_fits base.table.columns bindings.new place c w fits.new at (held_stands c v w held); variables = fits.variables }

-- SET of a variable that is not there
pub no_variable : (base : UpdateConflict) (trigger : CreateTrigger) (name : List ℕ) (v : Option Cell) (bindings : Bindings) → place_of variable_name name trigger.variables ≡ None → after_set base trigger None name v bindings ≡ None
unfolding after_set
no_variable base trigger name v bindings at =
    ap
    (λ o. option_map (λ (xs : List Cell). record bindings { variables = xs })
    (set_where o (λ p. option_and_then (λ x. held_in x v) (slice_get trigger.variables p)) bindings.variables)) at

-- SET of a variable that is there, by what it holds
module _ (base : UpdateConflict) (trigger : CreateTrigger) (name : List ℕ) (v : Option Cell) (bindings : Bindings) (place : ℕ) (variable : List ℕ × Kind)
    (at : place_of variable_name name trigger.variables ≡ Some place) (is : slice_get trigger.variables place ≡ Some variable) where
  abbrev left : Option (List Cell) → Option Bindings
  left values = option_map (λ xs. record bindings { variables = xs }) values

  set_by : after_set base trigger None name v bindings ≡ left (option_map (set_at bindings.variables place) (held_in variable v))
  unfolding after_set
  set_by =
      ap (λ o. left (set_where o (λ p. option_and_then (λ x. held_in x v) (slice_get trigger.variables p)) bindings.variables)) at
      ∙ ap (λ o. left (option_map (set_at bindings.variables place) (option_and_then (λ x. held_in x v) o))) is

  pub variable_fails : held_in variable v ≡ None → after_set base trigger None name v bindings ≡ None
  variable_fails held = set_by ∙ ap (λ o. left (option_map (set_at bindings.variables place) o)) held

  pub variable_goes : (w : Cell) → held_in variable v ≡ Some w
      → after_set base trigger None name v bindings ≡ Some (record bindings { variables = set_at bindings.variables place w })
  variable_goes w held = set_by ∙ ap (λ o. left (option_map (set_at bindings.variables place) o)) held
