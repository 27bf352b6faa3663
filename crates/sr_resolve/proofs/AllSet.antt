-- Where the two values of each update differ, all are set.
use Rattle.std.proofs.Common.{◌≡◌, ◌∙◌, Bool, true, false, cond, not, List, [], ◌∷◌, Option, Some, None, refl, ap}
use Rattle.std.specs.List.{AllByRecursion, find}
use Rattle.std.specs.Option.{option_map}
use Rattle.std.specs.Prelude.{bytes_eq}
use Rattle.sr_base.specs.declared.value.Value.{Value as Cell}
use Rattle.sr_base_dates.specs.Fitting.{fitted}
use Rattle.sr_book.specs.Entries.{Name}
use Rattle.sr_catalog_schema.specs.declared.table.Column.{Column}
use Rattle.sr_resolve_triggers.specs.Actions.{in_front}
use Rattle.sr_resolve.specs.Named.{Updates, update_of, new_value, new_values}
use Rattle.sr_resolve.specs.Inner.Laws.{IsOfTwoValues}

-- an update of two values sets its column
two_set : (c : Column) (u : Name × Cell × Cell) → IsOfTwoValues u → new_value false c (Some u) ≡ new_value true c (Some u)
two_set c u two = ap (λ (same : Bool). cond (not same) (option_map (λ (v : Cell). Some v) (fitted u.2 c.kind)) (Some None)) two

first_set : (c : Column) (first : Bool) (u : Name × Cell × Cell) (later : Option (Name × Cell × Cell)) → IsOfTwoValues u
    → new_value false c later ≡ new_value true c later → new_value false c (cond first (Some u) later) ≡ new_value true c (cond first (Some u) later)
first_set c true u later two rest = two_set c u two
first_set c false u later two rest = rest

value_set : (c : Column) (test : Name × Cell × Cell → Bool) (updates : Updates) → AllByRecursion IsOfTwoValues updates
    → new_value false c (find test updates) ≡ new_value true c (find test updates)
value_set c test [] all = refl
value_set c test (u ∷ updates) all = first_set c (test u) u (find test updates) all.0 (value_set c test updates all.1)

pub values_set : (updates : Updates) (columns : List Column) → AllByRecursion IsOfTwoValues updates → new_values false updates columns ≡ new_values true updates columns
values_set updates [] all = refl
values_set updates (c ∷ columns) all =
    ap (λ (new : Option (Option Cell)). in_front new (new_values false updates columns)) (value_set c (λ u. bytes_eq c.name u.0) updates all)
    ∙ ap (λ (news : Option (List (Option Cell))). in_front (new_value true c (update_of updates c)) news) (values_set updates columns all)
