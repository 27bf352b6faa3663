-- What a column and a variable hold fits them.
use Rattle.std.proofs.Common.{◌≡◌, ℕ, zero, suc, Bool, true, false, not, ◌&&◌, cond, map, List, [], ◌∷◌, Option, Some, None, IsTrue, refl, sym, ap, subst, ◌∙◌}
use Rattle.std.proofs.Math.ListN.{set as set_at}
use Rattle.std.specs.Option.{option_and_then, option_map}
use Rattle.std.specs.Prelude.{slice_get}
use Rattle.sr_base.specs.declared.value.Kind.{Kind}
use Rattle.sr_base.specs.declared.value.Value.{Value as Cell}
use Rattle.sr_base_dates.specs.Fitting.{fitted}
use Rattle.sr_eval.specs.Bounds.{IsRowOf}
use Rattle.sr_eval.specs.Comparisons.{is_null}
use Rattle.sr_exec_fits.specs.Rows.{IsRow}
use Rattle.sr_exec_fits.proofs.Rows.{row_parts, row_made}
use Rattle.sr_exec_dml.proofs.Keeping.{fitted_again}
use Rattle.sr_catalog_schema.specs.declared.table.Column.{Column}
use Rattle.sr_catalog_triggers.specs.Triggers.{variables_scope}
use Rattle.sr_resolve_triggers.specs.Holding.{standing, held_by, held_in}

-- what fits, and may stand
abbrev pub Stands : Column → Cell → Type 0
Stands c w = (fitted w c.kind ≡ Some w) × IsTrue (not (c.not_null && is_null w))

-- what a column holds for a value that is there
stands_held : (c : Column) (v : Cell) (o : Option Cell) (w : Cell) → fitted v c.kind ≡ o → option_and_then (standing c) o ≡ Some w → Stands c w
stands_held c v None w e h = cc
stands_held c v (Some u) w e h = go (c.not_null && is_null u) refl h where
  go : (b : Bool) → (c.not_null && is_null u) ≡ b → cond b None (Some u) ≡ Some w → Stands c w
  go true f k = cc
  go false f k =
      let is : u ≡ w = cc in
      let stands : Stands c u = (fitted_again v c.kind u e, ap not f) in
      subst (Stands c) is stands

pub held_stands : (c : Column) (v : Option Cell) (w : Cell) → held_by c v ≡ Some w → Stands c w
held_stands c None w h = cc
held_stands c (Some v) w h = stands_held c v (fitted v c.kind) w refl h

-- a row with a value set that its column holds
pub set_fits : (columns : List Column) (row : List Cell) (place : ℕ) (c : Column) (w : Cell) → IsRow columns row → slice_get columns place ≡ Some c → Stands c w
    → IsRow columns (set_at row place w)
set_fits [] row place c w fits at stands = cc
set_fits (d ∷ columns) [] place c w fits at stands = cc
set_fits (d ∷ columns) (v ∷ row) zero c w fits at stands =
    let is : c ≡ d = cc in
    let here : Stands d w = subst (λ (x : Column). Stands x w) is stands in
    row_made d columns w row here.0 here.1 (row_parts d columns v row fits).2
set_fits (d ∷ columns) (v ∷ row) (suc place) c w fits at stands =
    let parts = row_parts d columns v row fits in
    row_made d columns v (set_at row place w) parts.0 parts.1 (set_fits columns row place c w parts.2 at stands)

-- variables with one set that holds the value
pub variable_fits : (variables : List (List ℕ × Kind)) (values : List Cell) (place : ℕ) (variable : List ℕ × Kind) (v : Option Cell) (w : Cell)
    → IsRowOf (variables_scope variables) values → slice_get variables place ≡ Some variable → held_in variable v ≡ Some w
    → IsRowOf (variables_scope variables) (set_at values place w)
variable_fits [] values place variable v w fits at held = cc
variable_fits (d ∷ variables) [] place variable v w fits at held = absurd fits
variable_fits (d ∷ variables) (x ∷ values) zero variable None w fits at held = cc
variable_fits (d ∷ variables) (x ∷ values) zero variable (Some v) w fits at held =
    let is : variable ≡ d = cc in
    (subst (λ (y : List ℕ × Kind). fitted w y.1 ≡ Some w) is (fitted_again v variable.1 w held), fits.1)
variable_fits (d ∷ variables) (x ∷ values) (suc place) variable v w fits at held = (fits.0, variable_fits variables values place variable v w fits.1 at held)
