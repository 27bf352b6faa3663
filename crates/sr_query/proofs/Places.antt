-- Columns by their places.
use Rattle.std.proofs.Common.{◌≡◌, ◌≤◌, ◌<◌, ◌+◌, ◌-◌, Bool, true, false, ℕ, nat_eq, ne_eqb, List, [], ◌∷◌, ◌++◌, length, map, Option, unwrap_or, arith, refl, ap, ◌∙◌}
use Rattle.std.proofs.lemmas.Bool.{eq-eqb, eqb-true, eqb-false}
use Rattle.std.proofs.lemmas.List.{length-append}
use Rattle.sr_base.specs.declared.value.Value.{Value}
use Rattle.sr_base.specs.declared.value.Value.TheVariants.{Null}
use Rattle.sr_ast.specs.declared.query.OrderBy.{OrderBy}
use Rattle.sr_ast.specs.Inner.Classes.{place_of}
use Rattle.sr_eval.specs.Inner.Bounds.{values_of}
use Rattle.sr_eval.specs.declared.bound.Bound.{Bound}
use Rattle.sr_eval.specs.Meanings.{value_meant}
use Rattle.sr_eval.proofs.Places.{found_at-place, value_found}
use Rattle.sr_exec_where.specs.Checks.{Scope}
use Rattle.sr_query.specs.Orders.{rank_of, ranks_of}
use Rattle.sr_query.specs.Inner.Orders.{at_place, placed_in, ranks_at}

abbrev Key : Type 0
Key = List Value

-- a place of the next source among those of all is none of the first source, and else it is behind the rest
in_row : (row others : Key) (among_all place : ℕ) → among_all < length row → nat_eq among_all (length (row ++ others) + place) ≡ false
in_row row others among_all place h =
    let count = length-append row others in
    ne_eqb among_all (length (row ++ others) + place) (λ e. omega arith)

past_row : (row others : Key) (among_all place : ℕ) → length row ≤ among_all
    → nat_eq among_all (length (row ++ others) + place) ≡ nat_eq (among_all - length row) (length others + place)
past_row row others among_all place h = go (nat_eq (among_all - length row) (length others + place)) refl where
  go : (b : Bool) → nat_eq (among_all - length row) (length others + place) ≡ b → nat_eq among_all (length (row ++ others) + place) ≡ b
  go true is =
      let count = length-append row others in
      let same = eqb-true (among_all - length row) (length others + place) is in
      eq-eqb among_all (length (row ++ others) + place) (omega arith)
  go false is =
      let count = length-append row others in
      ne_eqb among_all (length (row ++ others) + place) (λ e. eqb-false (among_all - length row) (length others + place) is (omega arith))

pub next_first : (sources : List Bound) (source : Bound) (after : List Bound) (among_all place : ℕ) → sources ≡ source ∷ after
    → among_all < length source.values.now → nat_eq among_all (length (values_of sources) + place) ≡ false
next_first sources source after among_all place begins h = rw begins (in_row source.values.now (values_of after) among_all place h)

pub next_behind : (sources : List Bound) (source : Bound) (after : List Bound) (among_all place : ℕ) → sources ≡ source ∷ after
    → length source.values.now ≤ among_all
    → nat_eq among_all (length (values_of sources) + place) ≡ nat_eq (among_all - length source.values.now) (length (values_of after) + place)
next_behind sources source after among_all place begins h = rw begins (past_row source.values.now (values_of after) among_all place h)

pub ruleset next_rules = (next_first, next_behind)

-- the value of a column is the one at its place, or NULL
value_placed : (columns : Scope) (row : Key) (table : Option (List ℕ)) (name : List ℕ)
    → value_meant columns row table name ≡ at_place row (place_of columns table name)
value_placed columns row table name = value_found columns row table name ∙ ap (λ o. unwrap_or o Null) (found_at-place columns row table name)

-- the ranks by places are those by names
pub ranks_placed : (scope : Scope) (order : List OrderBy) (values : Key) → ranks_of scope order values ≡ ranks_at (map (placed_in scope) order) values
ranks_placed scope [] values = refl
ranks_placed scope (o ∷ order) values =
    ap (λ v. rank_of o.descending v ∷ ranks_of scope order values) (value_placed scope values o.table o.column)
    ∙ ap (λ ranks. rank_of o.descending (at_place values (place_of scope o.table o.column)) ∷ ranks) (ranks_placed scope order values)
