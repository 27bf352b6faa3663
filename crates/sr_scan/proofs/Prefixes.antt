-- The key that columns name, place by place.
use Rattle.std.proofs.Common.{◌≡◌, ℕ, List, [], ◌∷◌, ◌++◌, map, Option, Some, None, refl, sym, ap, ◌∙◌, append_assoc}
use Rattle.std.specs.Option.{ok_or}
use Rattle.std.specs.Result.{result_ok}
use Rattle.sr_base.specs.declared.value.Value.{Value as Cell}
use Rattle.sr_book.specs.Entries.{Name}
use Rattle.sr_database_history.specs.Fitting.{fitted_in}
use Rattle.sr_catalog_schema.specs.declared.table.Column.{Column}
use Rattle.sr_scan.specs.Inner.Images.{all_of}
use Rattle.sr_exec_where.specs.Inner.Fixing.{with_value}

abbrev pub behind : List Cell → Option (List Cell) → Option (List Cell)
behind values None = None
behind values (Some key) = Some (values ++ key)

pub behind_more : (values : List Cell) (v : Cell) (key : Option (List Cell)) → behind (values ++ v ∷ []) key ≡ behind values (with_value (Some v) key)
behind_more values v None = refl
behind_more values v (Some key) = ap Some (append_assoc values (v ∷ []) key)

-- one place more: what is there and what the places that are left give is what all places give
pub one_more : (f : ℕ → Option Cell) (values more : List Cell) (left rest : List ℕ) (place : ℕ) (v : Cell) (all : Option (List Cell)) → behind values (all_of (map f left)) ≡ all
    → left ≡ place ∷ rest → f place ≡ Some v → more ≡ values ++ v ∷ [] → behind more (all_of (map f rest)) ≡ all
one_more f values more left rest place v all h l e m =
    ap (λ (xs : List Cell). behind xs (all_of (map f rest))) m
    ∙ (behind_more values v (all_of (map f rest))
    ∙ (ap (λ (o : Option Cell). behind values (with_value o (all_of (map f rest)))) (sym e)
    ∙ (ap (λ (ps : List ℕ). behind values (all_of (map f ps))) (sym l) ∙ h)))

-- where there is no column no value is named
pub named_nowhere : (columns : List (Name × Cell)) (column : Option Column) → column ≡ None → None ≡ fitted_in columns column
named_nowhere columns (Some column) e = cc
named_nowhere [] None e = refl
named_nowhere (v ∷ columns) None e = refl

-- where there is one it is that one's
pub named_at : (columns : List (Name × Cell)) (column : Option Column) (at : Column) (value : Option Cell) → column ≡ Some at → value ≡ fitted_in columns (Some at)
    → value ≡ fitted_in columns column
named_at columns column at value e is = is ∙ sym (ap (fitted_in columns) e)

-- what fits, as an answer
pub fit_is : (found : Option Cell) (value : Cell) → result_ok (ok_or found value) ≡ found
fit_is None value = refl
fit_is (Some held) value = refl
