-- Columns and values of several sources.
use Rattle.std.proofs.Common.{◌≡◌, ℕ, Bool, true, false, cond, List, [], ◌∷◌, ◌++◌, Option, Some, None, refl, subst}
use Rattle.std.proofs.lemmas.List.{append-nil}
use Rattle.std.specs.Prelude.{unwrap_or}
use Rattle.sr_base.specs.declared.value.Value.{Value as Cell}
use Rattle.sr_base.specs.declared.value.Kind.{Kind}
use Rattle.sr_ast.specs.Classes.{is_meant}
use Rattle.sr_eval.specs.Bounds.{IsRowOf}
use Rattle.sr_eval.specs.Inner.Bounds.{AreRows, columns_of, values_of}
use Rattle.sr_eval.specs.declared.bound.Bound.{Bound}
use Rattle.sr_eval.specs.Meanings.{value_meant, found_at}

met : (b : Bool) (v w : Cell) (o : Option Cell) (u : Cell) → w ≡ unwrap_or o u → cond b v w ≡ unwrap_or (cond b (Some v) o) u
met true v w o u e = refl
met false v w o u e = e

-- a name means a column of the first source, or else one of the sources behind it
pub value_at-append : (columns more : List (Option (List ℕ) × List ℕ × Kind)) (values others : List Cell) (table : Option (List ℕ)) (name : List ℕ) → IsRowOf columns values → value_meant (columns ++ more) (values ++ others) table name ≡ unwrap_or (found_at columns values table name) (value_meant more others table name)
value_at-append [] more [] others table name fits = refl
value_at-append [] more (v ∷ values) others table name fits = absurd fits
value_at-append (c ∷ columns) more [] others table name fits = absurd fits
value_at-append (c ∷ columns) more (v ∷ values) others table name fits =
    met (is_meant c.0 c.1 table name) v _ _ _ (value_at-append columns more values others table name fits.1)

-- the same, of sources that begin with this one
pub value_among : (sources : List Bound) (source : Bound) (after : List Bound) (table : Option (List ℕ)) (name : List ℕ) → sources ≡ source ∷ after → AreRows sources → value_meant (columns_of sources) (values_of sources) table name ≡ unwrap_or (found_at source.scope.now source.values.now table name) (value_meant (columns_of after) (values_of after) table name)
value_among sources source after table name begins fit =
    let rows : AreRows (source ∷ after) = subst AreRows begins fit in
    rw begins (value_at-append source.scope.now (columns_of after) source.values.now (values_of after) table name rows.0)

row_of_both : (columns more : List (Option (List ℕ) × List ℕ × Kind)) (values others : List Cell) → IsRowOf columns values → IsRowOf more others → IsRowOf (columns ++ more) (values ++ others)
row_of_both [] more [] others fits rest = rest
row_of_both [] more (v ∷ values) others fits rest = absurd fits
row_of_both (c ∷ columns) more [] others fits rest = absurd fits
row_of_both (c ∷ columns) more (v ∷ values) others fits rest = (fits.0, row_of_both columns more values others fits.1 rest)

-- rows of the sources are a row of all their columns
pub row_of_all : (sources : List Bound) → AreRows sources → IsRowOf (columns_of sources) (values_of sources)
row_of_all [] fit = tt
row_of_all (source ∷ sources) fit = row_of_both source.scope.now (columns_of sources) source.values.now (values_of sources) fit.0 (row_of_all sources fit.1)

-- one source is its columns and its values
pub ruleset of_one_source = (append-nil)
