-- The columns and values that an expression is evaluated over.
-- Here is what no contract of the program says by itself.
use Rattle.std.specs.Prelude.{ℕ, List, [], ◌∷◌, ◌++◌, Option}
use Rattle.sr_base.specs.declared.value.Value.{Value as Cell}
use Rattle.sr_base.specs.declared.value.Kind.{Kind}
use Rattle.sr_eval.specs.declared.bound.Bound.{Bound}
use Rattle.sr_eval.specs.Bounds.{IsRowOf}

-- the columns of several sources, one source after the other
abbrev pub columns_of : List Bound → List (Option (List ℕ) × List ℕ × Kind)
columns_of [] = []
columns_of (source ∷ sources) = source.scope.now ++ columns_of sources

-- their values
abbrev pub values_of : List Bound → List Cell
values_of [] = []
values_of (source ∷ sources) = source.values.now ++ values_of sources

-- each source has a row of its columns
abbrev pub AreRows : List Bound → Type 0
AreRows [] = Unit {0}
AreRows (source ∷ sources) = IsRowOf source.scope.now source.values.now × AreRows sources
