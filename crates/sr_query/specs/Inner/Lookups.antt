-- The key that equations fix for the next source, once those before it have their rows: each of its columns is equal to a literal, or to a
-- column of a source before.
use Rattle.std.specs.Prelude.{ℕ, ◌+◌, cond, List, [], ◌∷◌, length, Option, Some, None, slice_get, nat_eq, unwrap_or}
use Rattle.std.specs.Option.{option_map}
use Rattle.sr_base_dates.specs.Fitting.{fitted}
use Rattle.sr_base.specs.declared.value.Kind.{Kind}
use Rattle.sr_base.specs.declared.value.Value.{Value as Cell}
use Rattle.sr_eval.specs.Inner.Resolutions.{Resolution}
use Rattle.sr_eval.specs.Inner.Resolutions.Resolution.{literal, place, unary, binary}
use Rattle.sr_exec_where.specs.Checks.{Scope}
use Rattle.sr_exec_where.specs.Inner.Fixing.{with_value}
use Rattle.sr_catalog_schema.specs.Firsts.{first_of}
use Rattle.sr_query.specs.Inner.Equations.{Equation}

-- what a column of a type holds that is equal to a value: the value as it is, where none is
abbrev pub fitted_or_given : Kind → Cell → Cell
fitted_or_given kind v = unwrap_or (fitted v kind) v

-- the values of the sources before
module _ (values : List Cell) where
  -- a value that is known once they have theirs: a literal, or a column of them
  abbrev pub known_value : Resolution → Option Cell
  known_value (literal v) = Some v
  known_value (place n) = slice_get values n
  known_value (unary op a) = None
  known_value (binary op a b) = None

  -- what an equation makes a column of the next source equal to, if it is of this column and the other side is known
  abbrev pub equated_one : ℕ → Equation → Option Cell
  equated_one n e = cond (nat_eq e.0 (length values + n)) (known_value e.1) None

  -- the same of equations: the first that does it
  abbrev pub equated : ℕ → List Equation → Option Cell
  equated n [] = None
  equated n (e ∷ es) = first_of (equated_one n e) (equated n es)

  -- the value of the column at a place
  abbrev pub fixed_value : List Equation → ℕ → Option (Option (List ℕ) × List ℕ × Kind) → Option Cell
  fixed_value es n None = None
  fixed_value es n (Some c) = option_map (fitted_or_given c.2) (equated n es)

  -- the key, whose columns stand at these places of the next source
  abbrev pub equated_key : Scope → List Equation → List ℕ → Option (List Cell)
  equated_key columns es [] = Some []
  equated_key columns es (n ∷ places) = with_value (fixed_value es n (slice_get columns n)) (equated_key columns es places)

-- the combinations of a row, if there is one
abbrev pub over_one : {A B : Type 0} → (A → List B) → Option A → List B
over_one f None = []
over_one f (Some x) = f x
