-- What an op from above leaves under a key of its table, by the table and the row that was there alone.
use Rattle.std.specs.Prelude.{true, not, cond, List, Option, Some, None}
use Rattle.std.specs.List.{list_any}
use Rattle.std.specs.Option.{option_map}
use Rattle.std.specs.Ordering.{is_eq}
use Rattle.sr_base.specs.Order.{key_cmp}
use Rattle.sr_base.specs.declared.value.Value.{Value as Cell}
use Rattle.sr_catalog_schema.specs.Firsts.{first_of}
use Rattle.sr_exec_where.specs.Keys.{key_of}
use Rattle.sr_eval.specs.Comparisons.{is_null}
use Rattle.sr_resolve.specs.Named.{Values, Updates, names_key, fitted_key, names_other, filled_row, has_null, is_no_target, new_values, sets_null, with_news}
use Rattle.sr_catalog_schema.specs.declared.table.Table.{Table}

-- the row under a key, if there is one
abbrev pub Row : Type 0
Row = Option (List Cell)

-- what is there, or what comes of what was found
abbrev pub or_here : {A : Type 0} → Option A → Row → (A → Row) → Row
or_here None here f = here
or_here (Some x) here f = f x

-- a row is put under its key, where none is held
abbrev pub put_left : List Cell → List Cell → List Cell → Row → Row
put_left key place row here = cond (is_eq (key_cmp key place)) (first_of here (Some row)) here

-- an Insert leaves the row that it fills, under its key
unfoldable pub insert_left : Table → Values → List Cell → Row → Row
insert_left t values key here =
    cond (names_other t values) here
    (or_here (filled_row values t.columns) here (λ row. cond (has_null t.columns row) here (put_left key (key_of t.key row) row here)))

-- a Remove leaves none under the key that it names
unfoldable pub remove_left : Table → Values → List Cell → Row → Row
remove_left t named key here =
    cond (not (names_key t named)) here
    (or_here (fitted_key t named) here (λ place. cond (list_any is_null place) here (cond (is_eq (key_cmp key place)) None here)))

-- a Set leaves the row with its new values, under the key that it names
unfoldable pub set_left : Table → Values → Updates → List Cell → Row → Row
set_left t named updates key here =
    cond (not (names_key t named)) here
    (cond (list_any (is_no_target t) updates) here
    (or_here (fitted_key t named) here (λ place.
    or_here (new_values true updates t.columns) here (λ news.
    cond (list_any is_null place) here
    (cond (sets_null t.columns news) here
    (cond (is_eq (key_cmp key place)) (option_map (with_news news) here) here))))))
