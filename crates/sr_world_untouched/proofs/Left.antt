-- What ops from above leave of a row below.
use Rattle.std.proofs.Common.{◌≡◌, cond, List, [], ◌∷◌, ◌++◌, Option, None, bytes_eq, refl}
use Rattle.sr_base.specs.declared.value.Value.{Value as Cell}
use Rattle.sr_logform.specs.declared.op.Op.{Op}
use Rattle.sr_logform.specs.declared.op.Op.TheVariants.{Insert, Remove, Set, Clear, Exec}
use Rattle.sr_resolve.specs.Inner.Leaving.{insert_left, remove_left, set_left}
use Rattle.sr_catalog_schema.specs.declared.table.Table.{Table}

-- what an op leaves under a key of a table; nothing changes by an op on another table
abbrev pub left_by : Table → Op → List Cell → Option (List Cell) → Option (List Cell)
left_by t (Insert table values) key here = cond (bytes_eq t.name table) (insert_left t values key here) here
left_by t (Remove table named) key here = cond (bytes_eq t.name table) (remove_left t named key here) here
left_by t (Set table named updates) key here = cond (bytes_eq t.name table) (set_left t named updates key here) here
left_by t (Clear table) key here = cond (bytes_eq t.name table) None here
left_by t (Exec text) key here = here

-- what ops leave, one after the other
abbrev pub left_all : Table → List Op → List Cell → Option (List Cell) → Option (List Cell)
left_all t [] key here = here
left_all t (op ∷ ops) key here = left_all t ops key (left_by t op key here)

pub left_all-append : (t : Table) (xs ys : List Op) (key : List Cell) (here : Option (List Cell)) → left_all t (xs ++ ys) key here ≡ left_all t ys key (left_all t xs key here)
left_all-append t [] ys key here = refl
left_all-append t (x ∷ xs) ys key here = left_all-append t xs ys key (left_by t x key here)
