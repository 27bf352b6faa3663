-- The histories of r1 and r2, entry by entry.
use Rattle.std.proofs.Common.{◌≡◌, ℕ, true, List, [], ◌∷◌, None, take, refl, ap, arith}
use Rattle.std.specs.FinMap as map_of
use Rattle.std.specs.FinMap.{get-empty}
use Rattle.sr_ast.specs.declared.stmt.Stmt.TheVariants as stmt
use Rattle.sr_base.specs.Values.{value_spelling, offset_from}
use Rattle.sr_book.specs.Entries.{Name}
use Rattle.sr_catalog_change.specs.Changes.{refusal, next as catalog_after}
use Rattle.sr_catalog_ddl.specs.Tables.{create_table_causes, table_of}
use Rattle.sr_catalog_ddl.specs.Users.{grant_causes, user_of}
use Rattle.sr_database_history.specs.Folds.{State, fresh, with_statement, next, size}
use Rattle.sr_database_history.specs.Recorded.{taken, ddl}
use Rattle.sr_database_history.specs.Inner.Sample.{cons, r1, create_t, inserted, grant}
use Rattle.sr_logform.specs.Entries.{entry_spelling}
use Rattle.sr_logform.specs.Ops.{op_spelling}
use Rattle.sr_logform.specs.Outcomes.{outcome_spelling}
use Rattle.sr_resolve.specs.Judging.{judged_insert, judged_remove}
use Rattle.sr_resolve.specs.Named.{names_key}
use Rattle.sr_resolve.specs.Taking.{done_judged}
use Rattle.sr_rows.specs.Marks.{RowMap, place_cmp}
use Rattle.sr_catalog_schema.specs.Causes.{first_fault}
use Rattle.sr_world_partitions.proofs.Parted.{came_outcome, comes_fits, goes_fits, held_with, held_without, insert_with_ok, remove_ok, rows_with, rows_without, went_outcome, where_removed}
use Rattle.sr_world_partitions.specs.Inner.Moves.{came, insert_with, remove_row, removed, went}
use Rattle.sr_world.proofs.Grounds.{here, next_row, state_at, still, taken_line, the_t, user_at, where_new}
use Rattle.sr_world.proofs.Lines.{Line, IsLine, AreLines, ddl_line, entries, lawful_prefix}
use Rattle.sr_world.proofs.Named.{written_above, written_t}
use Rattle.sr_world.specs.Inner.Sample.{r2, first_row}
use Rattle.sr_world.specs.Real.{LawfulHistory}

-- the table, cons above, and rows
abbrev below_at : Name → RowMap → State
below_at owner rows = state_at owner (user_at true cons ∷ []) (the_t ∷ []) [] [] rows

-- ---- r1

abbrev a0 : State
a0 = fresh r1

abbrev a1 : State
a1 = state_at r1 [] (the_t ∷ []) [] [] map_of.empty

abbrev a_at : RowMap → State
a_at rows = below_at r1 rows

abbrev up1 : Line
up1 = still (ddl (stmt.CreateTable create_t)) 70 a1

is_up1 : IsLine a0 up1
unfolding next with_statement catalog_after table_of refusal first_fault create_table_causes
is_up1 = ddl_line a0 a1 (stmt.CreateTable create_t) 70 written_t refl refl tt

abbrev up2 : Line
up2 = still (ddl (stmt.GrantConsolidate (grant cons))) 30 (a_at map_of.empty)

is_up2 : IsLine a1 up2
unfolding next with_statement catalog_after user_of refusal first_fault grant_causes
is_up2 = ddl_line a1 (a_at map_of.empty) (stmt.GrantConsolidate (grant cons)) 30 written_above refl refl tt

-- the row comes
enters : done_judged (a_at map_of.empty) true (insert_with 5) None ≡ came 5
unfolding done_judged judged_insert
enters = ap (where_new (insert_with 5) the_t (first_row 5)) (get-empty place_cmp here)

abbrev up3 : Line
up3 = still (taken cons (offset_from 392) (came 5 ∷ [])) 63 (a_at (rows_with 5))

is_up3 : IsLine (a_at map_of.empty) up3
unfolding size entry_spelling op_spelling outcome_spelling value_spelling next
is_up3 = taken_line (a_at map_of.empty) (a_at (rows_with 5)) 392 (insert_with 5) (inserted (first_row 5)) 63 refl refl (omega arith) tt (omega arith)
    (insert_with_ok 5 (omega arith)) (came_outcome 5 (omega arith)) refl
    (comes_fits (a_at map_of.empty).catalog map_of.empty 5 refl (get-empty place_cmp here) (refl, refl)) refl enters

-- it goes
leaves : done_judged (a_at (rows_with 5)) true remove_row None ≡ went 5
unfolding done_judged judged_remove names_key
leaves = ap where_removed (held_with 5)

abbrev up4 : Line
up4 = still (taken cons (offset_from 434) (went 5 ∷ [])) 56 (a_at (rows_without 5))

is_up4 : IsLine (a_at (rows_with 5)) up4
unfolding size entry_spelling op_spelling outcome_spelling value_spelling next
is_up4 = taken_line (a_at (rows_with 5)) (a_at (rows_without 5)) 434 remove_row (removed 5) 56 refl refl (omega arith) tt (omega arith)
    remove_ok (went_outcome 5 (omega arith)) refl (goes_fits (a_at (rows_with 5)).catalog (rows_with 5) 5 refl (held_with 5)) refl leaves

-- it comes back
returns : done_judged (a_at (rows_without 5)) true (insert_with 5) None ≡ came 5
unfolding done_judged judged_insert
returns = ap (where_new (insert_with 5) the_t (first_row 5)) (held_without 5)

abbrev up5 : Line
up5 = still (taken cons (offset_from 476) (came 5 ∷ [])) 63 (a_at (next_row (rows_with 5) 5))

is_up5 : IsLine (a_at (rows_without 5)) up5
unfolding size entry_spelling op_spelling outcome_spelling value_spelling next
is_up5 = taken_line (a_at (rows_without 5)) (a_at (next_row (rows_with 5) 5)) 476 (insert_with 5) (inserted (first_row 5)) 63 refl refl (omega arith) tt (omega arith)
    (insert_with_ok 5 (omega arith)) (came_outcome 5 (omega arith)) refl
    (comes_fits (a_at (rows_without 5)).catalog (rows_without 5) 5 refl (held_without 5) (refl, refl)) refl returns

abbrev pub r1_lines : List Line
r1_lines = up1 ∷ up2 ∷ up3 ∷ up4 ∷ up5 ∷ []

r1_are : AreLines a0 r1_lines
r1_are = (is_up1, (is_up2, (is_up3, (is_up4, (is_up5, tt)))))

pub r1_lawful : (n : ℕ) → LawfulHistory r1 (entries (take n r1_lines))
r1_lawful n = lawful_prefix a0 0 n r1_lines r1_are (omega arith)

-- ---- r2

abbrev b0 : State
b0 = fresh r2

abbrev b1 : State
b1 = state_at r2 [] (the_t ∷ []) [] [] map_of.empty

abbrev b_at : RowMap → State
b_at rows = below_at r2 rows

abbrev far1 : Line
far1 = still (ddl (stmt.CreateTable create_t)) 70 b1

is_far1 : IsLine b0 far1
unfolding next with_statement catalog_after table_of refusal first_fault create_table_causes
is_far1 = ddl_line b0 b1 (stmt.CreateTable create_t) 70 written_t refl refl tt

abbrev far2 : Line
far2 = still (ddl (stmt.GrantConsolidate (grant cons))) 30 (b_at map_of.empty)

is_far2 : IsLine b1 far2
unfolding next with_statement catalog_after user_of refusal first_fault grant_causes
is_far2 = ddl_line b1 (b_at map_of.empty) (stmt.GrantConsolidate (grant cons)) 30 written_above refl refl tt

moves_there : done_judged (b_at map_of.empty) true (insert_with 7) None ≡ came 7
unfolding done_judged judged_insert
moves_there = ap (where_new (insert_with 7) the_t (first_row 7)) (get-empty place_cmp here)

abbrev far3 : Line
far3 = still (taken cons (offset_from 434) (came 7 ∷ [])) 63 (b_at (rows_with 7))

is_far3 : IsLine (b_at map_of.empty) far3
unfolding size entry_spelling op_spelling outcome_spelling value_spelling next
is_far3 = taken_line (b_at map_of.empty) (b_at (rows_with 7)) 434 (insert_with 7) (inserted (first_row 7)) 63 refl refl (omega arith) tt (omega arith)
    (insert_with_ok 7 (omega arith)) (came_outcome 7 (omega arith)) refl
    (comes_fits (b_at map_of.empty).catalog map_of.empty 7 refl (get-empty place_cmp here) (refl, refl)) refl moves_there

leaves_again : done_judged (b_at (rows_with 7)) true remove_row None ≡ went 7
unfolding done_judged judged_remove names_key
leaves_again = ap where_removed (held_with 7)

abbrev far4 : Line
far4 = still (taken cons (offset_from 476) (went 7 ∷ [])) 56 (b_at (rows_without 7))

is_far4 : IsLine (b_at (rows_with 7)) far4
unfolding size entry_spelling op_spelling outcome_spelling value_spelling next
is_far4 = taken_line (b_at (rows_with 7)) (b_at (rows_without 7)) 476 remove_row (removed 7) 56 refl refl (omega arith) tt (omega arith)
    remove_ok (went_outcome 7 (omega arith)) refl (goes_fits (b_at (rows_with 7)).catalog (rows_with 7) 7 refl (held_with 7)) refl leaves_again

abbrev pub r2_lines : List Line
r2_lines = far1 ∷ far2 ∷ far3 ∷ far4 ∷ []

r2_are : AreLines b0 r2_lines
r2_are = (is_far1, (is_far2, (is_far3, (is_far4, tt))))

pub r2_lawful : (n : ℕ) → LawfulHistory r2 (entries (take n r2_lines))
r2_lawful n = lawful_prefix b0 0 n r2_lines r2_are (omega arith)
