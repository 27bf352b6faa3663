-- The history of cons, entry by entry: states, lengths, and what each entry gives r1 and r2.
use Rattle.std.proofs.Common.{◌≡◌, ℕ, false, true, List, [], ◌∷◌, map, take, refl, arith}
use Rattle.std.specs.FinMap as map_of
use Rattle.std.specs.FinMap.{get-empty}
use Rattle.sr_ast.specs.declared.stmt.Stmt.TheVariants as stmt
use Rattle.sr_base.specs.Values.{value_spelling}
use Rattle.sr_catalog_change.specs.Changes.{refusal, next as catalog_after}
use Rattle.sr_catalog_ddl.specs.Publications.{absent_column, absent_in, is_bad_where, is_bad_article, key_outside, create_publication_causes, publication_of}
use Rattle.sr_catalog_ddl.specs.Subscriptions.{create_subscription_causes, differs, twice_subscribed, start_causes}
use Rattle.sr_catalog_ddl.specs.Tables.{create_table_causes, table_of}
use Rattle.sr_catalog_ddl.specs.Users.{grant_causes, user_of}
use Rattle.sr_database_history.proofs.Kept.{fresh_holds}
use Rattle.sr_database_history.specs.Folds.{State, fresh, with_statement, next, size}
use Rattle.sr_database_history.specs.Recorded.{own, ddl}
use Rattle.sr_database_history.specs.Inner.Sample.{cons, r1, create_t, inserted, grant}
use Rattle.sr_logform.specs.Entries.{entry_spelling}
use Rattle.sr_world_model.specs.Layers.{end_of}
use Rattle.sr_publish.specs.SubscribedTables.{subscribed_table_of}
use Rattle.sr_rows.specs.Marks.{RowMap, place_cmp}
use Rattle.sr_scan.specs.Inner.Images.{told}
use Rattle.sr_catalog_schema.specs.Causes.{first_fault}
use Rattle.sr_catalog_schema.specs.declared.subscription.Subscription.{Subscription}
use Rattle.sr_world_partitions.proofs.Parted.{comes_fits, held_with, moved_line, rows_with, started_r1, started_r2, the_parted, to_part, written_parted, written_r1, written_r2}
use Rattle.sr_world_partitions.specs.Inner.Moves.{create_parted, insert_with, part_for, remove_row}
use Rattle.sr_world.proofs.Grounds.{here, held_next, next_fits, next_row, state_at, still, the_t, user_at}
use Rattle.sr_world.proofs.Lines.{Line, IsLine, AreLines, all_told, ddl_line, each_told, end_prefix, end_told, entries, given_prefix, lawful_prefix}
use Rattle.sr_world.proofs.Named.{new_ok, row_ok, update_ok, written_r1 as granted_r1, written_r2 as granted_r2, written_t}
use Rattle.sr_world.specs.Inner.Sample.{r2, first_row, updated}
use Rattle.sr_world.specs.Real.{layers, LawfulHistory}

abbrev c0 : State
c0 = fresh cons

abbrev c1 : State
c1 = state_at cons [] (the_t ∷ []) [] [] map_of.empty

abbrev c2 : State
c2 = state_at cons [] (the_t ∷ []) (the_parted ∷ []) [] map_of.empty

abbrev c3 : State
c3 = state_at cons (user_at false r1 ∷ []) (the_t ∷ []) (the_parted ∷ []) [] map_of.empty

abbrev c_with : List Subscription → RowMap → State
c_with subscriptions rows = state_at cons (user_at false r1 ∷ user_at false r2 ∷ []) (the_t ∷ []) (the_parted ∷ []) subscriptions rows

abbrev c4 : State
c4 = c_with [] map_of.empty

abbrev c5 : State
c5 = c_with (to_part 5 r1 false ∷ []) map_of.empty

abbrev c6 : State
c6 = c_with (to_part 5 r1 false ∷ to_part 7 r2 false ∷ []) map_of.empty

abbrev c7 : State
c7 = c_with (to_part 5 r1 true ∷ to_part 7 r2 false ∷ []) map_of.empty

-- with both subscriptions started
abbrev c_at : RowMap → State
c_at rows = c_with (to_part 5 r1 true ∷ to_part 7 r2 true ∷ []) rows

abbrev c_rows5 : RowMap
c_rows5 = rows_with 5

abbrev c_rows7 : RowMap
c_rows7 = next_row c_rows5 7

abbrev c_last : RowMap
c_last = next_row c_rows7 5

abbrev line1 : Line
line1 = still (ddl (stmt.CreateTable create_t)) 70 c1

is1 : IsLine c0 line1
unfolding next with_statement catalog_after table_of refusal first_fault create_table_causes
is1 = ddl_line c0 c1 (stmt.CreateTable create_t) 70 written_t refl refl tt

abbrev line2 : Line
line2 = still (ddl (stmt.CreatePublication create_parted)) 50 c2

is2 : IsLine c1 line2
unfolding next with_statement catalog_after publication_of refusal first_fault create_publication_causes
    absent_column absent_in is_bad_where is_bad_article key_outside
is2 = ddl_line c1 c2 (stmt.CreatePublication create_parted) 50 written_parted refl refl tt

abbrev line3 : Line
line3 = still (ddl (stmt.GrantRemote (grant r1))) 23 c3

is3 : IsLine c2 line3
unfolding next with_statement catalog_after user_of refusal first_fault grant_causes
is3 = ddl_line c2 c3 (stmt.GrantRemote (grant r1)) 23 granted_r1 refl refl tt

abbrev line4 : Line
line4 = still (ddl (stmt.GrantRemote (grant r2))) 23 c4

is4 : IsLine c3 line4
unfolding next with_statement catalog_after user_of refusal first_fault grant_causes
is4 = ddl_line c3 c4 (stmt.GrantRemote (grant r2)) 23 granted_r2 refl refl tt

abbrev line5 : Line
line5 = still (ddl (stmt.CreateSubscription (part_for 5 r1))) 40 c5

is5 : IsLine c4 line5
unfolding next with_statement catalog_after refusal first_fault create_subscription_causes differs
is5 = ddl_line c4 c5 (stmt.CreateSubscription (part_for 5 r1)) 40 written_r1 refl refl tt

abbrev line6 : Line
line6 = still (ddl (stmt.CreateSubscription (part_for 7 r2))) 40 c6

is6 : IsLine c5 line6
unfolding next with_statement catalog_after refusal first_fault create_subscription_causes differs
is6 = ddl_line c5 c6 (stmt.CreateSubscription (part_for 7 r2)) 40 written_r2 refl refl tt

abbrev line7 : Line
line7 = still (ddl (stmt.StartSubscription (part_for 5 r1))) 39 c7

is7 : IsLine c6 line7
unfolding next with_statement catalog_after refusal first_fault start_causes twice_subscribed
is7 = ddl_line c6 c7 (stmt.StartSubscription (part_for 5 r1)) 39 started_r1 refl refl tt

abbrev line8 : Line
line8 = still (ddl (stmt.StartSubscription (part_for 7 r2))) 39 (c_at map_of.empty)

is8 : IsLine c7 line8
unfolding next with_statement catalog_after refusal first_fault start_causes twice_subscribed
is8 = ddl_line c7 (c_at map_of.empty) (stmt.StartSubscription (part_for 7 r2)) 39 started_r2 refl refl tt

-- the row comes, which r1 is given
abbrev line9 : Line
line9 = record { entry = own (inserted (first_row 5) ∷ []); long = 23; after = c_at c_rows5; to_one = insert_with 5 ∷ []; to_other = [] }

is9 : IsLine (c_at map_of.empty) line9
unfolding size entry_spelling value_spelling next
is9 = moved_line (c_at map_of.empty) (c_at c_rows5) (inserted (first_row 5)) 23 (insert_with 5 ∷ []) [] refl refl (omega arith)
    (new_ok (first_row 5) (row_ok 5 (omega arith))) (comes_fits (c_at map_of.empty).catalog map_of.empty 5 refl (get-empty place_cmp here) (refl, refl))

-- it moves: r1 is told that it goes, and r2 that it comes
abbrev line10 : Line
line10 = record { entry = own (updated 5 7 ∷ []); long = 37; after = c_at c_rows7; to_one = remove_row ∷ []; to_other = insert_with 7 ∷ [] }

is10 : IsLine (c_at c_rows5) line10
unfolding size entry_spelling value_spelling next
is10 = moved_line (c_at c_rows5) (c_at c_rows7) (updated 5 7) 37 (remove_row ∷ []) (insert_with 7 ∷ []) refl refl (omega arith)
    (update_ok 5 7 (omega arith) (omega arith) (λ h. omega (arith, h)))
    (next_fits (c_at c_rows5).catalog c_rows5 5 7 refl (held_with 5) (refl, refl))

-- and back
abbrev line11 : Line
line11 = record { entry = own (updated 7 5 ∷ []); long = 37; after = c_at c_last; to_one = insert_with 5 ∷ []; to_other = remove_row ∷ [] }

is11 : IsLine (c_at c_rows7) line11
unfolding size entry_spelling value_spelling next
is11 = moved_line (c_at c_rows7) (c_at c_last) (updated 7 5) 37 (insert_with 5 ∷ []) (remove_row ∷ []) refl refl (omega arith)
    (update_ok 7 5 (omega arith) (omega arith) (λ h. omega (arith, h)))
    (next_fits (c_at c_rows7).catalog c_rows7 7 5 refl (held_next c_rows5 7) (refl, refl))

abbrev pub cons_lines : List Line
cons_lines = line1 ∷ line2 ∷ line3 ∷ line4 ∷ line5 ∷ line6 ∷ line7 ∷ line8 ∷ line9 ∷ line10 ∷ line11 ∷ []

cons_are : AreLines c0 cons_lines
cons_are = (is1, (is2, (is3, (is4, (is5, (is6, (is7, (is8, (is9, (is10, (is11, tt)))))))))))

cons_tell_r1 : each_told c0 r1 cons_lines ≡ map (λ (l : Line). l.to_one) cons_lines
unfolding told subscribed_table_of
cons_tell_r1 = refl

cons_tell_r2 : each_told c0 r2 cons_lines ≡ map (λ (l : Line). l.to_other) cons_lines
unfolding told subscribed_table_of
cons_tell_r2 = refl

pub cons_lawful : (n : ℕ) → LawfulHistory cons (entries (take n cons_lines))
cons_lawful n = lawful_prefix c0 0 n cons_lines cons_are (omega arith)

pub cons_ends : (n : ℕ) → end_of layers (entries (take n cons_lines)) ≡ end_told 0 (take n cons_lines)
cons_ends n = end_prefix c0 0 n cons_lines cons_are

pub cons_gives_r1 : (n : ℕ) → layers.given cons r1 (entries (take n cons_lines)) ≡ all_told (λ l. l.to_one) 0 (take n cons_lines)
cons_gives_r1 n = given_prefix c0 0 r1 (λ l. l.to_one) n cons_lines (fresh_holds cons) cons_are (omega arith) cons_tell_r1

pub cons_gives_r2 : (n : ℕ) → layers.given cons r2 (entries (take n cons_lines)) ≡ all_told (λ l. l.to_other) 0 (take n cons_lines)
cons_gives_r2 n = given_prefix c0 0 r2 (λ l. l.to_other) n cons_lines (fresh_holds cons) cons_are (omega arith) cons_tell_r2
