-- The history of cons, entry by entry: states, lengths, and what each entry gives.
use Rattle.std.proofs.Common.{◌≡◌, ℕ, true, false, List, [], ◌∷◌, Some, None, map, filter_map}
use Rattle.std.proofs.Common.{take, drop, refl, sym, ap, ◌∙◌, arith}
use Rattle.std.specs.Prelude.{pos}
use Rattle.std.specs.FinMap as map_of
use Rattle.std.specs.FinMap.{get, get-empty}
use Rattle.sr_ast.specs.Layout.{column_rule_pieces, create_table_pieces, stmt_pieces}
use Rattle.sr_ast.specs.declared.stmt.Stmt.TheVariants as stmt
use Rattle.sr_base.specs.Values.{value_spelling, offset_from}
use Rattle.sr_base.specs.declared.value.Value.{Value as Cell}
use Rattle.sr_base.specs.declared.value.Value.TheVariants.{Int}
use Rattle.sr_book.specs.declared.note.Note.TheVariants.{Confirmed, Asked}
use Rattle.sr_catalog_change.specs.Changes.{refusal, next as catalog_after}
use Rattle.sr_catalog_ddl.specs.Publications.{absent_column, absent_in, is_bad_where, is_bad_article, key_outside, create_publication_causes, publication_of}
use Rattle.sr_catalog_ddl.specs.Subscriptions.{create_subscription_causes, twice_subscribed, start_causes}
use Rattle.sr_catalog_ddl.specs.Tables.{create_table_causes, table_of}
use Rattle.sr_catalog_ddl.specs.Users.{grant_causes, user_of}
use Rattle.sr_resolve_triggers.specs.Firing.{fired}
use Rattle.sr_database_history.specs.Fitting.{AreNamedRows, FitsState}
use Rattle.sr_database_history.specs.Folds.{State, fresh, with_statement, next, size, state_of}
use Rattle.sr_database_history.specs.Recorded.{conflict}
use Rattle.sr_database_history.specs.Recorded.{own, taken, ddl, sync, pass, note}
use Rattle.sr_database_history.specs.Inner.Sample.{cons, r1, table_t, column_id, create_t, create_u, inserted, grant}
use Rattle.sr_database_history.proofs.Kept.{fresh_holds}
use Rattle.sr_logform.specs.Entries.{entry_spelling, flag_spelling, IsEntry}
use Rattle.sr_logform.specs.Ops.{op_spelling}
use Rattle.sr_logform.specs.Outcomes.{outcome_spelling, note_spelling, IsNote}
use Rattle.sr_logform.specs.declared.op.Op.TheVariants.{Clear}
use Rattle.sr_world_model.specs.Layers.{end_of}
use Rattle.sr_publish.specs.SubscribedTables.{subscribed_table_of}
use Rattle.sr_publish.specs.Views.{seen}
use Rattle.sr_resolve.specs.Judging.{judged_set, judged_update}
use Rattle.sr_resolve.specs.Named.{names_key}
use Rattle.sr_resolve.specs.Taking.{done_judged}
use Rattle.sr_rows.specs.Marks.{Place, RowMap, place_cmp, rows_of_table}
use Rattle.sr_rows.specs.Walks.{Entry, of_table}
use Rattle.sr_scan.specs.Inner.Images.{told}
use Rattle.sr_catalog_schema.specs.Causes.{first_fault}
use Rattle.sr_catalog_schema.specs.declared.subscription.Subscription.{Subscription}
use Rattle.sr_world.specs.Real.{layers, LawfulHistory}
use Rattle.sr_world.specs.Inner.Sample.{r2, name_p, name_q, create_p, create_q, subscription}
use Rattle.sr_world.specs.Inner.Sample.{first_row, updated, insert, insert_slim, slim_row, run_u, set, sent_to}
use Rattle.sr_world.proofs.Lines.{Line, IsLine, AreLines, entries, lawful_prefix, end_told, end_prefix, state_end}
use Rattle.sr_world.proofs.Lines.{each_told, all_told, given_prefix, ddl_line, note_line}
use Rattle.sr_world.proofs.Named.{written_t, written_p, written_q, written_r1, written_r2, written_for_r1}
use Rattle.sr_world.proofs.Named.{written_for_r2, started_for_r1, started_for_r2}
use Rattle.sr_world.proofs.Grounds.{set_ok, conflict_outcome}
use Rattle.sr_world.proofs.Grounds.{the_t, the_u, the_p, the_q, user_at, to, state_at, here, new_row, next_row, held_next, held_new, entries_of}
use Rattle.sr_world.proofs.Grounds.{entries_new, new_fits, next_fits, where_set, still, own_line}
use Rattle.sr_world.proofs.Grounds.{sent_line, sent_r1, sent_r2, sent_more, sent_back}
use Rattle.sr_world.proofs.Named.{text_u, row_ok, slim_ok, new_ok, update_ok}
use Rattle.sr_database_history.proofs.Sampled.{normal_u}

abbrev c0 : State
c0 = fresh cons

abbrev c1 : State
c1 = state_at cons [] (the_t ∷ []) [] [] map_of.empty

abbrev c2 : State
c2 = state_at cons [] (the_t ∷ []) (the_p ∷ []) [] map_of.empty

abbrev c3 : State
c3 = state_at cons [] (the_t ∷ []) (the_p ∷ the_q ∷ []) [] map_of.empty

abbrev c4 : State
c4 = state_at cons (user_at false r1 ∷ []) (the_t ∷ []) (the_p ∷ the_q ∷ []) [] map_of.empty

abbrev c_with : List Subscription → RowMap → State
c_with subscriptions rows = state_at cons (user_at false r1 ∷ user_at false r2 ∷ []) (the_t ∷ []) (the_p ∷ the_q ∷ []) subscriptions rows

abbrev c5 : State
c5 = c_with [] map_of.empty

abbrev c6 : State
c6 = c_with (to name_p r1 false ∷ []) map_of.empty

abbrev c7 : State
c7 = c_with (to name_p r1 false ∷ to name_q r2 false ∷ []) map_of.empty

-- with the subscription of r1 started, and with both
abbrev c_begun : RowMap → State
c_begun rows = c_with (to name_p r1 true ∷ to name_q r2 false ∷ []) rows

abbrev c_both : RowMap → State
c_both rows = c_with (to name_p r1 true ∷ to name_q r2 true ∷ []) rows

-- and with the table u
abbrev c_at : RowMap → State
c_at rows = state_at cons (user_at false r1 ∷ user_at false r2 ∷ []) (the_t ∷ the_u ∷ []) (the_p ∷ the_q ∷ [])
    (to name_p r1 true ∷ to name_q r2 true ∷ []) rows

abbrev c_rows5 : RowMap
c_rows5 = new_row (first_row 5)

abbrev c_rows7 : RowMap
c_rows7 = next_row c_rows5 7

abbrev c_rows6 : RowMap
c_rows6 = next_row c_rows7 6

abbrev line1 : Line
line1 = still (ddl (stmt.CreateTable create_t)) 70 c1

is1 : IsLine c0 line1
unfolding next with_statement catalog_after table_of refusal first_fault create_table_causes
is1 = ddl_line c0 c1 (stmt.CreateTable create_t) 70 written_t refl refl tt

abbrev line2 : Line
line2 = still (ddl (stmt.CreatePublication create_p)) 35 c2

is2 : IsLine c1 line2
unfolding next with_statement catalog_after publication_of refusal first_fault create_publication_causes
    absent_column absent_in is_bad_where is_bad_article key_outside
is2 = ddl_line c1 c2 (stmt.CreatePublication create_p) 35 written_p refl refl tt

abbrev line3 : Line
line3 = still (ddl (stmt.CreatePublication create_q)) 40 c3

is3 : IsLine c2 line3
unfolding next with_statement catalog_after publication_of refusal first_fault create_publication_causes
    absent_column absent_in is_bad_where is_bad_article key_outside
is3 = ddl_line c2 c3 (stmt.CreatePublication create_q) 40 written_q refl refl tt

abbrev line4 : Line
line4 = still (ddl (stmt.GrantRemote (grant r1))) 23 c4

is4 : IsLine c3 line4
unfolding next with_statement catalog_after user_of refusal first_fault grant_causes
is4 = ddl_line c3 c4 (stmt.GrantRemote (grant r1)) 23 written_r1 refl refl tt

abbrev line5 : Line
line5 = still (ddl (stmt.GrantRemote (grant r2))) 23 c5

is5 : IsLine c4 line5
unfolding next with_statement catalog_after user_of refusal first_fault grant_causes
is5 = ddl_line c4 c5 (stmt.GrantRemote (grant r2)) 23 written_r2 refl refl tt

abbrev line6 : Line
line6 = still (ddl (stmt.CreateSubscription (subscription name_p r1))) 36 c6

is6 : IsLine c5 line6
unfolding next with_statement catalog_after refusal first_fault create_subscription_causes
is6 = ddl_line c5 c6 (stmt.CreateSubscription (subscription name_p r1)) 36 written_for_r1 refl refl tt

abbrev line7 : Line
line7 = still (ddl (stmt.CreateSubscription (subscription name_q r2))) 36 c7

is7 : IsLine c6 line7
unfolding next with_statement catalog_after refusal first_fault create_subscription_causes
is7 = ddl_line c6 c7 (stmt.CreateSubscription (subscription name_q r2)) 36 written_for_r2 refl refl tt

abbrev line8 : Line
line8 = still (ddl (stmt.StartSubscription (subscription name_p r1))) 35 (c_begun map_of.empty)

is8 : IsLine c7 line8
unfolding next with_statement catalog_after refusal first_fault start_causes twice_subscribed
is8 = ddl_line c7 (c_begun map_of.empty) (stmt.StartSubscription (subscription name_p r1)) 35 started_for_r1 refl refl tt

abbrev line9 : Line
line9 = record { entry = own (inserted (first_row 5) ∷ []); long = 23; after = c_begun c_rows5; to_one = insert ∷ []; to_other = [] }

is9 : IsLine (c_begun map_of.empty) line9
unfolding size entry_spelling value_spelling next
is9 = own_line (c_begun map_of.empty) (c_begun c_rows5) (inserted (first_row 5)) 23 (insert ∷ []) refl refl (omega arith)
    (new_ok (first_row 5) (row_ok 5 (omega arith))) (new_fits (c_begun map_of.empty).catalog map_of.empty refl (get-empty place_cmp here))

abbrev line10 : Line
line10 = still (ddl (stmt.StartSubscription (subscription name_q r2))) 35 (c_both c_rows5)

is10 : IsLine (c_begun c_rows5) line10
unfolding next with_statement catalog_after refusal first_fault start_causes twice_subscribed
is10 = ddl_line (c_begun c_rows5) (c_both c_rows5) (stmt.StartSubscription (subscription name_q r2)) 35 started_for_r2 refl refl tt

-- the rows of the table that r2 sees
abbrev rows_seen : List (Place × List Cell) → List (List Cell)
rows_seen held = filter_map (λ (e : Entry). seen (c_both c_rows5).catalog r2 table_t e.1) (of_table table_t held)

viewed : rows_seen (entries_of c_rows5) ≡ slim_row ∷ []
unfolding subscribed_table_of
viewed = ap rows_seen (entries_new (first_row 5))

abbrev line11 : Line
line11 = record {
  entry = sync r2 ((table_t, slim_row ∷ []) ∷ []);
  long = 23;
  after = c_both c_rows5;
  to_one = [];
  to_other = Clear table_t ∷ insert_slim ∷ [];
}

is11 : IsLine (c_both c_rows5) line11
unfolding size entry_spelling value_spelling next IsEntry FitsState
is11 = record {
  size_is = refl;
  leaves = refl;
  short = omega arith;
  meant = tt;
  spelled = (refl, (omega arith, ((refl, (omega arith, (slim_ok, tt))), tt)));
  fits = refl;
  says_so = (sym viewed, tt);
}

abbrev line12 : Line
line12 = record {
  entry = pass (r2 ∷ []) false (stmt.CreateTable create_u) [];
  long = 71;
  after = c_at c_rows5;
  to_one = [];
  to_other = run_u ∷ [];
}

is12 : IsLine (c_both c_rows5) line12
unfolding size entry_spelling flag_spelling column_rule_pieces create_table_pieces stmt_pieces next with_statement catalog_after table_of
    IsEntry FitsState refusal first_fault create_table_causes
is12 = record {
  size_is = refl;
  leaves = refl;
  short = omega arith;
  meant = (normal_u, refl);
  spelled = ((record { items = (omega arith, (refl, tt)); distinct = (tt, tt) }, tt, text_u), (omega arith, tt));
  fits = ((refl, tt), tt, record { catalog = refl; rows = tt }, λ _. refl);
  says_so = refl;
}

abbrev line13 : Line
line13 = still (sent_to r1 366 0) 25 (c_at c_rows5)

is13 : IsLine (c_at c_rows5) line13
is13 = sent_line (c_at c_rows5) r1 366 0 25 sent_r1 (omega arith) (omega arith) (omega arith) refl refl

abbrev line14 : Line
line14 = still (sent_to r2 510 0) 25 (c_at c_rows5)

is14 : IsLine (c_at c_rows5) line14
is14 = sent_line (c_at c_rows5) r2 510 0 25 sent_r2 (omega arith) (omega arith) (omega arith) refl refl

abbrev line15 : Line
line15 = record { entry = own (updated 5 7 ∷ []); long = 37; after = c_at c_rows7; to_one = set 5 7 ∷ []; to_other = [] }

is15 : IsLine (c_at c_rows5) line15
unfolding size entry_spelling value_spelling next
is15 = own_line (c_at c_rows5) (c_at c_rows7) (updated 5 7) 37 (set 5 7 ∷ []) refl refl (omega arith)
    (update_ok 5 7 (omega arith) (omega arith) (λ h. omega (arith, h)))
    (next_fits (c_at c_rows5).catalog c_rows5 5 7 refl held_new (refl, refl))

abbrev line16 : Line
line16 = still (sent_to r1 612 0) 25 (c_at c_rows7)

is16 : IsLine (c_at c_rows7) line16
is16 = sent_line (c_at c_rows7) r1 612 0 25 sent_more (omega arith) (omega arith) (omega arith) refl refl

abbrev line17 : Line
line17 = still (note r1 (Asked 1 (offset_from 0))) 21 (c_at c_rows7)

is17 : IsLine (c_at c_rows7) line17
unfolding size entry_spelling note_spelling IsNote
is17 = note_line (c_at c_rows7) r1 (Asked 1 (offset_from 0)) 21 refl (omega arith) refl (omega arith, omega arith) refl

abbrev line18 : Line
line18 = line16

abbrev line19 : Line
line19 = still (note r1 (Confirmed (offset_from 612))) 13 (c_at c_rows7)

is19 : IsLine (c_at c_rows7) line19
unfolding size entry_spelling note_spelling IsNote
is19 = note_line (c_at c_rows7) r1 (Confirmed (offset_from 612)) 13 refl (omega arith) refl (omega arith) refl

-- the update that r1 made meets 7 in place of 5
met : done_judged (c_at c_rows7) false (set 5 6) None ≡ conflict (set 5 6) [] (first_row 7) (first_row 6)
unfolding done_judged judged_set names_key judged_update fired
met = ap (where_set (c_at c_rows7) false 5 6) (held_next c_rows5 7)

met_rows : AreNamedRows (c_at c_rows7).catalog table_t ((column_id, Int (pos 1)) ∷ []) (first_row 7) (first_row 6)
met_rows = record {
  table = the_t;
  named = refl;
  fits_before = refl;
  fits_after = refl;
  key = Int (pos 1) ∷ [];
  meant = record { count = refl; values = (refl, tt) };
  key_before = refl;
  key_after = refl;
}

abbrev line20 : Line
line20 = record {
  entry = taken r1 (offset_from 389) (conflict (set 5 6) [] (first_row 7) (first_row 6) ∷ []);
  long = 80;
  after = c_at c_rows6;
  to_one = set 7 6 ∷ [];
  to_other = [];
}

is20 : IsLine (c_at c_rows7) line20
unfolding size entry_spelling op_spelling outcome_spelling value_spelling next IsEntry FitsState
is20 = record {
  size_is = refl;
  leaves = refl;
  short = omega arith;
  meant = (tt, tt);
  spelled = (refl, omega arith, record { items = (omega arith, ((set_ok 5 6 (omega arith) (omega arith), conflict_outcome), tt)); filled = λ h. cc });
  fits = (
    refl,
    (
      record {
        changes = (
          next_fits (c_at c_rows7).catalog c_rows7 7 6 refl (held_next c_rows5 7)
              (refl, refl),
          tt,
        );
        outcome = (tt, met_rows);
      },
      tt,
    ),
  );
  says_so = (record { statement = None; carried = refl; done_is = sym met }, tt);
}

abbrev line21 : Line
line21 = still (sent_to r1 801 389) 25 (c_at c_rows6)

is21 : IsLine (c_at c_rows6) line21
is21 = sent_line (c_at c_rows6) r1 801 389 25 sent_back (omega arith) (omega arith) (omega arith) refl refl

abbrev pub cons_lines : List Line
cons_lines =
    line1 ∷ line2 ∷ line3 ∷ line4 ∷ line5 ∷ line6 ∷ line7 ∷ line8 ∷ line9 ∷ line10 ∷ line11 ∷ line12 ∷ line13 ∷ line14 ∷ line15 ∷ line16 ∷ line17
    ∷ line18 ∷ line19 ∷ line20 ∷ line21 ∷ []

later_are : AreLines (c_both c_rows5) (drop 10 cons_lines)
later_are = (is11, (is12, (is13, (is14, (is15, (is16, (is17, (is16, (is19, (is20, (is21, tt)))))))))))

cons_are : AreLines c0 cons_lines
cons_are = (is1, (is2, (is3, (is4, (is5, (is6, (is7, (is8, (is9, (is10, later_are))))))))))

cons_tell_r1 : each_told c0 r1 cons_lines ≡ map (λ (l : Line). l.to_one) cons_lines
unfolding told subscribed_table_of
cons_tell_r1 = refl

cons_tell_r2 : each_told c0 r2 cons_lines ≡ map (λ (l : Line). l.to_other) cons_lines
unfolding told subscribed_table_of
cons_tell_r2 = refl

pub cons_lawful : (n : ℕ) → LawfulHistory cons (entries (take n cons_lines))
cons_lawful n = lawful_prefix c0 0 n cons_lines cons_are (omega arith)

pub cons_ends : (n : ℕ) → end_of layers (entries (take n cons_lines)) ≡ end_told 0 (take n cons_lines)
cons_ends n = end_prefix c0 0 n cons_lines cons_are

pub cons_gives_r1 : (n : ℕ) → layers.given cons r1 (entries (take n cons_lines)) ≡ all_told (λ l. l.to_one) 0 (take n cons_lines)
cons_gives_r1 n = given_prefix c0 0 r1 (λ l. l.to_one) n cons_lines (fresh_holds cons) cons_are (omega arith) cons_tell_r1

pub cons_gives_r2 : (n : ℕ) → layers.given cons r2 (entries (take n cons_lines)) ≡ all_told (λ l. l.to_other) 0 (take n cons_lines)
cons_gives_r2 n = given_prefix c0 0 r2 (λ l. l.to_other) n cons_lines (fresh_holds cons) cons_are (omega arith) cons_tell_r2

pub cons_row : rows_of_table (state_of cons (entries cons_lines)).rows table_t (Int (pos 1) ∷ []) ≡ Some (first_row 6)
cons_row = ap (λ (s : State). get s.rows here) (state_end c0 cons_lines cons_are) ∙ held_next c_rows7 6
