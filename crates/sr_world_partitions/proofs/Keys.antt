-- The key of the row is untouched after each take.
use Rattle.std.proofs.Common.{◌≡◌, ◌<◌, ◌≤◌, inl, inr, ℕ, true, List, [], ◌∷◌, ◌++◌, Some, None, take, drop, refl, sym, ap, subst, ◌∙◌, arith}
use Rattle.std.specs.FinMap.{get-empty}
use Rattle.sr_base.specs.Values.{offset_from}
use Rattle.sr_ast.specs.declared.stmt.Stmt.TheVariants as stmt
use Rattle.sr_book.specs.Entries.{Name}
use Rattle.sr_book.specs.Histories.{taken_end}
use Rattle.sr_catalog_change.specs.Changes.{next as catalog_after}
use Rattle.sr_catalog_ddl.specs.Publications.{publication_of}
use Rattle.sr_catalog_ddl.specs.Tables.{table_of}
use Rattle.sr_catalog_ddl.specs.Users.{user_of}
use Rattle.sr_exec_dml.specs.Statements.{table_named}
use Rattle.sr_database_history.specs.Folds.{with_statement, next, sees, state_of, end_of}
use Rattle.sr_database_history.specs.Recorded.{Recorded, ddl}
use Rattle.sr_database_history.specs.Inner.Sample.{cons, r1, table_t}
use Rattle.sr_world_model.specs.Worlds.{World, history}
use Rattle.sr_publish.specs.SubscribedTables.{subscribed_table_of}
use Rattle.sr_publish.specs.Views.{shown_row}
use Rattle.sr_resolve.specs.Taking.{is_above}
use Rattle.sr_rows.specs.Marks.{place_cmp, rows_of_table}
use Rattle.sr_scan.specs.Given.{view_in}
use Rattle.sr_world_partitions.proofs.Parted.{held_with, held_without, rows_with}
use Rattle.sr_world_partitions.proofs.Published.{cons_ends}
use Rattle.sr_world_partitions.specs.Inner.Moves.{HoldsUntouched, came, part_for, part_of_table, world_at}
use Rattle.sr_world_untouched.specs.Agreeing.{HasColumns}
use Rattle.sr_world_untouched.specs.Inner.Sample.{first_key, whole_table}
use Rattle.sr_world_untouched.specs.Untouched.{ByStart, EachFrom, IsUntouched, KeepsAbove, KeepsBelow}
use Rattle.sr_world.proofs.Grounds.{held_next}
use Rattle.sr_world.proofs.Keeping.{end_same}
use Rattle.sr_world.specs.Inner.Sample.{r2, first_row}

-- ---- the histories

-- that of cons, which is whole before anybody takes of it
abbrev above : List Recorded
above = history (world_at 13) cons

-- those of r1 and r2 in the end
abbrev of_r1 : List Recorded
of_r1 = history (world_at 22) r1

abbrev of_r2 : List Recorded
of_r2 = history (world_at 22) r2

ends_at_7 : end_of (take 7 above) ≡ 320
ends_at_7 = sym (end_same (take 7 above)) ∙ cons_ends 7

ends_at_8 : end_of (take 8 above) ≡ 364
ends_at_8 = sym (end_same (take 8 above)) ∙ cons_ends 8

ends_at_9 : end_of (take 9 above) ≡ 392
ends_at_9 = sym (end_same (take 9 above)) ∙ cons_ends 9

ends_at_10 : end_of (take 10 above) ≡ 434
ends_at_10 = sym (end_same (take 10 above)) ∙ cons_ends 10

ends_at_11 : end_of (take 11 above) ≡ 476
ends_at_11 = sym (end_same (take 11 above)) ∙ cons_ends 11

-- ---- what does not change

-- r1 has its part of the table from its START on, and so has r2
part_of_r1 : subscribed_table_of (state_of cons (take 7 above)).catalog r1 table_t ≡ Some (part_of_table 5)
unfolding subscribed_table_of next with_statement catalog_after table_of publication_of user_of
part_of_r1 = refl

part_of_r1_on : subscribed_table_of (state_of cons (take 8 above)).catalog r1 table_t ≡ Some (part_of_table 5)
unfolding subscribed_table_of next with_statement catalog_after table_of publication_of user_of
part_of_r1_on = refl

part_of_r2 : subscribed_table_of (state_of cons (take 8 above)).catalog r2 table_t ≡ Some (part_of_table 7)
unfolding subscribed_table_of next with_statement catalog_after table_of publication_of user_of
part_of_r2 = refl

table_of_r1 : table_named (state_of r1 (take 2 of_r1)).catalog table_t ≡ Some whole_table
unfolding next with_statement catalog_after table_of user_of
table_of_r1 = refl

table_of_r2 : table_named (state_of r2 (take 2 of_r2)).catalog table_t ≡ Some whole_table
unfolding next with_statement catalog_after table_of user_of
table_of_r2 = refl

-- the table has the columns of the article, with their types
all_columns : HasColumns whole_table.columns whole_table
all_columns = record {
  has = (refl, (refl, tt));
  suits = ((refl, λ h. h), ((refl, λ h. h), tt));
}

-- ---- how it begins

-- right behind a START cons shows no row, for none is there
unseen_by_r1 : view_in (state_of cons (take 7 above)) r1 table_t first_key ≡ None
unfolding next with_statement catalog_after table_of publication_of user_of
unseen_by_r1 = ap (shown_row (subscribed_table_of (state_of cons (take 7 above)).catalog r1 table_t)) (get-empty place_cmp (table_t, first_key))

unseen_by_r2 : view_in (state_of cons (take 8 above)) r2 table_t first_key ≡ None
unfolding next with_statement catalog_after table_of publication_of user_of
unseen_by_r2 = ap (shown_row (subscribed_table_of (state_of cons (take 8 above)).catalog r2 table_t)) (get-empty place_cmp (table_t, first_key))

-- and none is held below
none_at_r1 : rows_of_table (state_of r1 (take 2 of_r1)).rows table_t first_key ≡ None
unfolding next with_statement catalog_after table_of user_of
none_at_r1 = get-empty place_cmp (table_t, first_key)

none_at_r2 : rows_of_table (state_of r2 (take 2 of_r2)).rows table_t first_key ≡ None
unfolding next with_statement catalog_after table_of user_of
none_at_r2 = get-empty place_cmp (table_t, first_key)

begins_at_r1 : (since more : List Recorded) → ByStart r1 cons table_t first_key (take 7 above) since (take 2 of_r1) (take 1 (drop 2 of_r1) ++ more)
begins_at_r1 since more = record {
  earlier = take 6 above;
  start = ddl (stmt.StartSubscription (part_for 5 r1));
  is = refl;
  starts = refl;
  unseen = unseen_by_r1;
  at = 392;
  past = subst (λ (n : ℕ). n < 392) (sym ends_at_7) (omega arith);
  until = subst (λ (n : ℕ). 0 ≤ n) (sym ends_at_7) (omega arith);
  takes = record { offset = offset_from 392; dones = came 5 ∷ []; more = more; is = refl; at_is = refl };
  none = none_at_r1;
}

begins_at_r2 : (since more : List Recorded) → ByStart r2 cons table_t first_key (take 8 above) since (take 2 of_r2) (take 1 (drop 2 of_r2) ++ more)
begins_at_r2 since more = record {
  earlier = take 7 above;
  start = ddl (stmt.StartSubscription (part_for 7 r2));
  is = refl;
  starts = refl;
  unseen = unseen_by_r2;
  at = 434;
  past = subst (λ (n : ℕ). n < 434) (sym ends_at_8) (omega arith);
  until = subst (λ (n : ℕ). 0 ≤ n) (sym ends_at_8) (omega arith);
  takes = record { offset = offset_from 434; dones = came 7 ∷ []; more = more; is = refl; at_is = refl };
  none = none_at_r2;
}

-- ---- untouched, by a START, in a world that has these histories

from_start : (w : World Recorded) (user : Name) (n : ℕ) (before since later old new : List Recorded) → ByStart user cons table_t first_key before since old new
    → history w cons ≡ before ++ (since ++ later) → history w user ≡ old ++ new → end_of (before ++ since) ≡ taken_end sees cons (history w user)
    → is_above (state_of user (history w user)) cons ≡ true
    → EachFrom (KeepsAbove user (part_of_table n) first_key) (state_of cons before) since → EachFrom (KeepsBelow cons whole_table first_key) (state_of user old) new
    → IsUntouched w user cons first_key (part_of_table n) whole_table
from_start w user n before since later old new begins parts parts_below ends up keeps_above keeps_below = record {
  from_above = up;
  before = before;
  since = since;
  later = later;
  parts = parts;
  ends = ends;
  old = old;
  new = new;
  parts_below = parts_below;
  begins = inr begins;
  keeps_above = keeps_above;
  keeps_below = keeps_below;
  name = refl;
  columns = all_columns;
  key_columns = refl;
}

-- ---- r1 holds the row, does not, and holds it again

up_at_r1 : is_above (state_of r1 of_r1) cons ≡ true
unfolding next with_statement catalog_after table_of user_of
up_at_r1 = refl

-- of the entries of cons behind the START for r1, so many leave it to r1
keeps_r1_one : EachFrom (KeepsAbove r1 (part_of_table 5) first_key) (state_of cons (take 7 above)) (take 2 (drop 7 above))
unfolding next with_statement catalog_after
keeps_r1_one = (
  record { passes_none = tt; takes_none = tt; subscribed_table_stays = (part_of_r1, part_of_r1_on) },
  (record { passes_none = tt; takes_none = tt; subscribed_table_stays = (part_of_r1_on, part_of_r1_on) }, tt),
)

keeps_r1_two : EachFrom (KeepsAbove r1 (part_of_table 5) first_key) (state_of cons (take 7 above)) (take 3 (drop 7 above))
unfolding next with_statement catalog_after
keeps_r1_two = (
  record { passes_none = tt; takes_none = tt; subscribed_table_stays = (part_of_r1, part_of_r1_on) },
  (
    record { passes_none = tt; takes_none = tt; subscribed_table_stays = (part_of_r1_on, part_of_r1_on) },
    (record { passes_none = tt; takes_none = tt; subscribed_table_stays = (part_of_r1_on, part_of_r1_on) }, tt),
  ),
)

keeps_r1_all : EachFrom (KeepsAbove r1 (part_of_table 5) first_key) (state_of cons (take 7 above)) (take 4 (drop 7 above))
unfolding next with_statement catalog_after
keeps_r1_all = (
  record { passes_none = tt; takes_none = tt; subscribed_table_stays = (part_of_r1, part_of_r1_on) },
  (
    record { passes_none = tt; takes_none = tt; subscribed_table_stays = (part_of_r1_on, part_of_r1_on) },
    (
      record { passes_none = tt; takes_none = tt; subscribed_table_stays = (part_of_r1_on, part_of_r1_on) },
      (record { passes_none = tt; takes_none = tt; subscribed_table_stays = (part_of_r1_on, part_of_r1_on) }, tt),
    ),
  ),
)

-- all that r1 does behind its grant is to take of cons
below_r1_one : EachFrom (KeepsBelow cons whole_table first_key) (state_of r1 (take 2 of_r1)) (take 1 (drop 2 of_r1))
unfolding next
below_r1_one = (record { row = inl refl; table = (table_of_r1, table_of_r1) }, tt)

below_r1_two : EachFrom (KeepsBelow cons whole_table first_key) (state_of r1 (take 2 of_r1)) (take 2 (drop 2 of_r1))
unfolding next
below_r1_two = (record { row = inl refl; table = (table_of_r1, table_of_r1) }, (record { row = inl refl; table = (table_of_r1, table_of_r1) }, tt))

below_r1_all : EachFrom (KeepsBelow cons whole_table first_key) (state_of r1 (take 2 of_r1)) (take 3 (drop 2 of_r1))
unfolding next
below_r1_all = (
  record { row = inl refl; table = (table_of_r1, table_of_r1) },
  (record { row = inl refl; table = (table_of_r1, table_of_r1) }, (record { row = inl refl; table = (table_of_r1, table_of_r1) }, tt)),
)

pub enters : HoldsUntouched (world_at 16) r1 5 (Some (first_row 5))
unfolding next with_statement catalog_after table_of user_of
enters = record {
  untouched = from_start (world_at 16) r1 5 (take 7 above) (take 2 (drop 7 above)) (drop 9 above) (take 2 of_r1) (take 1 (drop 2 of_r1)) (begins_at_r1 (take 2 (drop 7 above)) [])
      refl refl ends_at_9 up_at_r1 keeps_r1_one below_r1_one;
  held = held_with 5;
}

pub leaves : HoldsUntouched (world_at 17) r1 5 None
unfolding next with_statement catalog_after table_of user_of
leaves = record {
  untouched = from_start (world_at 17) r1 5 (take 7 above) (take 3 (drop 7 above)) (drop 10 above) (take 2 of_r1) (take 2 (drop 2 of_r1))
      (begins_at_r1 (take 3 (drop 7 above)) (take 1 (drop 3 of_r1))) refl refl ends_at_10 up_at_r1 keeps_r1_two below_r1_two;
  held = held_without 5;
}

pub comes_back : HoldsUntouched (world_at 18) r1 5 (Some (first_row 5))
unfolding next with_statement catalog_after table_of user_of
comes_back = record {
  untouched = from_start (world_at 18) r1 5 (take 7 above) (take 4 (drop 7 above)) (drop 11 above) (take 2 of_r1) (take 3 (drop 2 of_r1))
      (begins_at_r1 (take 4 (drop 7 above)) (take 2 (drop 3 of_r1))) refl refl ends_at_11 up_at_r1 keeps_r1_all below_r1_all;
  held = held_next (rows_with 5) 5;
}

-- ---- r2 holds it, and does not

up_at_r2 : is_above (state_of r2 of_r2) cons ≡ true
unfolding next with_statement catalog_after table_of user_of
up_at_r2 = refl

keeps_r2_one : EachFrom (KeepsAbove r2 (part_of_table 7) first_key) (state_of cons (take 8 above)) (take 2 (drop 8 above))
unfolding next
keeps_r2_one = (
  record { passes_none = tt; takes_none = tt; subscribed_table_stays = (part_of_r2, part_of_r2) },
  (record { passes_none = tt; takes_none = tt; subscribed_table_stays = (part_of_r2, part_of_r2) }, tt),
)

keeps_r2_all : EachFrom (KeepsAbove r2 (part_of_table 7) first_key) (state_of cons (take 8 above)) (take 3 (drop 8 above))
unfolding next
keeps_r2_all = (
  record { passes_none = tt; takes_none = tt; subscribed_table_stays = (part_of_r2, part_of_r2) },
  (
    record { passes_none = tt; takes_none = tt; subscribed_table_stays = (part_of_r2, part_of_r2) },
    (record { passes_none = tt; takes_none = tt; subscribed_table_stays = (part_of_r2, part_of_r2) }, tt),
  ),
)

below_r2_one : EachFrom (KeepsBelow cons whole_table first_key) (state_of r2 (take 2 of_r2)) (take 1 (drop 2 of_r2))
unfolding next
below_r2_one = (record { row = inl refl; table = (table_of_r2, table_of_r2) }, tt)

below_r2_all : EachFrom (KeepsBelow cons whole_table first_key) (state_of r2 (take 2 of_r2)) (take 2 (drop 2 of_r2))
unfolding next
below_r2_all = (record { row = inl refl; table = (table_of_r2, table_of_r2) }, (record { row = inl refl; table = (table_of_r2, table_of_r2) }, tt))

pub moves_there : HoldsUntouched (world_at 21) r2 7 (Some (first_row 7))
unfolding next with_statement catalog_after table_of user_of
moves_there = record {
  untouched = from_start (world_at 21) r2 7 (take 8 above) (take 2 (drop 8 above)) (drop 10 above) (take 2 of_r2) (take 1 (drop 2 of_r2)) (begins_at_r2 (take 2 (drop 8 above)) [])
      refl refl ends_at_10 up_at_r2 keeps_r2_one below_r2_one;
  held = held_with 7;
}

pub leaves_again : HoldsUntouched (world_at 22) r2 7 None
unfolding next with_statement catalog_after table_of user_of
leaves_again = record {
  untouched = from_start (world_at 22) r2 7 (take 8 above) (take 3 (drop 8 above)) (drop 11 above) (take 2 of_r2) (take 2 (drop 2 of_r2))
      (begins_at_r2 (take 3 (drop 8 above)) (take 1 (drop 3 of_r2))) refl refl ends_at_11 up_at_r2 keeps_r2_all below_r2_all;
  held = held_without 7;
}
