-- What a user sees of a table, row by row.
use Rattle.std.proofs.Common.{◌≡◌, List, [], ◌∷◌, ◌++◌, Option, Some, None, Result, IfOk, filter_map, refl, sym, ap, subst, ◌∙◌}
use Rattle.std.specs.List.{cons_option}
use Rattle.sr_base.specs.declared.value.Value.{Value as Cell}
use Rattle.sr_book.specs.Entries.{Name}
use Rattle.sr_database_history.specs.Folds.{State}
use Rattle.sr_publish.specs.SubscribedTables.{SubscribedTable, subscribed_table_of}
use Rattle.sr_publish.specs.Views.{shown_in}
use Rattle.sr_rows.specs.Walks.{Entry, table_rows}
use Rattle.sr_session_script.specs.Synced.{view_of}

-- without a subscribed table nothing is seen
none_seen : (entries : List Entry) → filter_map (λ e. shown_in None e.1) entries ≡ []
none_seen [] = refl
none_seen (e ∷ entries) = none_seen entries

pub nothing_seen : (subscribed_table : Option SubscribedTable) (found : List (List Cell)) (entries : List Entry) → subscribed_table ≡ None → found ≡ [] → found ≡ filter_map (λ e. shown_in subscribed_table e.1) entries
nothing_seen subscribed_table found entries none empty =
    empty ∙ sym (none_seen entries) ∙ ap (λ (s : Option SubscribedTable). filter_map (λ (e : Entry). shown_in s e.1) entries) (sym none)

pub seen_by : {E : Type 0} (subscribed_table : Option SubscribedTable) (view : SubscribedTable) (entries : List Entry) (r : Result (List (List Cell)) E) → subscribed_table ≡ Some view
    → IfOk r (λ found. found ≡ filter_map (λ e. shown_in (Some view) e.1) entries) → IfOk r (λ found. found ≡ filter_map (λ e. shown_in subscribed_table e.1) entries)
seen_by subscribed_table view entries r is h =
    subst (λ (s : Option SubscribedTable). IfOk r (λ found. found ≡ filter_map (λ (e : Entry). shown_in s e.1) entries)) (sym is) h

pub view_seen : (s : State) (user table name : Name) (found : List (List Cell)) → name ≡ table
    → found ≡ filter_map (λ e. shown_in (subscribed_table_of s.catalog user table) e.1) (table_rows s.rows table) → (name, found) ≡ view_of s user table
unfolding view_of
view_seen s user table name found same is = λ i. (same i, is i)

-- one row more
pub shown_more : (f : Entry → Option (List Cell)) (before now : List (List Cell)) (left rest : List Entry) (e : Entry) (all : List (List Cell))
    → before ++ filter_map f left ≡ all → left ≡ e ∷ rest
    → ((more : List (List Cell)) → before ++ cons_option (f e) more ≡ now ++ more) → now ++ filter_map f rest ≡ all
shown_more f before now left rest e all is split added =
    sym (added (filter_map f rest)) ∙ ap (λ (l : List Entry). before ++ filter_map f l) (sym split) ∙ is
