-- What an entry of a database's own says.
use Rattle.std.proofs.Common.{◌≡◌, ◌↔◌, ℕ, Bool, true, false, List, [], ◌∷◌, Option, None, Result, Ok, Err, IsTrue, map, filter_map, refl, sym, ap, subst, ◌∙◌}
use Rattle.std.specs.List.{AllByRecursion}
use Rattle.sr_ast.specs.Layout.{printed}
use Rattle.sr_ast.specs.declared.stmt.Stmt.{Stmt}
use Rattle.sr_base.specs.declared.value.Value.{Value as Cell}
use Rattle.sr_book.specs.Entries.{Name}
use Rattle.sr_catalog_schema.specs.declared.fault.DmlFault.{DmlFault}
use Rattle.sr_database_history.specs.Folds.{State}
use Rattle.sr_database_history.specs.Recorded.{own, taken, ddl, sync, pass, note, done_of}
use Rattle.sr_exec_dml.specs.declared.changes.Changes.{Changes}
use Rattle.sr_logform.specs.declared.change.Change.{Change}
use Rattle.sr_logform.specs.declared.entry.Entry.TheVariants as entries
use Rattle.sr_parse.specs.Prints.{Prints}
use Rattle.sr_parse.proofs.Prints.{prints_once}
use Rattle.sr_publish.specs.SubscribedTables.{SubscribedTable}
use Rattle.sr_publish.specs.Views.{shown_in}
use Rattle.sr_rows.specs.Walks.{Entry as RowEntry}
use Rattle.sr_world.specs.Lawful.{ArePassedChanges, IsViewed}
use Rattle.sr_world_entries.specs.Inner.Saying.{AreMade, PassSaysSo, TellsSo}

-- ---- by the kind of the entry

pub own_says : (s : State) (changes : List Change) → TellsSo s (entries.Own changes) true
unfolding TellsSo
own_says s changes (own c) meant is = (λ _. tt, λ _. refl)
own_says s changes (taken user at dones) meant is = let never : entries.From user at (map done_of dones) ≡ entries.Own changes = is in absurd (cc)
own_says s changes (ddl statement) meant is = (λ _. tt, λ _. refl)
own_says s changes (sync user tables) meant is = let never : entries.Sync user tables ≡ entries.Own changes = is in absurd (cc)
own_says s changes (pass users only statement c) meant is = let never : entries.Pass users only (printed statement) c ≡ entries.Own changes = is in absurd (cc)
own_says s changes (note user what) meant is = (λ _. tt, λ _. refl)

pub ddl_says : (s : State) (text : List ℕ) → TellsSo s (entries.Ddl text) true
unfolding TellsSo
ddl_says s text (own c) meant is = (λ _. tt, λ _. refl)
ddl_says s text (taken user at dones) meant is = let never : entries.From user at (map done_of dones) ≡ entries.Ddl text = is in absurd (cc)
ddl_says s text (ddl statement) meant is = (λ _. tt, λ _. refl)
ddl_says s text (sync user tables) meant is = let never : entries.Sync user tables ≡ entries.Ddl text = is in absurd (cc)
ddl_says s text (pass users only statement c) meant is = let never : entries.Pass users only (printed statement) c ≡ entries.Ddl text = is in absurd (cc)
ddl_says s text (note user what) meant is = (λ _. tt, λ _. refl)

pub sync_says : (s : State) (user : Name) (tables : List (Name × List (List Cell))) (so : Bool) → (IsTrue so ↔ AllByRecursion (IsViewed s user) tables)
    → TellsSo s (entries.Sync user tables) so
unfolding TellsSo
sync_says s user tables so h (own c) meant is = let never : entries.Own c ≡ entries.Sync user tables = is in absurd (cc)
sync_says s user tables so h (taken u at dones) meant is = let never : entries.From u at (map done_of dones) ≡ entries.Sync user tables = is in absurd (cc)
sync_says s user tables so h (ddl statement) meant is = let never : entries.Ddl (printed statement) ≡ entries.Sync user tables = is in absurd (cc)
sync_says s user tables so h (sync u t) meant is =
    let e : entries.Sync u t ≡ entries.Sync user tables = is in
    let us : u ≡ user = cc in
    let ts : t ≡ tables = cc in
    subst (λ (l : List (Name × List (List Cell))). IsTrue so ↔ AllByRecursion (IsViewed s u) l) (sym ts)
    (subst (λ (n : Name). IsTrue so ↔ AllByRecursion (IsViewed s n) tables) (sym us) h)
sync_says s user tables so h (pass users only statement c) meant is = let never : entries.Pass users only (printed statement) c ≡ entries.Sync user tables = is in absurd (cc)
sync_says s user tables so h (note u what) meant is = let never : entries.Note u what ≡ entries.Sync user tables = is in absurd (cc)

pub pass_says : (s : State) (users : List Name) (only : Bool) (text : List ℕ) (changes : List Change) (so : Bool) → PassSaysSo s only text changes so
    → TellsSo s (entries.Pass users only text changes) so
unfolding TellsSo PassSaysSo
pass_says s users only text changes so h (own c) meant is = let never : entries.Own c ≡ entries.Pass users only text changes = is in absurd (cc)
pass_says s users only text changes so h (taken u at dones) meant is = let never : entries.From u at (map done_of dones) ≡ entries.Pass users only text changes = is in absurd (cc)
pass_says s users only text changes so h (ddl statement) meant is = let never : entries.Ddl (printed statement) ≡ entries.Pass users only text changes = is in absurd (cc)
pass_says s users only text changes so h (sync u t) meant is = let never : entries.Sync u t ≡ entries.Pass users only text changes = is in absurd (cc)
pass_says s users only text changes so h (pass us o statement c) meant is =
    let e : entries.Pass us o (printed statement) c ≡ entries.Pass users only text changes = is in
    let only_is : o ≡ only = cc in
    let text_is : printed statement ≡ text = cc in
    let changes_are : c ≡ changes = cc in
    subst (λ (l : List Change). IsTrue so ↔ ArePassedChanges o s statement l) (sym changes_are)
    (subst (λ (b : Bool). IsTrue so ↔ ArePassedChanges b s statement changes) (sym only_is) (h statement (record { normal = meant.0; prints = text_is })))
pass_says s users only text changes so h (note u what) meant is = let never : entries.Note u what ≡ entries.Pass users only text changes = is in absurd (cc)

-- ---- a passed statement

pub nothing_printed : (s : State) (only : Bool) (text : List ℕ) (changes : List Change) → ((statement : Stmt) → ¬ (Prints statement text)) → PassSaysSo s only text changes false
unfolding PassSaysSo
nothing_printed s only text changes none = λ statement prints. absurd (none statement prints)

pub printed_says : (s : State) (only : Bool) (text : List ℕ) (changes : List Change) (so : Bool) (found : Stmt) → Prints found text
    → (IsTrue so ↔ ArePassedChanges only s found changes) → PassSaysSo s only text changes so
unfolding PassSaysSo
printed_says s only text changes so found prints h = λ statement p.
    subst (λ (t : Stmt). IsTrue so ↔ ArePassedChanges only s t changes) (prints_once text found statement prints p) h

-- ---- what a statement comes to

pub made_where : (done : Result Changes DmlFault) (made : Changes) (changes : List Change) (same : Bool) → done ≡ Ok made → (IsTrue same ↔ (made.list ≡ changes))
    → (IsTrue same ↔ AreMade done changes)
made_where done made changes same is h = (
  λ t. (made.count, is ∙ (λ i. Ok (record { list = h.0 t i; count = made.count }))),
  λ m. let e : Ok made ≡ Ok (record { list = changes; count = m.0 }) = sym is ∙ m.1 in
      let one : made ≡ record { list = changes; count = m.0 } = cc in
      h.1 (ap (λ (c : Changes). c.list) one),
)

pub refused_where : (done : Result Changes DmlFault) (fault : DmlFault) (changes : List Change) → done ≡ Err fault → (IsTrue false ↔ AreMade done changes)
refused_where done fault changes is = (
  λ (t : false ≡ true). absurd (cc),
  λ m. let never : Err fault ≡ Ok (record { list = changes; count = m.0 }) = sym is ∙ m.1 in absurd (cc),
)

-- ---- views

none_seen : (entries : List RowEntry) → filter_map (λ e. shown_in None e.1) entries ≡ []
none_seen [] = refl
none_seen (e ∷ entries) = none_seen entries

pub nothing_seen : (subscribed_table : Option SubscribedTable) (found : List (List Cell)) (entries : List RowEntry) → subscribed_table ≡ None → found ≡ []
    → found ≡ filter_map (λ e. shown_in subscribed_table e.1) entries
nothing_seen subscribed_table found entries none empty =
    empty ∙ sym (none_seen entries) ∙ ap (λ (s : Option SubscribedTable). filter_map (λ (e : RowEntry). shown_in s e.1) entries) (sym none)
