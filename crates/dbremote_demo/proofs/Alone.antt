-- A database that leaves alone what it did not name differs nowhere.
use Rattle.std.proofs.Common.{◌≡◌, inl, inr, ℕ, ◌+◌, Bool, true, false, cond, not, ◌&&◌, map, length, List, [], ◌∷◌, ◌++◌, Option, Some, None, refl, sym, ap, ap₂, subst, ◌∙◌}
use Rattle.std.specs.Cmp.{tied_itself}
use Rattle.std.specs.Ordering.{is_eq}
use Rattle.std.specs.Prelude.{filter, is_none, unwrap_or}
use Rattle.sr_base.specs.Inner.Order.{key_cmp_total}
use Rattle.sr_base.specs.Order.{key_cmp}
use Rattle.sr_base.specs.declared.value.Value.{Value as Cell}
use Rattle.sr_base.specs.declared.value.Value.TheVariants.{Null}
use Rattle.sr_book.specs.Entries.{Name}
use Rattle.sr_database_history.proofs.Kept.{stored_holds}
use Rattle.sr_database_history.specs.Folds.{State, state_of}
use Rattle.sr_database_history.specs.Inner.Laws.{Holds}
use Rattle.sr_database_history.specs.Recorded.{Recorded, entry_of}
use Rattle.sr_database_meaning.proofs.Alike.{whole}
use Rattle.sr_database_meaning.specs.Standing.{StandsAs}
use Rattle.sr_exec_fits.specs.Rows.{IsRow}
use Rattle.sr_logform.specs.Rules.{AreDistinct}
use Rattle.sr_logform.specs.declared.entry.Entry.{Entry as LogEntry}
use Rattle.sr_memsite.specs.Disks.{files_in}
use Rattle.sr_publish.proofs.Orderly.{table_has_key}
use Rattle.sr_publish.specs.SubscribedTables.{SubscribedTable, subscribed_table_of}
use Rattle.sr_publish.specs.Views.{shown_in, shown_row}
use Rattle.sr_rows.proofs.Cursors.{AreHeld, table_held}
use Rattle.sr_rows.specs.Marks.{RowMap, rows_of_table}
use Rattle.sr_rows.specs.Walks.{Entry, table_rows}
use Rattle.sr_scan.proofs.Applying.{name_of_table}
use Rattle.sr_scan.specs.Given.{view_in}
use Rattle.sr_catalog_schema.specs.Members.{column_name}
use Rattle.sr_catalog_schema.specs.declared.table.Column.{Column}
use Rattle.sr_catalog_schema.specs.declared.table.Table.{Table}
use Rattle.sr_site.specs.Files.{Files}
use Rattle.sr_world_model.specs.Worlds.{World}
use Rattle.sr_world_untouched.proofs.All.{keys_agree}
use Rattle.sr_world_untouched.proofs.Shown.{row_is}
use Rattle.sr_world_untouched.specs.Agreeing.{HasShown}
use Rattle.sr_world_untouched.specs.Inner.Agreeing.{held_in}
use Rattle.sr_world_untouched.specs.Untouched.{Agrees}
use Rattle.sr_world.specs.Real.{IsGoodWorld}
use Rattle.dbremote_demo.proofs.Worlds.{course_good, course_whole}
use Rattle.dbremote_demo.specs.Courses.{Course}
use Rattle.dbremote_demo.specs.Demonstrations.{CameTo}
use Rattle.dbremote_demo.specs.LeftAlone.{AgreesWhereAlone, HasDemoHistories, IsLeftAlone, LeavesAlone, demo_history, demo_state, keys_touched}
use Rattle.dbremote_demo_draws.specs.Agreement.{differs_above, differs_below, differing, is_among, is_same}
use Rattle.dbremote_demo_draws.specs.Inner.Whole.{AreWhole}
use Rattle.dbremote_demo_draws.specs.Lines.{summary_lines}
use Rattle.dbremote_demo_draws.specs.Names.{text_of}
use Rattle.dbremote_demo_draws.specs.Places.{disk_at}
use Rattle.dbremote_demo_draws.specs.Summaries.{IsPartBelow, IsSummary, cust, differing_from}
use Rattle.dbremote_demo_draws.specs.Summaries as summaries
use Rattle.dbremote_demo_draws.specs.declared.demo_site.DemoSite.{DemoSite}
use Rattle.dbremote_demo_draws.specs.declared.demo_site.DemoSite.TheVariants.{Cons, R1, R2, R3}
use Rattle.dbremote_demo_draws.specs.declared.demo_sites.DemoSites.{DemoSites}
use Rattle.dbremote_demo_draws.specs.declared.summary.Part.{Part}
use Rattle.dbremote_demo_draws.specs.declared.summary.Summary.{Summary}

-- ---- a row below that has what is shown, in the same columns, is what is shown

shown_named : (below columns : List Column) (shown row : List Cell) → HasShown below columns shown row → shown ≡ map (λ (c : Column). held_in below row c.name) columns
shown_named below [] [] row has = refl
shown_named below [] (v ∷ shown) row has = absurd has
shown_named below (c ∷ columns) [] row has = absurd has
shown_named below (c ∷ columns) (v ∷ shown) row has =
    ap₂ (λ (x : Cell) (xs : List Cell). x ∷ xs) (sym (ap (λ (o : Option Cell). unwrap_or o Null) has.0)) (shown_named below columns shown row has.1)

shown_is_row : (columns : List Column) (shown row : List Cell) → AreDistinct (map column_name columns) → IsRow columns row → HasShown columns columns shown row → shown ≡ row
shown_is_row columns shown row distinct fits has = shown_named columns columns shown row has ∙ sym (row_is columns row distinct fits)

key_itself : (k : List Cell) → is_eq (key_cmp k k) ≡ true
key_itself k = ap is_eq (tied_itself key_cmp_total k)

same_row : (shown row : List Cell) → shown ≡ row → is_eq (key_cmp shown row) ≡ true
same_row shown row same = ap (λ (x : List Cell). is_eq (key_cmp x row)) same ∙ key_itself row

agrees_same : (t : Table) (s : SubscribedTable) (seen held : Option (List Cell)) → t.columns ≡ s.columns → AreDistinct (map column_name t.columns)
    → ((row : List Cell) → held ≡ Some row → IsRow t.columns row) → Agrees t s seen held → is_same seen held ≡ true
agrees_same t s None None columns distinct fits agrees = refl
agrees_same t s None (Some row) columns distinct fits agrees = absurd agrees
agrees_same t s (Some shown) None columns distinct fits agrees = absurd agrees
agrees_same t s (Some shown) (Some row) columns distinct fits agrees =
    same_row shown row (shown_is_row t.columns shown row distinct (fits row refl) (subst (λ (cs : List Column). HasShown t.columns cs shown row) (sym columns) agrees))

-- ---- one database below

module _ (w : World Recorded) (demo_site : DemoSite) (good : IsGoodWorld w) (holds : Holds (demo_state w demo_site)) (alone : LeavesAlone w demo_site) where
  abbrev above : State
  above = demo_state w Cons

  abbrev below : State
  below = demo_state w demo_site

  abbrev own : List (List Cell)
  own = keys_touched w demo_site

  abbrev seen : Option SubscribedTable
  seen = subscribed_table_of above.catalog (text_of demo_site) cust

  -- at a key that it left alone
  module _ (key : List Cell) (l : IsLeftAlone w demo_site key) where
    named : l.below.name ≡ cust
    named = sym (name_of_table below.catalog cust l.below l.there)

    agrees_there : Agrees l.below l.subscribed_table (shown_row seen (rows_of_table above.rows cust key)) (rows_of_table below.rows cust key)
    agrees_there =
        let then : State = state_of (text_of Cons) (l.untouched.before ++ l.untouched.since) in
        let table : l.subscribed_table.table.name ≡ cust = sym l.untouched.name ∙ named in
        let at = keys_agree w good (text_of demo_site) (text_of Cons) key l.subscribed_table l.below l.untouched in
        let of_table : Agrees l.below l.subscribed_table (view_in then (text_of demo_site) cust key) (rows_of_table below.rows l.below.name key)
        = subst (λ (n : Name). Agrees l.below l.subscribed_table (view_in then (text_of demo_site) n key) (rows_of_table below.rows l.below.name key)) table at in
        subst (λ (v : Option (List Cell)). Agrees l.below l.subscribed_table v (rows_of_table below.rows cust key)) (sym l.still)
        (subst (λ (n : Name). Agrees l.below l.subscribed_table (view_in then (text_of demo_site) cust key) (rows_of_table below.rows n key)) named of_table)

    fits_there : (row : List Cell) → rows_of_table below.rows cust key ≡ Some row → IsRow l.below.columns row
    fits_there row e = (holds.rows.each cust l.below l.there key row (subst (λ (n : Name). rows_of_table below.rows n key ≡ Some row) (sym named) e)).0

    same_there : is_same (shown_row seen (rows_of_table above.rows cust key)) (rows_of_table below.rows cust key) ≡ true
    same_there =
        agrees_same l.below l.subscribed_table (shown_row seen (rows_of_table above.rows cust key)) (rows_of_table below.rows cust key) l.columns
        (table_has_key below.catalog cust l.below holds.catalog.made l.there).columns fits_there agrees_there

  one_above : (e : Entry) → rows_of_table above.rows cust e.0 ≡ Some e.1 → differs_above seen below.rows cust own e ≡ false
  one_above e held = go (is_among own e.0) refl
    where
      go : (b : Bool) → is_among own e.0 ≡ b → (not b && not (is_same (shown_in seen e.1) (rows_of_table below.rows cust e.0))) ≡ false
      go true among = refl
      go false among =
          let l = alone e.0 (inl (λ none. let no : Some e.1 ≡ None = sym held ∙ none in cc)) among in
          ap not (subst (λ (o : Option (List Cell)). is_same (shown_row seen o) (rows_of_table below.rows cust e.0) ≡ true) held (same_there e.0 l))

  one_below : (e : Entry) → rows_of_table below.rows cust e.0 ≡ Some e.1 → differs_below above.rows cust own e ≡ false
  one_below e held = go (is_among own e.0) refl
    where
      some : (o : Option (List Cell)) → is_same (shown_row seen o) (rows_of_table below.rows cust e.0) ≡ true → is_none o ≡ false
      some None same = let no : false ≡ true = subst (λ (x : Option (List Cell)). is_same None x ≡ true) held same in cc
      some (Some row) same = refl

      go : (b : Bool) → is_among own e.0 ≡ b → (not b && is_none (rows_of_table above.rows cust e.0)) ≡ false
      go true among = refl
      go false among =
          let l = alone e.0 (inr (λ none. let no : Some e.1 ≡ None = sym held ∙ none in cc)) among in
          some (rows_of_table above.rows cust e.0) (same_there e.0 l)

  none_counted : (test : Entry → Bool) (rows : RowMap) → ((e : Entry) → rows_of_table rows cust e.0 ≡ Some e.1 → test e ≡ false) → (es : List Entry) → AreHeld rows cust es
      → length (filter test es) ≡ 0
  none_counted test rows each [] held = refl
  none_counted test rows each (e ∷ es) held =
      ap (λ (b : Bool). length (cond b (e ∷ filter test es) (filter test es))) (each e held.0) ∙ none_counted test rows each es held.1

  nowhere : differing seen above.rows below.rows cust own ≡ 0
  nowhere =
      ap₂ (λ (a b : ℕ). a + b) (none_counted (differs_above seen below.rows cust own) above.rows one_above (table_rows above.rows cust) (table_held above.rows cust))
      (none_counted (differs_below above.rows cust own) below.rows one_below (table_rows below.rows cust) (table_held below.rows cust))

-- ---- the histories that were counted are those of the world

state_same : (name : Name) (es : List Recorded) (files : Files) (entries : List LogEntry) (state : State) → StandsAs name es files → summaries.Holds files entries state
    → (state ≡ state_of name es) × (entries ≡ map entry_of es)
state_same name es files entries state stands holds =
    let one = whole holds.publisher name holds.es es stands.base files holds.stands stands.stands in
    (holds.state_is ∙ ap (λ (p : Name). state_of p holds.es) one.0 ∙ ap (state_of name) one.1, holds.entries_are ∙ ap (map entry_of) one.1)

below_nowhere : (w : World Recorded) (demo_site : DemoSite) (demo_sites : DemoSites) (entries : List LogEntry) (above : State) (part : Part) → IsGoodWorld w → HasDemoHistories w demo_sites
    → summaries.Holds (files_in demo_sites.cons) entries above → IsPartBelow (files_in (disk_at demo_site demo_sites)) above demo_site part → LeavesAlone w demo_site → part.differ ≡ 0
below_nowhere w demo_site demo_sites entries above part good stands there is alone =
    let a = state_same (text_of Cons) (demo_history w Cons) (files_in demo_sites.cons) entries above (stands Cons) there in
    let b = state_same (text_of demo_site) (demo_history w demo_site) (files_in (disk_at demo_site demo_sites)) is.entries is.state (stands demo_site) is.holds in
    let holds : Holds (demo_state w demo_site) = stored_holds (text_of demo_site) (demo_history w demo_site) (stands demo_site).stands.stored in
    is.differ
    ∙ ap (λ (x : State). differing_from x demo_site is.state.catalog is.state.rows is.entries) a.0
    ∙ ap (λ (x : State). differing_from (demo_state w Cons) demo_site x.catalog x.rows is.entries) b.0
    ∙ ap (λ (x : List LogEntry). differing_from (demo_state w Cons) demo_site (demo_state w demo_site).catalog (demo_state w demo_site).rows x) b.1
    ∙ nowhere w demo_site good holds alone

agrees_where_alone : (statements : ℕ) (demo_sites : DemoSites) (lost : ℕ) (summary : Summary) → IsSummary statements demo_sites lost summary → AgreesWhereAlone demo_sites summary
agrees_where_alone statements demo_sites lost summary is w Cons good stands alone = is.parts.of_cons.differ
agrees_where_alone statements demo_sites lost summary is w R1 good stands alone =
    below_nowhere w R1 demo_sites is.parts.of_cons.entries is.parts.above summary.parts.r1 good stands is.parts.of_cons.holds is.parts.of_r1 alone
agrees_where_alone statements demo_sites lost summary is w R2 good stands alone =
    below_nowhere w R2 demo_sites is.parts.of_cons.entries is.parts.above summary.parts.r2 good stands is.parts.of_cons.holds is.parts.of_r2 alone
agrees_where_alone statements demo_sites lost summary is w R3 good stands alone =
    below_nowhere w R3 demo_sites is.parts.of_cons.entries is.parts.above summary.parts.r3 good stands is.parts.of_cons.holds is.parts.of_r3 alone

-- what all came to
pub came_so : (seed statements lost : ℕ) (demo_sites : DemoSites) (summary : Summary) (lines : List ℕ) → Course seed statements demo_sites lost → (AreWhole demo_sites → IsSummary statements demo_sites lost summary)
    → lines ≡ summary_lines summary → CameTo seed statements lines
came_so seed statements lost demo_sites summary lines course counted lines_are =
    let counts : IsSummary statements demo_sites lost summary = counted (course_whole seed statements demo_sites lost course) in
    record {
      demo_sites = demo_sites;
      lost = lost;
      course = course;
      good = course_good seed statements demo_sites lost course;
      summary = summary;
      counts = counts;
      agrees = agrees_where_alone statements demo_sites lost summary counts;
      lines_are = lines_are;
    }
