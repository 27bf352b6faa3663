-- What is counted of a database that was opened is counted of the history for which its files stand.
use Rattle.std.proofs.Common.{◌≡◌, ◌∙◌, ℕ, List, [], map, Option, refl, ap, subst}
use Rattle.sr_base.specs.declared.value.Value.{Value as Cell}
use Rattle.sr_book.specs.Entries.{Name}
use Rattle.sr_database.specs.Databases.{IsDatabase}
use Rattle.sr_database.specs.Views.{View}
use Rattle.sr_database.specs.Inner.Views.{present}
use Rattle.dbremote_demo_draws.specs.Agreement.{differing}
use Rattle.dbremote_demo_draws.specs.Names.{text_of}
use Rattle.dbremote_demo_draws.specs.declared.demo_site.DemoSite.{DemoSite}
use Rattle.dbremote_demo_draws.specs.declared.summary.Part.{Part}
use Rattle.sr_exec_dml.specs.Applying.{applied}
use Rattle.sr_exec_dml.specs.Statements.{table_named}
use Rattle.sr_database_history.specs.Folds.{State, state_of}
use Rattle.sr_database_history.specs.Recorded.{Recorded, entry_of}
use Rattle.sr_logform.specs.declared.change.Change.{Change}
use Rattle.sr_logform.specs.declared.entry.Entry.{Entry}
use Rattle.sr_publish.specs.SubscribedTables.{subscribed_table_of}
use Rattle.sr_catalog_schema.specs.declared.table.Table.{Table}
use Rattle.sr_site.specs.Files.{Files}
use Rattle.sr_site.specs.Seen.{Seen}
use Rattle.sr_database_meaning.proofs.Alike.{alike}
use Rattle.sr_database_meaning.specs.Standing.{StandsFor}
use Rattle.dbremote_demo_draws.specs.Inner.Parted.{IsPartOf, IsPartOfAbove}
use Rattle.dbremote_demo_draws.specs.Inner.Whole.{StandWhole}
use Rattle.dbremote_demo_draws.specs.Summaries.{Holds, IsPartAbove, IsPartBelow, cust, differing_from, keys_named}

state_held : (view : View) (publisher : Name) (es : List Recorded) (seen : Seen) → IsDatabase view publisher es seen → view.pending ≡ [] → present view ≡ state_of publisher es
state_held view publisher es seen is none =
    let rows = is.is.pending.rows_are ∙ (ap (λ (changes : List Change). applied view.catalog changes view.rows.marked) none ∙ is.is.marked) in
    λ i. record { catalog = is.is.catalog i; rows = rows i }

-- files that stand for a whole history are opened as its database
module _ (view : View) (seen : Seen) (files : Files) (whole : StandWhole files) (is : IsDatabase view whole.publisher whole.es seen) (same : seen.files ≡ files) where
  pub base_at_zero : view.log.base ≡ 0
  base_at_zero =
      (alike whole.publisher whole.publisher whole.es whole.es view.log.base 0 files (subst (λ (fs : Files). StandsFor whole.publisher whole.es view.log.base fs) same is.held.stands) whole.stands).1

  module _ (none : view.pending ≡ []) where
    held : Holds files (map entry_of whole.es) (present view)
    held = record {
      publisher = whole.publisher;
      es = whole.es;
      stands = whole.stands;
      entries_are = refl;
      state_is = state_held view whole.publisher whole.es seen is none;
    }

    pub of_above : (part : Part) → IsPartOfAbove (present view) (map entry_of whole.es) part → IsPartAbove files (present view) part
    of_above part counted = record { entries = map entry_of whole.es; holds = held; counted = counted.counted; differ = counted.differ }

    pub of_below : (above : State) (demo_site : DemoSite) (part : Part) → IsPartOf above demo_site (present view) (map entry_of whole.es) part → IsPartBelow files above demo_site part
    of_below above demo_site part counted =
        record { entries = map entry_of whole.es; state = present view; holds = held; counted = counted.counted; differ = counted.differ }

pub differs : (above below : State) (demo_site : DemoSite) (entries : List Entry) (table : List ℕ) (found : Option Table) (own : List (List Cell)) (n : ℕ) → table ≡ cust
    → found ≡ table_named below.catalog table → own ≡ keys_named found entries
    → n ≡ differing (subscribed_table_of above.catalog (text_of demo_site) table) above.rows below.rows table own → n ≡ differing_from above demo_site below.catalog below.rows entries
differs above below demo_site entries table found own n is_cust is_found is_own is =
    is ∙ (ap (λ (keys : List (List Cell)). differing (subscribed_table_of above.catalog (text_of demo_site) table) above.rows below.rows table keys)
    (is_own ∙ ap (λ (t : Option Table). keys_named t entries) is_found)
    ∙ ap (λ (name : List ℕ). differing (subscribed_table_of above.catalog (text_of demo_site) name) above.rows below.rows name (keys_named (table_named below.catalog name) entries)) is_cust)
