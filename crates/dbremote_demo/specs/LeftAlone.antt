-- Where a database of the demonstration does not differ from the one above: at keys that it left alone.
use Rattle.std.specs.Prelude.{◌≡◌, ◌≢◌, ◌⊎◌, ℕ, false, List, ◌++◌, map, Some, None}
use Rattle.sr_base.specs.declared.value.Value.{Value as Cell}
use Rattle.sr_database_history.specs.Folds.{State, state_of}
use Rattle.sr_database_history.specs.Recorded.{Recorded, entry_of}
use Rattle.sr_database_meaning.specs.Standing.{StandsAs}
use Rattle.sr_exec_dml.specs.Statements.{table_named}
use Rattle.sr_memsite.specs.Disks.{files_in}
use Rattle.sr_publish.specs.SubscribedTables.{SubscribedTable}
use Rattle.sr_rows.specs.Marks.{rows_of_table}
use Rattle.sr_scan.specs.Given.{view_in}
use Rattle.sr_catalog_schema.specs.declared.table.Table.{Table}
use Rattle.sr_world_model.specs.Worlds.{World, history}
use Rattle.sr_world_untouched.specs.Untouched.{IsUntouched}
use Rattle.sr_world.specs.Real.{IsGoodWorld}
use Rattle.dbremote_demo_draws.specs.Agreement.{is_among}
use Rattle.dbremote_demo_draws.specs.Names.{text_of}
use Rattle.dbremote_demo_draws.specs.Places.{disk_at}
use Rattle.dbremote_demo_draws.specs.Summaries.{cust, keys_named}
use Rattle.dbremote_demo_draws.specs.declared.demo_site.DemoSite.{DemoSite}
use Rattle.dbremote_demo_draws.specs.declared.demo_site.DemoSite.TheVariants.{Cons, R1, R2, R3}
use Rattle.dbremote_demo_draws.specs.declared.demo_sites.DemoSites.{DemoSites}
use Rattle.dbremote_demo_draws.specs.declared.summary.Summary.{Summary}

-- the history of a database of the demonstration in a world, and the state that it comes to
abbrev pub demo_history : World Recorded → DemoSite → List Recorded
demo_history w demo_site = history w (text_of demo_site)

abbrev pub demo_state : World Recorded → DemoSite → State
demo_state w demo_site = state_of (text_of demo_site) (demo_history w demo_site)

-- the files of each stand for its history in the world
abbrev pub HasDemoHistories : World Recorded → DemoSites → Type 0
HasDemoHistories w demo_sites = (demo_site : DemoSite) → StandsAs (text_of demo_site) (demo_history w demo_site) (files_in (disk_at demo_site demo_sites))

-- the keys of the table that own transactions of a database name
abbrev pub keys_touched : World Recorded → DemoSite → List (List Cell)
keys_touched w demo_site = keys_named (table_named (demo_state w demo_site).catalog cust) (map entry_of (demo_history w demo_site))

-- a key of the table is untouched at a database below, whose table has the columns that it is shown; and what it is shown there in the end is what it was
-- shown as of the last transaction that it took
pub record IsLeftAlone (w : World Recorded) (demo_site : DemoSite) (key : List Cell) : Type 0 where
  pub subscribed_table : SubscribedTable
  pub below : Table
  pub there : table_named (demo_state w demo_site).catalog cust ≡ Some below
  pub columns : below.columns ≡ subscribed_table.columns
  pub untouched : IsUntouched w (text_of demo_site) (text_of Cons) key subscribed_table below
  pub still : view_in (demo_state w Cons) (text_of demo_site) cust key
      ≡ view_in (state_of (text_of Cons) (untouched.before ++ untouched.since)) (text_of demo_site) cust key

-- a row is held under a key, above or below
abbrev pub IsHeldAtEither : World Recorded → DemoSite → List Cell → Type 0
IsHeldAtEither w demo_site key = (rows_of_table (demo_state w Cons).rows cust key ≢ None) ⊎ (rows_of_table (demo_state w demo_site).rows cust key ≢ None)

-- each key under which a row is held, and that no own transaction of the database names, is left alone
abbrev pub LeavesAlone : World Recorded → DemoSite → Type 0
LeavesAlone w demo_site = (key : List Cell) → IsHeldAtEither w demo_site key → is_among (keys_touched w demo_site) key ≡ false → IsLeftAlone w demo_site key

-- at how many keys a database differs, as it is summed up
abbrev pub differ_at : Summary → DemoSite → ℕ
differ_at summary Cons = summary.parts.cons.differ
differ_at summary R1 = summary.parts.r1.differ
differ_at summary R2 = summary.parts.r2.differ
differ_at summary R3 = summary.parts.r3.differ

-- where the files stand for the histories of a good world, a database that leaves alone what it did not name differs nowhere
abbrev pub AgreesWhereAlone : DemoSites → Summary → Type 0
AgreesWhereAlone demo_sites summary = (w : World Recorded) (demo_site : DemoSite) → IsGoodWorld w → HasDemoHistories w demo_sites → LeavesAlone w demo_site → differ_at summary demo_site ≡ 0
