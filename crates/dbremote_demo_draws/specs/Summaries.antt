-- What is counted of the histories and the mail that the demonstration leaves.
use Rattle.std.specs.Prelude.{◌≡◌, ℕ, List, [], map, length, codes, Option, Some, None}
use Rattle.sr_base.specs.declared.value.Value.{Value as Cell}
use Rattle.sr_book.specs.Entries.{Name}
use Rattle.sr_exec_dml.specs.Statements.{table_named}
use Rattle.sr_database_history.specs.Folds.{State, state_of}
use Rattle.sr_database_history.specs.Recorded.{Recorded, entry_of}
use Rattle.sr_logform.specs.declared.entry.Entry.{Entry}
use Rattle.sr_memsite.specs.Disks.{files_in}
use Rattle.sr_publish.specs.SubscribedTables.{subscribed_table_of}
use Rattle.sr_rows.specs.Marks.{RowMap}
use Rattle.sr_rows.specs.Walks.{table_rows}
use Rattle.sr_catalog_schema.specs.Catalogs.{Lists}
use Rattle.sr_site.specs.Files.{Files}
use Rattle.sr_catalog_schema.specs.declared.table.Table.{Table}
use Rattle.sr_database_meaning.specs.Standing.{StandsFor}
use Rattle.dbremote_demo_draws.specs.Agreement.{differing}
use Rattle.dbremote_demo_draws.specs.Counts.{no_outcomes, outcomes_of, own_keys}
use Rattle.dbremote_demo_draws.specs.Names.{text_of}
use Rattle.dbremote_demo_draws.specs.declared.demo_site.DemoSite.{DemoSite}
use Rattle.dbremote_demo_draws.specs.declared.demo_site.DemoSite.TheVariants.{R1, R2, R3}
use Rattle.dbremote_demo_draws.specs.declared.demo_sites.DemoSites.{DemoSites}
use Rattle.dbremote_demo_draws.specs.declared.summary.Part.{Part}
use Rattle.dbremote_demo_draws.specs.declared.summary.Parts.{Parts}
use Rattle.dbremote_demo_draws.specs.declared.summary.Summary.{Summary}

abbrev pub cust : List ℕ
cust = codes "cust"

-- files whose log begins at 0 stand for a history, whose entries these are and which comes to this state
pub record Holds (files : Files) (entries : List Entry) (state : State) : Type 0 where
  pub publisher : Name
  pub es : List Recorded
  pub stands : StandsFor publisher es 0 files
  pub entries_are : entries ≡ map entry_of es
  pub state_is : state ≡ state_of publisher es

-- the rows, and what became of what was taken
pub record IsCounted (entries : List Entry) (rows : RowMap) (part : Part) : Type 0 where
  pub rows_are : part.rows ≡ length (table_rows rows cust)
  pub conflicts : part.conflicts ≡ (outcomes_of entries no_outcomes).conflicts
  pub clashes : part.clashes ≡ (outcomes_of entries no_outcomes).clashes

-- the keys that own transactions name; none where the table is not there
abbrev pub keys_named : Option Table → List Entry → List (List Cell)
keys_named None entries = []
keys_named (Some table) entries = own_keys table entries

-- at how many keys a database below differs from what the view of its user shows of the one above, but for those that it named itself
abbrev pub differing_from : State → DemoSite → Lists → RowMap → List Entry → ℕ
differing_from above demo_site catalog rows entries =
    differing (subscribed_table_of above.catalog (text_of demo_site) cust) above.rows rows cust (keys_named (table_named catalog cust) entries)

-- what is counted of the database above
pub record IsPartAbove (files : Files) (above : State) (part : Part) : Type 0 where
  pub entries : List Entry
  pub holds : Holds files entries above
  pub counted : IsCounted entries above.rows part
  pub differ : part.differ ≡ 0

-- and of one below it
pub record IsPartBelow (files : Files) (above : State) (demo_site : DemoSite) (part : Part) : Type 0 where
  pub entries : List Entry
  pub state : State
  pub holds : Holds files entries state
  pub counted : IsCounted entries state.rows part
  pub differ : part.differ ≡ differing_from above demo_site state.catalog state.rows entries

-- of all four
pub record ArePartsOf (cons r1 r2 r3 : Files) (parts : Parts) : Type 0 where
  pub above : State
  pub of_cons : IsPartAbove cons above parts.cons
  pub of_r1 : IsPartBelow r1 above R1 parts.r1
  pub of_r2 : IsPartBelow r2 above R2 parts.r2
  pub of_r3 : IsPartBelow r3 above R3 parts.r3

-- and of the mail
pub record IsSummary (statements : ℕ) (demo_sites : DemoSites) (lost : ℕ) (summary : Summary) : Type 0 where
  pub parts : ArePartsOf (files_in demo_sites.cons) (files_in demo_sites.r1) (files_in demo_sites.r2) (files_in demo_sites.r3) summary.parts
  pub statements_are : summary.statements ≡ statements
  pub put : summary.put ≡ length demo_sites.mail.puts
  pub lost_is : summary.lost ≡ lost
