-- What is counted of a database that was opened.
use Rattle.std.specs.Prelude.{◌≡◌, List}
use Rattle.dbremote_demo_draws.specs.declared.demo_site.DemoSite.{DemoSite}
use Rattle.dbremote_demo_draws.specs.declared.summary.Part.{Part}
use Rattle.sr_database_history.specs.Folds.{State}
use Rattle.sr_logform.specs.declared.entry.Entry.{Entry}
use Rattle.dbremote_demo_draws.specs.Summaries.{IsCounted, differing_from}

-- of the one above, with the entries of its log
pub record IsPartOfAbove (above : State) (entries : List Entry) (part : Part) : Type 0 where
  pub counted : IsCounted entries above.rows part
  pub differ : part.differ ≡ 0

-- of one below it
pub record IsPartOf (above : State) (demo_site : DemoSite) (below : State) (entries : List Entry) (part : Part) : Type 0 where
  pub counted : IsCounted entries below.rows part
  pub differ : part.differ ≡ differing_from above demo_site below.catalog below.rows entries
