-- What holds of a value that can be used, whether a history leads to it or not.
-- Here is what no contract of the program says by itself.
use Rattle.sr_base.specs.Fields.{IsName}
use Rattle.sr_catalog_script_laws.specs.Scripts.{IsSpellable}
use Rattle.sr_database_history.specs.Inner.Laws.{Holds}
use Rattle.sr_logfile.specs.Inner.Log.{InOrder}
use Rattle.sr_database.specs.Databases.{ArePending}
use Rattle.sr_database.specs.Views.{View, committed}

-- the publisher is a name; what the committed entries come to keeps the rules, and the changes that are pending follow from it; a text spells the
-- catalog at the log's base; and the log ends behind its base, at the last offset at most
pub record IsSound (view : View) : Type 0 where
  pub name : IsName view.catalog.publisher
  pub holds : Holds (committed view)
  pub pending : ArePending view.catalog view.rows view.pending
  pub base_catalog : IsSpellable view.base_catalog
  pub order : InOrder view.log.base view.log.end
