-- What a statement finds.
use Rattle.std.specs.Prelude.{◌≡◌, ⊤, true, Option, Some, None, IsTrue}
use Rattle.std.specs.List.{AllByRecursion}
use Rattle.sr_ast.specs.declared.stmt.Passthrough.{Passthrough}
use Rattle.sr_database_history.specs.Fitting.{Knows}
use Rattle.sr_database_history.specs.Folds.{State}
use Rattle.sr_logform.specs.Rules.{AreDistinct}
use Rattle.sr_database.specs.InForce.{HasLogInForce}
use Rattle.sr_database.specs.Inner.Sound.{IsSound}
use Rattle.sr_database.specs.Views.{View, committed}
use Rattle.sr_session_script.specs.Works.{Work}
use Rattle.sr_site.specs.Seen.{Seen}

-- a script under way on a database
abbrev pub work_of : View → Option Passthrough → Work
work_of view region = record { state = committed view; pending = view.pending; region = region }

-- the users of a region are granted, and none stands twice
abbrev pub AreUsers : State → Option Passthrough → Type 0
AreUsers s None = ⊤
AreUsers s (Some p) = AllByRecursion (Knows s) p.users × AreDistinct p.users

-- the database can be used and is sound, and its log is in force
pub record IsReady (view : View) (seen : Seen) : Type 0 where
  pub usable : view.log.usable ≡ true
  pub sound : IsSound view
  pub stands : IsTrue seen.observable → HasLogInForce view seen
