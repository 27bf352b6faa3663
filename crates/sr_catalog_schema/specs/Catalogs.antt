-- A catalog as lists in order of creation.
use Rattle.std.specs.Prelude.{ℕ, false, List, []}
use Rattle.sr_catalog_schema.specs.declared.user.User.{User}
use Rattle.sr_catalog_schema.specs.declared.table.Table.{Table}
use Rattle.sr_catalog_schema.specs.declared.publication.Publication.{Publication}
use Rattle.sr_catalog_schema.specs.declared.trigger.Trigger.{Trigger}
use Rattle.sr_catalog_schema.specs.declared.subscription.Subscription.{Subscription}
use Rattle.sr_catalog_schema.specs.declared.options.Options.{Options}

-- the publisher, each kind in order of creation, and the options
pub record Lists : Type 0 where
  pub publisher : List ℕ
  pub users : List User
  pub tables : List Table
  pub publications : List Publication
  pub triggers : List Trigger
  pub subscriptions : List Subscription
  pub options : Options

-- the options of a new database
abbrev pub unset : Options
unset = record { verifies = false }

-- nothing but the publisher
abbrev pub nothing_but : List ℕ → Lists
nothing_but publisher = record { publisher = publisher; users = []; tables = []; publications = []; triggers = []; subscriptions = []; options = unset }
