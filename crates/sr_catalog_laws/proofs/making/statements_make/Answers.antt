use Rattle.std.proofs.Common.{refl}
use Rattle.sr_catalog_change.specs.Changes.{next}
use Rattle.sr_catalog_laws.proofs.Written.{table_written}
use Rattle.sr_catalog_laws.proofs.making.statements_make.Goals as goal

pub returns : goal.returns
unfolding next
returns c = record {
  create_table = λ d t. refl;
  table = table_written;
  drop_table = λ d n. refl;
  create_publication = λ d p. refl;
  drop_publication = λ d n. refl;
  grant_remote = λ d g. refl;
  grant_consolidate = λ d g. refl;
  create_subscription = λ d r. refl;
  start = λ d r. refl;
  stop = λ d r. refl;
  drop_subscription = λ d r. refl;
  create_trigger = λ d g. refl;
  drop_trigger = λ d n. refl;
  set_option = λ d o. refl;
  synchronize = λ d r. refl;
  passthrough = λ d p. refl;
  passthrough_stop = λ d. refl;
  rows = λ d x. refl;
  select = λ d q. refl;
  commit = λ d. refl;
  rollback = λ d. refl;
}
