use Rattle.sr_publish.proofs.Sources.{dropped_subscribed_table}
use Rattle.sr_publish.proofs.laws.nobody_has_a_dropped_table.Goals as goal

pub returns : goal.returns
returns c = record { none = dropped_subscribed_table }
