use Rattle.sr_publish.proofs.Orderly.{table_has_key, subscribed_table_in_order}
use Rattle.sr_publish.proofs.laws.catalogs_are_in_order.Goals as goal

pub returns : goal.returns
returns c = record { tables = table_has_key; subscribed_tables = subscribed_table_in_order }
