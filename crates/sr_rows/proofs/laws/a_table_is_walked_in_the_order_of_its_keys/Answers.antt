use Rattle.sr_rows.specs.Walks.{table_rows}
use Rattle.sr_rows.proofs.Listing.{get-table_rows, table_rows-rise, past-None}
use Rattle.sr_rows.proofs.laws.a_table_is_walked_in_the_order_of_its_keys.Goals as goal

pub returns : goal.returns
returns c = record {
  held = get-table_rows;
  ascending = table_rows-rise;
  all = λ rows table. past-None (table_rows rows table);
}
