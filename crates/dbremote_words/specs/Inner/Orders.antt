-- What words ask for.
-- Here is what no contract of the program says by itself.
use Rattle.std.specs.Prelude.{◌≤◌}
use Rattle.dbremote_words.specs.declared.asked.Asked.{Asked}
use Rattle.dbremote_words.specs.declared.asked.Asked.TheVariants as asked
use Rattle.dbremote_command.specs.Inner.Orders.{MayOrder}
use Rattle.dbremote_command.specs.declared.order.Order.{Order}

-- what is asked for may be done
abbrev pub MayAsk : Asked → Type 0
MayAsk (asked.Order order) = MayOrder order
MayAsk (asked.Demo seed count) = count ≤ 100000
