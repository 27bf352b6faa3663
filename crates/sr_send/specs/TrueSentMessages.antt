-- What each message of a pass says of the history that it comes from.
use Rattle.std.specs.Prelude.{List, map}
use Rattle.sr_book.specs.Entries.{Name}
use Rattle.sr_database_history.specs.Recorded.{Recorded}
use Rattle.sr_logform.specs.declared.op.Transaction.{Transaction}
use Rattle.sr_scan.specs.Given.{given_of}
use Rattle.sr_send.specs.Unsent.{as_transaction}

-- all that a history gives a user, as bodies hold it
abbrev pub all_given : Name → List Recorded → Name → List Transaction
all_given publisher es user = map as_transaction (given_of publisher es user)
