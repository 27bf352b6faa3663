use Rattle.sr_logform.specs.Inner.EntryLaws.{entry_format}
use Rattle.sr_logform.specs.Inner.OpLaws.{op_format, transaction_format}
use Rattle.sr_logform.specs.Inner.OutcomeLaws.{change_format, outcome_format}
use Rattle.sr_logform.proofs.Once.{spells_once}
use Rattle.sr_logform.proofs.laws.each_has_one_spelling.Goals as goal

pub returns : goal.returns
returns c = record {
  entries = spells_once entry_format;
  ops = spells_once op_format;
  transactions = spells_once transaction_format;
  changes = spells_once change_format;
  outcomes = spells_once outcome_format;
}
