use Rattle.sr_parse.proofs.Prints.{prints_once}
use Rattle.sr_parse.proofs.printed.a_text_prints_one_statement.Goals as goal

pub returns : goal.returns
returns c = record { once = prints_once }
