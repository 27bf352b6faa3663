use Rattle.sr_scan.proofs.Behind.{behind_so}
use Rattle.sr_scan.proofs.statements.behind_text.Goals as goal

pub returns : goal.returns
returns c = record {
  behind = behind_so c.args.catalog.now c.args.text.now c.in_ok-statement.field-0 c.in-Some.statement c.behind-after.result c.in_ok-statement.ensures.meant c.in-Some.is c.behind-after.ensures.behind;
}
