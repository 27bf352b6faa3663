use Rattle.sr_scan.proofs.Telling.{followed_so}
use Rattle.sr_scan.proofs.scanner.Scanner.follow.Goals as goal

pub returns-clause-followed : goal.returns-clause-followed
returns-clause-followed c = followed_so c.args.self.now c.apply-done.new.self c.args.text.now c.in_ok-statement.field-0 c.in-Some.statement c.apply-done.result
    c.in_ok-statement.ensures.meant c.in-Some.is c.apply-done.ensures.catalog c.apply-done.ensures.user
