use Rattle.sr_database_files.proofs.Making.{fresh_on}
use Rattle.sr_database_files.proofs.creating.make_log.Goals as goal

pub returns-in-Ok-clause-happened : goal.returns-in-Ok-clause-happened
returns-in-Ok-clause-happened g c told = fresh_on c.args.file 0 _ _ _ (c.in-Ok.ensures.happened told)

pub returns-in-Err-clause-happened : goal.returns-in-Err-clause-happened
returns-in-Err-clause-happened g c told = fresh_on c.args.file 0 _ _ _ (c.in-Err.ensures.happened told)
