use Rattle.sr_database.proofs.committing.append.Goals as goal

pub returns-in-Ok-clause-happened : goal.returns-in-Ok-clause-happened
returns-in-Ok-clause-happened g c told = c.in-Ok.ensures.happened told c.requires.room

pub returns-in-Err-clause-happened : goal.returns-in-Err-clause-happened
returns-in-Err-clause-happened g c told = c.in-Err.ensures.happened told c.requires.room
