use Rattle.test_replication.proofs.databases.script_of.Goals as goal

pub returns-in-Ok : goal.returns-in-Ok
returns-in-Ok c = record { normal = c.what_prints_is_read_so.ensures.normal _ c.in-Ok.script c.in-Ok.ensures.sound }
