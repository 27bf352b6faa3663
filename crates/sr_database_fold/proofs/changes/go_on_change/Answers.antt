use Rattle.sr_database_fold.proofs.Changing.{insert_told, remove_told, become_told}
use Rattle.sr_database_fold.proofs.changes.go_on_change.Goals as goal

pub returns-in-None-Some-clause-told : goal.returns-in-None-Some-clause-told
returns-in-None-Some-clause-told c =
    insert_told c.args.rows.now.rows _ c.args.change.now c.args.table.now _ c.insert.result c.in-None-Some.is-0 c.in-None-Some.is-1 c.insert.ensures.told

pub returns-in-Some-None-clause-told : goal.returns-in-Some-None-clause-told
returns-in-Some-None-clause-told c =
    remove_told c.args.rows.now.rows _ c.args.change.now c.args.table.now _ c.remove.result c.in-Some-None.is-0 c.in-Some-None.is-1 c.remove.ensures.told

pub returns-in-Some-Some-clause-told : goal.returns-in-Some-Some-clause-told
returns-in-Some-Some-clause-told c =
    become_told c.args.rows.now.rows _ c.args.change.now c.args.table.now _ _ c.replace.result c.in-Some-Some.is-0 c.in-Some-Some.is-1 c.replace.ensures.told
