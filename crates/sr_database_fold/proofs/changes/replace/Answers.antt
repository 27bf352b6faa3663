use Rattle.std.proofs.Common.{ap}
use Rattle.sr_rows.specs.Marks.{Marked}
use Rattle.sr_database_fold.proofs.Changing.{became}
use Rattle.sr_database_fold.proofs.changes.replace.Goals as goal

pub returns-clause-told : goal.returns-clause-told
returns-clause-told c =
    became c.args.table.now c.args.before.now c.args.after.now c.args.rows.now.rows _ _ c.in-Some.key _ c.in_ok-key.ensures.key c.in-Some.is c.in_ok-copy.ensures.equal
    (ap (λ (m : Marked). m.rows) c.in_ok-put_at_mark.ensures.ok)
