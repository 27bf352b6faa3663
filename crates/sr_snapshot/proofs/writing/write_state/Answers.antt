use Rattle.sr_snapshot.proofs.Written.{cause_only}
use Rattle.sr_snapshot.proofs.writing.write_state.Goals as goal

pub returns-in_err-replace-clause-happened : goal.returns-in_err-replace-clause-happened
returns-in_err-replace-clause-happened g c told = (cause_only c.args.file (g.S.Held.seen c.args.site.now) (g.S.Held.seen c.replace.new.site) _ c.in_err-replace.ensures.cause).on told

pub returns-in_err-replace-clause-stays : goal.returns-in_err-replace-clause-stays
returns-in_err-replace-clause-stays g c = (cause_only c.args.file (g.S.Held.seen c.args.site.now) (g.S.Held.seen c.replace.new.site) _ c.in_err-replace.ensures.cause).stays
