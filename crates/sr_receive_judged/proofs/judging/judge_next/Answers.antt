use Rattle.sr_database.specs.Inner.Views.{present}
use Rattle.sr_receive_judged.proofs.Pendings.{pair_fits, pair_short, pending_more}
use Rattle.sr_receive_judged.proofs.Results.{ok_here, on_ok}
use Rattle.sr_receive_judged.proofs.judging.judge_next.Goals as goal

pub keep_pending-kept-requires-clause-short : goal.keep_pending-kept-requires-clause-short
keep_pending-kept-requires-clause-short c = pair_short (present c.args.db.now) c.args.above c.args.op.now c.in_ok-pair.pair c.in_ok-pair.ensures.pair

pub keep_pending-kept-requires-clause-fit : goal.keep_pending-kept-requires-clause-fit
keep_pending-kept-requires-clause-fit c = pair_fits (present c.args.db.now) c.args.above c.args.op.now c.in_ok-pair.pair c.in_ok-pair.ensures.rows c.in_ok-pair.ensures.pair

pub returns-clause-more : goal.returns-clause-more
returns-clause-more c =
    on_ok c.push_where.result (λ fine.
    pending_more c.args.db.now c.keep_pending-kept.new.db c.args.above c.args.op.now c.in_ok-pair.pair c.args.judged.now.items c.push_where.new.judged.items c.in_ok-pair.ensures.rows
    c.in_ok-pair.ensures.pair c.keep_pending-kept.ensures.catalog (ok_here c.keep_pending-kept.result c.keep_pending-kept.ensures.rows (c.push_where.ensures.kept fine))
    (ok_here c.push_where.result c.push_where.ensures.pushed fine))
