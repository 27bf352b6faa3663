use Rattle.sr_receive_judged.proofs.Pendings.{alike_back}
use Rattle.sr_receive_judged.proofs.judging.judge_here.Goals as goal

pub returns-clause-alike : goal.returns-clause-alike
returns-clause-alike c =
    alike_back c.args.db.now c.judge_pending-judged.new.db c.rollback.new.self c.judge_pending-judged.ensures.catalog c.judge_pending-judged.ensures.log c.judge_pending-judged.ensures.value
    c.rollback.ensures.back c.rollback.ensures.value
