use Rattle.sr_receive_judged.specs.Inner.Judged.{state_in}
use Rattle.sr_receive_judged.proofs.Scratches.{scratch_more, pair_taken}
use Rattle.sr_receive_judged.proofs.Results.{ok_here, on_ok}
use Rattle.sr_receive_judged.proofs.scratch.judge_next.Goals as goal

pub take_on-taken-requires-clause-fits : goal.take_on-taken-requires-clause-fits
take_on-taken-requires-clause-fits c =
    pair_taken (state_in c.args.scratch.now.catalog c.args.scratch.now.rows.rows) c.args.above c.args.op.now c.in_ok-pair.pair c.requires.rows c.in_ok-pair.ensures.pair

pub returns-clause-more : goal.returns-clause-more
returns-clause-more c =
    let s = state_in c.args.scratch.now.catalog c.args.scratch.now.rows.rows in
    let s' = state_in c.take_on-taken.new.scratch.catalog c.take_on-taken.new.scratch.rows.rows in
    on_ok c.push_where.result (λ fine.
    scratch_more s s' c.args.above c.args.op.now c.in_ok-pair.pair c.args.judged.now.items c.push_where.new.judged.items c.requires.rows c.in_ok-pair.ensures.pair
    (λ d same meant fits. ok_here c.take_on-taken.result (c.take_on-taken.ensures.after d same meant fits) (c.push_where.ensures.kept fine))
    (ok_here c.push_where.result c.push_where.ensures.pushed fine))
