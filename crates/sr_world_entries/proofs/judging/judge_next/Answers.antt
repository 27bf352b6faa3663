use Rattle.sr_database_fold.specs.Inner.Readings.{state_in}
use Rattle.sr_world_entries.proofs.Judgements.{ok_here, on_ok, one_more, pair_taken}
use Rattle.sr_world_entries.proofs.judging.judge_next.Goals as goal

pub take_on-taken-requires-clause-fits : goal.take_on-taken-requires-clause-fits
take_on-taken-requires-clause-fits c =
    pair_taken (state_in c.args.catalog.now c.args.rows.now) c.args.above c.args.op.now c.in_ok-pair.pair c.requires.rows c.in_ok-pair.ensures.pair

pub returns-clause-more : goal.returns-clause-more
returns-clause-more c =
    let s = state_in c.args.catalog.now c.args.rows.now in
    let s' = state_in c.take_on-taken.new.catalog c.take_on-taken.new.rows in
    on_ok c.push_where.result (λ fine.
    one_more s s' c.args.above c.args.op.now c.in_ok-pair.pair c.args.judged.now.items c.push_where.new.judged.items c.requires.rows c.in_ok-pair.ensures.pair
    (λ d same meant fits. ok_here c.take_on-taken.result (c.take_on-taken.ensures.after d same meant fits) (c.push_where.ensures.taken fine))
    (ok_here c.push_where.result c.push_where.ensures.pushed fine))
