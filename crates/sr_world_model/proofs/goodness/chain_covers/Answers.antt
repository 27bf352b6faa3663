use Rattle.sr_book.specs.Histories.{book_of}
use Rattle.sr_world_model.specs.Steps.{HasSent}
use Rattle.sr_world_model.specs.Worlds.{history}
use Rattle.sr_world_model.proofs.Chains.{chain_covers}
use Rattle.sr_world_model.proofs.goodness.chain_covers.Goals as goal

pub returns-clause-covers : goal.returns-clause-covers
returns-clause-covers g c = λ p laws w d user prev upto windows good chain.
    chain_covers p g.R.Rules.HasSpelling g.R.Rules.lawful laws w d user good prev upto windows chain

pub returns-clause-sent : goal.returns-clause-sent
returns-clause-sent g c = λ p laws w d user e end confirm count good is allowed.
    let can : HasSent p w.messages d (history w d) user end.0 count confirm.0 = rw is at allowed.1.0 in
    (can.windows, can.chain, chain_covers p g.R.Rules.HasSpelling g.R.Rules.lawful laws w d user good (book_of p.sees user (history w d)).log_sent end.0 can.windows can.chain)
