use Rattle.std.proofs.Common.{Some, sym, ◌∙◌, ltb-true}
use Rattle.sr_send.specs.Inner.Steps.{newer}
use Rattle.sr_send.proofs.Pushes.{pushed_old, new_pushed, new_end, new_stopped, stopped_short}
use Rattle.sr_send.proofs.pushing.push_new.Goals as goal

pub returns-then-not-lies_past-clause-pushed : goal.returns-then-not-lies_past-clause-pushed
returns-then-not-lies_past-clause-pushed g c =
    pushed_old c.args.aim.now c.args.post.now c.args.transaction.now (g.S.Held.seen c.args.site.now) (sym c.lies_past.ensures ∙ c.if-not-lies_past.true)

pub returns-then-not-can_write-clause-cause : goal.returns-then-not-can_write-clause-cause
returns-then-not-can_write-clause-cause g c = stopped_short c.args.aim.now c.args.post.now (g.S.Held.seen c.args.site.now) (newer c.args.aim.now.prev.0 (Some c.args.transaction.now)) c.requires.aim

pub push_one-requires-clause-later : goal.push_one-requires-clause-later
push_one-requires-clause-later g c = c.requires.later (ltb-true c.args.aim.now.prev.0 c.args.transaction.now.at.0 (sym c.lies_past.ensures ∙ c.if-not-lies_past.false))

pub returns-clause-pushed : goal.returns-clause-pushed
returns-clause-pushed g c =
    new_pushed c.args.aim.now c.args.post.now c.push_one.new.post c.args.transaction.now (g.S.Held.seen c.args.site.now) (g.S.Held.seen c.push_one.new.site) c.push_one.result (sym c.lies_past.ensures ∙ c.if-not-lies_past.false)
    c.push_one.ensures.pushed

pub returns-clause-end : goal.returns-clause-end
returns-clause-end g c = new_end c.args.post.now.end c.args.transaction.now.at c.push_one.new.post.end c.push_one.result c.push_one.ensures.end

pub returns-clause-cause : goal.returns-clause-cause
returns-clause-cause g c =
    new_stopped c.args.aim.now c.args.post.now c.args.transaction.now (g.S.Held.seen c.args.site.now) (g.S.Held.seen c.push_one.new.site) c.push_one.result (sym c.lies_past.ensures ∙ c.if-not-lies_past.false)
    c.push_one.ensures.cause
