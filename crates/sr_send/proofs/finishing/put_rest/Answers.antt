use Rattle.sr_send.specs.Inner.Steps.{IsDueAlone}
use Rattle.sr_send.specs.Inner.Stops.{LastStop}
use Rattle.sr_send.proofs.Endings.{not_due, is_due, held_last, completed_cut, completed_answer, last_answer}
use Rattle.sr_send.proofs.Results.{if_fault}
use Rattle.sr_send.proofs.finishing.put_rest.Goals as goal

pub returns-in_err-put_held-clause-cause : goal.returns-in_err-put_held-clause-cause
returns-in_err-put_held-clause-cause g c =
    let before = g.S.Held.seen c.args.site.now in
    let now = g.S.Held.seen c.put_held.new.site in
    if_fault (LastStop c.args.aim.now c.args.book.now c.args.ask c.args.post.now before now) c.in_err-put_held.field-0.0 c.from_residual.result c.from_residual.ensures.1
    (held_last c.args.aim.now c.args.book.now c.args.ask c.args.post.now before now c.in_err-put_held.field-0.0 c.requires.prev c.in_err-put_held.ensures.cause)

pub returns-then-not-is_due_alone-clause-completed : goal.returns-then-not-is_due_alone-clause-completed
returns-then-not-is_due_alone-clause-completed g c =
    completed_cut c.args.aim.now c.args.book.now c.args.ask c.args.post.now c.put_held.new.post (g.S.Held.seen c.args.site.now) (g.S.Held.seen c.put_held.new.site) c.requires.prev c.in_ok-put_held.ensures.emptied
    (not_due c.is_due_alone.result (IsDueAlone c.args.aim.now.prev c.put_held.new.post.end c.args.book.now c.args.ask) c.is_due_alone.ensures.due c.if-not-is_due_alone.true)

pub returns-clause-completed : goal.returns-clause-completed
returns-clause-completed g c =
    completed_answer c.args.aim.now c.args.book.now c.args.ask c.args.post.now c.put_held.new.post c.put_bodyless.new.post (g.S.Held.seen c.args.site.now) (g.S.Held.seen c.put_held.new.site) (g.S.Held.seen c.put_bodyless.new.site)
    c.put_bodyless.result c.requires.prev c.in_ok-put_held.ensures.emptied
    (is_due c.is_due_alone.result (IsDueAlone c.args.aim.now.prev c.put_held.new.post.end c.args.book.now c.args.ask) c.is_due_alone.ensures.due c.if-not-is_due_alone.false) c.put_bodyless.ensures.put

pub returns-clause-cause : goal.returns-clause-cause
returns-clause-cause g c =
    last_answer c.args.aim.now c.args.book.now c.args.ask c.args.post.now c.put_held.new.post (g.S.Held.seen c.args.site.now) (g.S.Held.seen c.put_held.new.site) (g.S.Held.seen c.put_bodyless.new.site) c.put_bodyless.result c.requires.prev
    c.in_ok-put_held.ensures.emptied
    (is_due c.is_due_alone.result (IsDueAlone c.args.aim.now.prev c.put_held.new.post.end c.args.book.now c.args.ask) c.is_due_alone.ensures.due c.if-not-is_due_alone.false) c.put_bodyless.ensures.cause
