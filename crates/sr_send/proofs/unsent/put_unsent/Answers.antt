use Rattle.sr_send.specs.Inner.Stops.{ReadStop}
use Rattle.sr_send.proofs.Known.{shared_on, shared_some}
use Rattle.sr_send.proofs.Results.{if_fault}
use Rattle.sr_send.proofs.Starts.{unbegun}
use Rattle.sr_send.proofs.Told.{read_later, stopped_later}
use Rattle.sr_send.proofs.unsent.put_unsent.Goals as goal

pub returns-in_err-read_on-clause-cause : goal.returns-in_err-read_on-clause-cause
returns-in_err-read_on-clause-cause g c =
    let first = g.S.Held.seen c.args.site.now in
    let now = g.S.Held.seen c.read_on.new.site in
    if_fault (ReadStop c.args.db.now c.args.aim.now c.args.user.now first now) c.in_err-read_on.field-0.0 c.from_residual.result c.from_residual.ensures.1
    (unbegun c.args.db.now c.args.aim.now c.args.user.now c.args.post.now first now c.in_err-read_on.field-0.0 c.requires.aim c.requires.made c.in_err-read_on.ensures.cause)

pub returns-in_err-put_told-clause-cause : goal.returns-in_err-put_told-clause-cause
returns-in_err-put_told-clause-cause g c =
    let first = g.S.Held.seen c.args.site.now in
    let before = g.S.Held.seen c.read_on.new.site in
    let now = g.S.Held.seen c.put_told.new.site in
    if_fault (ReadStop c.args.db.now c.args.aim.now c.args.user.now first now) c.in_err-put_told.field-0.0 c.from_residual-in_err-put_told.result c.from_residual-in_err-put_told.ensures.1
    (stopped_later c.args.db.now c.args.aim.now c.args.user.now first before now c.in_err-put_told.field-0.0 c.in_ok-read_on.ensures.posted c.in_ok-read_on.ensures.steady c.in_err-put_told.ensures.cause)

pub returns-clause-read : goal.returns-clause-read
returns-clause-read g c =
    read_later c.args.db.now c.args.aim.now c.args.user.now c.put_told.new.post (g.S.Held.seen c.args.site.now) (g.S.Held.seen c.read_on.new.site) (g.S.Held.seen c.put_told.new.site) c.in_ok-read_on.ensures.posted
    c.in_ok-read_on.ensures.steady c.in_ok-put_told.ensures.read

pub returns-clause-surveyed : goal.returns-clause-surveyed
returns-clause-surveyed g c =
    let before = g.S.Held.seen c.read_on.new.site in
    let now = g.S.Held.seen c.put_told.new.site in
    shared_on c.args.db.now c.read_on.new.self.survey before now _ c.in_ok-put_told.ensures.read.posted (shared_some c.args.db.now c.read_on.new.self.survey before c.in_ok-read_on.ensures.whole)
