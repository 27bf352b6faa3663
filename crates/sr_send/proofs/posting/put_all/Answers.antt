use Rattle.std.proofs.Common.{ℕ, ◌+◌, ◌%◌, ◌^◌, ◌∷◌, List, ap, subst}
use Rattle.sr_msgform.specs.declared.message.Message.{Message}
use Rattle.sr_send.specs.Inner.Stops.{IsPartSent}
use Rattle.sr_send.proofs.Numbers.{IsPutting, putting_start, putting_more, putting_short, putting_stop}
use Rattle.sr_send.proofs.Results.{if_fault}
use Rattle.sr_send.proofs.posting.put_all.Goals as goal

pub messages-init : goal.messages-init
messages-init g c = putting_start c.args.aim.now.address c.args.aim.now.count c.args.put c.args.messages.now (g.S.Held.seen c.args.site.now) c.requires.each

pub returns-then-total-clause-cause : goal.returns-then-total-clause-cause
returns-then-total-clause-cause g c =
    putting_short c.args.aim.now c.args.put c.messages.total c.messages.left.now c.args.messages.now (g.S.Held.seen c.args.site.now) (g.S.Held.seen c.messages.site) c.messages.invariant

pub returns-in_err-put_one-clause-cause : goal.returns-in_err-put_one-clause-cause
returns-in_err-put_one-clause-cause g c =
    let aim = c.args.aim.now in
    let before = g.S.Held.seen c.args.site.now in
    let middle = g.S.Held.seen c.messages.site in
    let now = g.S.Held.seen c.put_one.new.site in
    let going : IsPutting aim.address aim.count c.args.put c.args.messages.now (c.in-Some.message.now ∷ c.in-Some.rest.now) c.messages.total before middle =
    subst (λ (l : List Message). IsPutting aim.address aim.count c.args.put c.args.messages.now l c.messages.total before middle) c.in-Some.ensures.cases.0 c.messages.invariant in
    if_fault (λ fault. IsPartSent aim (aim.count + c.args.put) before now c.args.messages.now fault) c.in_err-put_one.field-0.0 c.from_residual.result c.from_residual.ensures.1
    (putting_stop aim c.args.put c.messages.total ((aim.count + c.from.result) % 2 ^ 64) c.in-Some.message.now c.in-Some.rest.now c.args.messages.now before middle now c.in_err-put_one.field-0.0 going (ap (λ (n : ℕ). (aim.count + n) % 2 ^ 64) c.from.ensures) c.in_err-put_one.ensures.cause)

pub messages-preserved : goal.messages-preserved
messages-preserved g c =
    let aim = c.args.aim.now in
    let before = g.S.Held.seen c.args.site.now in
    let middle = g.S.Held.seen c.messages.site in
    let now = g.S.Held.seen c.put_one.new.site in
    let going : IsPutting aim.address aim.count c.args.put c.args.messages.now (c.in-Some.message.now ∷ c.in-Some.rest.now) c.messages.total before middle =
    subst (λ (l : List Message). IsPutting aim.address aim.count c.args.put c.args.messages.now l c.messages.total before middle) c.in-Some.ensures.cases.0 c.messages.invariant in
    putting_more aim.address aim.count c.args.put c.messages.total ((aim.count + c.from.result) % 2 ^ 64) c.in-Some.message.now c.in-Some.rest.now c.args.messages.now before middle now going (ap (λ (n : ℕ). (aim.count + n) % 2 ^ 64) c.from.ensures) c.in_ok-put_one.ensures.put c.in_ok-put_one.ensures.spelled c.in_ok-put_one.ensures.steady
