use Rattle.std.proofs.Common.{◌≡◌, List, [], ◌∷◌, subst}
use Rattle.std.proofs.lemmas.List.{nil_from_length}
use Rattle.std.specs.List.{AllByRecursion}
use Rattle.sr_book.specs.Entries.{Name}
use Rattle.sr_agent.specs.Inner.Steps.{IsUser, PartnerPassesBroken}
use Rattle.sr_agent.proofs.OrderSteps.{turning_done, turning_more, turning_start}
use Rattle.sr_agent.proofs.OrderStops.{turning_stop}
use Rattle.sr_agent.proofs.Ordering.{IsTurning}
use Rattle.sr_agent.proofs.Purged.{if_err}
use Rattle.sr_agent.proofs.receiving.receive_in_order.Goals as goal

pub partners-init : goal.partners-init
partners-init g c =
    turning_start c.args.db.now (g.S.Held.seen c.args.site.now) c.args.names.now c.args.bag.now c.args.purges c.args.progress.now (g.O.Sink.seen c.args.sink.now) c.requires.ready c.requires.users c.requires.holds

pub returns-in_err-receive_from-clause-broken : goal.returns-in_err-receive_from-clause-broken
returns-in_err-receive_from-clause-broken g c =
    let old = c.args.db.now in
    let db = c.partners.db in
    let new = c.receive_from.new.db in
    let before = g.S.Held.seen c.args.site.now in
    let seen = g.S.Held.seen c.partners.site in
    let now = g.S.Held.seen c.receive_from.new.site in
    let written = g.O.Sink.seen c.args.sink.now in
    let written' = g.O.Sink.seen c.partners.sink in
    let written'' = g.O.Sink.seen c.receive_from.new.sink in
    let fault = c.in_err-receive_from.field-0.0 in
    let so : IsTurning old db before seen c.args.names.now (c.in-Some.user.now ∷ c.in-Some.rest.now) c.args.bag.now c.partners.bag c.args.purges c.args.progress.now c.partners.progress written written' =
    subst (λ (l : List Name). IsTurning old db before seen c.args.names.now l c.args.bag.now c.partners.bag c.args.purges c.args.progress.now c.partners.progress written written') c.in-Some.ensures.cases.0 c.partners.invariant in
    if_err (PartnerPassesBroken old new before now c.args.names.now c.args.bag.now c.args.purges written written'') fault c.from_residual.result c.from_residual.ensures.1
    (turning_stop old db new before seen now c.args.names.now c.in-Some.user.now c.in-Some.rest.now c.args.bag.now c.partners.bag c.args.purges c.args.progress.now c.partners.progress written written' written'' fault so
    c.in_err-receive_from.ensures.broken)

pub partners-preserved : goal.partners-preserved
partners-preserved g c =
    let old = c.args.db.now in
    let db = c.partners.db in
    let new = c.receive_from.new.db in
    let before = g.S.Held.seen c.args.site.now in
    let seen = g.S.Held.seen c.partners.site in
    let now = g.S.Held.seen c.receive_from.new.site in
    let written = g.O.Sink.seen c.args.sink.now in
    let written' = g.O.Sink.seen c.partners.sink in
    let written'' = g.O.Sink.seen c.receive_from.new.sink in
    let so : IsTurning old db before seen c.args.names.now (c.in-Some.user.now ∷ c.in-Some.rest.now) c.args.bag.now c.partners.bag c.args.purges c.args.progress.now c.partners.progress written written' =
    subst (λ (l : List Name). IsTurning old db before seen c.args.names.now l c.args.bag.now c.partners.bag c.args.purges c.args.progress.now c.partners.progress written written') c.in-Some.ensures.cases.0 c.partners.invariant in
    turning_more old db new before seen now c.args.names.now c.in-Some.user.now c.in-Some.rest.now c.args.bag.now c.partners.bag c.receive_from.new.bag c.args.purges c.args.progress.now c.partners.progress c.receive_from.new.progress
    written written' written'' so c.in_ok-receive_from.ensures.ready c.in_ok-receive_from.ensures.keeps c.in_ok-receive_from.ensures.holds c.in_ok-receive_from.ensures.done

pub receive_from-requires-clause-user : goal.receive_from-requires-clause-user
receive_from-requires-clause-user g c = (subst (λ (l : List Name). AllByRecursion (IsUser c.partners.db) l) c.in-Some.ensures.cases.0 c.partners.invariant.users_are).0

pub returns-clause-ready : goal.returns-clause-ready
returns-clause-ready g c = c.partners.invariant.ready

pub returns-clause-keeps : goal.returns-clause-keeps
returns-clause-keeps g c = c.partners.invariant.keeps

pub returns-clause-done : goal.returns-clause-done
returns-clause-done g c =
    let old = c.args.db.now in
    let db = c.partners.db in
    let before = g.S.Held.seen c.args.site.now in
    let seen = g.S.Held.seen c.partners.site in
    let written = g.O.Sink.seen c.args.sink.now in
    let written' = g.O.Sink.seen c.partners.sink in
    let none : c.partners.left.now ≡ [] = nil_from_length _ c.in_default.ensures.cases in
    turning_done old db before seen c.args.names.now c.args.bag.now c.partners.bag c.args.purges c.args.progress.now c.partners.progress written written'
    (subst (λ (l : List Name). IsTurning old db before seen c.args.names.now l c.args.bag.now c.partners.bag c.args.purges c.args.progress.now c.partners.progress written written') none c.partners.invariant)
