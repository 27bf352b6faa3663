use Rattle.std.proofs.Common.{◌≡◌, ◌∷◌, Option, length, ap, subst, arith}
use Rattle.std.specs.Vec.Iter.{into_iter_items}
use Rattle.sr_msgform.specs.declared.message.Message.{Message}
use Rattle.sr_receive_gather.specs.Fetches.{FetchStop}
use Rattle.sr_receive_gather.specs.Inner.Fetches.{FoundOne}
use Rattle.sr_receive_gather.specs.declared.fault.ReceiveFault.TheVariants.{Memory}
use Rattle.sr_receive_gather.proofs.MailEnds.{if_fault}
use Rattle.sr_receive_gather.proofs.Refetching.{fetching_dropped_windows, fetching_more, fetching_short, fetching_stop}
use Rattle.sr_receive_gather.proofs.fetching.fetch_all.Goals as goal

pub returns-in_err-fetch_one-clause-cause : goal.returns-in_err-fetch_one-clause-cause
returns-in_err-fetch_one-clause-cause g c =
    let publisher = c.args.publisher.now in
    let before = g.S.Held.seen c.args.site.now in
    let middle = g.S.Held.seen c.pieces.site in
    let now = g.S.Held.seen c.fetch_one.new.site in
    let fault = c.in_err-fetch_one.field-0.0 in
    if_fault (FetchStop publisher c.args.user.now c.args.pieces.items before now) fault c.from_residual.result c.from_residual.ensures.1
    (fetching_stop publisher c.args.user.now c.args.pieces.items c.in-Some.piece (into_iter_items c.pieces.piece-iterator) (into_iter_items c.next.new.self) before middle now c.pieces.pairs.items fault c.in-Some.ensures.steps.0
    c.pieces.invariant.fetching c.in_err-fetch_one.ensures.cause)

pub returns-in-None-2-clause-found : goal.returns-in-None-2-clause-found
returns-in-None-2-clause-found g c =
    fetching_dropped_windows c.args.publisher.now c.args.user.now c.args.pieces.items c.in-Some.piece (into_iter_items c.pieces.piece-iterator) (into_iter_items c.next.new.self) (g.S.Held.seen c.args.site.now)
    (g.S.Held.seen c.pieces.site) (g.S.Held.seen c.fetch_one.new.site) c.pieces.pairs.items c.in_ok-fetch_one.field-0 c.in-Some.ensures.steps.0 c.in-None-2.is c.pieces.invariant.fetching c.in_ok-fetch_one.ensures.found

pub pieces-preserved : goal.pieces-preserved
pieces-preserved g c =
    let steps : into_iter_items c.pieces.piece-iterator ≡ c.in-Some.piece ∷ into_iter_items c.next.new.self = c.in-Some.ensures.steps.0 in
    let gone = c.in-Some.ensures.steps.1 in
    let was = c.pieces.invariant.size in
    let short = ap length steps in
    record {
      fetching =
          fetching_more c.args.publisher.now c.args.user.now c.args.pieces.items c.in-Some.piece c.in-Some-2.message (into_iter_items c.pieces.piece-iterator) (into_iter_items c.next.new.self) (g.S.Held.seen c.args.site.now)
          (g.S.Held.seen c.pieces.site) (g.S.Held.seen c.fetch_one.new.site) c.pieces.pairs.items c.push.new.self.items c.in_ok-fetch_one.field-0 steps c.in-Some-2.is c.in_ok-push-in-Some-2.ensures.items
          c.pieces.invariant.fetching c.in_ok-fetch_one.ensures.found;
      size = omega arith;
    }

pub returns-in_err-push-in-Some-2-clause-cause : goal.returns-in_err-push-in-Some-2-clause-cause
returns-in_err-push-in-Some-2-clause-cause g c =
    let publisher = c.args.publisher.now in
    let user = c.args.user.now in
    let before = g.S.Held.seen c.args.site.now in
    let middle = g.S.Held.seen c.pieces.site in
    let now = g.S.Held.seen c.fetch_one.new.site in
    if_fault (FetchStop publisher user c.args.pieces.items before now) Memory c.from_residual-in_err-push-in-Some-2.result c.from_residual-in_err-push-in-Some-2.ensures.1
    (fetching_short publisher user c.args.pieces.items c.in-Some.piece (into_iter_items c.pieces.piece-iterator) (into_iter_items c.next.new.self) c.in-Some-2.message before middle now c.pieces.pairs.items c.in-Some.ensures.steps.0
    c.pieces.invariant.fetching
    (subst (λ (o : Option Message). FoundOne publisher user c.in-Some.piece middle now o) c.in-Some-2.is c.in_ok-fetch_one.ensures.found))
