use Rattle.sr_agent.proofs.Least.{all_but, none_left}
use Rattle.sr_agent.proofs.sharing.least_sent.Goals as goal

pub partners-init : goal.partners-init
partners-init c = λ least less all. all

pub partners-preserved : goal.partners-preserved
partners-preserved c =
    all_but c.args.db.now c.partners.least.0 c.with_partner-least.result.0 c.partners.left.now c.args.partners.now c.in-Some.partner.now c.in-Some.rest.now c.in-Some.ensures.cases.0 c.with_partner-least.ensures.no_more
    c.with_partner-least.ensures.sent c.partners.invariant

pub returns : goal.returns
returns c = record { sent = none_left c.args.db.now c.partners.least.0 c.partners.left.now c.args.partners.now c.in_default.ensures.cases c.partners.invariant }
