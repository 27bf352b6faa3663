use Rattle.sr_database_did.specs.Inner.Places.{at}
use Rattle.sr_receive.proofs.Shared.{nothing_received, received_none}
use Rattle.sr_receive.proofs.pass.Pass.receive_none.Goals as goal

pub returns-in-Ok-clause-received : goal.returns-in-Ok-clause-received
returns-in-Ok-clause-received g c bag none =
    received_none (at g.S.Held.seen c.args.self.now.place) (at g.S.Held.seen c.receive_partner_mail-outcome.new.self.place) c.args.self.now.user.now bag c.in-Ok.none c.receive_partner_mail-outcome.new.partner_mail c.args.self.now.reports.now.items
    c.receive_partner_mail-outcome.new.self.reports.now.items c.receive_partner_mail-outcome.result none c.in-Ok.ensures.empty c.receive_partner_mail-outcome.ensures.received

pub returns-in-Err-clause-received : goal.returns-in-Err-clause-received
returns-in-Err-clause-received g c bag none = nothing_received (at g.S.Held.seen c.args.self.now.place) c.args.self.now.user.now bag c.args.self.now.reports.now.items c.requires.ready.ready
