use Rattle.std.proofs.Common.{sym, ◌∙◌}
use Rattle.sr_site.specs.Inner.Growing.{disk_stays_on}
use Rattle.dbremote_command.proofs.Keeping.{not_attached, not_opened}
use Rattle.dbremote_command.proofs.Opened.{opened, tried_on, tried_refused, untouched_on, untouched_refused}
use Rattle.dbremote_command.proofs.running.open_anew.Goals as goal

pub returns-in-Ok-opened-clause-opened : goal.returns-in-Ok-opened-clause-opened
returns-in-Ok-opened-clause-opened g c = opened c.args.name.now c.args.mail.now (g.S.Held.seen c.args.site.now) (g.S.Held.seen c.attach.new.site) (g.S.Held.seen c.open-opened.new.site) c.in-Ok-opened.database
    c.in-Ok.ensures.attaches c.in-Ok.ensures.steady c.open-opened.ensures.stays c.open-opened.ensures.attached c.in-Ok-opened.ensures.steady c.open-opened.ensures.files c.open-opened.ensures.moments c.in-Ok-opened.ensures.in_force

pub returns-in-Ok-opened-clause-ready : goal.returns-in-Ok-opened-clause-ready
returns-in-Ok-opened-clause-ready g c = c.in-Ok-opened.ensures.ready

pub returns-in-Ok-opened-clause-stands : goal.returns-in-Ok-opened-clause-stands
returns-in-Ok-opened-clause-stands g c told = c.in-Ok-opened.ensures.in_force (sym c.open-opened.ensures.stays.observable ∙ told)

pub returns-in-Ok-opened-clause-begins : goal.returns-in-Ok-opened-clause-begins
returns-in-Ok-opened-clause-begins g c told = c.in-Ok-opened.ensures.opened (sym c.open-opened.ensures.stays.observable ∙ told)

pub returns-in-Ok-opened-clause-tried : goal.returns-in-Ok-opened-clause-tried
returns-in-Ok-opened-clause-tried g c = tried_on c.args.name.now c.args.mail.now (g.S.Held.seen c.args.site.now) (g.S.Held.seen c.attach.new.site) (g.S.Held.seen c.open-opened.new.site) c.in-Ok.ensures.attaches c.open-opened.ensures.stays c.open-opened.ensures.attached

pub returns-in-Ok-opened-clause-untouched : goal.returns-in-Ok-opened-clause-untouched
returns-in-Ok-opened-clause-untouched g c = untouched_on c.args.name.now c.args.mail.now (g.S.Held.seen c.args.site.now) (g.S.Held.seen c.attach.new.site) (g.S.Held.seen c.open-opened.new.site) c.in-Ok.ensures.attaches c.open-opened.ensures.files c.open-opened.ensures.moments

pub returns-in-Ok-opened-clause-stays : goal.returns-in-Ok-opened-clause-stays
returns-in-Ok-opened-clause-stays g c = disk_stays_on (g.S.Held.seen c.args.site.now) (g.S.Held.seen c.attach.new.site) (g.S.Held.seen c.open-opened.new.site) c.in-Ok.ensures.attaches.stays c.open-opened.ensures.stays

pub returns-in-Err-opened-clause-tried : goal.returns-in-Err-opened-clause-tried
returns-in-Err-opened-clause-tried g c = tried_on c.args.name.now c.args.mail.now (g.S.Held.seen c.args.site.now) (g.S.Held.seen c.attach.new.site) (g.S.Held.seen c.open-opened.new.site) c.in-Ok.ensures.attaches c.open-opened.ensures.stays c.open-opened.ensures.attached

pub returns-in-Err-opened-clause-untouched : goal.returns-in-Err-opened-clause-untouched
returns-in-Err-opened-clause-untouched g c = untouched_on c.args.name.now c.args.mail.now (g.S.Held.seen c.args.site.now) (g.S.Held.seen c.attach.new.site) (g.S.Held.seen c.open-opened.new.site) c.in-Ok.ensures.attaches c.open-opened.ensures.files c.open-opened.ensures.moments

pub returns-in-Err-opened-clause-stays : goal.returns-in-Err-opened-clause-stays
returns-in-Err-opened-clause-stays g c = disk_stays_on (g.S.Held.seen c.args.site.now) (g.S.Held.seen c.attach.new.site) (g.S.Held.seen c.open-opened.new.site) c.in-Ok.ensures.attaches.stays c.open-opened.ensures.stays

pub returns-in-Err-opened-clause-cause : goal.returns-in-Err-opened-clause-cause
returns-in-Err-opened-clause-cause g c = not_opened c.args.name.now c.args.mail.now (g.S.Held.seen c.args.site.now) (g.S.Held.seen c.attach.new.site) (g.S.Held.seen c.open-opened.new.site) c.in-Err-opened.fault c.in-Ok.ensures.attaches c.in-Ok.ensures.steady c.in-Err-opened.ensures.cause

pub returns-in-Err-clause-tried : goal.returns-in-Err-clause-tried
returns-in-Err-clause-tried g c = tried_refused c.args.name.now c.args.mail.now (g.S.Held.seen c.args.site.now) (g.S.Held.seen c.attach.new.site) c.in-Err.ensures.attaches

pub returns-in-Err-clause-untouched : goal.returns-in-Err-clause-untouched
returns-in-Err-clause-untouched g c = untouched_refused c.args.name.now c.args.mail.now (g.S.Held.seen c.args.site.now) (g.S.Held.seen c.attach.new.site) c.in-Err.ensures.attaches

pub returns-in-Err-clause-stays : goal.returns-in-Err-clause-stays
returns-in-Err-clause-stays g c = c.in-Err.ensures.attaches.stays

pub returns-in-Err-clause-cause : goal.returns-in-Err-clause-cause
returns-in-Err-clause-cause g c = not_attached c.args.name.now c.args.mail.now (g.S.Held.seen c.args.site.now) (g.S.Held.seen c.attach.new.site) c.in-Err.ensures.attaches c.in-Err.fault c.in-Err.ensures.cause
