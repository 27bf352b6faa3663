use Rattle.std.proofs.Common.{[]}
use Rattle.sr_database_files.specs.declared.fault.DatabaseFault.TheVariants.{Memory}
use Rattle.sr_site.specs.Inner.Growing.{disk_stays_on}
use Rattle.dbremote_command.proofs.Opened.{tried_on, tried_refused, tried_still, guarded_refused, guarded_still, guarded_on, made}
use Rattle.dbremote_command.specs.Making.{StoreCause}
use Rattle.dbremote_command.proofs.Unmade.{caused, unmade_on, unmade_refused, unmade_still}
use Rattle.dbremote_command.proofs.making.make_files.Goals as goal

pub returns-in_err-attach_alone-clause-guarded : goal.returns-in_err-attach_alone-clause-guarded
returns-in_err-attach_alone-clause-guarded g c = guarded_refused c.args.name.now [] c.args.user.now (g.S.Held.seen c.args.site.now) (g.S.Held.seen c.attach_alone.new.site) c.in_err-attach_alone.ensures.attaches

pub returns-in_err-line-clause-guarded : goal.returns-in_err-line-clause-guarded
returns-in_err-line-clause-guarded g c = guarded_still c.args.name.now [] c.args.user.now (g.S.Held.seen c.args.site.now) (g.S.Held.seen c.attach_alone.new.site) c.in_ok-attach_alone.ensures.attaches

pub returns-in_err-create-clause-tried : goal.returns-in_err-create-clause-tried
returns-in_err-create-clause-tried g c = tried_on c.args.name.now [] (g.S.Held.seen c.args.site.now) (g.S.Held.seen c.attach_alone.new.site) (g.S.Held.seen c.create.new.site) c.in_ok-attach_alone.ensures.attaches c.create.ensures.stays c.create.ensures.attached

pub returns-in_err-create-clause-guarded : goal.returns-in_err-create-clause-guarded
returns-in_err-create-clause-guarded g c = guarded_on c.args.name.now [] c.args.user.now (g.S.Held.seen c.args.site.now) (g.S.Held.seen c.attach_alone.new.site) (g.S.Held.seen c.create.new.site)
    c.in_ok-attach_alone.ensures.attaches c.create.ensures.moments c.create.ensures.there

pub returns-clause-tried : goal.returns-clause-tried
returns-clause-tried g c = tried_on c.args.name.now [] (g.S.Held.seen c.args.site.now) (g.S.Held.seen c.attach_alone.new.site) (g.S.Held.seen c.create.new.site) c.in_ok-attach_alone.ensures.attaches c.create.ensures.stays c.create.ensures.attached

pub returns-clause-guarded : goal.returns-clause-guarded
returns-clause-guarded g c = guarded_on c.args.name.now [] c.args.user.now (g.S.Held.seen c.args.site.now) (g.S.Held.seen c.attach_alone.new.site) (g.S.Held.seen c.create.new.site)
    c.in_ok-attach_alone.ensures.attaches c.create.ensures.moments c.create.ensures.there

pub returns-clause-made : goal.returns-clause-made
returns-clause-made g c = made c.args.name.now c.args.user.now (g.S.Held.seen c.args.site.now) (g.S.Held.seen c.attach_alone.new.site) (g.S.Held.seen c.create.new.site)
    c.in_ok-attach_alone.ensures.attaches c.in_ok-attach_alone.ensures.steady c.create.ensures.stays c.create.ensures.attached c.in_ok-create.ensures.steady c.in_ok-create.ensures.made c.in_ok-create.ensures.settled c.in_ok-create.ensures.missing

pub returns-in_err-attach_alone-clause-tried : goal.returns-in_err-attach_alone-clause-tried
returns-in_err-attach_alone-clause-tried g c = tried_refused c.args.name.now [] (g.S.Held.seen c.args.site.now) (g.S.Held.seen c.attach_alone.new.site) c.in_err-attach_alone.ensures.attaches

pub returns-in_err-attach_alone-clause-stays : goal.returns-in_err-attach_alone-clause-stays
returns-in_err-attach_alone-clause-stays g c = c.in_err-attach_alone.ensures.attaches.stays

pub returns-in_err-line-clause-tried : goal.returns-in_err-line-clause-tried
returns-in_err-line-clause-tried g c = tried_still c.args.name.now [] (g.S.Held.seen c.args.site.now) (g.S.Held.seen c.attach_alone.new.site) c.in_ok-attach_alone.ensures.attaches

pub returns-in_err-line-clause-stays : goal.returns-in_err-line-clause-stays
returns-in_err-line-clause-stays g c = c.in_ok-attach_alone.ensures.attaches.stays

pub returns-in_err-create-clause-stays : goal.returns-in_err-create-clause-stays
returns-in_err-create-clause-stays g c = disk_stays_on (g.S.Held.seen c.args.site.now) (g.S.Held.seen c.attach_alone.new.site) (g.S.Held.seen c.create.new.site) c.in_ok-attach_alone.ensures.attaches.stays c.create.ensures.stays

pub returns-clause-stays : goal.returns-clause-stays
returns-clause-stays g c = disk_stays_on (g.S.Held.seen c.args.site.now) (g.S.Held.seen c.attach_alone.new.site) (g.S.Held.seen c.create.new.site) c.in_ok-attach_alone.ensures.attaches.stays c.create.ensures.stays

pub returns-in_err-attach_alone-clause-cause : goal.returns-in_err-attach_alone-clause-cause
returns-in_err-attach_alone-clause-cause g c =
    let before = g.S.Held.seen c.args.site.now in
    let now = g.S.Held.seen c.attach_alone.new.site in
    caused (StoreCause c.args.name.now before now) c.in_err-attach_alone.field-0.0 c.from_residual.result c.from_residual.ensures.1
    (unmade_refused c.args.name.now before now c.in_err-attach_alone.field-0.0 c.in_err-attach_alone.ensures.attaches c.in_err-attach_alone.ensures.cause)

pub returns-in_err-line-clause-cause : goal.returns-in_err-line-clause-cause
returns-in_err-line-clause-cause g c =
    let before = g.S.Held.seen c.args.site.now in
    let now = g.S.Held.seen c.attach_alone.new.site in
    caused (StoreCause c.args.name.now before now) Memory c.from_residual-in_err-line.result c.from_residual-in_err-line.ensures.1
    (unmade_still c.args.name.now before now c.in_ok-attach_alone.ensures.attaches c.in_ok-attach_alone.ensures.steady)

pub returns-in_err-create-clause-cause : goal.returns-in_err-create-clause-cause
returns-in_err-create-clause-cause g c =
    let before = g.S.Held.seen c.args.site.now in
    let middle = g.S.Held.seen c.attach_alone.new.site in
    let now = g.S.Held.seen c.create.new.site in
    caused (StoreCause c.args.name.now before now) c.in_err-create.field-0.0 c.from_residual-in_err-create.result c.from_residual-in_err-create.ensures.1
    (unmade_on c.args.name.now before middle now c.in_err-create.field-0.0 c.in_ok-attach_alone.ensures.attaches c.in_ok-attach_alone.ensures.steady c.in_err-create.ensures.cause)
