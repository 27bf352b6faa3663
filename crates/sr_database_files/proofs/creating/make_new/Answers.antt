use Rattle.std.proofs.Common.{◌∙◌}
use Rattle.sr_site.specs.Inner.Growing.{disk_stays_on}
use Rattle.sr_site.specs.declared.file.File.TheVariants.{Root}
use Rattle.sr_database_files.proofs.Attaches.{on_attaches, off_attaches}
use Rattle.sr_database_files.proofs.Making.{unnamed, naming, named_settled}
use Rattle.sr_database_files.proofs.creating.make_new.Goals as goal

pub returns-in_err-make_generations-clause-moments : goal.returns-in_err-make_generations-clause-moments
returns-in_err-make_generations-clause-moments g c told settled =
    unnamed c.args.snapshot.now (g.S.Held.seen c.args.site.now) (g.S.Held.seen c.make_generations.new.site) (c.in_err-make_generations.ensures.happened told) settled

pub returns-in_err-name_generation-clause-moments : goal.returns-in_err-name_generation-clause-moments
returns-in_err-name_generation-clause-moments g c told settled =
    naming c.args.snapshot.now (g.S.Held.seen c.args.site.now) (g.S.Held.seen c.make_generations.new.site) (c.in_ok-make_generations.ensures.happened told) (g.S.Held.seen c.name_generation.new.site)
    (c.in_err-name_generation.ensures.happened (c.in_ok-make_generations.ensures.stays.observable ∙ told)) (c.in_ok-make_generations.ensures.settled told) c.in_ok-make_generations.ensures.stays.first settled

pub returns-clause-moments : goal.returns-clause-moments
returns-clause-moments g c told settled =
    naming c.args.snapshot.now (g.S.Held.seen c.args.site.now) (g.S.Held.seen c.make_generations.new.site) (c.in_ok-make_generations.ensures.happened told) (g.S.Held.seen c.name_generation.new.site)
    (c.in_ok-name_generation.ensures.happened (c.in_ok-make_generations.ensures.stays.observable ∙ told)) (c.in_ok-make_generations.ensures.settled told) c.in_ok-make_generations.ensures.stays.first settled

pub returns-clause-settled : goal.returns-clause-settled
returns-clause-settled g c told =
    let now_told = c.in_ok-make_generations.ensures.stays.observable ∙ told in
    let has = c.in_ok-make_generations.ensures.files told in
    named_settled c.args.snapshot.now (g.S.Held.seen c.args.site.now) (g.S.Held.seen c.make_generations.new.site) (c.in_ok-make_generations.ensures.happened told) (g.S.Held.seen c.name_generation.new.site)
    (c.in_ok-name_generation.ensures.happened now_told) (c.in_ok-make_generations.ensures.settled told) c.in_ok-name_generation.ensures.stays.first
    (c.in_ok-name_generation.ensures.settled now_told (has.root_is ∙ c.requires.none told))

pub returns-in_err-name_generation-clause-stays : goal.returns-in_err-name_generation-clause-stays
returns-in_err-name_generation-clause-stays g c = disk_stays_on _ (g.S.Held.seen c.make_generations.new.site) _ c.in_ok-make_generations.ensures.stays c.in_err-name_generation.ensures.stays

pub returns-clause-stays : goal.returns-clause-stays
returns-clause-stays g c = disk_stays_on _ (g.S.Held.seen c.make_generations.new.site) _ c.in_ok-make_generations.ensures.stays c.in_ok-name_generation.ensures.stays

pub returns-in_err-make_generations-clause-attached : goal.returns-in_err-make_generations-clause-attached
returns-in_err-make_generations-clause-attached g c told = off_attaches Root _ _ (c.in_err-make_generations.ensures.happened told)

pub returns-in_err-name_generation-clause-attached : goal.returns-in_err-name_generation-clause-attached
returns-in_err-name_generation-clause-attached g c told =
    on_attaches Root _ _ (c.in_err-name_generation.ensures.happened (c.in_ok-make_generations.ensures.stays.observable ∙ told))
    ∙ off_attaches Root _ _ (c.in_ok-make_generations.ensures.happened told)

pub returns-clause-attached : goal.returns-clause-attached
returns-clause-attached g c told =
    on_attaches Root _ _ (c.in_ok-name_generation.ensures.happened (c.in_ok-make_generations.ensures.stays.observable ∙ told))
    ∙ off_attaches Root _ _ (c.in_ok-make_generations.ensures.happened told)
