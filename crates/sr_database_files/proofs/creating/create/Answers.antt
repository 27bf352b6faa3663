use Rattle.std.proofs.Common.{◌≡◌, List, ℕ, true, refl, subst, ◌∙◌}
use Rattle.sr_site.specs.Images.{IsSettled, RestsThroughout}
use Rattle.sr_database_meaning.specs.Inner.Snapshots.{fresh_snapshot}
use Rattle.sr_site.specs.Inner.Growing.{disk_stays_on}
use Rattle.sr_database_files.specs.Inner.Fresh.{AreNamed, IsNoneOrNewOf}
use Rattle.sr_database_files.specs.Inner.Making.{HasNoRoot}
use Rattle.sr_database_files.proofs.Attaches.{root_attaches}
use Rattle.sr_database_files.proofs.Making.{looked_at, root_images, made_moments, named_stands}
use Rattle.sr_database_files.proofs.creating.create.Goals as goal

pub returns-in_err-has_root-clause-moments : goal.returns-in_err-has_root-clause-moments
returns-in_err-has_root-clause-moments g c told settled =
    looked_at c.args.publisher.now c.in_ok-snapshot.ensures.name _ (g.S.Held.seen c.args.site.now) (g.S.Held.seen c.has_root.new.site) (c.in_err-has_root.ensures.happened told) (g.S.Held.read_is_image c.args.site.now told) settled

pub returns-in_err-has_root-clause-there : goal.returns-in_err-has_root-clause-there
returns-in_err-has_root-clause-there g c told settled =
    root_images _ (g.S.Held.seen c.args.site.now) (g.S.Held.seen c.has_root.new.site) (c.in_err-has_root.ensures.happened told) (g.S.Held.read_is_image c.args.site.now told)

pub returns-then-branch-clause-moments : goal.returns-then-branch-clause-moments
returns-then-branch-clause-moments g c told settled =
    looked_at c.args.publisher.now c.in_ok-snapshot.ensures.name _ (g.S.Held.seen c.args.site.now) (g.S.Held.seen c.has_root.new.site) (c.in_ok-has_root.ensures.happened told) (g.S.Held.read_is_image c.args.site.now told) settled

pub returns-then-branch-clause-there : goal.returns-then-branch-clause-there
returns-then-branch-clause-there g c told settled =
    root_images _ (g.S.Held.seen c.args.site.now) (g.S.Held.seen c.has_root.new.site) (c.in_ok-has_root.ensures.happened told) (g.S.Held.read_is_image c.args.site.now told)

pub returns-in_err-make_new-clause-moments : goal.returns-in_err-make_new-clause-moments
returns-in_err-make_new-clause-moments g c told settled =
    let before = g.S.Held.seen c.args.site.now in
    let middle = g.S.Held.seen c.has_root.new.site in
    let now = g.S.Held.seen c.make_new.new.site in
    let snapshot : c.as_slice.result.now ≡ fresh_snapshot c.args.publisher.now = c.as_slice.ensures.value ∙ c.in_ok-snapshot.ensures.bytes in
    let makes = c.in_err-make_new.ensures.moments (c.in_ok-has_root.ensures.stays.observable ∙ told) in
    made_moments c.args.publisher.now c.in_ok-snapshot.ensures.name true before middle (c.in_ok-has_root.ensures.happened told) (g.S.Held.read_is_image c.args.site.now told) (refl {a = true})
    (c.in_ok-has_root.ensures.none told c.if-branch.false) c.in_ok-has_root.ensures.stays.first now
    (subst (λ (s : List ℕ). IsSettled HasNoRoot middle → RestsThroughout (IsNoneOrNewOf s) middle now) snapshot makes) settled

pub returns-clause-moments : goal.returns-clause-moments
returns-clause-moments g c told settled =
    let before = g.S.Held.seen c.args.site.now in
    let middle = g.S.Held.seen c.has_root.new.site in
    let now = g.S.Held.seen c.make_new.new.site in
    let snapshot : c.as_slice.result.now ≡ fresh_snapshot c.args.publisher.now = c.as_slice.ensures.value ∙ c.in_ok-snapshot.ensures.bytes in
    let makes = c.in_ok-make_new.ensures.moments (c.in_ok-has_root.ensures.stays.observable ∙ told) in
    made_moments c.args.publisher.now c.in_ok-snapshot.ensures.name true before middle (c.in_ok-has_root.ensures.happened told) (g.S.Held.read_is_image c.args.site.now told) (refl {a = true})
    (c.in_ok-has_root.ensures.none told c.if-branch.false) c.in_ok-has_root.ensures.stays.first now
    (subst (λ (s : List ℕ). IsSettled HasNoRoot middle → RestsThroughout (IsNoneOrNewOf s) middle now) snapshot makes) settled

pub returns-clause-made : goal.returns-clause-made
returns-clause-made g c told =
    let now = g.S.Held.seen c.make_new.new.site in
    let snapshot : c.as_slice.result.now ≡ fresh_snapshot c.args.publisher.now = c.as_slice.ensures.value ∙ c.in_ok-snapshot.ensures.bytes in
    named_stands c.args.publisher.now c.in_ok-snapshot.ensures.name now.files (subst (λ (s : List ℕ). AreNamed s now.files) snapshot (c.in_ok-make_new.ensures.files (c.in_ok-has_root.ensures.stays.observable ∙ told)))

pub returns-clause-settled : goal.returns-clause-settled
returns-clause-settled g c told image there =
    let snapshot : c.as_slice.result.now ≡ fresh_snapshot c.args.publisher.now = c.as_slice.ensures.value ∙ c.in_ok-snapshot.ensures.bytes in
    named_stands c.args.publisher.now c.in_ok-snapshot.ensures.name image (subst (λ (s : List ℕ). AreNamed s image) snapshot (c.in_ok-make_new.ensures.settled (c.in_ok-has_root.ensures.stays.observable ∙ told) image there))

pub returns-in_err-make_new-clause-stays : goal.returns-in_err-make_new-clause-stays
returns-in_err-make_new-clause-stays g c = disk_stays_on _ (g.S.Held.seen c.has_root.new.site) _ c.in_ok-has_root.ensures.stays c.in_err-make_new.ensures.stays

pub returns-clause-stays : goal.returns-clause-stays
returns-clause-stays g c = disk_stays_on _ (g.S.Held.seen c.has_root.new.site) _ c.in_ok-has_root.ensures.stays c.in_ok-make_new.ensures.stays

pub returns-in_err-has_root-clause-attached : goal.returns-in_err-has_root-clause-attached
returns-in_err-has_root-clause-attached g c told = root_attaches _ (g.S.Held.seen c.args.site.now) (g.S.Held.seen c.has_root.new.site) (c.in_err-has_root.ensures.happened told)

pub returns-then-branch-clause-attached : goal.returns-then-branch-clause-attached
returns-then-branch-clause-attached g c told = root_attaches _ (g.S.Held.seen c.args.site.now) (g.S.Held.seen c.has_root.new.site) (c.in_ok-has_root.ensures.happened told)

pub returns-in_err-make_new-clause-attached : goal.returns-in_err-make_new-clause-attached
returns-in_err-make_new-clause-attached g c told =
    c.in_err-make_new.ensures.attached (c.in_ok-has_root.ensures.stays.observable ∙ told)
    ∙ root_attaches _ (g.S.Held.seen c.args.site.now) (g.S.Held.seen c.has_root.new.site) (c.in_ok-has_root.ensures.happened told)

pub returns-clause-attached : goal.returns-clause-attached
returns-clause-attached g c told =
    c.in_ok-make_new.ensures.attached (c.in_ok-has_root.ensures.stays.observable ∙ told)
    ∙ root_attaches _ (g.S.Held.seen c.args.site.now) (g.S.Held.seen c.has_root.new.site) (c.in_ok-has_root.ensures.happened told)
