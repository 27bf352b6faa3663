use Rattle.std.proofs.Common.{List, subst}
use Rattle.std.specs.List.{AllByRecursion}
use Rattle.sr_catalog_schema.specs.declared.user.User.{User}
use Rattle.sr_send_needs.specs.Inner.Seeking.{HasConfirmed}
use Rattle.sr_send_needs.proofs.Followed.{read_on}
use Rattle.sr_send_needs.proofs.Seekings.{seek_on, seek_start}
use Rattle.sr_send_needs.proofs.Takings.{surveys_on}
use Rattle.sr_send_needs.proofs.Walks.{start_on}
use Rattle.sr_send_needs.proofs.needing.least_of.Goals as goal

pub users-init : goal.users-init
users-init g c = (seek_start c.args.db.now c.end-least.result c.args.users.now (g.S.Held.seen c.args.site.now) (c.usable-usable_here.ensures.sound c.requires.usable) c.end-least.ensures.end, c.requires.confirmed)

pub lesser_need-requires-clause-start : goal.lesser_need-requires-clause-start
lesser_need-requires-clause-start g c = start_on c.args.db.now c.args.start (g.S.Held.seen c.args.site.now) (g.S.Held.seen c.users.site) c.users.invariant.0.read c.requires.start

pub lesser_need-requires-clause-whole : goal.lesser_need-requires-clause-whole
lesser_need-requires-clause-whole g c = surveys_on c.args.db.now c.args.survey.now (g.S.Held.seen c.args.site.now) (g.S.Held.seen c.users.site) c.users.invariant.0.read c.requires.whole

pub lesser_need-requires-clause-limit : goal.lesser_need-requires-clause-limit
lesser_need-requires-clause-limit g c = (c.users.invariant.0.from_base, c.users.invariant.0.within)

pub returns-in_err-least-clause-read : goal.returns-in_err-least-clause-read
returns-in_err-least-clause-read g c = read_on (g.S.Held.seen c.args.site.now) (g.S.Held.seen c.users.site) (g.S.Held.seen c.lesser_need.new.site) c.users.invariant.0.read c.lesser_need.ensures.read

pub users-preserved : goal.users-preserved
users-preserved g c = (
  seek_on c.args.db.now c.users.least c.in_ok-least.least c.users.left.now c.args.users.now c.in-Some.rest.now c.in-Some.user.now (g.S.Held.seen c.args.site.now) (g.S.Held.seen c.users.site) (g.S.Held.seen c.lesser_need.new.site)
      c.in-Some.ensures.cases.0 c.users.invariant.0 c.lesser_need.ensures.read c.in_ok-least.ensures.steady c.in_ok-least.ensures.within c.in_ok-least.ensures.least,
  (subst (λ (us : List User). AllByRecursion (HasConfirmed c.args.db.now c.args.start.at.0) us) c.in-Some.ensures.cases.0 c.users.invariant.1).1,
)
