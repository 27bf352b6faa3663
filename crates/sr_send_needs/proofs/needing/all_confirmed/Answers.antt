use Rattle.std.proofs.Common.{List, subst}
use Rattle.sr_catalog_schema.specs.declared.user.User.{User}
use Rattle.sr_send_needs.specs.Inner.Seeking.{AreGranted}
use Rattle.sr_send_needs.proofs.Seekings.{all_but}
use Rattle.sr_send_needs.proofs.needing.all_confirmed.Goals as goal

pub users-preserved : goal.users-preserved
users-preserved c = (
  all_but c.args.db.now c.users.least.0 c.with_user-least.result.0 c.users.left.now c.args.users.now c.in-Some.user.now c.in-Some.rest.now c.in-Some.ensures.cases.0 c.with_user-least.ensures.no_more c.with_user-least.ensures.confirmed
      c.users.invariant.0,
  (subst (λ (us : List User). AreGranted c.args.db.now us) c.in-Some.ensures.cases.0 c.users.invariant.1).1,
  c.with_user-least.ensures.from_base,
)
