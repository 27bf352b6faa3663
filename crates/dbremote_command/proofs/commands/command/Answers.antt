use Rattle.dbremote_command.proofs.Cases.{order_steps}
use Rattle.dbremote_command.proofs.commands.command.Goals as goal

pub returns-clause-steps : goal.returns-clause-steps
returns-clause-steps g c = λ w publisher told. order_steps c.args.order.now _ _ _ c.ordered.ensures.ran c.ordered.ensures.stays (g.S.Held.read_is_image c.args.site.now told) w publisher told
