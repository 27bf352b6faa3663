use Rattle.std.proofs.Common.{List, sym, subst}
use Rattle.sr_msgform.specs.declared.message.Message.{Message}
use Rattle.sr_world_steps.specs.Inner.Due.{IsPutDue}
use Rattle.sr_world_steps.specs.Inner.Shown.{Shown, IsShown}
use Rattle.sr_world_steps.proofs.Deciding.{put_shown}
use Rattle.sr_world_steps.proofs.world.World.push_message.Goals as goal

pub invariant_of-self-2 : goal.invariant_of-self-2
invariant_of-self-2 c =
    let inside : Shown = record { histories = c.self.inside.histories.items; messages = c.self.inside.messages.items } in
    let due : IsPutDue inside c.args.at.now c.args.message = subst (λ (s : Shown). IsPutDue s c.args.at.now c.args.message) (sym c.self.view_is) c.requires.allowed in
    subst (λ (ms : List Message). IsShown (record { histories = inside.histories; messages = ms })) (sym c.in_ok-push_to.ensures.ok) (put_shown inside c.args.at.now c.args.message due)
