use Rattle.world_lives_kept.proofs.Watching.{attached_kept}
use Rattle.world_lives_kept.proofs.watched.WatchedSiteSite.attach.Goals as goal

pub invariant_of-self : goal.invariant_of-self
invariant_of-self c = λ whole. attached_kept _ _ _ _ (c.self.invariant whole) _ _ _ c.attach.ensures.attached
