use Rattle.world_lives_kept.proofs.Watching.{removed_kept}
use Rattle.world_lives_kept.proofs.watched.WatchedSiteMail.remove.Goals as goal

pub invariant_of-self : goal.invariant_of-self
invariant_of-self c = λ whole. removed_kept _ _ _ _ (c.self.invariant whole) _ _ _ c.remove.ensures.removed
