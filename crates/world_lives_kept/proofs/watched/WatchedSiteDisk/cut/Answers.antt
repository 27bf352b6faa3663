use Rattle.world_lives_kept.proofs.Watching.{cut_kept}
use Rattle.world_lives_kept.proofs.watched.WatchedSiteDisk.cut.Goals as goal

pub invariant_of-self : goal.invariant_of-self
invariant_of-self c = λ whole. cut_kept _ _ _ _ (c.self.invariant whole) _ _ _ _ c.cut.ensures.happened
