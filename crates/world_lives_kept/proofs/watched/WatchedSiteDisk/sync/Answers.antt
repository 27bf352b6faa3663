use Rattle.world_lives_kept.proofs.Watching.{synced_kept}
use Rattle.world_lives_kept.proofs.watched.WatchedSiteDisk.sync.Goals as goal

pub invariant_of-self : goal.invariant_of-self
invariant_of-self c = λ whole. synced_kept _ _ _ _ (c.self.invariant whole) _ _ _ c.sync.ensures.happened
