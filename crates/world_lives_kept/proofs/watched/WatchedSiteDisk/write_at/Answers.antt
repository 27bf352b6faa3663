use Rattle.world_lives_kept.proofs.Watching.{wrote_kept}
use Rattle.world_lives_kept.proofs.watched.WatchedSiteDisk.write_at.Goals as goal

pub invariant_of-self : goal.invariant_of-self
invariant_of-self c = λ whole. wrote_kept _ _ _ _ (c.self.invariant whole) _ _ _ _ _ c.write_at.ensures.happened
