use Rattle.world_lives_kept.proofs.Watching.{listed_kept}
use Rattle.world_lives_kept.proofs.watched.WatchedSiteMail.list.Goals as goal

pub invariant_of-self : goal.invariant_of-self
invariant_of-self c = λ whole. listed_kept _ _ _ _ (c.self.invariant whole) _ _ _ c.list.ensures.listed
