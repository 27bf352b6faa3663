use Rattle.world_lives_kept.proofs.Watching.{fetched_kept}
use Rattle.world_lives_kept.proofs.watched.WatchedSiteMail.fetch.Goals as goal

pub invariant_of-self : goal.invariant_of-self
invariant_of-self c = λ whole.
    fetched_kept _ _ _ _ _ _ _ _ _ _ (c.self.invariant (c.note_fetched.ensures.whole whole)) c.fetch-found.ensures.fetched c.note_fetched.ensures.put (c.note_fetched.ensures.fetched whole)
