use Rattle.world_lives_kept.proofs.Watching.{sent_kept}
use Rattle.world_lives_kept.proofs.watched.WatchedSiteMail.put.Goals as goal

pub invariant_of-self : goal.invariant_of-self
invariant_of-self c = λ whole.
    sent_kept _ _ _ _ _ _ _ _ _ _ (c.self.invariant (c.note_put.ensures.whole whole)) c.put-done.ensures.put (c.note_put.ensures.put whole) c.note_put.ensures.fetched
