use Rattle.sr_mail.proofs.Paired.{next_pairs}
use Rattle.test_replication.proofs.long.joined.Goals as goal

pub assemble-body-requires-clause-one_window : goal.assemble-body-requires-clause-one_window
assemble-body-requires-clause-one_window c =
    rw c.as_slice.ensures.value (next_pairs c.args._inbox.now 0 c.args.pieces.now c.in_ok-pairs.pairs.items c.requires.next c.in_ok-pairs.ensures).0
