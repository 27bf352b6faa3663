use Rattle.sr_world_entries.proofs.Roomy.{not_short}
use Rattle.sr_world_entries.proofs.ends.local_end.Goals as goal

pub returns-then-not-is_short : goal.returns-then-not-is_short
returns-then-not-is_short c = record { end = not_short c.args.place c.args.entry.now c.is_short.result c.is_short.ensures.short c.if-not-is_short.true }
