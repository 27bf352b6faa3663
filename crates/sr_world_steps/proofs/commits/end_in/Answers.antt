use Rattle.sr_world_entries.proofs.Roomy.{spelled_where}
use Rattle.sr_world_steps.proofs.commits.end_in.Goals as goal

pub go_on-requires-clause-spelled : goal.go_on-requires-clause-spelled
go_on-requires-clause-spelled c = spelled_where c.args.place c.args.entry.now c.in_ok-end.field-0 c.in-Some.end c.in_ok-end.ensures.end c.in-Some.is
