use Rattle.std.proofs.Common.{rules}
use Rattle.sr_exec_dml.proofs.Outcomes.{only_last}
use Rattle.sr_exec_dml.proofs.inserting.only.Goals as goal

pub returns-in-Some : goal.returns-in-Some
returns-in-Some c = record { rows = only_last c.pop.new.self.items c.in-Some.row c.args.rows.items c.in-Some.ensures.items (search rules) }
