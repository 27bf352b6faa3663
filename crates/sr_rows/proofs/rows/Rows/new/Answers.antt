use Rattle.std.proofs.Common.{ap, ◌∙◌}
use Rattle.sr_rows.specs.Inner.Gathered.{gathered, filled}
use Rattle.sr_rows.specs.Inner.Undoing.{undone}
use Rattle.sr_rows.proofs.Keeping.{filled-none}
use Rattle.sr_rows.proofs.rows.Rows.new.Goals as goal

pub returns-clause-rows : goal.returns-clause-rows
returns-clause-rows c = filled-none c.new.result.entries c.new.ensures.empty

pub returns-clause-marked : goal.returns-clause-marked
returns-clause-marked c = ap (λ us. filled (undone us (gathered c.new.result.entries))) c.new-2.ensures.items ∙ filled-none c.new.result.entries c.new.ensures.empty
