use Rattle.std.proofs.Common.{ap, ◌∙◌}
use Rattle.std.specs.Option.{option_copied}
use Rattle.sr_exec_dml.specs.Inner.Edits.{picks_of, prefixed}
use Rattle.sr_exec_dml.proofs.Fitted.{prefixed-none}
use Rattle.sr_exec_dml.proofs.moving.picks_along.Goals as goal

pub rows-init : goal.rows-init
rows-init c =
    let table = c.args.table.now in
    ap (λ xs. prefixed xs (picks_of table (option_copied c.args.prepared.now.sets) c.args.prepared.now.condition.now c.walk-walk.result)) c.new-picks.ensures.items
    ∙ prefixed-none (picks_of table (option_copied c.args.prepared.now.sets) c.args.prepared.now.condition.now c.walk-walk.result)
    ∙ ap (picks_of table (option_copied c.args.prepared.now.sets) c.args.prepared.now.condition.now) c.walk-walk.ensures.rows
