use Rattle.std.proofs.Common.{sym}
use Rattle.sr_resolve.proofs.setting.judge_set.Goals as goal

pub set-requires : goal.set-requires
set-requires c = record { rows = c.requires.rows.each _ c.in-Some.table.now (sym c.in-Some.ensures.table) }
