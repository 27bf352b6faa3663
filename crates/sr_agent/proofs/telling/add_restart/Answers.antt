use Rattle.std.proofs.Common.{[], ◌∷◌, ◌++◌}
use Rattle.std.specs.Fmt.{decimal}
use Rattle.std.specs.Prelude.{codes}
use Rattle.sr_agent.proofs.Additions.{part_first, part_on, whatever}
use Rattle.sr_agent.proofs.telling.add_restart.Goals as goal

pub returns-in_err-add_numbered-clause-failed : goal.returns-in_err-add_numbered-clause-failed
returns-in_err-add_numbered-clause-failed g c =
    whatever _ c.from_residual.result (part_first (codes "restarted " ++ decimal c.args.base.0) (10 ∷ []) c.args.held.now.items _ _ c.in_err-add_numbered.ensures.failed)

pub returns-in_err-add-clause-failed : goal.returns-in_err-add-clause-failed
returns-in_err-add-clause-failed g c =
    whatever _ c.from_residual-in_err-add.result (part_on _ _ _ _ _ _ _ c.in_ok-add_numbered.ensures.added c.in_err-add.ensures.failed)
