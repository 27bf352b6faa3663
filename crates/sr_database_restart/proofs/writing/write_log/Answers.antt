use Rattle.std.proofs.Common.{subst}
use Rattle.sr_database_restart.specs.Inner.Restarting.{RestartCause}
use Rattle.sr_site.specs.declared.file.File.{File}
use Rattle.sr_database_restart.proofs.writing.write_log.Goals as goal

pub returns-in-Err-clause-cause : goal.returns-in-Err-clause-cause
returns-in-Err-clause-cause g c size short =
    let before = g.S.Held.seen c.args.site.now in
    let now = g.S.Held.seen c.carry.new.site in
    subst (λ (file : File). RestartCause size file before now c.log_fault.result) c.file.ensures.file (c.log_fault.ensures.cause size before now short c.in-Err.ensures.cause)
