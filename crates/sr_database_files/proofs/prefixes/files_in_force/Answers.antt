use Rattle.sr_database_files.proofs.Shapes.{are_in_force}
use Rattle.sr_database_files.proofs.prefixes.files_in_force.Goals as goal

pub returns-in-Ok-clause-named : goal.returns-in-Ok-clause-named
returns-in-Ok-clause-named g c = are_in_force _ _ c.in-Ok.byte _ c.in_force.ensures.snapshot c.in_force.ensures.log c.in-Ok.ensures.first
