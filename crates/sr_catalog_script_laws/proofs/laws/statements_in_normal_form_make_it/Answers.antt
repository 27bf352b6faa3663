use Rattle.sr_catalog_script_laws.proofs.Spelled.{new_spelled, script_normal, still_spelled}
use Rattle.sr_catalog_script_laws.proofs.laws.statements_in_normal_form_make_it.Goals as goal

pub returns : goal.returns
returns c = record { new = new_spelled; next = still_spelled; normal = script_normal }
