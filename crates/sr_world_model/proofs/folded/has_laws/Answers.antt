use Rattle.sr_world_model.proofs.Machinery.{whole_laws}
use Rattle.sr_world_model.proofs.folded.has_laws.Goals as goal

pub returns : goal.returns
returns g c = λ m laws. whole_laws m g.F.StepRules.Fits g.F.StepRules.HasSpelling g.F.StepRules.Holds laws
