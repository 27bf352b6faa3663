use Rattle.sr_world_model.proofs.Machinery.{lawful_from-more, lawful_from-append, holds_from}
use Rattle.sr_world_model.proofs.folded.lawful_grows.Goals as goal

pub returns-clause-one_more : goal.returns-clause-one_more
returns-clause-one_more g c = λ m. lawful_from-more m g.F.StepRules.Fits

pub returns-clause-joined : goal.returns-clause-joined
returns-clause-joined g c = λ m. lawful_from-append m g.F.StepRules.Fits

pub returns-clause-holds : goal.returns-clause-holds
returns-clause-holds g c = λ m laws. holds_from m g.F.StepRules.Fits g.F.StepRules.HasSpelling g.F.StepRules.Holds laws
