use Rattle.sr_world_model.proofs.Grants.{book_at_grant, taken_at_grant}
use Rattle.sr_world_model.proofs.folded.books_begin_at_grants.Goals as goal

pub returns-clause-book : goal.returns-clause-book
returns-clause-book g c = λ m laws. book_at_grant m g.F.StepRules.Fits g.F.StepRules.Knows laws

pub returns-clause-taken : goal.returns-clause-taken
returns-clause-taken g c = λ m laws. taken_at_grant m g.F.StepRules.Fits g.F.StepRules.Knows laws
