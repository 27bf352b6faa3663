use Rattle.std.proofs.Common.{ap, ◌∙◌}
use Rattle.sr_ast.specs.Actions.{chain_of}
use Rattle.sr_ast.proofs.action.Actions.as_slice.Goals as goal

pub returns : goal.returns
returns c = record { chain = ap chain_of c.as_slice.ensures.value ∙ c.self.view_is }
