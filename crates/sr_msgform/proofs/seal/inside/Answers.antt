use Rattle.sr_msgform.specs.Messages.{heading}
use Rattle.std.proofs.Common.{◌++◌, sym, ◌∙◌}
use Rattle.sr_msgform.proofs.Sealing.{none_too, sealed_same}
use Rattle.sr_msgform.proofs.seal.inside.Goals as goal

pub returns-clause-none : goal.returns-clause-none
returns-clause-none c =
    none_too c.behind_heading.result (λ none rest e. none rest (sealed_same c.in_ok-unsealed.field-0.now (heading ++ rest) (sym c.in_ok-unsealed.ensures.found ∙ e))) c.behind_heading.ensures.none
