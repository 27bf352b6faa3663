use Rattle.std.proofs.Common.{ap, ◌∙◌, refl, ◌++◌}
use Rattle.sr_book.specs.Histories.{taken}
use Rattle.sr_book.proofs.Folds.{taken-append}
use Rattle.sr_world_model.proofs.Windows.{window_takes, taken_of_takes}
use Rattle.sr_world_model.proofs.freedom.window_taken.Goals as goal

pub returns-clause-allowed : goal.returns-clause-allowed
returns-clause-allowed g c = λ p messages d user prev upto txs es new whole fit rises within reached take keeps.
    window_takes p g.R.Rules.HasSpelling g.R.Rules.lawful messages d user prev upto txs whole fit rises within es new _ reached refl take keeps

pub returns-clause-taken : goal.returns-clause-taken
returns-clause-taken g c = λ p user txs es new take.
    taken-append p.sees user es new ∙ ap (λ more. taken p.sees user es ++ more) (taken_of_takes p user txs new take)
