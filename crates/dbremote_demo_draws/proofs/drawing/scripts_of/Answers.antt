use Rattle.std.proofs.Common.{ℕ, ◌+◌, sym, subst}
use Rattle.dbremote_demo_draws.specs.DrawnStatements.{drawn}
use Rattle.dbremote_demo_draws.specs.Inner.Scripts.{IsWithOne}
use Rattle.dbremote_demo_draws.specs.declared.statements.Drawn.{Drawn}
use Rattle.dbremote_demo_draws.proofs.UnderWay.{IsUnderWay, one_more, all_in, state_in}
use Rattle.dbremote_demo_draws.proofs.drawing.scripts_of.Goals as goal

pub statements-preserved : goal.statements-preserved
statements-preserved c =
    let one = subst (λ (d : Drawn). IsWithOne d c.statements.scripts c.push.new.self) c.next_drawn.ensures.drawn c.in_ok-push.ensures.ok in
    subst (λ (x : ℕ). IsUnderWay c.args.draws.now c.args.first c.args.end x (c.statements.i + 1) c.push.new.self) (sym c.next_drawn.ensures.state)
    (one_more c.args.draws.now c.args.first c.args.end c.statements.draws c.statements.i c.statements.scripts c.push.new.self c.statements.invariant c.statements-test.true one)

pub returns-clause-scripts : goal.returns-clause-scripts
returns-clause-scripts c =
    all_in c.args.draws.now c.args.first c.args.end c.statements.draws c.statements.i c.statements.scripts c.statements.invariant c.statements-test.false

pub returns-clause-state : goal.returns-clause-state
returns-clause-state c =
    state_in c.args.draws.now c.args.first c.args.end c.statements.draws c.statements.i c.statements.scripts c.statements.invariant c.statements-test.false
