use Rattle.std.proofs.Common.{[], ◌∷◌}
use Rattle.std.proofs.lemmas.Result.{err_from_is_err_and}
use Rattle.dbremote_demo.proofs.Chains.{first_stops, fourth_stops, later_stops, third_stops}
use Rattle.dbremote_demo.specs.Courses.{round}
use Rattle.dbremote_demo.specs.Runs.{agent_of}
use Rattle.dbremote_demo_draws.specs.declared.demo_site.DemoSite.TheVariants.{Cons, R1, R2, R3}
use Rattle.dbremote_demo.proofs.closing.run_round.Goals as goal

pub returns-in_err-run_agent-2-clause-err : goal.returns-in_err-run_agent-2-clause-err
unfolding round
returns-in_err-run_agent-2-clause-err c =
    let p = err_from_is_err_and c.from_residual-in_err-run_agent-2.result c.from_residual-in_err-run_agent-2.ensures.1 in
    rw (p.1, p.2) (later_stops (agent_of Cons) (agent_of R1 ∷ agent_of R2 ∷ agent_of R3 ∷ []) _ _ _ c.in_ok-run_agent.ensures.ok
    (first_stops (agent_of R1) (agent_of R2 ∷ agent_of R3 ∷ []) _ _ c.in_err-run_agent-2.ensures.err))

pub returns-in_err-run_agent-3-clause-err : goal.returns-in_err-run_agent-3-clause-err
unfolding round
returns-in_err-run_agent-3-clause-err c =
    let p = err_from_is_err_and c.from_residual-in_err-run_agent-3.result c.from_residual-in_err-run_agent-3.ensures.1 in
    rw (p.1, p.2) (third_stops (agent_of Cons) (agent_of R1) (agent_of R2) (agent_of R3 ∷ []) _ _ _ _ c.in_ok-run_agent.ensures.ok c.in_ok-run_agent-2.ensures.ok c.in_err-run_agent-3.ensures.err)

pub returns-in_err-run_agent-4-clause-err : goal.returns-in_err-run_agent-4-clause-err
unfolding round
returns-in_err-run_agent-4-clause-err c =
    let p = err_from_is_err_and c.from_residual-in_err-run_agent-4.result c.from_residual-in_err-run_agent-4.ensures.1 in
    rw (p.1, p.2) (fourth_stops (agent_of Cons) (agent_of R1) (agent_of R2) (agent_of R3) [] _ _ _ _ _ c.in_ok-run_agent.ensures.ok c.in_ok-run_agent-2.ensures.ok c.in_ok-run_agent-3.ensures.ok
    c.in_err-run_agent-4.ensures.err)
