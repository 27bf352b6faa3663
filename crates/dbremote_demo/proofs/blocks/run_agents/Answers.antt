use Rattle.std.proofs.lemmas.Result.{err_from_is_err_and}
use Rattle.dbremote_demo.proofs.Endings.{agent_stops, behind_agent}
use Rattle.dbremote_demo_draws.specs.declared.demo_site.DemoSite.TheVariants.{Cons, R1, R2, R3}
use Rattle.std.proofs.Common.{[], ◌∷◌}
use Rattle.dbremote_demo.proofs.blocks.run_agents.Goals as goal

pub returns-in_err-r2-clause-err : goal.returns-in_err-r2-clause-err
returns-in_err-r2-clause-err c =
    let p = err_from_is_err_and c.from_residual-in_err-r2.result c.from_residual-in_err-r2.ensures.1 in
    rw (p.1, p.2) (behind_agent Cons (R1 ∷ R2 ∷ R3 ∷ []) _ _ _ _ _ _ c.in_ok-cons.ensures.ran (behind_agent R1 (R2 ∷ R3 ∷ []) _ _ _ _ _ _ c.in_ok-r1.ensures.ran
    (agent_stops R2 (R3 ∷ []) _ _ _ c.in_err-r2.ensures.err)))

pub returns-in_err-r3-clause-err : goal.returns-in_err-r3-clause-err
returns-in_err-r3-clause-err c =
    let p = err_from_is_err_and c.from_residual-in_err-r3.result c.from_residual-in_err-r3.ensures.1 in
    rw (p.1, p.2) (behind_agent Cons (R1 ∷ R2 ∷ R3 ∷ []) _ _ _ _ _ _ c.in_ok-cons.ensures.ran (behind_agent R1 (R2 ∷ R3 ∷ []) _ _ _ _ _ _ c.in_ok-r1.ensures.ran
    (behind_agent R2 (R3 ∷ []) _ _ _ _ _ _ c.in_ok-r2.ensures.ran (agent_stops R3 [] _ _ _ c.in_err-r3.ensures.err))))
