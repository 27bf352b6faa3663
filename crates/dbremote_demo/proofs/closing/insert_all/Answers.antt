use Rattle.std.proofs.Common.{[], ◌∷◌}
use Rattle.std.proofs.lemmas.Result.{err_from_is_err_and}
use Rattle.dbremote_demo.proofs.Chains.{first_stops, fourth_stops, later_stops, third_stops}
use Rattle.dbremote_demo.specs.Courses.{last_at, lasts}
use Rattle.dbremote_demo_draws.specs.declared.demo_site.DemoSite.TheVariants.{Cons, R1, R2, R3}
use Rattle.dbremote_demo.proofs.closing.insert_all.Goals as goal

pub returns-in_err-insert_last-2-clause-err : goal.returns-in_err-insert_last-2-clause-err
unfolding lasts
returns-in_err-insert_last-2-clause-err c =
    let p = err_from_is_err_and c.from_residual-in_err-insert_last-2.result c.from_residual-in_err-insert_last-2.ensures.1 in
    rw (p.1, p.2) (later_stops (last_at Cons) (last_at R1 ∷ last_at R2 ∷ last_at R3 ∷ []) _ _ _ c.in_ok-insert_last.ensures.ok
    (first_stops (last_at R1) (last_at R2 ∷ last_at R3 ∷ []) _ _ c.in_err-insert_last-2.ensures.err))

pub returns-in_err-insert_last-3-clause-err : goal.returns-in_err-insert_last-3-clause-err
unfolding lasts
returns-in_err-insert_last-3-clause-err c =
    let p = err_from_is_err_and c.from_residual-in_err-insert_last-3.result c.from_residual-in_err-insert_last-3.ensures.1 in
    rw (p.1, p.2) (third_stops (last_at Cons) (last_at R1) (last_at R2) (last_at R3 ∷ []) _ _ _ _ c.in_ok-insert_last.ensures.ok c.in_ok-insert_last-2.ensures.ok c.in_err-insert_last-3.ensures.err)

pub returns-in_err-insert_last-4-clause-err : goal.returns-in_err-insert_last-4-clause-err
unfolding lasts
returns-in_err-insert_last-4-clause-err c =
    let p = err_from_is_err_and c.from_residual-in_err-insert_last-4.result c.from_residual-in_err-insert_last-4.ensures.1 in
    rw (p.1, p.2) (fourth_stops (last_at Cons) (last_at R1) (last_at R2) (last_at R3) [] _ _ _ _ _ c.in_ok-insert_last.ensures.ok c.in_ok-insert_last-2.ensures.ok c.in_ok-insert_last-3.ensures.ok
    c.in_err-insert_last-4.ensures.err)
