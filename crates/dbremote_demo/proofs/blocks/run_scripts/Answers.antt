use Rattle.std.proofs.lemmas.Result.{err_from_is_err_and}
use Rattle.dbremote_demo.proofs.Chains.{last_of_four_stops, third_part_stops}
use Rattle.dbremote_demo.specs.Courses.{task_at}
use Rattle.dbremote_demo_draws.specs.declared.demo_site.DemoSite.TheVariants.{Cons, R1, R2, R3}
use Rattle.dbremote_demo.proofs.blocks.run_scripts.Goals as goal

pub returns-in_err-run_script-3-clause-err : goal.returns-in_err-run_script-3-clause-err
returns-in_err-run_script-3-clause-err c =
    let p = err_from_is_err_and c.from_residual-in_err-run_script-3.result c.from_residual-in_err-run_script-3.ensures.1 in
    rw (p.1, p.2) (third_part_stops (task_at Cons c.args.scripts.cons.items) (task_at R1 c.args.scripts.r1.items) (task_at R2 c.args.scripts.r2.items) (task_at R3 c.args.scripts.r3.items) _ _ _ _ c.in_ok-run_script.ensures.ok c.in_ok-run_script-2.ensures.ok c.in_err-run_script-3.ensures.err)

pub returns-in_err-run_script-4-clause-err : goal.returns-in_err-run_script-4-clause-err
returns-in_err-run_script-4-clause-err c =
    let p = err_from_is_err_and c.from_residual-in_err-run_script-4.result c.from_residual-in_err-run_script-4.ensures.1 in
    rw (p.1, p.2) (last_of_four_stops (task_at Cons c.args.scripts.cons.items) (task_at R1 c.args.scripts.r1.items) (task_at R2 c.args.scripts.r2.items) (task_at R3 c.args.scripts.r3.items) _ _ _ _ _ c.in_ok-run_script.ensures.ok c.in_ok-run_script-2.ensures.ok
    c.in_ok-run_script-3.ensures.ok c.in_err-run_script-4.ensures.err)
