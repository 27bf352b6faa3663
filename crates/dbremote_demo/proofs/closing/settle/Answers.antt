use Rattle.std.proofs.lemmas.Result.{err_from_is_err_and}
use Rattle.dbremote_demo.proofs.Chains.{five_joined, fourth_part_stops, last_of_five_stops}
use Rattle.dbremote_demo.specs.Courses.{lasts, round}
use Rattle.dbremote_demo.proofs.closing.settle.Goals as goal

pub returns-in_err-run_round-3-clause-err : goal.returns-in_err-run_round-3-clause-err
returns-in_err-run_round-3-clause-err c =
    let p = err_from_is_err_and c.from_residual-in_err-run_round-3.result c.from_residual-in_err-run_round-3.ensures.1 in
    rw (p.1, p.2) (fourth_part_stops lasts round round round round _ _ _ _ _ c.in_ok-insert_all.ensures.ok c.in_ok-run_round.ensures.ok c.in_ok-run_round-2.ensures.ok
    c.in_err-run_round-3.ensures.err)

pub returns-in_err-run_round-4-clause-err : goal.returns-in_err-run_round-4-clause-err
returns-in_err-run_round-4-clause-err c =
    let p = err_from_is_err_and c.from_residual-in_err-run_round-4.result c.from_residual-in_err-run_round-4.ensures.1 in
    rw (p.1, p.2) (last_of_five_stops lasts round round round round _ _ _ _ _ _ c.in_ok-insert_all.ensures.ok c.in_ok-run_round.ensures.ok c.in_ok-run_round-2.ensures.ok
    c.in_ok-run_round-3.ensures.ok c.in_err-run_round-4.ensures.err)

pub returns-clause-ok : goal.returns-clause-ok
returns-clause-ok c =
    five_joined lasts round round round round _ _ _ _ _ _ c.in_ok-insert_all.ensures.ok c.in_ok-run_round.ensures.ok c.in_ok-run_round-2.ensures.ok c.in_ok-run_round-3.ensures.ok
    c.in_ok-run_round-4.ensures.ok
