use Rattle.std.proofs.lemmas.Result.{err_from_is_err_and}
use Rattle.dbremote_demo.proofs.Chains.{four_joined, last_of_four_stops}
use Rattle.dbremote_demo.specs.Courses.{made_at}
use Rattle.dbremote_demo_draws.specs.declared.demo_site.DemoSite.TheVariants.{Cons, R1, R2, R3}
use Rattle.dbremote_demo.proofs.making.make_all.Goals as goal

pub returns-in_err-make-4-clause-err : goal.returns-in_err-make-4-clause-err
returns-in_err-make-4-clause-err c =
    let p = err_from_is_err_and c.from_residual-in_err-make-4.result c.from_residual-in_err-make-4.ensures.1 in
    rw (p.1, p.2) (last_of_four_stops (made_at Cons) (made_at R1) (made_at R2) (made_at R3) _ _ _ _ _ c.in_ok-make.ensures.ok c.in_ok-make-2.ensures.ok c.in_ok-make-3.ensures.ok
    c.in_err-make-4.ensures.err)

pub returns-clause-ok : goal.returns-clause-ok
returns-clause-ok c =
    four_joined (made_at Cons) (made_at R1) (made_at R2) (made_at R3) _ _ _ _ _ c.in_ok-make.ensures.ok c.in_ok-make-2.ensures.ok c.in_ok-make-3.ensures.ok c.in_ok-make-4.ensures.ok
