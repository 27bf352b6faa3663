use Rattle.std.proofs.Common.{rules, sym, ap, ◌∙◌}
use Rattle.std.specs.FinMap as map
use Rattle.std.proofs.lemmas.Result.{IfOk-weaker, on_ok_weaker, on_err_weaker}
use Rattle.sr_rows.proofs.Gathering.{get-held, place_at-held, gathered-inserted, gathered-same}
use Rattle.sr_rows.proofs.tables.insert_at.Goals as goal

pub returns-in-Some-clause-before : goal.returns-in-Some-clause-before
returns-in-Some-clause-before c =
    IfOk-weaker c.insert.result _ _ (λ before e. e ∙ sym (get-held c.args.tables.now.entries c.args.table.now c.in-Some.held.now c.args.key c.in-Some.ensures.value)) c.insert.ensures.before

pub returns-in-Some-clause-ok : goal.returns-in-Some-clause-ok
returns-in-Some-clause-ok c =
    let es = c.args.tables.now.entries in
    let table = c.insert.new.self in
    on_ok_weaker c.insert.result
    (λ e. gathered-inserted es (c.get_mut.follows.lender table).entries c.args.table.now c.in-Some.held.now table c.args.key c.args.place ((c.get_mut.follows.holds table).3 (search rules)).0 (place_at-held es c.args.table.now c.in-Some.held.now c.in-Some.ensures.value) e)
    c.insert.ensures.ok

pub returns-in-Some-clause-err : goal.returns-in-Some-clause-err
returns-in-Some-clause-err c =
    let es = c.args.tables.now.entries in
    let table = c.insert.new.self in
    on_err_weaker c.insert.result
    (λ e. gathered-same es (c.get_mut.follows.lender table).entries c.args.table.now table ((c.get_mut.follows.holds table).3 (search rules)).0 (λ j. place_at-held es c.args.table.now c.in-Some.held.now c.in-Some.ensures.value j ∙ ap (λ m. map.get m j) (sym e)))
    c.insert.ensures.err
