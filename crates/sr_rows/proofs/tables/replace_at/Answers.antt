use Rattle.std.proofs.Common.{◌≡◌, Some, None, MatchResult, rules, sym, ap, subst, ◌∙◌}
use Rattle.std.specs.FinMap as map
use Rattle.std.proofs.lemmas.Result.{on_ok_weaker, on_err_weaker}
use Rattle.sr_rows.proofs.Gathering.{get-held, get-gone, place_at-held, gathered-inserted, gathered-same}
use Rattle.sr_rows.proofs.tables.replace_at.Goals as goal

pub returns-in_default-clause-before : goal.returns-in_default-clause-before
returns-in_default-clause-before c = get-gone c.args.tables.now.entries c.args.table.now c.args.key.now c.in_default.ensures.value

pub returns-clause-before : goal.returns-clause-before
returns-clause-before c =
    subst (λ place. MatchResult c.replace.result (λ before. place ≡ Some before) (λ _. place ≡ None))
    (sym (get-held c.args.tables.now.entries c.args.table.now c.in-Some.held.now c.args.key.now c.in-Some.ensures.value)) c.replace.ensures.before

pub returns-clause-set : goal.returns-clause-set
returns-clause-set c =
    let es = c.args.tables.now.entries in
    let table = c.replace.new.self in
    on_ok_weaker c.replace.result
    (λ e. gathered-inserted es (c.get_mut.follows.lender table).entries c.args.table.now c.in-Some.held.now table c.args.key.now (Some c.args.row) ((c.get_mut.follows.holds table).3 (search rules)).0 (place_at-held es c.args.table.now c.in-Some.held.now c.in-Some.ensures.value) e)
    c.replace.ensures.set

pub returns-clause-err : goal.returns-clause-err
returns-clause-err c =
    let es = c.args.tables.now.entries in
    let table = c.replace.new.self in
    on_err_weaker c.replace.result
    (λ e. gathered-same es (c.get_mut.follows.lender table).entries c.args.table.now table ((c.get_mut.follows.holds table).3 (search rules)).0 (λ j. place_at-held es c.args.table.now c.in-Some.held.now c.in-Some.ensures.value j ∙ ap (λ m. map.get m j) (sym e)))
    c.replace.ensures.err
