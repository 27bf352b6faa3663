use Rattle.std.proofs.Common.{rules, ap, sym, ◌∙◌}
use Rattle.std.specs.FinMap as map
use Rattle.std.proofs.lemmas.Result.{IfOk-weaker, on_err_weaker}
use Rattle.sr_rows.specs.Inner.Gathered.{row_of}
use Rattle.sr_rows.proofs.Filling.{fills_gathered}
use Rattle.sr_rows.proofs.Gathering.{get-gone, place_at-held, gathered-same}
use Rattle.sr_rows.proofs.tables.fill_at.Goals as goal

pub returns-in-Some-clause-told : goal.returns-in-Some-clause-told
returns-in-Some-clause-told c =
    let es = c.args.tables.now.entries in
    let table = c.fill.new.self in
    IfOk-weaker c.fill.result _ _
    (λ free. fills_gathered es (c.get_mut.follows.lender table).entries c.args.table.now c.in-Some.held.now table c.args.key c.args.row free ((c.get_mut.follows.holds table).3 (search rules)).0 c.in-Some.ensures.value)
    c.fill.ensures.told

pub returns-in-Some-clause-err : goal.returns-in-Some-clause-err
returns-in-Some-clause-err c =
    let es = c.args.tables.now.entries in
    let table = c.fill.new.self in
    on_err_weaker c.fill.result
    (λ e. gathered-same es (c.get_mut.follows.lender table).entries c.args.table.now table ((c.get_mut.follows.holds table).3 (search rules)).0 (λ j. place_at-held es c.args.table.now c.in-Some.held.now c.in-Some.ensures.value j ∙ ap (λ m. map.get m j) (sym e)))
    c.fill.ensures.err

pub returns-in_ok-insert_first-in-None-clause-told : goal.returns-in_ok-insert_first-in-None-clause-told
returns-in_ok-insert_first-in-None-clause-told c = (
  ap row_of (get-gone c.args.tables.now.entries c.args.table.now c.args.key c.in-None.ensures.value),
  search rules,
)
