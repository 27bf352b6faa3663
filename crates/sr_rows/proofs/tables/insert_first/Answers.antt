use Rattle.std.proofs.Common.{sym, ap, cond, Some, ◌∙◌}
use Rattle.std.specs.BTreeMap.{is_at}
use Rattle.std.specs.FinMap as map
use Rattle.sr_base.specs.Order.{name_cmp}
use Rattle.sr_rows.proofs.Gathering.{table_at, get-gone, place_at-gone, gathered-inserted}
use Rattle.sr_rows.proofs.tables.insert_first.Goals as goal

pub returns-clause-before : goal.returns-clause-before
returns-clause-before c = sym (get-gone c.args.tables.now.entries c.args.table.now c.args.key c.requires.gone)

pub returns-clause-ok : goal.returns-clause-ok
returns-clause-ok c =
    let es = c.args.tables.now.entries in
    gathered-inserted es c.insert-2.new.self.entries c.args.table.now map.empty c.insert.new.self c.args.key c.args.place
    (λ q. c.in_ok-insert-2.ensures.updates.0 q ∙ ap (λ n. cond (is_at (name_cmp n) q) (Some c.insert.new.self) (table_at es q)) c.in_ok-copy.ensures.equal)
    (place_at-gone es c.args.table.now c.requires.gone)
    (c.in_ok-insert.ensures.ok ∙ ap (λ m. map.insert m c.args.key c.args.place) c.new-made.ensures.empty)
