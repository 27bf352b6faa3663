use Rattle.std.proofs.Common.{◌++◌, map, None, ap, ◌∙◌}
use Rattle.sr_rows.specs.Walks.{Entry, table_rows}
use Rattle.sr_rows.specs.Inner.Walks.{past}
use Rattle.sr_rows.proofs.Listing.{past-None}
use Rattle.sr_resolve.specs.Judging.{removal}
use Rattle.sr_resolve.proofs.clearing.removals.Goals as goal

pub rows-init : goal.rows-init
rows-init c =
    let table = c.args.table.now in
    let es = table_rows c.args.rows.now.rows table.name in
    ap (λ xs. xs ++ map (λ (e : Entry). removal table.name e.1) (past None es)) c.new-changes.ensures.items
    ∙ ap (map (λ (e : Entry). removal table.name e.1)) (past-None es)
