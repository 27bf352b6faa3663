use Rattle.std.proofs.Common.{None, Some, ◌++◌, List, filter_map, ap, ◌∙◌}
use Rattle.sr_base.specs.declared.value.Value.{Value as Cell}
use Rattle.sr_publish.specs.Views.{shown_in}
use Rattle.sr_rows.specs.Walks.{Entry, table_rows}
use Rattle.sr_rows.specs.Inner.Walks.{past}
use Rattle.sr_rows.proofs.Listing.{past-None}
use Rattle.sr_world_entries.proofs.saying.rows_shown.Goals as goal

pub rows-init : goal.rows-init
rows-init c =
    let entries = table_rows c.args.rows.now.rows c.args.table.now in
    ap (λ (l : List (List Cell)). l ++ filter_map (λ (e : Entry). shown_in (Some c.args.view.now) e.1) (past None entries)) c.new-shown.ensures.items
    ∙ ap (filter_map (λ (e : Entry). shown_in (Some c.args.view.now) e.1)) (past-None entries)
